-- What a claim makes of the row at a place that was picked is the machine's step; and without settings no row is picked.
use Rattle.std.proofs.Common.{◌≡◌, ℕ, ◌+◌, ◌<◌, Bool, true, false, cond, List, [], ◌∷◌, length, get_or, set, Option, Some, None, Ok, Err, refl, ap, sym, ◌∙◌, subst}
use Rattle.std.specs.Prelude.{◌&&◌, not, nat_le, slice_get, filter, option_and_then}
use Rattle.std.proofs.lemmas.Option.{slice_get-get_or}
use Rattle.fts_tables.specs.Tables.{Tables, AreNumberedFrom, is_submitted, is_same_link}
use Rattle.fts_tables.specs.Limits.{has_slots, has_banned_end, has_known_ends, is_dest_busy, is_eligible}
use Rattle.fts_tables.specs.Choice.{least, is_link_before, pick_of_link, weights_of, pick}
use Rattle.fts_tables.specs.Moves.{change_row, claimed}
use Rattle.fts_tables.specs.Step.{claim, with_rows}
use Rattle.fts_tables.specs.declared.rows.FileRow.{FileRow}
use Rattle.fts_tables.specs.declared.commands.Answer.TheVariants.{Claimed}
use Rattle.fts_tables.specs.declared.commands.Refusal.TheVariants.{Idle}
use Rattle.fts_desk.specs.Prepared.{IsPrepared}
use Rattle.fts_desk.specs.declared.desk.DeskFault.TheVariants.{Rule, Memory}
use Rattle.fts_desk.proofs.ChangedRows.{id_at, change_at-set, change_row-place}

-- the machine's claim of the row at a place that was picked
pub claim_at : (tables : Tables) (now word place : ℕ) (row after other : FileRow) → AreNumberedFrom (λ row. row.id) 1 tables.rows → place < length tables.rows
    → pick tables now word ≡ slice_get tables.rows place → row ≡ get_or tables.rows place other → after ≡ claimed row
    → claim tables now (pick tables now word) ≡ Ok (with_rows tables now (set tables.rows place after), Claimed row.id (row.attempt + 1))
claim_at tables now word place row after other numbered inside picked is done =
    let there : slice_get tables.rows place ≡ Some row = slice_get-get_or tables.rows place other inside ∙ ap (λ found. Some found) (sym is) in
    let id = id_at 1 tables.rows place row numbered there in
    let left : change_row row.id claimed tables.rows ≡ set tables.rows place after =
    change_row-place 1 tables.rows place row.id claimed numbered id ∙ sym (change_at-set tables.rows place claimed other after inside (done ∙ ap claimed is)) in
    ap (claim tables now) (picked ∙ there) ∙ ap (λ (rows : List FileRow). Ok (with_rows tables now rows, Claimed row.id (row.attempt + 1))) left

-- a test that no item passes keeps none
filter_nothing : {Item : Type 0} (test : Item → Bool) → ((item : Item) → test item ≡ false) → (items : List Item) → filter test items ≡ []
filter_nothing test none [] = refl
filter_nothing test none (item ∷ items) = ap (λ answer. cond answer (item ∷ filter test items) (filter test items)) (none item) ∙ filter_nothing test none items

-- a conjunction with a false part
off : (before after : Bool) → (before && false && after) ≡ false
off true after = refl
off false after = refl

-- without settings no row may be claimed
never_eligible : (tables : Tables) (now : ℕ) → tables.settings ≡ None → (row : FileRow) → is_eligible tables now row ≡ false
never_eligible tables now none row =
    let before = is_submitted row.state && nat_le row.not_before now && has_slots tables row in
    let after = not (is_dest_busy tables.rows row) in
    let unbanned = not (has_banned_end tables.banned row) in
    ap (λ settings. before && (unbanned && has_known_ends settings row) && after) none
    ∙ (ap (λ ends. before && ends && after) (and_false unbanned) ∙ off before after)
  where
    and_false : (answer : Bool) → (answer && false) ≡ false
    and_false true = refl
    and_false false = refl

-- so none is picked
pub no_pick : (tables : Tables) (now word : ℕ) → tables.settings ≡ None → pick tables now word ≡ None
no_pick tables now word none =
    ap (λ rows. option_and_then (λ first. pick_of_link tables.jobs (weights_of tables.settings) (filter (is_same_link first) rows) word)
    (least (is_link_before tables.rows) rows))
    (filter_nothing (is_eligible tables now) (never_eligible tables now none) tables.rows)

-- where none is picked, the machine is idle
pub idle_after : (T : Type 0) (tables : Tables) (now : ℕ) (picked : Option FileRow) → picked ≡ None → IsPrepared {T = T} (claim tables now picked) (Err (Rule Idle))
idle_after T tables now picked none = subst (λ found. IsPrepared {T = T} (claim tables now found) (Err (Rule Idle))) (sym none) refl

-- the machine accepts the claim of a row that is picked
pub accepted : {T : Type 0} (tables : Tables) (now word : ℕ) (made : T) (row : FileRow) → pick tables now word ≡ Some row
    → IsPrepared {T = T} (claim tables now (pick tables now word)) (Ok made)
accepted {T} tables now word made row picked = subst (λ found. IsPrepared {T = T} (claim tables now found) (Ok made)) (sym picked) tt

-- where a row is picked, memory may be short
pub short_of_memory : (T : Type 0) (tables : Tables) (now word : ℕ) (row : FileRow) → pick tables now word ≡ Some row
    → IsPrepared {T = T} (claim tables now (pick tables now word)) (Err Memory)
short_of_memory T tables now word row picked = subst (λ found. IsPrepared {T = T} (claim tables now found) (Err Memory)) (sym picked) tt
