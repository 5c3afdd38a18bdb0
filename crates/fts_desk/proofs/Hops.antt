-- The hop behind a finished one: by its place among the job's rows, and by its id.
use Rattle.std.proofs.Common.{◌≡◌, ℕ, zero, suc, ◌+◌, ◌-◌, ◌<◌, ◌≤◌, Bool, true, false, cond, List, [], ◌∷◌, length, take, drop, Option, Some, None, refl, ap, sym, ◌∙◌, arith, subst, inl, inr}
use Rattle.std.specs.Prelude.{◌==◌, ◌||◌, nat_lt, filter, slice_get}
use Rattle.std.specs.List.{list_any}
use Rattle.std.specs.Option.{option_map_or}
use Rattle.std.proofs.Math.Seq.{drop-nil}
use Rattle.std.proofs.lemmas.Bool.{eqb-true, eq-eqb, ltb-true}
use Rattle.std.proofs.lemmas.Option.{same_Some, slice_get_cases}
use Rattle.fts_tables.specs.Tables.{AreNumberedFrom, is_not_used, rows_of_job}
use Rattle.fts_tables.specs.Moves.{submitted, submit_if_not_used, followed_finish}
use Rattle.fts_tables.specs.declared.rows.FileRow.{FileRow}
use Rattle.fts_tables.specs.declared.rows.JobRow.{JobRow}
use Rattle.fts_tables.specs.declared.rows.JobKind.TheVariants.{Multihop}
use Rattle.fts_choice.specs.LeastPlaces.{is_not_used_at, hop_after}
use Rattle.fts_desk.specs.Places.{change_at, woken}
use Rattle.fts_desk.specs.Standing.{StandTogether}
use Rattle.fts_desk.proofs.ChangedRows.{change_row-place, id_at}
use Rattle.fts_desk.proofs.Follows.{part_at, hop_woken}

-- a row that passes both tests is found by the one among those that the other keeps
any_kept : (keep test : FileRow → Bool) (rows : List FileRow) (place : ℕ) (row : FileRow) → slice_get rows place ≡ Some row → keep row ≡ true → test row ≡ true
    → list_any test (filter keep rows) ≡ true
any_kept keep test [] place row at kept passed = cc
any_kept keep test (head ∷ rows) zero row at kept passed =
    let same : row ≡ head = sym (same_Some head row at) in
    ap (λ answer. list_any test (cond answer (head ∷ filter keep rows) (filter keep rows))) (ap keep (sym same) ∙ kept)
    ∙ ap (λ answer. answer || list_any test (filter keep rows)) (ap test (sym same) ∙ passed)
any_kept keep test (head ∷ rows) (suc place) row at kept passed = by_head (keep head) (any_kept keep test rows place row at kept passed)
  where
    or_true : (answer : Bool) → (answer || true) ≡ true
    or_true true = refl
    or_true false = refl

    by_head : (answer : Bool) → list_any test (filter keep rows) ≡ true → list_any test (cond answer (head ∷ filter keep rows) (filter keep rows)) ≡ true
    by_head true behind = ap (λ any. test head || any) behind ∙ or_true (test head)
    by_head false behind = behind

-- the ids in the front of a numbered list
front_ids : (start count id : ℕ) (rows : List FileRow) → AreNumberedFrom (λ row. row.id) start rows → list_any (λ row. row.id == id) (take count rows) ≡ true
    → (start ≤ id) × (id < start + count)
front_ids start zero id rows numbered any = cc
front_ids start (suc count) id [] numbered any = cc
front_ids start (suc count) id (row ∷ rows) numbered any = by_head (λ behind. front_ids (suc start) count id rows numbered.1 behind) (row.id == id) refl any
  where
    by_head : (list_any (λ other. other.id == id) (take count rows) ≡ true → (suc start ≤ id) × (id < suc start + count)) → (answer : Bool)
        → (row.id == id) ≡ answer
        → (answer || list_any (λ other. other.id == id) (take count rows)) ≡ true → (start ≤ id) × (id < start + suc count)
    by_head behind true same here = (omega (arith, eqb-true row.id id same, numbered.0), omega (arith, eqb-true row.id id same, numbered.0))
    by_head behind false other there =
        let bounds = behind there in
        (omega (arith, bounds.0), omega (arith, bounds.1))

-- what is left of a numbered list is numbered from a greater number
numbered-drop : (start from : ℕ) (rows : List FileRow) → AreNumberedFrom (λ row. row.id) start rows
    → AreNumberedFrom (λ row. row.id) (start + from) (drop from rows)
numbered-drop start zero rows numbered =
    let same : start ≡ start + 0 = omega arith in
    subst (λ first. AreNumberedFrom (λ row. row.id) first rows) same numbered
numbered-drop start (suc from) [] numbered =
    subst (λ (rows : List FileRow). AreNumberedFrom (λ row. row.id) (start + suc from) rows) (sym (drop-nil (suc from))) tt
numbered-drop start (suc from) (row ∷ rows) numbered =
    let same : suc start + from ≡ start + suc from = omega arith in
    subst (λ first. AreNumberedFrom (λ row. row.id) first (drop from rows)) same (numbered-drop (suc start) from rows numbered.1)

-- a row of a job stands among the job's rows
pub stands_inside : (rows : List FileRow) (job : JobRow) (place : ℕ) (row : FileRow) → AreNumberedFrom (λ other. other.id) 1 rows → StandTogether rows job
    → slice_get rows place ≡ Some row → row.job ≡ job.number
    → (job.first - 1 ≤ place) × (place < job.first - 1 + job.count)
stands_inside rows job place row numbered stand at of_job =
    let id = id_at 1 rows place row numbered at in
    let any = any_kept (λ other. other.job == job.number) (λ other. other.id == row.id) rows place row at (eq-eqb row.job job.number of_job)
    (eq-eqb row.id row.id refl) in
    let bounds = front_ids (1 + (job.first - 1)) job.count row.id (drop (job.first - 1) rows) (numbered-drop 1 (job.first - 1) rows numbered)
    (sym (ap (list_any (λ (other : FileRow). other.id == row.id)) stand.taken) ∙ any) in
    (omega (arith, bounds.0, id), omega (arith, bounds.1, id))

-- a change that leaves the row at a place leaves all
pub change_at-same : (rows : List FileRow) (place : ℕ) (change : FileRow → FileRow) (row : FileRow) → slice_get rows place ≡ Some row → change row ≡ row
    → change_at place change rows ≡ rows
change_at-same [] place change row at same = refl
change_at-same (head ∷ rows) zero change row at same =
    let here : head ≡ row = same_Some head row at in
    ap (λ first. first ∷ rows) (ap change here ∙ same ∙ sym here)
change_at-same (head ∷ rows) (suc place) change row at same = ap (λ after. head ∷ after) (change_at-same rows place change row at same)

-- what it means that a hop was found, or none
hop_cases : (used : Bool) (next : ℕ) (found : Option ℕ) → found ≡ cond used (Some next) None
    → ((place : ℕ) → found ≡ Some place → (used ≡ true) × (place ≡ next)) × (found ≡ None → used ≡ false)
hop_cases true next found is = (λ place at. (refl, sym (same_Some next place (sym is ∙ at))), λ none. cc)
hop_cases false next found is = (λ place at. cc, λ none. refl)

-- the place at which a row waits for its turn is in the list
unused_inside : (rows : List FileRow) (place : ℕ) → is_not_used_at rows place ≡ true → place < length rows
unused_inside rows place unused = elim (slice_get_cases rows place).1 [
  | inl found ↦ found.1
  | inr past ↦ absurd (clash (sym unused ∙ ap (λ (at : Option FileRow). option_map_or (λ row. is_not_used row.state) at false) past.1))
]
  where
    clash : true ≡ false → ⊥
    clash is = cc

-- a row of a job, and the hop behind it
module _ (rows of_job : List FileRow) (job : JobRow) (row : FileRow) (place : ℕ) (numbered : AreNumberedFrom (λ other. other.id) 1 rows)
    (stand : StandTogether rows job) (these : of_job ≡ rows_of_job rows job.number) (count_is : length of_job ≡ job.count)
    (at : row.id ≡ place + 1) (low : job.first - 1 ≤ place) (high : place < job.first - 1 + job.count) where
  -- the hop that was found is woken
  pub found_hop : (next : ℕ) (after : List FileRow) → Some next ≡ hop_after of_job (place - (job.first - 1))
      → after ≡ change_at (job.first - 1 + next) woken rows → after ≡ followed_finish Multihop job row rows
  found_hop next after found is =
      let is_hop = (hop_cases (is_not_used_at of_job (place - (job.first - 1) + 1)) (place - (job.first - 1) + 1) (Some next) found).0 next refl in
      let inside = unused_inside of_job (place - (job.first - 1) + 1) is_hop.0 in
      let behind : job.first - 1 + next ≡ place + 1 = omega (arith, is_hop.1, low) in
      hop_woken rows after job row place numbered at (omega (arith, inside, count_is, low, stand.first))
      (is ∙ ap (λ number. change_at number woken rows) behind)

  -- where none was found, none is woken
  pub no_hop : None ≡ hop_after of_job (place - (job.first - 1)) → rows ≡ followed_finish Multihop job row rows
  no_hop none = by_test (nat_lt (row.id + 1) (job.first + job.count)) refl
    where
      used : is_not_used_at of_job (place - (job.first - 1) + 1) ≡ false
      used = (hop_cases (is_not_used_at of_job (place - (job.first - 1) + 1)) (place - (job.first - 1) + 1) None none).1 refl

      stays : (other : FileRow) → is_not_used other.state ≡ false → woken other ≡ other
      stays other is = ap (λ answer. cond answer (submitted other) other) is

      by_test : (answer : Bool) → nat_lt (row.id + 1) (job.first + job.count) ≡ answer → rows ≡ cond answer (submit_if_not_used (row.id + 1) rows) rows
      by_test false past = refl
      by_test true inside =
          let within : place - (job.first - 1) + 1 < job.count = omega (arith, ltb-true (row.id + 1) (job.first + job.count) inside, at, low, stand.first) in
          let next : row.id + 1 ≡ 1 + (place + 1) = omega (arith, at) in
          let same : job.first - 1 + (place - (job.first - 1) + 1) ≡ place + 1 = omega (arith, low) in
          let there : slice_get of_job (place - (job.first - 1) + 1) ≡ slice_get rows (place + 1) =
          ap (λ (some : List FileRow). slice_get some (place - (job.first - 1) + 1)) (these ∙ stand.taken)
          ∙ part_at (job.first - 1) job.count (place - (job.first - 1) + 1) rows within ∙ ap (slice_get rows) same in
          elim (slice_get_cases rows (place + 1)).1 [
            | inl found ↦
                let unused : is_not_used found.0.state ≡ false =
                sym (ap (λ (here : Option FileRow). option_map_or (λ other. is_not_used other.state) here false) (there ∙ found.2)) ∙ used in
                sym (change_row-place 1 rows (place + 1) (row.id + 1) woken numbered next
                ∙ change_at-same rows (place + 1) woken found.0 found.2 (stays found.0 unused))
            | inr past ↦ absurd (omega (arith, past.0, stand.inside, within))
          ]
