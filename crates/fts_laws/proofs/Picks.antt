-- A claim picks a row wherever one may be claimed, and none elsewhere.
use Rattle.std.proofs.Common.{◌≡◌, ℕ, ◌≤◌, max, Bool, true, false, cond, List, [], ◌∷◌, Option, Some, Err, refl, ap, sym, ◌∙◌}
use Rattle.std.specs.Prelude.{◌&&◌, ◌||◌, ◌==◌, nat_le, filter, option_and_then, bytes_eq}
use Rattle.std.specs.List.{list_any}
use Rattle.std.proofs.Math.Nat.{le_trans}
use Rattle.std.proofs.lemmas.Bool.{and_parts, leb-true, le-leb, eq-eqb, eqb-true}
use Rattle.fts_tables.specs.SettingsData.{IsSettings, SettingsData, default_activity}
use Rattle.fts_tables.specs.Tables.{Tables, is_same_link}
use Rattle.fts_tables.specs.Limits.{eligible_rows, is_eligible}
use Rattle.fts_tables.specs.Choice.{least, has_activity, is_link_before, is_row_before, pick_of_link, weights_of, pick}
use Rattle.fts_tables.specs.Step.{step, claim}
use Rattle.fts_tables.specs.declared.commands.Command.TheVariants.{Claim}
use Rattle.fts_tables.specs.declared.commands.Refusal.TheVariants.{Idle}
use Rattle.fts_tables.specs.declared.settings.Weight.{Weight}
use Rattle.fts_tables.specs.declared.rows.FileRow.{FileRow}
use Rattle.fts_tables.specs.declared.rows.JobRow.{JobRow}
use Rattle.fts_laws.proofs.EligibleLists.{IsFilled, list_any-weaker, filter-stronger, filter_filled, least_of_filled, any_of_least}
use Rattle.fts_laws.proofs.Drawn.{drawn}

-- two answers that are both true
both_true : (one other : Bool) → one ≡ true → other ≡ true → (one && other) ≡ true
both_true true other is also = also
both_true false other is also = is

-- a text is equal to itself
bytes_eq-self : (text : List ℕ) → bytes_eq text text ≡ true
bytes_eq-self [] = refl
bytes_eq-self (byte ∷ text) = both_true (byte == byte) (bytes_eq text text) (eq-eqb byte byte refl) (bytes_eq-self text)

-- texts are equal in either order
bytes_eq-turned : (one other : List ℕ) → bytes_eq one other ≡ true → bytes_eq other one ≡ true
bytes_eq-turned [] [] is = refl
bytes_eq-turned [] (byte ∷ other) is = cc
bytes_eq-turned (byte ∷ one) [] is = cc
bytes_eq-turned (byte ∷ one) (next ∷ other) is =
    let both = and_parts (byte == next) (bytes_eq one other) is in
    both_true (next == byte) (bytes_eq other one) (eq-eqb next byte (sym (eqb-true byte next both.0))) (bytes_eq-turned one other both.1)

-- a row is on its own link
same_link-self : (row : FileRow) → is_same_link row row ≡ true
same_link-self row = both_true _ _ (bytes_eq-self row.source.endpoint) (bytes_eq-self row.dest.endpoint)

-- each row counts under an activity that is listed
counts_somewhere : (settings : SettingsData) → IsSettings settings → (row : FileRow)
    → list_any (λ weight. has_activity settings.weights weight row) settings.weights ≡ true
counts_somewhere settings kept row = by_own (list_any (λ weight. bytes_eq weight.name row.activity) settings.weights) refl
  where
    turned : (name : List ℕ) → list_any (λ weight. bytes_eq weight.name name) settings.weights ≡ true
        → list_any (λ weight. bytes_eq name weight.name) settings.weights ≡ true
    turned name = list_any-weaker (λ weight. bytes_eq weight.name name) (λ weight. bytes_eq name weight.name)
        (λ weight. bytes_eq-turned weight.name name) settings.weights

    by_own : (answer : Bool) → list_any (λ weight. bytes_eq weight.name row.activity) settings.weights ≡ answer
        → list_any (λ weight. bytes_eq (cond answer row.activity default_activity) weight.name) settings.weights ≡ true
    by_own true own = turned row.activity own
    by_own false own = turned default_activity kept.default

-- a row that is picked
record IsPicked (picked : Option FileRow) : Type 0 where
  pub row : FileRow
  pub is : picked ≡ Some row

-- of rows of which there is one, one is picked
of_link : (jobs : List JobRow) (settings : SettingsData) → IsSettings settings → (rows : List FileRow) (word : ℕ) → IsFilled rows
    → IsPicked (pick_of_link jobs settings.weights rows word)
of_link jobs settings kept rows word filled =
    let weights = settings.weights in
    let takes = λ (weight : Weight). list_any (has_activity weights weight) rows in
    let waits = list_any-weaker (λ weight. has_activity weights weight filled.first) takes (λ weight counts. of_first weight counts) weights
    (counts_somewhere settings kept filled.first) in
    let one = drawn takes weights word kept.weight_ranges waits in
    let best = least_of_filled (is_row_before jobs) _ (filter_filled (has_activity weights one.weight) rows one.waits) in
    record {
      row = best.item;
      is = ap (option_and_then (λ weight. least (is_row_before jobs) (filter (has_activity weights weight) rows))) one.found ∙ best.chosen;
    }
  where
    of_first : (weight : Weight) → has_activity settings.weights weight filled.first ≡ true
        → list_any (has_activity settings.weights weight) rows ≡ true
    of_first weight counts = ap (list_any (has_activity settings.weights weight)) filled.whole
        ∙ ap (λ answer. answer || list_any (has_activity settings.weights weight) filled.others) counts

-- where some row may be claimed, a claim picks one
picks_some : (tables : Tables) (settings : SettingsData) (now word : ℕ) → tables.settings ≡ Some settings → IsSettings settings
    → IsFilled (eligible_rows tables now) → IsPicked (pick tables now word)
picks_some tables settings now word set kept filled =
    let rows = eligible_rows tables now in
    let best = least_of_filled (is_link_before tables.rows) rows filled in
    let on_link = filter_filled (is_same_link best.item) rows
    (any_of_least (is_same_link best.item) (is_link_before tables.rows) rows best.item best.chosen (same_link-self best.item)) in
    let picked = of_link tables.jobs settings kept (filter (is_same_link best.item) rows) word on_link in
    record {
      row = picked.row;
      is = ap (option_and_then (λ first. pick_of_link tables.jobs (weights_of tables.settings) (filter (is_same_link first) rows) word)) best.chosen
          ∙ (ap (λ given. pick_of_link tables.jobs (weights_of given) (filter (is_same_link best.item) rows) word) set ∙ picked.is);
    }

-- no row may be claimed at the moment of a claim that is refused
pub none_where_idle : (tables : Tables) (settings : SettingsData) (now word : ℕ) → tables.settings ≡ Some settings → IsSettings settings
    → step tables (Claim now word) ≡ Err Idle → eligible_rows tables (max now tables.moment) ≡ []
none_where_idle tables settings now word set kept refused = by_rows (eligible_rows tables (max now tables.moment)) refl
  where
    by_rows : (rows : List FileRow) → eligible_rows tables (max now tables.moment) ≡ rows → rows ≡ []
    by_rows [] is = refl
    by_rows (row ∷ rows) is =
        let picked = picks_some tables settings (max now tables.moment) word set kept (record { first = row; others = rows; whole = is }) in
        let contrary = sym (ap (claim tables (max now tables.moment)) picked.is) ∙ refused in
        cc

-- where no row may be claimed, a claim is refused
pub idle_where_none : (tables : Tables) (now word : ℕ) → eligible_rows tables (max now tables.moment) ≡ [] → step tables (Claim now word) ≡ Err Idle
idle_where_none tables now word none = ap (claim tables (max now tables.moment))
    (ap (λ rows. option_and_then (λ first. pick_of_link tables.jobs (weights_of tables.settings) (filter (is_same_link first) rows) word)
    (least (is_link_before tables.rows) rows)) none)

-- a row that may be claimed may be claimed later too
stays_eligible : (tables : Tables) (now later : ℕ) → now ≤ later → (row : FileRow) → is_eligible tables now row ≡ true
    → is_eligible tables later row ≡ true
stays_eligible tables now later before row eligible =
    let apart = and_parts _ _ eligible in
    let known = and_parts _ _ apart.0 in
    let slots = and_parts _ _ known.0 in
    let state = and_parts _ _ slots.0 in
    let due : row.not_before ≤ now = leb-true row.not_before now state.1 in
    let reached : nat_le row.not_before later ≡ true = le-leb row.not_before later (le_trans due before) in
    both_true _ _ (both_true _ _ (both_true _ _ (both_true _ _ state.0 reached) slots.1) known.1) apart.1

-- so what may not be claimed later may not be claimed before
pub none_earlier : (tables : Tables) (now later : ℕ) → now ≤ later → eligible_rows tables later ≡ [] → eligible_rows tables now ≡ []
none_earlier tables now later before none =
    filter-stronger (is_eligible tables later) (is_eligible tables now) (stays_eligible tables now later before) tables.rows none
