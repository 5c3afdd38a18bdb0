-- The job of a turn, among those that are looked at.
use Rattle.std.proofs.Common.{◌≡◌, ℕ, ◌-◌, ◌<◌, ◌≤◌, Bool, false, List, length, get_or, take, Option, Some, Result, subst, sym, ap, ◌∙◌, arith}
use Rattle.std.specs.Prelude.{option_map, nat_le, IfOk}
use Rattle.std.specs.List.{slice_range}
use Rattle.std.proofs.lemmas.Bool.{lt-leb}
use Rattle.std.proofs.lemmas.List.{get_or-take}
use Rattle.std.proofs.lemmas.Option.{slice_get-get_or}
use Rattle.serde_json.specs.View.{view}
use Rattle.serde_json.specs.declared.value.Value.{Value}
use Rattle.fts_tables.specs.Tables.{Tables}
use Rattle.fts_tables.specs.declared.names.Memory.{Memory}
use Rattle.fts_tables.specs.declared.rows.JobRow.{JobRow}
use Rattle.fts_pages.specs.Pages.{JobsQuestion, in_order, goes_on, id_of}
use Rattle.fts_pages.specs.Places.{place_at}
use Rattle.fts_pages.specs.Walk.{shown_if_asked}
use Rattle.fts_pages.specs.declared.places.Places.{Places}
use Rattle.fts_pages.proofs.Order.{order-length, order-at}

module _ (jobs : List JobRow) (places : Places) (inside : places.last ≤ length jobs) (order : places.first ≤ places.last) where
  -- what is shown of the job at a turn's place is what is shown of the job of that turn
  pub turn-shown : (tables : Tables) (finishes : List ℕ) (asked : JobsQuestion) (most turn place : ℕ) (other : JobRow) (found : List JobRow) (value : Option Value)
      → found ≡ jobs → place ≡ place_at places asked.newest turn → turn < most → turn < places.last - places.first
      → option_map view value ≡ shown_if_asked tables finishes asked (get_or found place other)
      → option_map view value ≡ shown_if_asked tables finishes asked
      (get_or (take most (in_order asked.newest (slice_range jobs places.first places.last))) turn other)
  turn-shown tables finishes asked most turn place other found value all at few early shown =
      let same : get_or found place other ≡ get_or (take most (in_order asked.newest (slice_range jobs places.first places.last))) turn other =
      ap (λ (list : List JobRow). get_or list place other) all ∙ ap (λ (n : ℕ). get_or jobs n other) at
      ∙ sym (get_or-take most (in_order asked.newest (slice_range jobs places.first places.last)) turn other few
      ∙ order-at jobs places inside order asked.newest turn other early) in
      subst (λ (job : JobRow). option_map view value ≡ shown_if_asked tables finishes asked job) same shown

  -- the job to go on behind stands at the place of the last turn
  goes-on : (newest more : Bool) (most place : ℕ) (other : JobRow) (found : List JobRow) → found ≡ jobs → place ≡ place_at places newest (most - 1)
      → more ≡ false → 0 < most → most < places.last - places.first
      → goes_on most more (in_order newest (slice_range jobs places.first places.last)) ≡ Some (get_or found place other)
  goes-on newest more most place other found all at none some past =
      let long : nat_le (length (in_order newest (slice_range jobs places.first places.last))) most ≡ false =
      lt-leb (length (in_order newest (slice_range jobs places.first places.last))) most (omega (arith, order-length jobs places inside order newest)) in
      rw (none, long) (slice_get-get_or (in_order newest (slice_range jobs places.first places.last)) (most - 1) other
      (omega (arith, order-length jobs places inside order newest))
      ∙ ap Some (order-at jobs places inside order newest (most - 1) other (omega arith)
      ∙ sym (ap (λ (list : List JobRow). get_or list place other) all ∙ ap (λ (n : ℕ). get_or jobs n other) at)))

  -- so its id is that of the job to go on behind
  pub next-told : (newest more : Bool) (most place : ℕ) (other : JobRow) (found : List JobRow) (result : Result Value Memory)
      → found ≡ jobs → place ≡ place_at places newest (most - 1) → more ≡ false → 0 < most → most < places.last - places.first
      → IfOk result (λ value. view value ≡ id_of (Some (get_or found place other)))
      → IfOk result (λ value. view value ≡ id_of (goes_on most more (in_order newest (slice_range jobs places.first places.last))))
  next-told newest more most place other found result all at none some past told =
      subst (λ (job : Option JobRow). IfOk result (λ value. view value ≡ id_of job)) (sym (goes-on newest more most place other found all at none some past)) told
