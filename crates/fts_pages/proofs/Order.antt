-- Jobs in the order asked for, by their turns.
use Rattle.std.proofs.Common.{◌≡◌, ℕ, ◌+◌, ◌-◌, ◌<◌, ◌≤◌, Bool, true, false, List, length, get_or, drop, ap, ◌∙◌, arith, length-drop}
use Rattle.std.specs.List.{slice_range}
use Rattle.std.proofs.lemmas.List.{get_or-take, get_or-drop, get_or-reverse, length-reverse, length-take-le}
use Rattle.fts_tables.specs.declared.rows.JobRow.{JobRow}
use Rattle.fts_pages.specs.Pages.{in_order}
use Rattle.fts_pages.specs.Places.{place_at}
use Rattle.fts_pages.specs.declared.places.Places.{Places}

module _ (jobs : List JobRow) (places : Places) (inside : places.last ≤ length jobs) (order : places.first ≤ places.last) where
  -- as many as there are places
  range-length : length (slice_range jobs places.first places.last) ≡ places.last - places.first
  range-length = length-take-le (places.last - places.first) (drop places.first jobs) (omega (arith, length-drop places.first jobs))

  pub order-length : (newest : Bool) → length (in_order newest (slice_range jobs places.first places.last)) ≡ places.last - places.first
  order-length true = length-reverse (slice_range jobs places.first places.last) ∙ range-length
  order-length false = range-length

  range-at : (turn : ℕ) (other : JobRow) → turn < places.last - places.first
      → get_or (slice_range jobs places.first places.last) turn other ≡ get_or jobs (places.first + turn) other
  range-at turn other early = get_or-take (places.last - places.first) (drop places.first jobs) turn other early ∙ get_or-drop places.first jobs turn other

  -- the job of a turn
  pub order-at : (newest : Bool) (turn : ℕ) (other : JobRow) → turn < places.last - places.first
      → get_or (in_order newest (slice_range jobs places.first places.last)) turn other ≡ get_or jobs (place_at places newest turn) other
  order-at true turn other early =
      get_or-reverse (slice_range jobs places.first places.last) turn other (omega (arith, range-length))
      ∙ ap (λ (count : ℕ). get_or (slice_range jobs places.first places.last) (count - 1 - turn) other) range-length
      ∙ range-at (places.last - places.first - 1 - turn) other (omega arith)
      ∙ ap (λ (place : ℕ). get_or jobs place other) (omega arith)
  order-at false turn other early = range-at turn other early
