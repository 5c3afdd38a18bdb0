-- The rows whose files stand in line: each has a number, its flag says whether its destination is busy, and its queue has a number of its own.
use Rattle.std.proofs.Common.{◌≡◌, ℕ, zero, suc, ◌+◌, ◌-◌, ◌≤◌, false, true, List, [], ◌∷◌, length, Some, ap, sym, ◌∙◌, arith}
use Rattle.std.specs.Prelude.{is_some, slice_get, slice_index_or, option_map, unwrap_or, nat_le}
use Rattle.std.proofs.lemmas.Bool.{and_parts, leb-true}
use Rattle.std.proofs.lemmas.Option.{same_Some, slice_get-get_or, slice_get-map, slice_get_within, get_or_from_slice_get}
use Rattle.std.proofs.lemmas.List.{length-map}
use Rattle.fts_tables.specs.SettingsData.{SettingsData, IsSettings}
use Rattle.fts_tables.specs.Tables.{AreNumberedFrom}
use Rattle.fts_tables.specs.Limits.{endpoint_at, has_known_ends}
use Rattle.fts_tables.specs.declared.places.Place.{Place}
use Rattle.fts_tables.specs.declared.rows.FileRow.{FileRow}
use Rattle.fts_tables.specs.declared.limits.TheConstants.{MAX_ENDPOINTS, MAX_WEIGHTS}
use Rattle.fts_heads.specs.Dests.{dests_of, number_of}
use Rattle.fts_heads.proofs.Apart.{number_listed}
use Rattle.fts_line.specs.LineData.{LineData, IsInside, dest_of}
use Rattle.fts_claims.specs.BusyData.{BusyData, is_busy}
use Rattle.fts_claims.specs.Ties.{link_of, activity_of}
use Rattle.fts_claims.specs.InLine.{numbers_of, IsInLine, HasNumber}
use Rattle.fts_claims.proofs.TiedRows.{known_place, activity_inside}

-- a row stands at the place before its id
pub id_here : (start : ℕ) (rows : List FileRow) (place : ℕ) (row : FileRow) → AreNumberedFrom (λ row. row.id) start rows
    → slice_get rows place ≡ Some row → row.id ≡ start + place
id_here start [] place row numbered at = let past = slice_get_within [] place row at in absurd (omega (arith, past))
id_here start (first ∷ rows) zero row numbered at =
    let same : first ≡ row = same_Some first row at in omega (arith, ap (λ (other : FileRow). other.id) same, numbered.0)
id_here start (first ∷ rows) (suc place) row numbered at =
    let inside = slice_get_within (first ∷ rows) (suc place) row at in
    let behind : slice_get rows place ≡ Some row =
    slice_get-get_or rows place row (omega (arith, inside))
    ∙ ap Some (get_or_from_slice_get (first ∷ rows) (suc place) row row at) in
    omega (arith, id_here (suc start) rows place row numbered.1 behind)

-- the number at a place of the list is that of the place there
pub number_here : (places : List Place) (at : ℕ) (place : Place) → slice_get places at ≡ Some place
    → number_of places place ≡ Some (slice_index_or (numbers_of places) at 0)
number_here places at place is =
    let found = number_listed places at place is in
    let here : slice_get (numbers_of places) at ≡ Some found.0 =
    slice_get-map (λ place. unwrap_or (number_of places place) 0) places at
    ∙ (ap (option_map (λ place. unwrap_or (number_of places place) 0)) is ∙ ap (λ number. Some (unwrap_or number 0)) found.1) in
    found.1 ∙ ap Some (sym (get_or_from_slice_get (numbers_of places) at found.0 0 here))

-- and it stands at the place or before it
number_least : (places : List Place) (at : ℕ) (place : Place) → slice_get places at ≡ Some place → slice_index_or (numbers_of places) at 0 ≤ at
number_least places at place is =
    let found = number_listed places at place is in
    let same = same_Some _ _ (sym found.1 ∙ number_here places at place is) in
    omega (arith, found.2, same)

module _ (rows : List FileRow) (line : LineData) (busy : BusyData) (place : ℕ) (row : FileRow) (numbered : AreNumberedFrom (λ row. row.id) 1 rows)
    (at : slice_get rows place ≡ Some row) (lined : IsInLine (dests_of rows) line busy) where
  -- its destination stands there too
  dest_here : slice_get (dests_of rows) place ≡ Some row.dest
  dest_here = slice_get-map (λ (other : FileRow). other.dest) rows place ∙ ap (option_map (λ (other : FileRow). other.dest)) at

  -- the number of its destination is that of its place
  own_number : dest_of line.dests row.id ≡ slice_index_or (numbers_of (dests_of rows)) place 0
  own_number =
      let here : row.id - 1 ≡ place = omega (arith, id_here 1 rows place row numbered at) in
      ap (λ dests. slice_index_or dests (row.id - 1) 0) lined.numbers ∙ ap (λ at. slice_index_or (numbers_of (dests_of rows)) at 0) here

  -- so it is known
  pub number_of_row : number_of (dests_of rows) row.dest ≡ Some (dest_of line.dests row.id)
  number_of_row = number_here (dests_of rows) place row.dest dest_here ∙ ap Some (sym own_number)

  pub has_number : HasNumber row line
  has_number =
      let inside = slice_get_within rows place row at in
      let many = length-map rows (λ (other : FileRow). other.dest) in
      let id = id_here 1 rows place row numbered at in record {
        first = omega (arith, id);
        numbered = omega (
          arith,
          id,
          inside,
          many,
          ap length lined.numbers,
          length-map (dests_of rows) (λ place. unwrap_or (number_of (dests_of rows) place) 0),
        );
        dest = omega (arith, inside, many, own_number, number_least (dests_of rows) place row.dest dest_here, lined.count);
      }

  -- and its flag says whether it is busy
  pub flag_of_row : slice_index_or line.busy (dest_of line.dests row.id) false ≡ is_busy busy.places row.dest
  flag_of_row = lined.flags row.dest (dest_of line.dests row.id) number_of_row

-- the queue of a row whose ends are known has a number of its own
pub inside_row : (settings : SettingsData) → IsSettings settings → (row : FileRow) → has_known_ends (Some settings) row ≡ true
    → IsInside (link_of settings row) (activity_of settings row)
inside_row settings rules row known =
    let ends = and_parts (is_some (endpoint_at (Some settings) row.source.endpoint)) (is_some (endpoint_at (Some settings) row.dest.endpoint)) known in
    let few = leb-true (length settings.endpoints) MAX_ENDPOINTS (and_parts (nat_le 1 (length settings.endpoints)) (nat_le (length settings.endpoints) MAX_ENDPOINTS) rules.endpoint_count).1 in
    let weights = leb-true (length settings.weights) MAX_WEIGHTS rules.weight_count in record {
      from = omega (arith, few, (known_place settings rules row.source.endpoint ends.0).0);
      to = omega (arith, few, (known_place settings rules row.dest.endpoint ends.1).0);
      under = omega (arith, weights, activity_inside settings rules row);
    }
