-- The number of a row's destination as the row comes in: its own place where no row before it has the digest, and else there is one.
use Rattle.std.proofs.Common.{◌≡◌, ◌⊎◌, inl, inr, ℕ, zero, suc, ◌+◌, ◌<◌, ◌≤◌, true, false, List, [], ◌∷◌, ◌++◌, length, get_or, take, Some, None}
use Rattle.std.proofs.Common.{refl, ap, sym, ◌∙◌, arith}
use Rattle.std.specs.Prelude.{◌==◌, nat_lt, slice_get, option_and_then}
use Rattle.std.specs.Option.{option_map_or}
use Rattle.std.proofs.lemmas.Bool.{cases_lt, eq-eqb}
use Rattle.std.proofs.lemmas.Bool.Decides.{nat_tests}
use Rattle.std.proofs.lemmas.Option.{slice_get-get_or}
use Rattle.std.proofs.lemmas.List.{length_push, length-map, get_or-map, get_or_push, get_or_append_left}
use Rattle.std.proofs.lemmas.List.Quantifiers.{position-Some}
use Rattle.ordered.specs.Orders.{AreSortedBy, has_key, last_before}
use Rattle.ordered.specs.ByNumbers.{is_first_by}
use Rattle.ordered.proofs.Members.{last_from}
use Rattle.fts_tables.specs.Places.{is_same_place}
use Rattle.fts_tables.specs.declared.places.Place.{Place}
use Rattle.fts_tables.specs.declared.rows.FileRow.{FileRow}
use Rattle.fts_heads.specs.Digests.{digest_of, is_digested_before, digests_in_order}
use Rattle.fts_heads.specs.Dests.{DestsData, dests_of, number_of, AreNumbersOf}
use Rattle.fts_heads.proofs.Found.{no}
use Rattle.fts_heads.proofs.Ranges.{to_false}
use Rattle.fts_heads.proofs.Numbers.{numbered, goes_first, goes_elsewhere, number_new, dests_more, dests_before}
use Rattle.fts_heads.proofs.Apart.{number_listed}

-- a key between two of one digest has that digest too
between : (digest other one two number : ℕ) → is_first_by other digest (nat_lt number two) ≡ true → is_first_by other digest (nat_lt number one) ≡ false
    → other ≡ digest
between digest other one two number lesser least = by_less (cases_lt other digest)
  where
    by_less : (other < digest) ⊎ (digest ≤ other) → other ≡ digest
    by_less (inl less) = let impossible : ⊥ = grind (arith, nat_tests) in absurd impossible
    by_less (inr most) =
        let least : other ≤ digest = grind (arith, nat_tests) in
        omega (arith, least, most)

-- where the key in front of a new one has another digest, or there is none, no place has this digest
pub first_of_digest : (places : List Place) (digest : ℕ) (dests : DestsData) → AreNumbersOf places dests → AreSortedBy is_digested_before dests.keys
    → option_map_or (λ key. key.digest == digest) (last_before is_digested_before (numbered digest (length places)) dests.keys) false ≡ false
    → (other : ℕ) → has_key is_digested_before (numbered digest other) dests.keys ≡ false
first_of_digest places digest dests are sorted none other = by_side (cases_lt other (length places))
  where
    by_side : (other < length places) ⊎ (length places ≤ other) → has_key is_digested_before (numbered digest other) dests.keys ≡ false
    by_side (inr past) = number_new places digest other dests are past
    by_side (inl less) = to_false (has_key is_digested_before (numbered digest other) dests.keys) (λ there.
        let found = last_from is_digested_before digests_in_order (numbered digest other) (numbered digest (length places)) dests.keys sorted there
        (goes_first digest other (length places) less) in
        sym (ap (λ some. option_map_or (λ key. key.digest == digest) some false) found.is
        ∙ eq-eqb found.last.digest digest (between digest found.last.digest other (length places) found.last.number found.lesser found.least))
        ∙ none)

-- the row at a place
pub row_at : (rows : List FileRow) (place : ℕ) → place < length rows → (row : FileRow) × (row ≡ get_or rows place row)
row_at [] place inside = absurd (omega (arith, inside))
row_at (first ∷ rest) zero inside = (first, refl)
row_at (first ∷ rest) (suc place) inside = row_at rest place (omega (arith, inside))

module _ (rows : List FileRow) (place : ℕ) (row : FileRow) (inside : place < length rows) (is : row ≡ get_or rows place row) where
  -- the row's destination, among all
  pub dest_at : slice_get (dests_of rows) place ≡ Some row.dest
  dest_at =
      slice_get-get_or (dests_of rows) place row.dest (omega (arith, inside, length-map rows (λ (row : FileRow). row.dest)))
      ∙ ap (λ (dest : Place). Some dest)
      (get_or-map (λ (row : FileRow). row.dest) rows place row row.dest inside ∙ ap (λ (row : FileRow). row.dest) (sym is))

  -- and its number
  pub number_at : (number : ℕ) → number_of (take (place + 1) (dests_of rows)) row.dest ≡ Some number
      → option_and_then (number_of (take (place + 1) (dests_of rows))) (slice_get (dests_of rows) place) ≡ Some number
  number_at number found = ap (option_and_then (number_of (take (place + 1) (dests_of rows)))) dest_at ∙ found

  pub number_there : (number : ℕ) → option_and_then (number_of (take (place + 1) (dests_of rows))) (slice_get (dests_of rows) place) ≡ Some number
      → number_of (take (place + 1) (dests_of rows)) row.dest ≡ Some number
  number_there number found = sym (ap (option_and_then (number_of (take (place + 1) (dests_of rows)))) dest_at) ∙ found

  -- among those up to it and with it there is one
  listed : (number : ℕ) × (number_of (take (place + 1) (dests_of rows)) row.dest ≡ Some number) × (number ≤ place)
  listed = number_listed (take (place + 1) (dests_of rows)) place row.dest here
    where
      here : slice_get (take (place + 1) (dests_of rows)) place ≡ Some row.dest
      here =
          let before = dests_before rows place inside in
          let places = take place (dests_of rows) in
          ap (λ (places : List Place). slice_get places place) (dests_more rows place row inside is)
          ∙ (slice_get-get_or (places ++ row.dest ∷ []) place row.dest (omega (arith, before, length_push places row.dest))
          ∙ ap (λ (dest : Place). Some dest) (get_or_push places row.dest row.dest place before))

  pub has_number : number_of (take (place + 1) (dests_of rows)) row.dest ≡ None → ⊥
  has_number none =
      let clash : Some listed.0 ≡ None = sym listed.1 ∙ none in
      cc

  -- it is the row's own place, where no place before it has the digest
  pub own_number : (dests : DestsData) → AreNumbersOf (take place (dests_of rows)) dests
      → ((other : ℕ) → has_key is_digested_before (numbered (digest_of row.dest) other) dests.keys ≡ false)
      → number_of (take (place + 1) (dests_of rows)) row.dest ≡ Some place
  own_number dests are absent = by_case (cases_lt listed.0 place)
    where
      places : List Place
      places = take place (dests_of rows)

      goes_there : is_same_place (get_or (places ++ row.dest ∷ []) listed.0 row.dest) row.dest ≡ true
      goes_there =
          (position-Some (λ other. is_same_place other row.dest) (places ++ row.dest ∷ []) listed.0 row.dest
          (ap (λ places. number_of places row.dest) (sym (dests_more rows place row inside is)) ∙ listed.1)).1

      by_case : (listed.0 < place) ⊎ (place ≤ listed.0) → number_of (take (place + 1) (dests_of rows)) row.dest ≡ Some place
      by_case (inl less) =
          let before : listed.0 < length places = omega (arith, less, dests_before rows place inside) in
          no (sym (ap (λ some. option_map_or (λ other. is_same_place other row.dest) some false) (slice_get-get_or places listed.0 row.dest before)
          ∙ (ap (λ other. is_same_place other row.dest) (sym (get_or_append_left places (row.dest ∷ []) row.dest listed.0 before)) ∙ goes_there))
          ∙ goes_elsewhere places dests row.dest listed.0 are (absent listed.0))
      by_case (inr most) =
          let same : listed.0 ≡ place = omega (arith, listed.2, most) in
          listed.1 ∙ ap (λ (number : ℕ). Some number) same
