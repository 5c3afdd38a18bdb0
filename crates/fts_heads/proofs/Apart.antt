-- Numbers tell destinations apart, each listed place has one, and it stays as the list goes on.
use Rattle.std.proofs.Common.{◌≡◌, ◌⊎◌, inl, inr, ℕ, ◌<◌, ◌≤◌, Bool, true, false, cond, List, [], ◌∷◌, ◌++◌, length, get_or, Some, None, refl, ap}
use Rattle.std.proofs.Common.{sym, ◌∙◌, subst, arith}
use Rattle.std.specs.Prelude.{◌&&◌, ◌==◌, bytes_eq, slice_get}
use Rattle.std.specs.List.{position_or_len}
use Rattle.std.specs.Option.{option_map_or}
use Rattle.std.proofs.lemmas.Bool.{and_parts, eqb-true, eq-eqb, cases_lt, lt-ltb}
use Rattle.std.proofs.lemmas.Option.{slice_get-get_or, slice_get_within, get_or_from_slice_get, same_Some}
use Rattle.std.proofs.lemmas.List.Sums.{fails_before_first}
use Rattle.std.proofs.lemmas.List.Quantifiers.{position-Some}
use Rattle.std.proofs.Math.ListN.{get_or-append}
use Rattle.std.proofs.lemmas.List.{length-append}
use Rattle.fts_tables.specs.Places.{is_same_place}
use Rattle.fts_tables.specs.declared.places.Place.{Place}
use Rattle.fts_heads.specs.Dests.{number_of}
use Rattle.fts_heads.proofs.Found.{no}
use Rattle.fts_heads.proofs.Tests.{same_answer}
use Rattle.fts_heads.proofs.Numbers.{text_same, first_place}

-- a place is the same as itself, and places that are the same are equal
text_refl : (text : List ℕ) → bytes_eq text text ≡ true
text_refl [] = refl
text_refl (byte ∷ text) = ap (λ answer. answer && bytes_eq text text) (eq-eqb byte byte refl) ∙ text_refl text

place_refl : (place : Place) → is_same_place place place ≡ true
place_refl place = ap (λ answer. answer && bytes_eq place.path place.path) (text_refl place.endpoint) ∙ text_refl place.path

place_same : (one other : Place) → is_same_place one other ≡ true → one ≡ other
place_same one other is =
    let both = and_parts (bytes_eq one.endpoint other.endpoint) (bytes_eq one.path other.path) is in
    ap (λ endpoint. record { endpoint = endpoint; path = one.path }) (text_same one.endpoint other.endpoint both.0)
    ∙ ap (λ path. record { endpoint = other.endpoint; path = path }) (text_same one.path other.path both.1)

-- the place of a number is the one that has it
own_place : (places : List Place) (place : Place) (number : ℕ) → number_of places place ≡ Some number → get_or places number place ≡ place
own_place places place number is =
    place_same (get_or places number place) place (position-Some (λ other. is_same_place other place) places number place is).1

pub same_number : (places : List Place) (one other : Place) (number other_number : ℕ) → number_of places one ≡ Some number
    → number_of places other ≡ Some other_number → (number == other_number) ≡ is_same_place one other
same_number places one other number other_number is1 is2 = same_answer (number == other_number) (is_same_place one other) there back
  where
    inside : number < length places
    inside = (position-Some (λ some. is_same_place some one) places number one is1).0

    there : (number == other_number) ≡ true → is_same_place one other ≡ true
    there even =
        let same : number ≡ other_number = eqb-true number other_number even in
        let here : Some (get_or places number one) ≡ Some (get_or places number other) =
        sym (slice_get-get_or places number one inside) ∙ slice_get-get_or places number other inside in
        let equal : one ≡ other =
        sym (own_place places one number is1)
        ∙ (same_Some (get_or places number one) (get_or places number other) here
        ∙ (ap (λ n. get_or places n other) same ∙ own_place places other other_number is2)) in
        subst (λ some. is_same_place one some ≡ true) equal (place_refl one)

    back : is_same_place one other ≡ true → (number == other_number) ≡ true
    back is =
        let equal : one ≡ other = place_same one other is in
        eq-eqb number other_number
        (same_Some number other_number (sym is1 ∙ (ap (number_of places) equal ∙ is2)))

pub number_stays : (places more : List Place) (place : Place) (number : ℕ) → number_of places place ≡ Some number
    → number_of (places ++ more) place ≡ Some number
number_stays places more place number is =
    first_place (λ other. is_same_place other place) (places ++ more) number
    (at number parts.0 ∙ parts.1)
    (λ other less. at other (omega (arith, less, parts.0)) ∙ parts.2 other less)
  where
    parts : (number < length places) × (is_same_place (get_or places number place) place ≡ true)
        × ((other : ℕ) → other < number → is_same_place (get_or places other place) place ≡ false)
    parts = position-Some (λ other. is_same_place other place) places number place is

    at : (other : ℕ) → other < length places
        → option_map_or (λ some. is_same_place some place) (slice_get (places ++ more) other) false ≡ is_same_place (get_or places other place) place
    at other inside =
        ap (λ some. option_map_or (λ some. is_same_place some place) some false)
        (slice_get-get_or (places ++ more) other place (omega (arith, inside, length-append places more)))
        ∙ ap (λ some. is_same_place some place) (get_or-append places more place other inside)

pub number_listed : (places : List Place) (at : ℕ) (place : Place) → slice_get places at ≡ Some place
    → (number : ℕ) × (number_of places place ≡ Some number) × (number ≤ at)
number_listed places at place is = by_case (cases_lt at first)
  where
    test : Place → Bool
    test other = is_same_place other place

    first : ℕ
    first = position_or_len (λ other. is_same_place other place) places

    inside : at < length places
    inside = slice_get_within places at place is

    own : is_same_place (get_or places at place) place ≡ true
    own = ap (λ other. is_same_place other place) (get_or_from_slice_get places at place place is) ∙ place_refl place

    by_case : (at < first) ⊎ (first ≤ at) → (number : ℕ) × (number_of places place ≡ Some number) × (number ≤ at)
    by_case (inl less) = no (sym own ∙ fails_before_first (λ other. is_same_place other place) places at place less)
    by_case (inr most) = (
      first,
      ap (λ test. cond test (Some first) None) (lt-ltb first (length places) (omega (arith, most, inside))),
      most,
    )
