-- Numbers of destinations: the least number of a digest, what it says of the places, and the first place that is the same.
use Rattle.std.proofs.Common.{◌≡◌, ◌⊎◌, inl, inr, ℕ, ◌+◌, ◌<◌, ◌≤◌, Bool, true, false, cond, List}
use Rattle.std.proofs.Common.{[], ◌∷◌, ◌++◌, length, take, get_or, Option, Some, None, refl, ap, sym, ◌∙◌, arith}
use Rattle.std.specs.Prelude.{not, ◌||◌, ◌==◌, nat_lt, bytes_eq, position, slice_get}
use Rattle.std.specs.List.{position_or_len}
use Rattle.std.specs.Option.{option_map_or}
use Rattle.std.proofs.lemmas.Bool.{and_parts, eqb-true, eq-eqb, lt-ltb, cases_lt}
use Rattle.std.proofs.lemmas.Bool.Decides.{nat_tests}
use Rattle.std.proofs.lemmas.Option.{slice_get_cases, slice_get-get_or, slice_get_past}
use Rattle.std.proofs.Math.ListN.{get_or-append}
use Rattle.std.proofs.Math.Seq.{get_or-append_seam}
use Rattle.std.proofs.lemmas.List.{length_push, length-map, length-take-le, take_more, get_or-map}
use Rattle.std.proofs.lemmas.List.Sums.{position_or_len_is}
use Rattle.ordered.specs.Orders.{KeySet, AreSortedBy, differs, has_key, put_by, first_from}
use Rattle.ordered.proofs.Lists.{length-put_by}
use Rattle.ordered.proofs.Members.{has_put}
use Rattle.ordered.specs.ByNumbers.{is_first_by}
use Rattle.fts_tables.specs.Places.{is_same_place}
use Rattle.fts_tables.specs.declared.places.Place.{Place}
use Rattle.fts_tables.specs.declared.rows.FileRow.{FileRow}
use Rattle.fts_heads.specs.Digests.{digest_of, is_digested_before, digests_in_order}
use Rattle.fts_heads.specs.Dests.{DestsData, dests_of, number_of, has_digest, AreNumbersOf}
use Rattle.fts_heads.specs.declared.digest.Digested.{Digested}
use Rattle.fts_heads.proofs.Found.{no, IsFound, is_found, none_found}
use Rattle.fts_heads.proofs.Ranges.{to_false}

-- texts that are equal by the test are equal
pub text_same : (one other : List ℕ) → bytes_eq one other ≡ true → one ≡ other
text_same [] [] is = refl
text_same [] (byte ∷ other) is = cc
text_same (byte ∷ one) [] is = cc
text_same (byte ∷ one) (next ∷ other) is =
    let both = and_parts (byte == next) (bytes_eq one other) is in
    ap (λ number. number ∷ one) (eqb-true byte next both.0) ∙ ap (λ numbers. next ∷ numbers) (text_same one other both.1)

-- places that are the same have one digest
same_digest : (one other : Place) → is_same_place one other ≡ true → digest_of one ≡ digest_of other
same_digest one other is =
    let both = and_parts (bytes_eq one.endpoint other.endpoint) (bytes_eq one.path other.path) is in
    ap (λ name. digest_of (record one { endpoint = name })) (text_same one.endpoint other.endpoint both.0)
    ∙ ap (λ path. digest_of (record one { endpoint = other.endpoint; path = path })) (text_same one.path other.path both.1)

-- whether the item at a place passes
abbrev pub passes_at : {Item : Type 0} → (Item → Bool) → List Item → ℕ → Bool
passes_at test items place = option_map_or test (slice_get items place) false

-- a place that passes where none before it does is the first
pub first_place : {Item : Type 0} (test : Item → Bool) (items : List Item) (place : ℕ) → passes_at test items place ≡ true
    → ((other : ℕ) → other < place → passes_at test items other ≡ false) → position test items ≡ Some place
first_place {Item} test items place here before = by_case (slice_get_cases items place).1
  where
    by_case : ((item : Item) × (place < length items) × (slice_get items place ≡ Some item) × (get_or items place item ≡ item))
        ⊎ ((length items ≤ place) × (slice_get items place ≡ None)) → position test items ≡ Some place
    by_case (inl (item, inside, at, read)) =
        let found : position_or_len test items ≡ place =
        position_or_len_is test items place item (omega (arith, inside))
        (λ other less. sym (ap (λ some. option_map_or test some false) (slice_get-get_or items other item (omega (arith, inside, less)))) ∙ before other less)
        (λ is. sym (ap (λ some. option_map_or test some false) (slice_get-get_or items place item inside)) ∙ here) in
        ap (λ at. cond (nat_lt at (length items)) (Some at) None) found ∙ ap (λ test. cond test (Some place) None) (lt-ltb place (length items) inside)
    by_case (inr (past, none)) = no (sym here ∙ ap (λ some. option_map_or test some false) none)

not_less : (n : ℕ) → nat_lt n n ≡ false
not_less n = grind (arith, nat_tests)

-- where none passes there is none
pub no_place : {Item : Type 0} (test : Item → Bool) (items : List Item) → ((place : ℕ) → place < length items → passes_at test items place ≡ false)
    → position test items ≡ None
no_place test [] all = refl
no_place test (first ∷ rest) all =
    let items = first ∷ rest in
    let found : position_or_len test items ≡ length items =
    position_or_len_is test items (length items) first (omega arith)
    (λ other less. sym (ap (λ some. option_map_or test some false) (slice_get-get_or items other first less)) ∙ all other less)
    (λ is. let impossible : ⊥ = omega (arith, is) in absurd impossible) in
    ap (λ at. cond (nat_lt at (length items)) (Some at) None) found ∙ ap (λ test. cond test (Some (length items)) None) (not_less (length items))

-- a number under a digest
abbrev pub numbered : ℕ → ℕ → Digested
numbered digest number = record { digest = digest; number = number }

-- of keys with one digest the number decides; and what stands behind the start with another digest stands behind all of this digest
no_lesser_number : (digest from other number : ℕ) → other ≡ digest → is_first_by other digest (nat_lt number from) ≡ false → from ≤ number
no_lesser_number digest from other number same goes = grind (arith, nat_tests)

no_earlier : (digest from number : ℕ) → from ≤ number → is_first_by digest digest (nat_lt number from) ≡ false
no_earlier digest from number least = grind (arith, nat_tests)

pub goes_first : (digest one other : ℕ) → one < other → is_first_by digest digest (nat_lt one other) ≡ true
goes_first digest one other less = grind (arith, nat_tests)

goes_past : (digest from other number one : ℕ) → (other ≡ digest → ⊥) → is_first_by other digest (nat_lt number from) ≡ false
    → is_first_by digest other (nat_lt one number) ≡ true
goes_past digest from other number one differ goes = by_less (cases_lt digest other)
  where
    by_less : (digest < other) ⊎ (other ≤ digest) → is_first_by digest other (nat_lt one number) ≡ true
    by_less (inl less) = grind (arith, nat_tests)
    by_less (inr most) =
        let least : digest ≤ other = grind (arith, nat_tests) in
        let same : other ≡ digest = omega (arith, least, most) in
        absurd (differ same)

not_false : (test : Bool) → not test ≡ true → test ≡ false
not_false true is = cc
not_false false is = refl

not_true : (test : Bool) → not test ≡ false → test ≡ true
not_true true is = refl
not_true false is = cc

module _ (keys : List Digested) (sorted : AreSortedBy is_digested_before keys) (digest from : ℕ) where
  -- what was found from the start on, and that nothing was
  pub of_found : (found : Digested) → first_from is_digested_before (numbered digest from) keys ≡ Some found
      → IsFound is_digested_before (λ other. not (is_digested_before other (numbered digest from))) keys found
  of_found found is = is_found is_digested_before digests_in_order (λ other. not (is_digested_before other (numbered digest from))) keys found sorted is

  -- the number that was found with the digest is there, is not before the start, and none of the digest stands between
  pub found_there : (found : Digested) → first_from is_digested_before (numbered digest from) keys ≡ Some found → found.digest ≡ digest
      → has_key is_digested_before (numbered digest found.number) keys ≡ true
  found_there found is same = ap (λ n. has_key is_digested_before (numbered n found.number) keys) (sym same) ∙ (of_found found is).there

  pub found_from : (found : Digested) → first_from is_digested_before (numbered digest from) keys ≡ Some found → found.digest ≡ digest → from ≤ found.number
  found_from found is same = no_lesser_number digest from found.digest found.number same (not_false _ (of_found found is).passing)

  pub found_least : (found : Digested) → first_from is_digested_before (numbered digest from) keys ≡ Some found → found.digest ≡ digest
      → (other : ℕ) → from ≤ other → other < found.number → has_key is_digested_before (numbered digest other) keys ≡ false
  found_least found is same other least less = to_false (has_key is_digested_before (numbered digest other) keys) (λ there.
      sym (ap (λ n. is_first_by digest n (nat_lt other found.number)) same ∙ goes_first digest other found.number less)
      ∙ (of_found found is).least (numbered digest other) there (ap not (no_earlier digest from other least)))

  -- where another digest was found, or nothing, no number of this one stands from the start on
  pub found_past : (found : Digested) → first_from is_digested_before (numbered digest from) keys ≡ Some found → (found.digest ≡ digest → ⊥)
      → (other : ℕ) → from ≤ other → has_key is_digested_before (numbered digest other) keys ≡ false
  found_past found is differ other least = to_false (has_key is_digested_before (numbered digest other) keys) (λ there.
      sym (goes_past digest from found.digest found.number other differ (not_false _ (of_found found is).passing))
      ∙ (of_found found is).least (numbered digest other) there (ap not (no_earlier digest from other least)))

  pub found_none : first_from is_digested_before (numbered digest from) keys ≡ None
      → (other : ℕ) → from ≤ other → has_key is_digested_before (numbered digest other) keys ≡ false
  found_none is other least = to_false (has_key is_digested_before (numbered digest other) keys) (λ there.
      sym (ap not (no_earlier digest from other least))
      ∙ none_found is_digested_before digests_in_order (λ other. not (is_digested_before other (numbered digest from))) keys is (numbered digest other) there)

-- where no number of its digest is, no place is the same
pub goes_elsewhere : (places : List Place) (dests : DestsData) (place : Place) (number : ℕ) → AreNumbersOf places dests
    → has_key is_digested_before (numbered (digest_of place) number) dests.keys ≡ false
    → passes_at (λ other. is_same_place other place) places number ≡ false
goes_elsewhere places dests place number are absent = by_place (slice_get places number) refl
  where
    by_place : (found : Option Place) → slice_get places number ≡ found → passes_at (λ other. is_same_place other place) places number ≡ false
    by_place None at = ap (λ some. option_map_or (λ other. is_same_place other place) some false) at
    by_place (Some other) at =
        ap (λ some. option_map_or (λ other. is_same_place other place) some false) at
        ∙ to_false (is_same_place other place) (λ same.
        sym (are.digests (numbered (digest_of place) number)
        ∙ (ap (λ some. option_map_or (λ other. digest_of other == digest_of place) some false) at
        ∙ eq-eqb (digest_of other) (digest_of place) (same_digest other place same)))
        ∙ absent)

-- none so far goes there, none between, and this one does not: so none up to it does
pub none_further : (test : ℕ → Bool) (from number : ℕ) → ((other : ℕ) → other < from → test other ≡ false)
    → ((other : ℕ) → from ≤ other → other < number → test other ≡ false) → test number ≡ false → (other : ℕ) → other < number + 1 → test other ≡ false
none_further test from number before between here other less = by_case (cases_lt other from) (cases_lt other number)
  where
    by_case : (other < from) ⊎ (from ≤ other) → (other < number) ⊎ (number ≤ other) → test other ≡ false
    by_case (inl sooner) side = before other sooner
    by_case (inr later) (inl sooner) = between other later sooner
    by_case (inr later) (inr most) =
        let same : number ≡ other = omega (arith, less, most) in
        ap test (sym same) ∙ here

-- a number that goes there, behind none
pub this_one : (places : List Place) (dests : DestsData) (place : Place) (from number : ℕ) → AreNumbersOf places dests
    → ((other : ℕ) → other < from → passes_at (λ other. is_same_place other place) places other ≡ false)
    → ((other : ℕ) → from ≤ other → other < number → has_key is_digested_before (numbered (digest_of place) other) dests.keys ≡ false)
    → passes_at (λ other. is_same_place other place) places number ≡ true → Some number ≡ number_of places place
this_one places dests place from number are before between here = sym (first_place (λ other. is_same_place other place) places number here in_front)
  where
    in_front : (other : ℕ) → other < number → passes_at (λ other. is_same_place other place) places other ≡ false
    in_front other less = by_case (cases_lt other from)
      where
        by_case : (other < from) ⊎ (from ≤ other) → passes_at (λ other. is_same_place other place) places other ≡ false
        by_case (inl sooner) = before other sooner
        by_case (inr later) = goes_elsewhere places dests place other are (between other later less)

-- none so far, and none from there on
pub none_there : (places : List Place) (dests : DestsData) (place : Place) (from : ℕ) → AreNumbersOf places dests
    → ((other : ℕ) → other < from → passes_at (λ other. is_same_place other place) places other ≡ false)
    → ((other : ℕ) → from ≤ other → has_key is_digested_before (numbered (digest_of place) other) dests.keys ≡ false)
    → None ≡ number_of places place
none_there places dests place from are before behind = sym (no_place (λ other. is_same_place other place) places (λ other inside. anywhere other))
  where
    anywhere : (other : ℕ) → passes_at (λ other. is_same_place other place) places other ≡ false
    anywhere other = by_case (cases_lt other from)
      where
        by_case : (other < from) ⊎ (from ≤ other) → passes_at (λ other. is_same_place other place) places other ≡ false
        by_case (inl sooner) = before other sooner
        by_case (inr later) = goes_elsewhere places dests place other are (behind other later)

-- the places with one more, by number
pushed : (places : List Place) (place : Place) (number : ℕ)
    → slice_get (places ++ place ∷ []) number ≡ cond (number == length places) (Some place) (slice_get places number)
pushed places place number = by_case (cases_lt number (length places)) (cases_lt (length places) number)
  where
    more : List Place
    more = places ++ place ∷ []

    long : length more ≡ length places + 1
    long = length_push places place

    other : (one two : ℕ) → (one ≡ two → ⊥) → (one == two) ≡ false
    other one two differ = to_false (one == two) (λ is. absurd (differ (eqb-true one two is)))

    by_case : (number < length places) ⊎ (length places ≤ number) → (length places < number) ⊎ (number ≤ length places)
        → slice_get (places ++ place ∷ []) number ≡ cond (number == length places) (Some place) (slice_get places number)
    by_case (inl less) side =
        slice_get-get_or more number place (omega (arith, less, long))
        ∙ (ap (λ (some : Place). Some some) (get_or-append places (place ∷ []) place number less)
        ∙ (sym (slice_get-get_or places number place less)
        ∙ sym (ap (λ (test : Bool). cond test (Some place) (slice_get places number)) (other number (length places) (λ is. omega (arith, is, less))))))
    by_case (inr past) (inl more_than) =
        slice_get_past more number (omega (arith, more_than, long))
        ∙ (sym (slice_get_past places number past)
        ∙ sym (ap (λ (test : Bool). cond test (Some place) (slice_get places number)) (other number (length places) (λ is. omega (arith, is, more_than)))))
    by_case (inr past) (inr most) =
        let same : number ≡ length places = omega (arith, past, most) in
        ap (λ (at : ℕ). slice_get more at) same
        ∙ (slice_get-get_or more (length places) place (omega (arith, long))
        ∙ (ap (λ (some : Place). Some some) (get_or-append_seam places place [] place)
        ∙ sym (ap (λ (test : Bool). cond test (Some place) (slice_get places number)) (eq-eqb number (length places) same))))

-- two numbers that are the same are told apart by their digests alone, and two others are
same_number : (digest other one two : ℕ) → one ≡ two
    → not (is_first_by digest other (nat_lt one two) || is_first_by other digest (nat_lt two one)) ≡ (digest == other)
same_number digest other one two same = grind (arith, nat_tests)

other_number : (digest other one two : ℕ) → (two == one) ≡ false
    → not (is_first_by digest other (nat_lt one two) || is_first_by other digest (nat_lt two one)) ≡ false
other_number digest other one two differ = grind (arith, nat_tests)

or_false : (test : Bool) → (test || false) ≡ test
or_false true = refl
or_false false = refl

-- a place more has its number
pub number_more : (places : List Place) (place : Place) (dests : DestsData) → AreNumbersOf places dests
    → AreNumbersOf (places ++ place ∷ [])
    (record dests { keys = put_by is_digested_before (numbered (digest_of place) (length places)) dests.keys })
number_more places place dests are = record {
  count = omega (arith, length-put_by is_digested_before new dests.keys, are.count, length_push places place);
  digests = λ key. has_put is_digested_before new key dests.keys
      ∙ (ap (λ (test : Bool). not (differs is_digested_before new key) || test) (are.digests key)
      ∙ (by_number key (key.number == length places) refl
      ∙ sym (ap (λ some. option_map_or (λ place. digest_of place == key.digest) some false) (pushed places place key.number))));
}
  where
    new : Digested
    new = numbered (digest_of place) (length places)

    by_number : (key : Digested) (answer : Bool) → (key.number == length places) ≡ answer
        → (not (differs is_digested_before new key) || has_digest places key)
        ≡ option_map_or (λ place. digest_of place == key.digest)
        (cond (key.number == length places) (Some place) (slice_get places key.number)) false
    by_number key true is =
        let same : key.number ≡ length places = eqb-true key.number (length places) is in
        let most : length places ≤ key.number = omega (arith, same) in
        ap (λ some. not (differs is_digested_before new key) || option_map_or (λ place. digest_of place == key.digest) some false)
        (slice_get_past places key.number most)
        ∙ (or_false (not (differs is_digested_before new key))
        ∙ (same_number (digest_of place) key.digest (length places) key.number (sym same)
        ∙ sym (ap (λ (test : Bool). option_map_or (λ place. digest_of place == key.digest)
        (cond test (Some place) (slice_get places key.number)) false) is)))
    by_number key false is =
        ap (λ (test : Bool). test || has_digest places key) (other_number (digest_of place) key.digest (length places) key.number is)
        ∙ sym (ap (λ (test : Bool). option_map_or (λ place. digest_of place == key.digest)
        (cond test (Some place) (slice_get places key.number)) false) is)

-- a number that none of the places has isn't there yet
pub number_new : (places : List Place) (digest number : ℕ) (dests : DestsData) → AreNumbersOf places dests → length places ≤ number
    → has_key is_digested_before (numbered digest number) dests.keys ≡ false
number_new places digest number dests are past =
    are.digests (numbered digest number)
    ∙ ap (λ some. option_map_or (λ place. digest_of place == digest) some false) (slice_get_past places number past)

-- a number that does not go there, behind none, where no place has a greater one
pub none_left : (places : List Place) (dests : DestsData) (place : Place) (from number : ℕ) → AreNumbersOf places dests
    → ((other : ℕ) → other < from → passes_at (λ other. is_same_place other place) places other ≡ false)
    → ((other : ℕ) → from ≤ other → other < number → has_key is_digested_before (numbered (digest_of place) other) dests.keys ≡ false)
    → passes_at (λ other. is_same_place other place) places number ≡ false → length places ≤ number + 1 → None ≡ number_of places place
none_left places dests place from number are before between here few =
    sym (no_place (λ other. is_same_place other place) places (λ other inside.
    none_further (passes_at (λ other. is_same_place other place) places) from number before
    (λ other later sooner. goes_elsewhere places dests place other are (between other later sooner)) here other (omega (arith, inside, few))))

-- the destinations of the rows up to one and with it
pub dests_more : (rows : List FileRow) (place : ℕ) (row : FileRow) → place < length rows → row ≡ get_or rows place row
    → take (place + 1) (dests_of rows) ≡ take place (dests_of rows) ++ row.dest ∷ []
dests_more rows place row inside at =
    take_more (dests_of rows) place row.dest (omega (arith, inside, length-map rows (λ (row : FileRow). row.dest)))
    ∙ ap (λ (dest : Place). take place (dests_of rows) ++ dest ∷ [])
    (get_or-map (λ (row : FileRow). row.dest) rows place row row.dest inside ∙ ap (λ (row : FileRow). row.dest) (sym at))

-- and how many stand before it
pub dests_before : (rows : List FileRow) (place : ℕ) → place < length rows → length (take place (dests_of rows)) ≡ place
dests_before rows place inside = length-take-le place (dests_of rows) (omega (arith, inside, length-map rows (λ (row : FileRow). row.dest)))

-- a row more has its number
pub row_more : (rows : List FileRow) (place : ℕ) (row : FileRow) (digest : ℕ) (dests : DestsData) (new : KeySet Digested) → place < length rows
    → row ≡ get_or rows place row → AreNumbersOf (take place (dests_of rows)) dests → digest ≡ digest_of row.dest
    → new.keys ≡ put_by is_digested_before (numbered digest place) dests.keys
    → AreNumbersOf (take (place + 1) (dests_of rows)) (record { keys = new.keys; room = new.room })
row_more rows place row digest dests new inside at are is put = record {
  count = ap length keys ∙ (more.count ∙ ap length (sym places));
  digests = λ key. ap (has_key is_digested_before key) keys ∙ (more.digests key ∙ ap (λ places. has_digest places key) (sym places));
}
  where
    places : take (place + 1) (dests_of rows) ≡ take place (dests_of rows) ++ row.dest ∷ []
    places = dests_more rows place row inside at

    more : AreNumbersOf (take place (dests_of rows) ++ row.dest ∷ [])
        (record dests { keys = put_by is_digested_before (numbered (digest_of row.dest) (length (take place (dests_of rows)))) dests.keys })
    more = number_more (take place (dests_of rows)) row.dest dests are

    keys : new.keys ≡ put_by is_digested_before (numbered (digest_of row.dest) (length (take place (dests_of rows)))) dests.keys
    keys =
        put
        ∙ (ap (λ digest. put_by is_digested_before (numbered digest place) dests.keys) is
        ∙ ap (λ number. put_by is_digested_before (numbered (digest_of row.dest) number) dests.keys) (sym (dests_before rows place inside)))

-- where no key is, the numbers are those of no place
pub no_numbers : (dests : DestsData) → dests.keys ≡ [] → AreNumbersOf [] dests
no_numbers dests none = record {
  count = ap length none;
  digests = λ key. ap (has_key is_digested_before key) none
      ∙ sym (ap (λ some. option_map_or (λ place. digest_of place == key.digest) some false) (slice_get_past [] key.number (omega arith)));
}
