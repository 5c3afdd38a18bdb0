-- A walk over items that may be passed over: what it has shown so far, one item further on, and past the end.
use Rattle.std.proofs.Common.{◌≡◌, ℕ, zero, suc, ◌+◌, ◌-◌, ◌<◌, ◌≤◌, Bool, true, false, List, [], ◌∷◌, ◌++◌, length, get_or, take, drop, refl, sym, arith, append-nil, append_assoc, drop-cons, add-one, length-append, Option, Some, None}
use Rattle.std.specs.Prelude.{filter, if◌then◌else◌, option_map}
use Rattle.std.specs.Option.{option_to_list}
use Rattle.std.proofs.lemmas.List.{map-append}
use Rattle.std.proofs.lemmas.Option.{same_Some, none-some}
use Rattle.fts_routes.proofs.Listed.{ShownSoFar}

-- past its end a list has nothing
pub past-end : {A : Type 0} (items : List A) (place : ℕ) → length items ≤ place → drop place items ≡ []
past-end [] zero past = refl
past-end [] (suc place) past = refl
past-end (item ∷ items) zero past = absurd (omega arith)
past-end (item ∷ items) (suc place) past = past-end items place (omega arith)

-- so nothing is taken there
pub nothing-past : {A : Type 0} (test : A → Bool) (count : ℕ) (items : List A) (place : ℕ) → length items ≤ place → take count (filter test (drop place items)) ≡ []
nothing-past {A} test count items place past = rw (past-end items place past) (none count)
  where
    none : (count : ℕ) → take {A = A} count [] ≡ []
    none zero = refl
    none (suc count) = refl

module _ {A B V : Type 0} (view : V → B) (shown : A → B) (test : A → Bool) where
  -- what an answer by a test says of the test
  if-shown : (item : A) (value : V) → Some (view value) ≡ (if test item then Some (shown item) else None) → (test item ≡ true) × (view value ≡ shown item)
  if-shown item value is = by_test (test item) is
    where
      by_test : (answer : Bool) → Some (view value) ≡ (if answer then Some (shown item) else None) → (answer ≡ true) × (view value ≡ shown item)
      by_test true same = (refl, same_Some (view value) (shown item) same)
      by_test false none = absurd (none-some (view value) (sym none))

  if-passed : (item : A) → ◌≡◌ {A = Option B} None (if test item then Some (shown item) else None) → test item ≡ false
  if-passed item is = by_test (test item) is
    where
      by_test : (answer : Bool) → ◌≡◌ {A = Option B} None (if answer then Some (shown item) else None) → answer ≡ false
      by_test true some = absurd (none-some (shown item) some)
      by_test false none = refl

  -- an item is shown where it passes, and else passed over
  pub so-far-next : (limit : ℕ) (items : List A) (place : ℕ) (list : List V) (other : A) (value : Option V) → place < length items
      → option_map view value ≡ (if test (get_or items place other) then Some (shown (get_or items place other)) else None)
      → length list < limit → ShownSoFar view shown test limit items place list
      → ShownSoFar view shown test limit items (place + 1) (list ++ option_to_list value)
  so-far-next limit items place list other None inside is below before =
      let fails : test (get_or items place other) ≡ false = if-passed (get_or items place other) is in
      let cut : drop place items ≡ get_or items place other ∷ drop (suc place) items = drop-cons items place other inside in
      let later = rw (cut, fails) at before in
      rw (append-nil list, add-one place) later
  so-far-next limit items place list other (Some value) inside is below before =
      let passes = if-shown (get_or items place other) value is in
      let cut : drop place items ≡ get_or items place other ∷ drop (suc place) items = drop-cons items place other inside in
      let room : limit - length list ≡ suc (limit - (length list + 1)) = omega arith in
      let later = rw (cut, passes.0, room) at before in
      rw (map-append view list (value ∷ []), length-append list (value ∷ []), add-one place, append_assoc, passes.1) later
