-- The first place of a list that passes, counted from some number.
use Rattle.std.proofs.Common.{◌≡◌, ℕ, zero, suc, ◌+◌, ◌<◌, Bool, true, false, cond, List, [], ◌∷◌, ◌++◌, length, Some, None, refl, ap, sym, ◌∙◌, arith, get_or}
use Rattle.std.proofs.Math.ListN.{set}
use Rattle.std.specs.Prelude.{◌||◌, slice_get, map, option_map}
use Rattle.std.specs.List.{list_any, position_from}

-- a place that was found: how far behind the start, and what stands there
pub record IsFoundFrom {Item : Type 0} (test : Item → Bool) (start : ℕ) (items : List Item) (place : ℕ) : Type 0 where
  pub behind : ℕ
  pub is : place ≡ start + behind
  pub inside : behind < length items
  pub item : Item
  pub at : slice_get items behind ≡ Some item
  pub passes : test item ≡ true

-- what stands at the first place that passes
pub found_from : {Item : Type 0} (test : Item → Bool) (start : ℕ) (items : List Item) (place : ℕ) → position_from test start items ≡ Some place
    → IsFoundFrom test start items place
found_from test start [] place is = cc
found_from test start (item ∷ items) place is = by_head (λ at. found_from test (start + 1) items place at) (test item) refl is
  where
    by_head : (position_from test (start + 1) items ≡ Some place → IsFoundFrom test (start + 1) items place) → (answer : Bool) → test item ≡ answer
        → cond answer (Some start) (position_from test (start + 1) items) ≡ Some place → IsFoundFrom test start (item ∷ items) place
    by_head at true passes is_here =
        let same : start ≡ place = cc in
        record { behind = 0; is = omega arith; inside = omega arith; item = item; at = refl; passes = passes }
    by_head at false fails behind =
        let later = at behind in
        record { behind = suc later.behind; is = omega (arith, later.is); inside = omega (arith, later.inside); item = later.item; at = later.at; passes = later.passes }

-- where no place passes, no item does
pub none_from : {Item : Type 0} (test : Item → Bool) (start : ℕ) (items : List Item) → position_from test start items ≡ None → list_any test items ≡ false
none_from test start [] none = refl
none_from test start (item ∷ items) none = by_head (none_from test (start + 1) items) (test item) none
  where
    by_head : (position_from test (start + 1) items ≡ None → list_any test items ≡ false) → (answer : Bool)
        → cond answer (Some start) (position_from test (start + 1) items) ≡ None → (answer || list_any test items) ≡ false
    by_head behind true is = cc
    by_head behind false is = behind is

-- an item that stands in a list and passes is some item that passes
pub any_at : {Item : Type 0} (test : Item → Bool) (items : List Item) (place : ℕ) (item : Item) → slice_get items place ≡ Some item → test item ≡ true
    → list_any test items ≡ true
any_at test [] place item at passes = cc
any_at test (first ∷ items) zero item at passes =
    let same : first ≡ item = cc in
    ap (λ answer. answer || list_any test items) (ap test same ∙ passes)
any_at test (first ∷ items) (suc place) item at passes = ap (λ answer. test first || answer) (any_at test items place item at passes) ∙ or_true (test first)
  where
    or_true : (answer : Bool) → (answer || true) ≡ true
    or_true true = refl
    or_true false = refl

-- counted from one more, and over mapped items
pub position_from-suc : {Item : Type 0} (test : Item → Bool) (start : ℕ) (items : List Item)
    → position_from test (start + 1) items ≡ option_map (λ place. place + 1) (position_from test start items)
position_from-suc test start [] = refl
position_from-suc test start (item ∷ items) = by_head (position_from-suc test (start + 1) items) (test item)
  where
    by_head : position_from test ((start + 1) + 1) items ≡ option_map (λ place. place + 1) (position_from test (start + 1) items) → (answer : Bool)
        → cond answer (Some (start + 1)) (position_from test ((start + 1) + 1) items)
        ≡ option_map (λ place. place + 1) (cond answer (Some start) (position_from test (start + 1) items))
    by_head behind true = refl
    by_head behind false = behind

pub position_from-map : {Item Seen : Type 0} (test : Seen → Bool) (seen : Item → Seen) (start : ℕ) (items : List Item)
    → position_from test start (map seen items) ≡ position_from (λ item. test (seen item)) start items
position_from-map test seen start [] = refl
position_from-map test seen start (item ∷ items) =
    ap (λ behind. cond (test (seen item)) (Some start) behind) (position_from-map test seen (start + 1) items)

-- a list around one of its places
pub record IsSplitAt {Item : Type 0} (items : List Item) (place : ℕ) (item : Item) : Type 0 where
  pub front : List Item
  pub back : List Item
  pub is : items ≡ front ++ item ∷ back
  pub put : (other : Item) → set items place other ≡ front ++ other ∷ back

pub split_at : {Item : Type 0} (items : List Item) (place : ℕ) (item : Item) → slice_get items place ≡ Some item → IsSplitAt items place item
split_at [] place item at = cc
split_at (first ∷ items) zero item at =
    let same : first ≡ item = cc in
    record { front = []; back = items; is = ap (λ head. head ∷ items) same; put = λ other. refl }
split_at (first ∷ items) (suc place) item at =
    let behind = split_at items place item at in
    record {
      front = first ∷ behind.front;
      back = behind.back;
      is = ap (λ tail. first ∷ tail) behind.is;
      put = λ other. ap (λ tail. first ∷ tail) (behind.put other);
    }

-- what stands at a place
pub get_or-at : {Item : Type 0} (items : List Item) (place : ℕ) (item default : Item) → slice_get items place ≡ Some item → get_or items place default ≡ item
get_or-at [] place item default at = cc
get_or-at (first ∷ items) zero item default at = cc
get_or-at (first ∷ items) (suc place) item default at = get_or-at items place item default at

-- where an item passes, some place does
pub some_from : {Item : Type 0} (test : Item → Bool) (start : ℕ) (items : List Item) → list_any test items ≡ true → None ≡ position_from test start items → ⊥
some_from test start items there none = let clash : true ≡ false = sym there ∙ none_from test start items (sym none) in cc

-- where a place was found, some item passes
pub any_from : {Item : Type 0} (test : Item → Bool) (start place : ℕ) (items : List Item) → Some place ≡ position_from test start items → list_any test items ≡ true
any_from test start place items found = let at = found_from test start items place (sym found) in any_at test items at.behind at.item at.at at.passes
