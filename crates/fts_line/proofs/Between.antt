-- A list with an item between two parts, and the list without it.
use Rattle.std.proofs.Common.{◌≡◌, Bool, true, false, cond, List, [], ◌∷◌, ◌++◌, refl, ap, sym, subst, ◌∙◌}
use Rattle.std.specs.Prelude.{not, ◌||◌, map}
use Rattle.std.specs.List.{list_any, AllByRecursion}
use Rattle.ordered.specs.Orders.{IsStrictOrder, AreSortedBy, has_key, put_by, without}
use Rattle.ordered.proofs.Lists.{has_at, without_at}

pub record IsBetween {A : Type 0} (item : A) (whole rest : List A) : Type 0 where
  pub front : List A
  pub back : List A
  pub whole_is : whole ≡ front ++ item ∷ back
  pub rest_is : rest ≡ front ++ back

behind : {A : Type 0} (first item : A) (whole rest : List A) → IsBetween item whole rest → IsBetween item (first ∷ whole) (first ∷ rest)
behind first item whole rest is = record {
  front = first ∷ is.front;
  back = is.back;
  whole_is = ap (λ later. first ∷ later) is.whole_is;
  rest_is = ap (λ later. first ∷ later) is.rest_is;
}

-- a key that comes in stands between two parts
pub put_is : {K : Type 0} (before : K → K → Bool) (key : K) (keys : List K) → IsBetween key (put_by before key keys) keys
put_is before key [] = record { front = []; back = []; whole_is = refl; rest_is = refl }
put_is before key (first ∷ rest) = by_test (before key first) (put_is before key rest)
  where
    by_test : (answer : Bool) → IsBetween key (put_by before key rest) rest
        → IsBetween key (cond answer (key ∷ first ∷ rest) (first ∷ put_by before key rest)) (first ∷ rest)
    by_test true is = record { front = []; back = first ∷ rest; whole_is = refl; rest_is = refl }
    by_test false is = behind first key (put_by before key rest) rest is

-- and so does one that goes
pub gone_is : {K : Type 0} (before : K → K → Bool) → IsStrictOrder before → (key : K) (keys : List K) → AreSortedBy before keys
    → has_key before key keys ≡ true → IsBetween key keys (without before key keys)
gone_is before order key [] sorted there = cc
gone_is before order key (first ∷ rest) sorted there =
    by_tests (gone_is before order key rest sorted.1) (before first key) (before key first) refl refl
  where
    by_tests : (has_key before key rest ≡ true → IsBetween key rest (without before key rest)) → (one other : Bool) → before first key ≡ one
        → before key first ≡ other → IsBetween key (first ∷ rest) (without before key (first ∷ rest))
    by_tests later true other is1 is2 =
        let there_later : has_key before key rest ≡ true =
        ap (λ (test : Bool). not (test || before key first) || has_key before key rest) (sym is1) ∙ there in
        subst (IsBetween key (first ∷ rest))
        (sym (ap (λ (test : Bool). cond (test || before key first) (first ∷ without before key rest) (without before key rest)) is1))
        (behind first key rest (without before key rest) (later there_later))
    by_tests later false true is1 is2 =
        let none : has_key before key (first ∷ rest) ≡ false = has_at before order key first rest sorted is1 ∙ ap not is2 in
        cc
    by_tests later false false is1 is2 = record {
      front = [];
      back = rest;
      whole_is = ap (λ (some : _). some ∷ rest) (order.total first key is1 is2);
      rest_is = without_at before order key first rest sorted is1 is2;
    }

-- what is made of the items stands so too
map_parts : {A B : Type 0} (f : A → B) (front : List A) (back : List A) → map f (front ++ back) ≡ map f front ++ map f back
map_parts f [] back = refl
map_parts f (first ∷ front) back = ap (λ later. f first ∷ later) (map_parts f front back)

pub map_is : {A B : Type 0} (f : A → B) (item : A) (whole rest : List A) → IsBetween item whole rest → IsBetween (f item) (map f whole) (map f rest)
map_is f item whole rest is = record {
  front = map f is.front;
  back = map f is.back;
  whole_is = ap (map f) is.whole_is ∙ map_parts f is.front (item ∷ is.back);
  rest_is = ap (map f) is.rest_is ∙ map_parts f is.front is.back;
}

-- what holds of the rest and of the item holds of all, and back
all_in_parts : {A : Type 0} (P : A → Type 0) (item : A) (front back : List A) → P item → AllByRecursion P (front ++ back)
    → AllByRecursion P (front ++ item ∷ back)
all_in_parts P item [] back here all = (here, all)
all_in_parts P item (first ∷ front) back here all = (all.0, all_in_parts P item front back here all.1)

pub all_in : {A : Type 0} (P : A → Type 0) (item : A) (whole rest : List A) → IsBetween item whole rest → P item → AllByRecursion P rest
    → AllByRecursion P whole
all_in P item whole rest is here all =
    subst (AllByRecursion P) (sym is.whole_is) (all_in_parts P item is.front is.back here (subst (AllByRecursion P) is.rest_is all))

all_out_parts : {A : Type 0} (P : A → Type 0) (item : A) (front back : List A) → AllByRecursion P (front ++ item ∷ back)
    → P item × AllByRecursion P (front ++ back)
all_out_parts P item [] back all = all
all_out_parts P item (first ∷ front) back all =
    let later = all_out_parts P item front back all.1 in
    (later.0, (all.0, later.1))

pub all_out : {A : Type 0} (P : A → Type 0) (item : A) (whole rest : List A) → IsBetween item whole rest → AllByRecursion P whole
    → P item × AllByRecursion P rest
all_out P item whole rest is all =
    let parts = all_out_parts P item is.front is.back (subst (AllByRecursion P) is.whole_is all) in
    (parts.0, subst (AllByRecursion P) (sym is.rest_is) parts.1)

-- what two facts of each item give
pub all_both : {A : Type 0} (P Q R : A → Type 0) → ((item : A) → P item → Q item → R item) → (items : List A) → AllByRecursion P items
    → AllByRecursion Q items → AllByRecursion R items
all_both P Q R both [] one other = tt
all_both P Q R both (first ∷ rest) one other = (both first one.0 other.0, all_both P Q R both rest one.1 other.1)

-- items of which each is made to the same give the same list
pub map_same : {A B : Type 0} (f g : A → B) (items : List A) → AllByRecursion (λ item. f item ≡ g item) items → map f items ≡ map g items
map_same f g [] all = refl
map_same f g (first ∷ rest) all = ap (λ item. item ∷ map f rest) all.0 ∙ ap (λ later. g first ∷ later) (map_same f g rest all.1)

-- a test that none of the made passes
pub none_made : {A B : Type 0} (test : B → Bool) (f : A → B) (items : List A) → list_any test (map f items) ≡ false
    → AllByRecursion (λ item. test (f item) ≡ false) items
none_made test f [] none = tt
none_made test f (first ∷ rest) none = by_test (none_made test f rest) (test (f first)) refl none
  where
    by_test : (list_any test (map f rest) ≡ false → AllByRecursion (λ item. test (f item) ≡ false) rest) → (answer : Bool) → test (f first) ≡ answer
        → (answer || list_any test (map f rest)) ≡ false → (test (f first) ≡ false) × AllByRecursion (λ item. test (f item) ≡ false) rest
    by_test later true is all = cc
    by_test later false is all = (is, later all)
