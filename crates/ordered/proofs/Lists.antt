-- Keys in a strict order: what holds of each, sorted lists, and what a set answers around the place of a key.
use Rattle.std.proofs.Common.{◌≡◌, ℕ, zero, suc, ◌-◌, ◌<◌, ◌≤◌, Bool, true, false, cond, List, [], ◌∷◌, ◌++◌, length, take, drop, get_or, Some, None, refl, ap, sym, ◌∙◌, subst, arith}
use Rattle.std.specs.Prelude.{not, ◌||◌, filter, slice_get}
use Rattle.std.specs.List.{AllByRecursion, AllWithin}
use Rattle.std.proofs.lemmas.Bool.{or_parts}
use Rattle.std.proofs.lemmas.Bool.Decides.{nat_tests}
use Rattle.ordered.specs.Orders.{IsStrictOrder, AreSortedBy, put_by, without, has_key, first_from, next_after, last_before}

-- what holds up to a place holds of each in front of it
pub take_within : {A : Type 0} (P : A → Type 0) (items : List A) (n : ℕ) → AllWithin P items 0 n → AllByRecursion P (take n items)
take_within P items zero all = tt
take_within P [] (suc n) all = tt
take_within P (first ∷ rest) (suc n) all =
    (all 0 first (omega arith) (omega arith), take_within P rest n (λ k d low high. all (suc k) d (omega arith) (omega arith)))

-- what holds from a place on holds of each from there on
pub drop_within : {A : Type 0} (P : A → Type 0) (items : List A) (n : ℕ) → AllWithin P items n (length items) → AllByRecursion P (drop n items)
drop_within P [] zero all = tt
drop_within P [] (suc n) all = tt
drop_within P (first ∷ rest) zero all =
    (all 0 first (omega arith) (omega arith), drop_within P rest zero (λ k d low high. all (suc k) d (omega arith) (omega arith)))
drop_within P (first ∷ rest) (suc n) all = drop_within P rest n (λ k d low high. all (suc k) d (omega arith) (omega arith))

-- what holds of each of two lists holds of each of both
pub all_append : {A : Type 0} (P : A → Type 0) (front back : List A) → AllByRecursion P front → AllByRecursion P back → AllByRecursion P (front ++ back)
all_append P [] back some others = others
all_append P (first ∷ front) back some others = (some.0, all_append P front back some.1 others)

pub all_front : {A : Type 0} (P : A → Type 0) (front back : List A) → AllByRecursion P (front ++ back) → AllByRecursion P front
all_front P [] back all = tt
all_front P (first ∷ front) back all = (all.0, all_front P front back all.1)

pub all_back : {A : Type 0} (P : A → Type 0) (front back : List A) → AllByRecursion P (front ++ back) → AllByRecursion P back
all_back P [] back all = all
all_back P (first ∷ front) back all = all_back P front back all.1

pub all_weaker : {A : Type 0} (P Q : A → Type 0) → ((item : A) → P item → Q item) → (items : List A) → AllByRecursion P items → AllByRecursion Q items
all_weaker P Q weaker [] all = tt
all_weaker P Q weaker (first ∷ rest) all = (weaker first all.0, all_weaker P Q weaker rest all.1)

all_filter : {A : Type 0} (P : A → Type 0) (passes : A → Bool) (items : List A) → AllByRecursion P items → AllByRecursion P (filter passes items)
all_filter P passes [] all = tt
all_filter P passes (first ∷ rest) all = by_test (passes first) (all_filter P passes rest all.1)
  where
    by_test : (answer : Bool) → AllByRecursion P (filter passes rest) → AllByRecursion P (cond answer (first ∷ filter passes rest) (filter passes rest))
    by_test true behind = (all.0, behind)
    by_test false behind = behind

-- what holds of each holds at each place
pub all_by_place : {A : Type 0} (P : A → Type 0) (items : List A) (n : ℕ) (d : A) → AllByRecursion P items → n < length items → P (get_or items n d)
all_by_place P [] n d all less = absurd (omega arith)
all_by_place P (first ∷ rest) zero d all less = all.0
all_by_place P (first ∷ rest) (suc n) d all less = all_by_place P rest n d all.1 (omega arith)

-- a test that goes down along a sorted list parts it
pub parted : {A : Type 0} (before : A → A → Bool) (passes : A → Bool)
    → ((one other : A) → before one other ≡ true → passes other ≡ true → passes one ≡ true)
    → (items : List A) → AreSortedBy before items → (i j : ℕ) (d : A) → i ≤ j → j < length items → passes (get_or items j d) ≡ true
    → passes (get_or items i d) ≡ true
parted before passes down [] sorted i j d le less is = absurd (omega arith)
parted before passes down (first ∷ rest) sorted zero zero d le less is = is
parted before passes down (first ∷ rest) sorted zero (suc j) d le less is =
    let at : j < length rest = omega arith in
    down first (get_or rest j d) (all_by_place (λ later. before first later ≡ true) rest j d sorted.0 at) is
parted before passes down (first ∷ rest) sorted (suc i) zero d le less is = absurd (omega arith)
parted before passes down (first ∷ rest) sorted (suc i) (suc j) d le less is = parted before passes down rest sorted.1 i j d (omega arith) (omega arith) is

-- both parts of a sorted list are sorted, and each of the first stands before each of the second
pub sorted_front : {K : Type 0} (before : K → K → Bool) (front back : List K) → AreSortedBy before (front ++ back) → AreSortedBy before front
sorted_front before [] back sorted = tt
sorted_front before (first ∷ front) back sorted =
    (all_front (λ later. before first later ≡ true) front back sorted.0, sorted_front before front back sorted.1)

pub sorted_back : {K : Type 0} (before : K → K → Bool) (front back : List K) → AreSortedBy before (front ++ back) → AreSortedBy before back
sorted_back before [] back sorted = sorted
sorted_back before (first ∷ front) back sorted = sorted_back before front back sorted.1

pub sorted_across : {K : Type 0} (before : K → K → Bool) (front back : List K) → AreSortedBy before (front ++ back)
    → AllByRecursion (λ one. AllByRecursion (λ other. before one other ≡ true) back) front
sorted_across before [] back sorted = tt
sorted_across before (first ∷ front) back sorted =
    (all_back (λ later. before first later ≡ true) front back sorted.0, sorted_across before front back sorted.1)

-- a filter of a sorted list is sorted
pub filter_sorted : {K : Type 0} (before : K → K → Bool) (passes : K → Bool) (keys : List K) → AreSortedBy before keys → AreSortedBy before (filter passes keys)
filter_sorted before passes [] sorted = tt
filter_sorted before passes (first ∷ rest) sorted = by_test (passes first) (filter_sorted before passes rest sorted.1)
  where
    by_test : (answer : Bool) → AreSortedBy before (filter passes rest) → AreSortedBy before (cond answer (first ∷ filter passes rest) (filter passes rest))
    by_test true behind = (all_filter (λ later. before first later ≡ true) passes rest sorted.0, behind)
    by_test false behind = behind

-- a key more is one more
pub length-put_by : {K : Type 0} (before : K → K → Bool) (key : K) (keys : List K) → length (put_by before key keys) ≡ suc (length keys)
length-put_by before key [] = refl
length-put_by before key (first ∷ rest) = by_test (before key first) (length-put_by before key rest)
  where
    by_test : (answer : Bool) → length (put_by before key rest) ≡ suc (length rest)
        → length (cond answer (key ∷ first ∷ rest) (first ∷ put_by before key rest)) ≡ suc (suc (length rest))
    by_test true behind = refl
    by_test false behind = ap suc behind

all_put : {K : Type 0} (before : K → K → Bool) (P : K → Type 0) (key : K) (keys : List K) → P key → AllByRecursion P keys
    → AllByRecursion P (put_by before key keys)
all_put before P key [] own all = (own, tt)
all_put before P key (first ∷ rest) own all = by_test (before key first) (all_put before P key rest own all.1)
  where
    by_test : (answer : Bool) → AllByRecursion P (put_by before key rest) → AllByRecursion P (cond answer (key ∷ first ∷ rest) (first ∷ put_by before key rest))
    by_test true behind = (own, all)
    by_test false behind = (all.0, behind)

-- a filter keeps of two lists the one that it passes, where it passes none of the other
filter_front : {A : Type 0} (passes : A → Bool) (front back : List A) → AllByRecursion (λ item. passes item ≡ true) front
    → AllByRecursion (λ item. passes item ≡ false) back → filter passes (front ++ back) ≡ front
filter_front passes [] [] some none = refl
filter_front passes [] (first ∷ back) some none =
    ap (λ (test : Bool). cond test (first ∷ filter passes back) (filter passes back)) none.0 ∙ filter_front passes [] back some none.1
filter_front passes (first ∷ front) back some none =
    ap (λ (test : Bool). cond test (first ∷ filter passes (front ++ back)) (filter passes (front ++ back))) some.0
    ∙ ap (λ (later : List _). first ∷ later) (filter_front passes front back some.1 none)

-- so the last in front of a key's place is the greatest that stands before it
pub last_before_behind : {K : Type 0} (before : K → K → Bool) (key : K) (front back : List K) → AllByRecursion (λ other. before other key ≡ true) front
    → AllByRecursion (λ other. before other key ≡ false) back → last_before before key (front ++ back) ≡ slice_get front (length front - 1)
last_before_behind before key front back lesser others =
    ap (λ (keys : List _). slice_get keys (length keys - 1)) (filter_front (λ other. before other key) front back lesser others)

-- of two keys that differ, one stands first
one_first : (there back : Bool) → not (there || back) ≡ false → there ≡ false → back ≡ true
one_first there back is too = grind (arith, nat_tests)

other_first : (there back : Bool) → not (there || back) ≡ false → back ≡ false → there ≡ true
other_first there back is too = grind (arith, nat_tests)

module _ {K : Type 0} (before : K → K → Bool) (order : IsStrictOrder before) where
  -- what stands behind a key does not stand before it
  pub not_back : (one other : K) → before one other ≡ true → before other one ≡ false
  not_back one other goes = by_test (before other one) refl
    where
      by_test : (answer : Bool) → before other one ≡ answer → before other one ≡ false
      by_test true back =
          let here : before one one ≡ true = order.transitive one other one goes back in
          let not_here : before one one ≡ false = order.irreflexive one in
          cc
      by_test false back = back

  -- what stands before a key stands before all behind that
  pub all_after : (one other : K) (keys : List K) → before one other ≡ true → AllByRecursion (λ later. before other later ≡ true) keys
      → AllByRecursion (λ later. before one later ≡ true) keys
  all_after one other keys goes all =
      all_weaker (λ later. before other later ≡ true) (λ later. before one later ≡ true) (λ later is. order.transitive one other later goes is) keys all

  -- a key that is not there comes in sorted
  pub put_sorted : (key : K) (keys : List K) → AreSortedBy before keys → has_key before key keys ≡ false → AreSortedBy before (put_by before key keys)
  put_sorted key [] sorted absent = (tt, tt)
  put_sorted key (first ∷ rest) sorted absent = by_test (before key first) refl (put_sorted key rest sorted.1 parts.1)
    where
      parts : (not (before first key || before key first) ≡ false) × (has_key before key rest ≡ false)
      parts = or_parts (not (before first key || before key first)) (has_key before key rest) absent

      by_test : (answer : Bool) → before key first ≡ answer → AreSortedBy before (put_by before key rest)
          → AreSortedBy before (cond answer (key ∷ first ∷ rest) (first ∷ put_by before key rest))
      by_test true goes behind = ((goes, all_after key first rest goes sorted.0), sorted)
      by_test false goes behind =
          (all_put before (λ later. before first later ≡ true) key rest (other_first (before first key) (before key first) parts.0 goes) sorted.0, behind)

  -- a key comes in at its place
  pub put_between : (key : K) (front back : List K) → AllByRecursion (λ other. before other key ≡ true) front
      → AllByRecursion (λ other. before other key ≡ false) back → has_key before key (front ++ back) ≡ false
      → put_by before key (front ++ back) ≡ front ++ key ∷ back
  put_between key [] [] lesser others absent = refl
  put_between key [] (first ∷ back) lesser others absent =
      let parts = or_parts (not (before first key || before key first)) (has_key before key back) absent in
      ap (λ (test : Bool). cond test (key ∷ first ∷ back) (first ∷ put_by before key back))
      (one_first (before first key) (before key first) parts.0 others.0)
  put_between key (first ∷ front) back lesser others absent =
      let parts = or_parts (not (before first key || before key first)) (has_key before key (front ++ back)) absent in
      ap (λ (test : Bool). cond test (key ∷ first ∷ (front ++ back)) (first ∷ put_by before key (front ++ back))) (not_back first key lesser.0)
      ∙ ap (λ (later : List K). first ∷ later) (put_between key front back lesser.1 others parts.1)

  -- a key isn't among those in front of its place
  pub has_behind : (key : K) (front back : List K) → AllByRecursion (λ other. before other key ≡ true) front
      → has_key before key (front ++ back) ≡ has_key before key back
  has_behind key [] back lesser = refl
  has_behind key (first ∷ front) back lesser =
      ap (λ (test : Bool). not (test || before key first) || has_key before key (front ++ back)) lesser.0 ∙ has_behind key front back lesser.1

  -- nor among those that it stands before
  pub has_none : (key : K) (keys : List K) → AllByRecursion (λ other. before key other ≡ true) keys → has_key before key keys ≡ false
  has_none key [] all = refl
  has_none key (first ∷ rest) all = by_test (before first key) (before key first) all.0 (has_none key rest all.1)
    where
      by_test : (there back : Bool) → back ≡ true → has_key before key rest ≡ false → (not (there || back) || has_key before key rest) ≡ false
      by_test true true is none = none
      by_test false true is none = none
      by_test true false is none = cc
      by_test false false is none = cc

  -- whether it is there is whether it stands first from its place on
  pub has_at : (key first : K) (back : List K) → AreSortedBy before (first ∷ back) → before first key ≡ false
      → has_key before key (first ∷ back) ≡ not (before key first)
  has_at key first back sorted other = by_test (before key first) refl
    where
      by_test : (answer : Bool) → before key first ≡ answer → has_key before key (first ∷ back) ≡ not answer
      by_test true goes =
          ap (λ (test : Bool). not (before first key || test) || has_key before key back) goes
          ∙ (ap (λ (test : Bool). not (test || true) || has_key before key back) other ∙ has_none key back (all_after key first back goes sorted.0))
      by_test false goes =
          ap (λ (test : Bool). not (before first key || test) || has_key before key back) goes
          ∙ ap (λ (test : Bool). not (test || false) || has_key before key back) other

  -- those in front of its place stay without a key
  pub without_behind : (key : K) (front back : List K) → AllByRecursion (λ other. before other key ≡ true) front
      → without before key (front ++ back) ≡ front ++ without before key back
  without_behind key [] back lesser = refl
  without_behind key (first ∷ front) back lesser =
      ap (λ (test : Bool). cond (test || before key first) (first ∷ without before key (front ++ back)) (without before key (front ++ back))) lesser.0
      ∙ ap (λ (later : List K). first ∷ later) (without_behind key front back lesser.1)

  -- and so do those that it stands before
  pub without_none : (key : K) (keys : List K) → AllByRecursion (λ other. before key other ≡ true) keys → without before key keys ≡ keys
  without_none key [] all = refl
  without_none key (first ∷ rest) all =
      by_test (before first key) (before key first) all.0 ∙ ap (λ (later : List K). first ∷ later) (without_none key rest all.1)
    where
      by_test : (there back : Bool) → back ≡ true
          → cond (there || back) (first ∷ without before key rest) (without before key rest) ≡ first ∷ without before key rest
      by_test there back is = grind (arith, nat_tests)

  -- the key itself goes
  pub without_at : (key first : K) (back : List K) → AreSortedBy before (first ∷ back) → before first key ≡ false → before key first ≡ false
      → without before key (first ∷ back) ≡ back
  without_at key first back sorted there here =
      let same : first ≡ key = order.total first key there here in
      ap (λ (test : Bool). cond (test || before key first) (first ∷ without before key back) (without before key back)) there
      ∙ (ap (λ (test : Bool). cond (false || test) (first ∷ without before key back) (without before key back)) here
      ∙ without_none key back (subst (λ (some : K). AllByRecursion (λ later. before some later ≡ true) back) same sorted.0))

  -- a key that is there is one less
  pub length-without : (key : K) (keys : List K) → AreSortedBy before keys → has_key before key keys ≡ true
      → suc (length (without before key keys)) ≡ length keys
  length-without key [] sorted there = cc
  length-without key (first ∷ rest) sorted there = by_tests (λ behind. length-without key rest sorted.1 behind) (before first key) (before key first) refl refl
    where
      by_tests : (has_key before key rest ≡ true → suc (length (without before key rest)) ≡ length rest)
          → (one other : Bool) → before first key ≡ one → before key first ≡ other
          → suc (length (without before key (first ∷ rest))) ≡ suc (length rest)
      by_tests fewer true other is1 is2 =
          let behind : has_key before key rest ≡ true =
          ap (λ (test : Bool). not (test || before key first) || has_key before key rest) (sym is1) ∙ there in
          ap (λ (test : Bool). suc (length (cond (test || before key first) (first ∷ without before key rest) (without before key rest)))) is1
          ∙ ap suc (fewer behind)
      by_tests fewer false true is1 is2 =
          let none : has_key before key (first ∷ rest) ≡ false = has_at key first rest sorted is1 ∙ ap not is2 in
          cc
      by_tests fewer false false is1 is2 = ap (λ (keys : List K). suc (length keys)) (without_at key first rest sorted is1 is2)

  -- the first from a key's place on is the least that does not stand before it
  pub first_from_at : (key : K) (front back : List K) → AllByRecursion (λ other. before other key ≡ true) front
      → AllByRecursion (λ other. before other key ≡ false) back → first_from before key (front ++ back) ≡ slice_get back 0
  first_from_at key [] [] lesser others = refl
  first_from_at key [] (first ∷ back) lesser others =
      ap (λ (test : Bool). cond (not test) (Some first) (first_from before key back)) others.0
  first_from_at key (first ∷ front) back lesser others =
      ap (λ (test : Bool). cond (not test) (Some first) (first_from before key (front ++ back))) lesser.0
      ∙ first_from_at key front back lesser.1 others

  -- those in front of a key's place are not behind the key
  pub next_behind : (key : K) (front back : List K) → AllByRecursion (λ other. before other key ≡ true) front
      → next_after before key (front ++ back) ≡ next_after before key back
  next_behind key [] back lesser = refl
  next_behind key (first ∷ front) back lesser =
      ap (λ (test : Bool). cond test (Some first) (next_after before key (front ++ back))) (not_back first key lesser.0)
      ∙ next_behind key front back lesser.1

  -- behind a key at its place stands the next
  pub next_at : (key first : K) (back : List K) → AreSortedBy before (first ∷ back) → before first key ≡ false → before key first ≡ false
      → next_after before key (first ∷ back) ≡ slice_get back 0
  next_at key first back sorted there here =
      let same : first ≡ key = order.total first key there here in
      ap (λ (test : Bool). cond test (Some first) (next_after before key back)) here
      ∙ of_rest back (subst (λ (some : K). AllByRecursion (λ later. before some later ≡ true) back) same sorted.0)
    where
      of_rest : (keys : List K) → AllByRecursion (λ later. before key later ≡ true) keys → next_after before key keys ≡ slice_get keys 0
      of_rest [] all = refl
      of_rest (next ∷ keys) all = ap (λ (test : Bool). cond test (Some next) (next_after before key keys)) all.0

  -- a key is there exactly where the first from it on is it
  pub has_found : (key found : K) (keys : List K) → AreSortedBy before keys → first_from before key keys ≡ Some found
      → has_key before key keys ≡ not (before key found)
  has_found key found [] sorted is = cc
  has_found key found (first ∷ rest) sorted is = by_test (λ behind. has_found key found rest sorted.1 behind) (before first key) refl
    where
      by_test : (first_from before key rest ≡ Some found → has_key before key rest ≡ not (before key found)) → (answer : Bool)
          → before first key ≡ answer → has_key before key (first ∷ rest) ≡ not (before key found)
      by_test behind true goes =
          ap (λ (test : Bool). not (test || before key first) || has_key before key rest) goes
          ∙ behind (sym (ap (λ (test : Bool). cond (not test) (Some first) (first_from before key rest)) goes) ∙ is)
      by_test behind false goes =
          let here : Some first ≡ Some found = sym (ap (λ (test : Bool). cond (not test) (Some first) (first_from before key rest)) goes) ∙ is in
          let same : first ≡ found = cc in
          has_at key first rest sorted goes ∙ ap (λ (some : K). not (before key some)) same

  pub has_not_found : (key : K) (keys : List K) → first_from before key keys ≡ None → has_key before key keys ≡ false
  has_not_found key [] is = refl
  has_not_found key (first ∷ rest) is = by_test (λ behind. has_not_found key rest behind) (before first key) refl
    where
      by_test : (first_from before key rest ≡ None → has_key before key rest ≡ false) → (answer : Bool)
          → before first key ≡ answer → has_key before key (first ∷ rest) ≡ false
      by_test behind true goes =
          ap (λ (test : Bool). not (test || before key first) || has_key before key rest) goes
          ∙ behind (sym (ap (λ (test : Bool). cond (not test) (Some first) (first_from before key rest)) goes) ∙ is)
      by_test behind false goes =
          let here : Some first ≡ None = sym (ap (λ (test : Bool). cond (not test) (Some first) (first_from before key rest)) goes) ∙ is in
          cc
