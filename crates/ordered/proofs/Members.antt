-- Which keys are there, how many a test counts, and which is found first, after a key more or a key less: for whoever keeps what stands in a set in
-- step with something else.
use Rattle.std.proofs.Common.{◌≡◌, ℕ, ◌+◌, Bool, true, false, cond, List, [], ◌∷◌, Option, Some, None, refl, ap, sym, ◌∙◌, subst, arith}
use Rattle.std.specs.Prelude.{not, ◌||◌, ◌&&◌, find, filter, count_by}
use Rattle.std.specs.List.{AllByRecursion, list_any}
use Rattle.std.specs.Option.{option_map_or}
use Rattle.std.proofs.lemmas.Bool.{or_parts, not-true}
use Rattle.std.proofs.lemmas.List.{append-nil}
use Rattle.std.proofs.lemmas.List.Sums.{sum_by-cons}
use Rattle.std.proofs.lemmas.Bool.Decides.{nat_tests}
use Rattle.ordered.specs.Orders.{IsStrictOrder, AreSortedBy, differs, has_key, put_by, without, last_before}
use Rattle.ordered.specs.Chunks.{ends_before}
use Rattle.ordered.proofs.Lists.{all_after, filter_sorted, has_behind, without_none}
use Rattle.ordered.proofs.Places.{all_end, all_lesser}

-- two tests of which each passes where the other does are one
same_answer : (one other : Bool) → (one ≡ true → other ≡ true) → (other ≡ true → one ≡ true) → one ≡ other
same_answer true true there back = refl
same_answer true false there back = sym (there refl)
same_answer false true there back = back refl
same_answer false false there back = refl

-- the first two of three tests change places
swap : (one other rest : Bool) → (one || (other || rest)) ≡ (other || (one || rest))
swap one other rest = grind (arith, nat_tests)

-- a key that stays is there as before
stays : (other have is : Bool) → (other ≡ false → is ≡ true) → (not other || (have && is)) ≡ ((not other || have) && is)
stays true have is differ = refl
stays false have is differ = sym (differ refl)

-- a key that goes is not
goes : (is have : Bool) → (have && is) ≡ ((not is || have) && is)
goes is have = grind (arith, nat_tests)

-- two tests change places
either : (one other : Bool) → (one || other) ≡ (other || one)
either one other = grind (arith, nat_tests)

-- whether some key passes, after a key more
pub any_put : {K : Type 0} (before : K → K → Bool) (passes : K → Bool) (key : K) (keys : List K)
    → list_any passes (put_by before key keys) ≡ (passes key || list_any passes keys)
any_put before passes key [] = refl
any_put before passes key (first ∷ rest) = by_test (before key first) (any_put before passes key rest)
  where
    by_test : (answer : Bool) → list_any passes (put_by before key rest) ≡ (passes key || list_any passes rest)
        → list_any passes (cond answer (key ∷ first ∷ rest) (first ∷ put_by before key rest)) ≡ (passes key || (passes first || list_any passes rest))
    by_test true behind = refl
    by_test false behind = ap (λ (test : Bool). passes first || test) behind ∙ swap (passes first) (passes key) (list_any passes rest)

-- and whether one passes among those that a filter keeps
pub any_filter : {K : Type 0} (passes keeps : K → Bool) (keys : List K)
    → list_any passes (filter keeps keys) ≡ list_any (λ some. keeps some && passes some) keys
any_filter passes keeps [] = refl
any_filter passes keeps (first ∷ rest) = by_test (keeps first) (any_filter passes keeps rest)
  where
    by_test : (answer : Bool) → list_any passes (filter keeps rest) ≡ list_any (λ some. keeps some && passes some) rest
        → list_any passes (cond answer (first ∷ filter keeps rest) (filter keeps rest))
        ≡ ((answer && passes first) || list_any (λ some. keeps some && passes some) rest)
    by_test true behind = ap (λ (test : Bool). passes first || test) behind
    by_test false behind = behind

-- tests that agree pass alike
pub any_same : {K : Type 0} (passes other : K → Bool) (keys : List K) → ((key : K) → passes key ≡ other key) → list_any passes keys ≡ list_any other keys
any_same passes other [] same = refl
any_same passes other (first ∷ rest) same =
    ap (λ (test : Bool). test || list_any passes rest) (same first) ∙ ap (λ (test : Bool). other first || test) (any_same passes other rest same)

-- a key is there after one more: it is this one, or was there
pub has_put : {K : Type 0} (before : K → K → Bool) (key other : K) (keys : List K)
    → has_key before other (put_by before key keys) ≡ (not (differs before key other) || has_key before other keys)
has_put before key other keys = any_put before (λ some. not (differs before some other)) key keys

-- a test counts one more, where it passes the key
pub count_put : {K : Type 0} (before : K → K → Bool) (passes : K → Bool) (key : K) (keys : List K)
    → count_by passes (put_by before key keys) ≡ count_by passes keys + cond (passes key) 1 0
count_put before passes key [] = sum_by-cons (λ some. cond (passes some) 1 0) key [] ∙ omega arith
count_put before passes key (first ∷ rest) = by_test (before key first) (count_put before passes key rest)
  where
    by_test : (answer : Bool) → count_by passes (put_by before key rest) ≡ count_by passes rest + cond (passes key) 1 0
        → count_by passes (cond answer (key ∷ first ∷ rest) (first ∷ put_by before key rest)) ≡ count_by passes (first ∷ rest) + cond (passes key) 1 0
    by_test true behind = omega (arith, sum_by-cons (λ some. cond (passes some) 1 0) key (first ∷ rest))
    by_test false behind = omega (
      arith,
      behind,
      sum_by-cons (λ some. cond (passes some) 1 0) first (put_by before key rest),
      sum_by-cons (λ some. cond (passes some) 1 0) first rest,
    )

-- the first that is found after one more, where it passes: this one, unless one before it was found
abbrev pub nearer : {K : Type 0} → (K → K → Bool) → K → Option K → Option K
nearer before key None = Some key
nearer before key (Some found) = cond (before key found) (Some key) (Some found)

-- one more that does not pass changes nothing
pub find_put_other : {K : Type 0} (before : K → K → Bool) (passes : K → Bool) (key : K) (keys : List K) → passes key ≡ false
    → find passes (put_by before key keys) ≡ find passes keys
find_put_other before passes key [] not_passed = ap (λ (test : Bool). cond test (Some key) None) not_passed
find_put_other {K} before passes key (first ∷ rest) not_passed = by_test (before key first) (find_put_other before passes key rest not_passed)
  where
    by_test : (answer : Bool) → find passes (put_by before key rest) ≡ find passes rest
        → find passes (cond answer (key ∷ first ∷ rest) (first ∷ put_by before key rest)) ≡ find passes (first ∷ rest)
    by_test true behind = ap (λ (test : Bool). cond test (Some key) (find passes (first ∷ rest))) not_passed
    by_test false behind = ap (λ (later : Option K). cond (passes first) (Some first) later) behind

-- what is found among those that a filter keeps
pub find_filter : {K : Type 0} (passes keeps : K → Bool) (keys : List K) → find passes (filter keeps keys) ≡ find (λ some. keeps some && passes some) keys
find_filter passes keeps [] = refl
find_filter {K} passes keeps (first ∷ rest) = by_test (keeps first) (find_filter passes keeps rest)
  where
    by_test : (answer : Bool) → find passes (filter keeps rest) ≡ find (λ some. keeps some && passes some) rest
        → find passes (cond answer (first ∷ filter keeps rest) (filter keeps rest))
        ≡ cond (answer && passes first) (Some first) (find (λ some. keeps some && passes some) rest)
    by_test true behind = ap (λ (later : Option K). cond (passes first) (Some first) later) behind
    by_test false behind = behind

-- what a filter keeps passes it
all_passing : {K : Type 0} (passes : K → Bool) (keys : List K) → AllByRecursion (λ key. passes key ≡ true) (filter passes keys)
all_passing passes [] = tt
all_passing passes (first ∷ rest) = by_test (passes first) refl (all_passing passes rest)
  where
    by_test : (answer : Bool) → passes first ≡ answer → AllByRecursion (λ key. passes key ≡ true) (filter passes rest)
        → AllByRecursion (λ key. passes key ≡ true) (cond answer (first ∷ filter passes rest) (filter passes rest))
    by_test true is behind = (is, behind)
    by_test false is behind = behind

-- a key that was found stands before a key, and not before another that does
pub record IsLastFrom {K : Type 0} (before : K → K → Bool) (one key : K) (found : Option K) : Type 0 where
  pub last : K
  pub is : found ≡ Some last
  pub lesser : before last key ≡ true
  pub least : before last one ≡ false

module _ {K : Type 0} (before : K → K → Bool) (order : IsStrictOrder before) where
  -- two of which neither stands first are one
  pub one_of : (one other : K) → not (differs before one other) ≡ true → one ≡ other
  one_of one other is =
      let parts = or_parts (before one other) (before other one) (not-true (differs before one other) is) in
      order.total one other parts.0 parts.1

  -- a key is itself
  pub itself : (one : K) → not (differs before one one) ≡ true
  itself one = ap (λ (test : Bool). not (test || test)) (order.irreflexive one)

  -- a key is there after one less: it was there, and is another
  pub has_without : (key other : K) (keys : List K)
      → has_key before other (without before key keys) ≡ (has_key before other keys && differs before key other)
  has_without key other [] = refl
  has_without key other (first ∷ rest) = by_test (has_without key other rest) (differs before first key) refl
    where
      by_test : has_key before other (without before key rest) ≡ (has_key before other rest && differs before key other)
          → (answer : Bool) → differs before first key ≡ answer
          → has_key before other (cond answer (first ∷ without before key rest) (without before key rest))
          ≡ ((not (differs before first other) || has_key before other rest) && differs before key other)
      by_test behind true is =
          ap (λ (test : Bool). not (differs before first other) || test) behind
          ∙ stays (differs before first other) (has_key before other rest) (differs before key other)
          (λ same. ap (differs before key) (sym (one_of first other (ap not same))) ∙ (either (before key first) (before first key) ∙ is))
      by_test behind false is =
          behind
          ∙ (goes (differs before key other) (has_key before other rest)
          ∙ ap (λ (some : K). (not (differs before some other) || has_key before other rest) && differs before key other)
          (sym (one_of first key (ap not is))))

  -- a test counts one less, where it passes the key that was there
  pub count_without : (passes : K → Bool) (key : K) (keys : List K) → AreSortedBy before keys → has_key before key keys ≡ true
      → count_by passes (without before key keys) + cond (passes key) 1 0 ≡ count_by passes keys
  count_without passes key [] sorted there = cc
  count_without passes key (first ∷ rest) sorted there = by_test (count_without passes key rest sorted.1) (differs before first key) refl
    where
      by_test : (has_key before key rest ≡ true → count_by passes (without before key rest) + cond (passes key) 1 0 ≡ count_by passes rest)
          → (answer : Bool) → differs before first key ≡ answer
          → count_by passes (cond answer (first ∷ without before key rest) (without before key rest)) + cond (passes key) 1 0
          ≡ count_by passes (first ∷ rest)
      by_test behind true is =
          let later = behind (sym (ap (λ (test : Bool). not test || has_key before key rest) is) ∙ there) in
          omega (
            arith,
            later,
            sum_by-cons (λ some. cond (passes some) 1 0) first (without before key rest),
            sum_by-cons (λ some. cond (passes some) 1 0) first rest,
          )
      by_test behind false is =
          let same : first ≡ key = one_of first key (ap not is) in
          let stay : without before key rest ≡ rest =
          without_none before order key rest (subst (λ some. AllByRecursion (λ later. before some later ≡ true) rest) same sorted.0) in
          let one : ◌≡◌ {A = ℕ} (cond (passes first) 1 0) (cond (passes key) 1 0) = ap (λ (some : K). cond (passes some) 1 0) same in
          let kept : count_by passes (without before key rest) ≡ count_by passes rest = ap (count_by passes) stay in
          omega (arith, sum_by-cons (λ some. cond (passes some) 1 0) first rest, one, kept)

  -- before keys that all stand behind it a key is found first
  nearest : (passes : K → Bool) (key : K) (keys : List K) → AllByRecursion (λ other. before key other ≡ true) keys
      → nearer before key (find passes keys) ≡ Some key
  nearest passes key [] all = refl
  nearest passes key (first ∷ rest) all = by_test (passes first) (nearest passes key rest all.1)
    where
      by_test : (answer : Bool) → nearer before key (find passes rest) ≡ Some key → nearer before key (cond answer (Some first) (find passes rest)) ≡ Some key
      by_test true behind = ap (λ (test : Bool). cond test (Some key) (Some first)) all.0
      by_test false behind = behind

  -- one more that passes is found, unless one before it was
  pub find_put : (passes : K → Bool) (key : K) (keys : List K) → AreSortedBy before keys → passes key ≡ true
      → find passes (put_by before key keys) ≡ nearer before key (find passes keys)
  find_put passes key [] sorted passed = ap (λ (test : Bool). cond test (Some key) None) passed
  find_put passes key (first ∷ rest) sorted passed = by_test (find_put passes key rest sorted.1 passed) (before key first) refl
    where
      by_test : find passes (put_by before key rest) ≡ nearer before key (find passes rest) → (answer : Bool) → before key first ≡ answer
          → find passes (cond answer (key ∷ first ∷ rest) (first ∷ put_by before key rest)) ≡ nearer before key (find passes (first ∷ rest))
      by_test behind true is =
          ap (λ (test : Bool). cond test (Some key) (find passes (first ∷ rest))) passed
          ∙ sym (nearest passes key (first ∷ rest) (is, all_after before order key first rest is sorted.0))
      by_test behind false is = by_pass (passes first)
        where
          by_pass : (answer : Bool) → cond answer (Some first) (find passes (put_by before key rest))
              ≡ nearer before key (cond answer (Some first) (find passes rest))
          by_pass true = sym (ap (λ (test : Bool). cond test (Some key) (Some first)) is)
          by_pass false = behind

  -- a key that stands before another is there exactly where it is among those that do
  among_lesser : (one key : K) (keys : List K) → before one key ≡ true
      → has_key before one (filter (λ other. before other key) keys) ≡ has_key before one keys
  among_lesser one key keys goes =
      any_filter (λ some. not (differs before some one)) (λ other. before other key) keys
      ∙ any_same (λ some. before some key && not (differs before some one)) (λ some. not (differs before some one)) keys
      (λ some. passes_both (before some key) (not (differs before some one)) (λ is. ap (λ other. before other key) (one_of some one is) ∙ goes))
    where
      passes_both : (less is : Bool) → (is ≡ true → less ≡ true) → (less && is) ≡ is
      passes_both true is goes = refl
      passes_both false true goes = goes refl
      passes_both false false goes = refl

  -- where a key is there that stands before another, the greatest that does is no lesser one
  pub last_from : (one key : K) (keys : List K) → AreSortedBy before keys → has_key before one keys ≡ true → before one key ≡ true
      → IsLastFrom before one key (last_before before key keys)
  last_from one key keys sorted there goes = by_end (ends_before before one lesser) refl
    where
      lesser : List K
      lesser = filter (λ other. before other key) keys

      ends : ends_before before key lesser ≡ true
      ends = all_end before key lesser (all_passing (λ other. before other key) keys)

      by_last : (last : Option K) → option_map_or (λ other. before other one) last true ≡ false → option_map_or (λ other. before other key) last true ≡ true
          → IsLastFrom before one key last
      by_last None not_less less = cc
      by_last (Some last) not_less less = record { last = last; is = refl; lesser = less; least = not_less }

      by_end : (answer : Bool) → ends_before before one lesser ≡ answer → IsLastFrom before one key (last_before before key keys)
      by_end false is = by_last (last_before before key keys) is ends
      by_end true is =
          let front = all_lesser before order one lesser (filter_sorted before (λ other. before other key) keys sorted) is in
          let clash : true ≡ false =
          sym (ap (has_key before one) (append-nil lesser) ∙ (among_lesser one key keys goes ∙ there)) ∙ has_behind before order one lesser [] front in
          cc

  -- one less that does not pass changes nothing
  pub find_without_other : (passes : K → Bool) (key : K) (keys : List K) → passes key ≡ false → find passes (without before key keys) ≡ find passes keys
  find_without_other passes key [] not_passed = refl
  find_without_other passes key (first ∷ rest) not_passed = by_test (find_without_other passes key rest not_passed) (differs before first key) refl
    where
      by_test : find passes (without before key rest) ≡ find passes rest → (answer : Bool) → differs before first key ≡ answer
          → find passes (cond answer (first ∷ without before key rest) (without before key rest)) ≡ find passes (first ∷ rest)
      by_test behind true is = ap (λ (later : Option K). cond (passes first) (Some first) later) behind
      by_test behind false is =
          behind
          ∙ sym (ap (λ (test : Bool). cond test (Some first) (find passes rest)) (ap passes (one_of first key (ap not is)) ∙ not_passed))

-- two orders of the same keys tell the same keys apart
pub same_apart : {K : Type 0} (one_before other_before : K → K → Bool) → IsStrictOrder one_before → IsStrictOrder other_before
    → (one other : K) → not (differs one_before one other) ≡ not (differs other_before one other)
same_apart one_before other_before one_order other_order one other =
    same_answer (not (differs one_before one other)) (not (differs other_before one other))
    (λ is. subst (λ some. not (differs other_before one some) ≡ true) (one_of one_before one_order one other is) (itself other_before other_order one))
    (λ is. subst (λ some. not (differs one_before one some) ≡ true) (one_of other_before other_order one other is) (itself one_before one_order one))
