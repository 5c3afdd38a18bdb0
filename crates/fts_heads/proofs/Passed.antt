-- Keys that a walk in their order has passed, and how many are left.
use Rattle.std.proofs.Common.{◌≡◌, ◌⊎◌, inl, inr, ℕ, ◌<◌, ◌≤◌, Bool, true, false, cond, List, [], ◌∷◌, Option, Some, None, refl, ap, sym, ◌∙◌, arith}
use Rattle.std.specs.Prelude.{not, count_by, IfSome}
use Rattle.std.proofs.lemmas.Bool.{cases_Bool}
use Rattle.std.proofs.lemmas.Bool.Decides.{nat_tests}
use Rattle.std.proofs.lemmas.List.Sums.{sum_by-cons}
use Rattle.ordered.specs.ByNumbers.{is_first_by}
use Rattle.ordered.specs.Orders.{AreSortedBy, has_key, next_after}
use Rattle.fts_heads.specs.declared.ripe_file.RipeFile.{RipeFile}
use Rattle.fts_heads.specs.RipeFiles.{goes_by_group, by_group}
use Rattle.fts_heads.proofs.Found.{no, is_found, none_found, is_one_of}

-- what stands first has no lesser destination
pub no_lesser_dest : (dest other queue other_queue : ℕ) (rest : Bool) → is_first_by other dest (is_first_by queue other_queue rest) ≡ true → other ≤ dest
no_lesser_dest dest other queue other_queue rest goes = grind (arith, nat_tests)

-- tests that count a key and don't
one_bit : (test : Bool) → test ≡ true → ◌≡◌ {A = ℕ} (cond test 1 0) 1
one_bit true is = refl
one_bit false is = no (sym is)

pub no_bit : (test : Bool) → test ≡ false → ◌≡◌ {A = ℕ} (cond test 1 0) 0
no_bit true is = no is
no_bit false is = refl

no_more_bits : (one other : Bool) → (other ≡ true → one ≡ true) → ◌≤◌ (cond other 1 0) (cond one 1 0)
no_more_bits true true weaker = omega arith
no_more_bits true false weaker = omega arith
no_more_bits false true weaker = no (sym (weaker refl))
no_more_bits false false weaker = omega arith

no_more : (one other : RipeFile → Bool) → ((key : RipeFile) → other key ≡ true → one key ≡ true) → (keys : List RipeFile)
    → count_by other keys ≤ count_by one keys
no_more one other weaker [] = omega arith
no_more one other weaker (first ∷ rest) = omega (
  arith,
  sum_by-cons (λ some. cond (one some) 1 0) first rest,
  sum_by-cons (λ some. cond (other some) 1 0) first rest,
  no_more_bits (one first) (other first) (weaker first),
  no_more one other weaker rest,
)

-- a test that lets less through counts less, where it lets a key that is there not through
pub fewer : (one other : RipeFile → Bool) → ((key : RipeFile) → other key ≡ true → one key ≡ true) → (key : RipeFile) → one key ≡ true → other key ≡ false
    → (keys : List RipeFile) → has_key goes_by_group key keys ≡ true → count_by other keys < count_by one keys
fewer one other weaker key is not_other [] there = no (sym there)
fewer one other weaker key is not_other (first ∷ rest) there =
    by_side (fewer one other weaker key is not_other rest) (is_one_of goes_by_group by_group key first rest there)
  where
    by_side : (has_key goes_by_group key rest ≡ true → count_by other rest < count_by one rest)
        → (first ≡ key) ⊎ (has_key goes_by_group key rest ≡ true) → count_by other (first ∷ rest) < count_by one (first ∷ rest)
    by_side behind (inl same) = omega (
      arith,
      sum_by-cons (λ some. cond (one some) 1 0) first rest,
      sum_by-cons (λ some. cond (other some) 1 0) first rest,
      one_bit (one first) (ap one same ∙ is),
      no_bit (other first) (ap other same ∙ not_other),
      no_more one other weaker rest,
    )
    by_side behind (inr later) = omega (
      arith,
      sum_by-cons (λ some. cond (one some) 1 0) first rest,
      sum_by-cons (λ some. cond (other some) 1 0) first rest,
      no_more_bits (one first) (other first) (weaker first),
      behind later,
    )

-- whether a key stands before the next of a walk
abbrev pub is_passed : Option RipeFile → RipeFile → Bool
is_passed None key = true
is_passed (Some next) key = goes_by_group key next

-- how many keys are left
abbrev pub left : Option RipeFile → List RipeFile → ℕ
left next keys = count_by (λ key. not (is_passed next key)) keys

pub not_false : (test : Bool) → not test ≡ true → test ≡ true → true ≡ false
not_false true is both = sym is
not_false false is both = sym both

-- one step: behind a key the next
module _ (keys : List RipeFile) (sorted : AreSortedBy goes_by_group keys) (key : RipeFile) where
  -- what is passed was passed, or is the key
  pub passed_before : (next : Option RipeFile) → next ≡ next_after goes_by_group key keys → (other : RipeFile) → has_key goes_by_group other keys ≡ true
      → is_passed next other ≡ true → (goes_by_group other key ≡ true) ⊎ (other ≡ key)
  passed_before next is other there passed = by_tests (cases_Bool (goes_by_group other key)) (cases_Bool (goes_by_group key other))
    where
      never : (some : Option RipeFile) → some ≡ next_after goes_by_group key keys → is_passed some other ≡ true → goes_by_group key other ≡ true → true ≡ false
      never None found before behind = sym behind ∙ none_found goes_by_group by_group (goes_by_group key) keys (sym found) other there
      never (Some some) found before behind =
          sym before ∙ (is_found goes_by_group by_group (goes_by_group key) keys some sorted (sym found)).least other there behind

      by_tests : (goes_by_group other key ≡ true) ⊎ (goes_by_group other key ≡ false) → (goes_by_group key other ≡ true) ⊎ (goes_by_group key other ≡ false)
          → (goes_by_group other key ≡ true) ⊎ (other ≡ key)
      by_tests (inl goes) side = inl goes
      by_tests (inr not_goes) (inl behind) = no (never next is passed behind)
      by_tests (inr not_goes) (inr not_behind) = inr (by_group.total other key not_goes not_behind)

  -- what was passed still is, and so is the key
  pub still_passed : (next : Option RipeFile) → next ≡ next_after goes_by_group key keys → (other : RipeFile) → goes_by_group other key ≡ true
      → is_passed next other ≡ true
  still_passed None is other goes = refl
  still_passed (Some next) is other goes =
      by_group.transitive other key next goes (is_found goes_by_group by_group (goes_by_group key) keys next sorted (sym is)).passing

  pub key_passed : (next : Option RipeFile) → next ≡ next_after goes_by_group key keys → is_passed next key ≡ true
  key_passed None is = refl
  key_passed (Some next) is = (is_found goes_by_group by_group (goes_by_group key) keys next sorted (sym is)).passing

  -- the next is there
  pub next_there : (next : Option RipeFile) → next ≡ next_after goes_by_group key keys → IfSome next (λ some. has_key goes_by_group some keys ≡ true)
  next_there None is = tt
  next_there (Some next) is = (is_found goes_by_group by_group (goes_by_group key) keys next sorted (sym is)).there

  -- so fewer are left
  pub weaker : (next : Option RipeFile) → next ≡ next_after goes_by_group key keys → (other : RipeFile) → not (is_passed next other) ≡ true
      → not (is_passed (Some key) other) ≡ true
  weaker next is other not_passed = by_test (cases_Bool (goes_by_group other key))
    where
      by_test : (goes_by_group other key ≡ true) ⊎ (goes_by_group other key ≡ false) → not (goes_by_group other key) ≡ true
      by_test (inl goes) = no (not_false (is_passed next other) not_passed (still_passed next is other goes))
      by_test (inr not_goes) = ap not not_goes

  pub fewer_left : (next : Option RipeFile) → next ≡ next_after goes_by_group key keys → has_key goes_by_group key keys ≡ true
      → left next keys < left (Some key) keys
  fewer_left next is there =
      fewer (λ other. not (is_passed (Some key) other)) (λ other. not (is_passed next other)) (weaker next is) key
      (ap not (by_group.irreflexive key)) (ap not (key_passed next is)) keys there
