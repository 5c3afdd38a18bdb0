-- Where two contents differ, by their pieces.
use Rattle.std.proofs.Common.{◌≡◌, ℕ, suc, zero, ◌+◌, ◌<◌, ◌≤◌, Bool, true, false, Option, Some, None, List, [], ◌∷◌, length, take, drop, refl, sym, ◌∙◌, ap, subst, inl, inr, arith, tests}
use Rattle.std.specs.Prelude.{◌⊎◌, ◌==◌, min, nat_le, option_map}
use Rattle.std.proofs.lemmas.List.{take_all}
use Rattle.std.proofs.Math.ListN.{get_or}
use Rattle.fts_copy.specs.Differences.{first_difference}

-- a byte is itself
pub same_byte : (b : ℕ) → (b == b) ≡ true
same_byte b = grind (arith, tests)

-- equal contents don't differ
pub no_difference : (bytes : List ℕ) → first_difference bytes bytes ≡ None
no_difference [] = refl
no_difference (b ∷ bytes) = rw (same_byte b, no_difference bytes)

-- the first byte decides, or the others do
step_same : (a b : ℕ) (ones others : List ℕ) → a ≡ b → first_difference (a ∷ ones) (b ∷ others) ≡ option_map suc (first_difference ones others)
step_same a b ones others is = let h : (a == b) ≡ true = grind (arith, tests) in rw h

step_other : (a b : ℕ) (ones others : List ℕ) → (a ≡ b → ⊥) → first_difference (a ∷ ones) (b ∷ others) ≡ Some 0
step_other a b ones others is = let h : (a == b) ≡ false = grind (arith, tests, is) in rw h

-- contents that don't differ are equal
pub equal_contents : (one other : List ℕ) → first_difference one other ≡ None → one ≡ other
equal_contents [] [] none = refl
equal_contents [] (b ∷ others) none = cc
equal_contents (a ∷ ones) [] none = cc
equal_contents (a ∷ ones) (b ∷ others) none = by_test (a == b) refl (equal_contents ones others)
  where
    cleared : (o : Option ℕ) → option_map suc o ≡ None → o ≡ None
    cleared None is = refl
    cleared (Some n) is = cc

    by_test : (t : Bool) → (a == b) ≡ t → (first_difference ones others ≡ None → ones ≡ others) → a ∷ ones ≡ b ∷ others
    by_test true is equal =
        let same : a ≡ b = grind (arith, tests, is) in
        let rest : ones ≡ others = equal (cleared (first_difference ones others) (sym (step_same a b ones others same) ∙ none)) in
        cc
    by_test false is equal = let first : first_difference (a ∷ ones) (b ∷ others) ≡ Some 0 = rw is in cc

-- the first place whose bytes differ
pub differs_at : (one other : List ℕ) (n : ℕ) → n < length one → n < length other → take n one ≡ take n other → (get_or one n 0 ≡ get_or other n 0 → ⊥) → first_difference one other ≡ Some n
differs_at [] other n inside within same apart = absurd (omega arith)
differs_at (a ∷ ones) [] n inside within same apart = absurd (omega arith)
differs_at (a ∷ ones) (b ∷ others) zero inside within same apart = step_other a b ones others apart
differs_at (a ∷ ones) (b ∷ others) (suc n) inside within same apart =
    let first : a ≡ b = cc in
    let rest : take n ones ≡ take n others = cc in
    step_same a b ones others first ∙ ap (option_map suc) (differs_at ones others n (omega arith) (omega arith) rest apart)

-- what is behind equal beginnings decides
pub behind_same : (n : ℕ) (one other : List ℕ) → n ≤ length one → n ≤ length other → take n one ≡ take n other → first_difference one other ≡ option_map (λ k. n + k) (first_difference (drop n one) (drop n other))
behind_same zero one other inside within same = sym (unmoved (first_difference one other))
  where
    unmoved : (o : Option ℕ) → option_map (λ k. 0 + k) o ≡ o
    unmoved None = refl
    unmoved (Some k) = ap Some (omega arith)
behind_same (suc n) [] other inside within same = absurd (omega arith)
behind_same (suc n) (a ∷ ones) [] inside within same = absurd (omega arith)
behind_same (suc n) (a ∷ ones) (b ∷ others) inside within same =
    let first : a ≡ b = cc in
    let rest : take n ones ≡ take n others = cc in
    step_same a b ones others first ∙ ap (option_map suc) (behind_same n ones others (omega arith) (omega arith) rest) ∙ moved (first_difference (drop n ones) (drop n others))
  where
    moved : (o : Option ℕ) → option_map suc (option_map (λ k. n + k) o) ≡ option_map (λ k. suc n + k) o
    moved None = refl
    moved (Some k) = ap Some (omega arith)

-- a difference in two beginnings is one of the contents
pub in_beginnings : (n : ℕ) (one other : List ℕ) (at : ℕ) → first_difference (take n one) (take n other) ≡ Some at → first_difference one other ≡ Some at
in_beginnings zero one other at is = cc
in_beginnings (suc n) [] [] at is = is
in_beginnings (suc n) [] (b ∷ others) at is = is
in_beginnings (suc n) (a ∷ ones) [] at is = is
in_beginnings (suc n) (a ∷ ones) (b ∷ others) at is = by_test (a == b) refl (λ k. in_beginnings n ones others k)
  where
    by_rest : (o p : Option ℕ) → ((k : ℕ) → o ≡ Some k → p ≡ Some k) → option_map suc o ≡ Some at → option_map suc p ≡ Some at
    by_rest None p goes is = cc
    by_rest (Some k) p goes is = ap (option_map suc) (goes k refl) ∙ is

    by_test : (t : Bool) → (a == b) ≡ t → ((k : ℕ) → first_difference (take n ones) (take n others) ≡ Some k → first_difference ones others ≡ Some k)
        → first_difference (a ∷ ones) (b ∷ others) ≡ Some at
    by_test true same goes =
        let first : a ≡ b = grind (arith, tests, same) in
        step_same a b ones others first ∙ by_rest (first_difference (take n ones) (take n others)) (first_difference ones others) goes (sym (step_same a b (take n ones) (take n others) first) ∙ is)
    by_test false other goes =
        let apart : a ≡ b → ⊥ = λ same. grind (arith, tests, other, same) in
        step_other a b ones others apart ∙ sym (step_other a b (take n ones) (take n others) apart) ∙ is

-- so is one in two pieces behind equal beginnings
pub in_pieces : (one other : List ℕ) (from wanted at : ℕ) → from ≤ length one → from ≤ length other → take from one ≡ take from other
    → first_difference (take wanted (drop from one)) (take wanted (drop from other)) ≡ Some at → first_difference one other ≡ Some (from + at)
in_pieces one other from wanted at inside within same is =
    behind_same from one other inside within same
    ∙ ap (option_map (λ k. from + k)) (in_beginnings wanted (drop from one) (drop from other) at is)

-- where one ends inside the other
pub ends_first : (one other : List ℕ) → take (length one) other ≡ one → length one < length other → first_difference one other ≡ Some (length one)
ends_first [] [] same longer = absurd (omega arith)
ends_first [] (b ∷ others) same longer = refl
ends_first (a ∷ ones) [] same longer = absurd (omega arith)
ends_first (a ∷ ones) (b ∷ others) same longer =
    let first : a ≡ b = cc in
    let rest : take (length ones) others ≡ ones = cc in
    step_same a b ones others first ∙ ap (option_map suc) (ends_first ones others rest (omega arith))

-- where either ends inside the other
pub shorter_ends : (one other : List ℕ) (shared : ℕ) → shared ≤ length one → shared ≤ length other → take shared one ≡ take shared other
    → (length one ≡ shared) ⊎ (length other ≡ shared) → (length one ≡ length other → ⊥) → first_difference one other ≡ Some shared
shorter_ends [] [] shared inside within same ends apart = absurd (apart refl)
shorter_ends [] (b ∷ others) shared inside within same ends apart = let none : shared ≡ 0 = omega arith in ap Some (sym none)
shorter_ends (a ∷ ones) [] shared inside within same ends apart = let none : shared ≡ 0 = omega arith in ap Some (sym none)
shorter_ends (a ∷ ones) (b ∷ others) zero inside within same ends apart = absurd (omega (arith, ends))
shorter_ends (a ∷ ones) (b ∷ others) (suc shared) inside within same ends apart =
    let first : a ≡ b = cc in
    let rest : take shared ones ≡ take shared others = cc in
    step_same a b ones others first ∙ ap (option_map suc) (shorter_ends ones others shared (omega arith) (omega arith) rest
    (elim ends [ inl h ↦ inl (omega arith) | inr h ↦ inr (omega arith) ]) (λ is. apart (ap suc is)))

-- contents that are equal up to the ends of both
pub all_shared : (one other : List ℕ) (shared : ℕ) → length one ≤ shared → length other ≤ shared → take shared one ≡ take shared other → first_difference one other ≡ None
all_shared one other shared inside within same =
    let equal : one ≡ other = sym (take_all shared one inside) ∙ same ∙ take_all shared other within in
    subst (λ bytes. first_difference one bytes ≡ None) equal (no_difference one)

-- the shorter of two lengths is one of them
pub one_of_two : (one other shared : ℕ) → shared ≡ min one other → (one ≡ shared) ⊎ (other ≡ shared)
one_of_two one other shared is = by_test (nat_le one other) refl
  where
    by_test : (b : Bool) → nat_le one other ≡ b → (one ≡ shared) ⊎ (other ≡ shared)
    by_test true at = let h : one ≤ other = grind (arith, tests, at) in inl (omega arith)
    by_test false at = let h : other < one = grind (arith, tests, at) in inr (omega arith)
