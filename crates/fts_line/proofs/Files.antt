-- Files of a list: those that pass a test, and the list with one more or one less.
use Rattle.std.proofs.Common.{◌≡◌, ◌⊎◌, inl, inr, ℕ, suc, Bool, true, false, cond, List, [], ◌∷◌, length, refl, ap, sym, ◌∙◌, subst, arith}
use Rattle.std.specs.Prelude.{not, ◌||◌, ◌==◌}
use Rattle.std.specs.List.{list_any, AllByRecursion}
use Rattle.std.proofs.lemmas.Bool.{or_parts, eqb-true, eq-eqb}
use Rattle.std.proofs.lemmas.Bool.Decides.{nat_tests}
use Rattle.fts_queue.specs.declared.waiter.Waiter.{Waiter}
use Rattle.fts_queue.specs.WaitingData.{goes_before, with_waiter, without_file, is_waiting, AreApart}

-- whether a file is one of these
abbrev pub IsOneOf : Waiter → List Waiter → Type 0
IsOneOf waiter [] = ⊥
IsOneOf waiter (first ∷ rest) = (first ≡ waiter) ⊎ IsOneOf waiter rest

-- one that passes, where some one does
pub record HasOne (passes : Waiter → Bool) (waiters : List Waiter) : Type 0 where
  pub one : Waiter
  pub among : IsOneOf one waiters
  pub passing : passes one ≡ true

pub has_one : (passes : Waiter → Bool) (waiters : List Waiter) → list_any passes waiters ≡ true → HasOne passes waiters
has_one passes [] is = cc
has_one passes (first ∷ rest) is = by_test (has_one passes rest) (passes first) refl is
  where
    by_test : (list_any passes rest ≡ true → HasOne passes rest) → (answer : Bool) → passes first ≡ answer → (answer || list_any passes rest) ≡ true
        → HasOne passes (first ∷ rest)
    by_test behind true here is = record { one = first; among = inl refl; passing = here }
    by_test behind false here is = let later = behind is in record { one = later.one; among = inr later.among; passing = later.passing }

or_true : (test : Bool) → (test || true) ≡ true
or_true true = refl
or_true false = refl

pub any_of : (passes : Waiter → Bool) (waiters : List Waiter) (waiter : Waiter) → IsOneOf waiter waiters → passes waiter ≡ true → list_any passes waiters ≡ true
any_of passes [] waiter among is = absurd among
any_of passes (first ∷ rest) waiter among is = by_side (any_of passes rest waiter) among
  where
    by_side : (IsOneOf waiter rest → passes waiter ≡ true → list_any passes rest ≡ true) → (first ≡ waiter) ⊎ IsOneOf waiter rest
        → (passes first || list_any passes rest) ≡ true
    by_side behind (inl same) = ap (λ (test : Bool). test || list_any passes rest) (ap passes same ∙ is)
    by_side behind (inr later) = ap (λ (test : Bool). passes first || test) (behind later is) ∙ or_true (passes first)

pub all_of : (P : Waiter → Type 0) (waiters : List Waiter) (waiter : Waiter) → AllByRecursion P waiters → IsOneOf waiter waiters → P waiter
all_of P [] waiter all among = absurd among
all_of P (first ∷ rest) waiter all among = by_side (all_of P rest waiter all.1) among
  where
    by_side : (IsOneOf waiter rest → P waiter) → (first ≡ waiter) ⊎ IsOneOf waiter rest → P waiter
    by_side behind (inl same) = subst P same all.0
    by_side behind (inr later) = behind later

-- what holds of each one holds of all
pub to_all : (P : Waiter → Type 0) (waiters : List Waiter) → ((waiter : Waiter) → IsOneOf waiter waiters → P waiter) → AllByRecursion P waiters
to_all P [] each = tt
to_all P (first ∷ rest) each = (each first (inl refl), to_all P rest (λ waiter among. each waiter (inr among)))

-- files that are apart are one where their numbers are
pub one_file : (waiters : List Waiter) (one other : Waiter) → AreApart waiters → IsOneOf one waiters → IsOneOf other waiters → one.file ≡ other.file
    → one ≡ other
one_file [] one other apart first second same = absurd first
one_file (head ∷ rest) one other apart first second same = by_sides (one_file rest one other apart.1) first second
  where
    clash : (waiter : Waiter) → IsOneOf waiter rest → waiter.file ≡ head.file → ⊥
    clash waiter among is =
        let waits = any_of (λ some. some.file == head.file) rest waiter among (eq-eqb waiter.file head.file is) in
        let never : true ≡ false = sym waits ∙ apart.0 in
        cc

    by_sides : (IsOneOf one rest → IsOneOf other rest → one.file ≡ other.file → one ≡ other) → (head ≡ one) ⊎ IsOneOf one rest
        → (head ≡ other) ⊎ IsOneOf other rest → one ≡ other
    by_sides behind (inl here) (inl there) = sym here ∙ there
    by_sides behind (inl here) (inr there) = absurd (clash other there (sym same ∙ ap (λ (waiter : Waiter). waiter.file) (sym here)))
    by_sides behind (inr here) (inl there) = absurd (clash one here (same ∙ ap (λ (waiter : Waiter). waiter.file) (sym there)))
    by_sides behind (inr here) (inr there) = behind here there same

swap : (one other rest : Bool) → (one || (other || rest)) ≡ (other || (one || rest))
swap one other rest = grind (arith, nat_tests)

-- with one more
pub any_with : (passes : Waiter → Bool) (waiter : Waiter) (waiters : List Waiter)
    → list_any passes (with_waiter waiter waiters) ≡ (passes waiter || list_any passes waiters)
any_with passes waiter [] = refl
any_with passes waiter (first ∷ rest) = by_test (goes_before waiter first) (any_with passes waiter rest)
  where
    by_test : (answer : Bool) → list_any passes (with_waiter waiter rest) ≡ (passes waiter || list_any passes rest)
        → list_any passes (cond answer (waiter ∷ first ∷ rest) (first ∷ with_waiter waiter rest)) ≡ (passes waiter || (passes first || list_any passes rest))
    by_test true behind = refl
    by_test false behind = ap (λ (test : Bool). passes first || test) behind ∙ swap (passes first) (passes waiter) (list_any passes rest)

pub length_with : (waiter : Waiter) (waiters : List Waiter) → length (with_waiter waiter waiters) ≡ suc (length waiters)
length_with waiter [] = refl
length_with waiter (first ∷ rest) = by_test (goes_before waiter first) (length_with waiter rest)
  where
    by_test : (answer : Bool) → length (with_waiter waiter rest) ≡ suc (length rest)
        → length (cond answer (waiter ∷ first ∷ rest) (first ∷ with_waiter waiter rest)) ≡ suc (suc (length rest))
    by_test true behind = refl
    by_test false behind = ap suc behind

pub all_with : (P : Waiter → Type 0) (waiter : Waiter) (waiters : List Waiter) → P waiter → AllByRecursion P waiters
    → AllByRecursion P (with_waiter waiter waiters)
all_with P waiter [] here all = (here, tt)
all_with P waiter (first ∷ rest) here all = by_test (goes_before waiter first) (all_with P waiter rest here all.1)
  where
    by_test : (answer : Bool) → AllByRecursion P (with_waiter waiter rest)
        → AllByRecursion P (cond answer (waiter ∷ first ∷ rest) (first ∷ with_waiter waiter rest))
    by_test true behind = (here, all)
    by_test false behind = (all.0, behind)

-- and without one
pub all_without : (P : Waiter → Type 0) (file : ℕ) (waiters : List Waiter) → AllByRecursion P waiters → AllByRecursion P (without_file file waiters)
all_without P file [] all = tt
all_without P file (first ∷ rest) all = by_test (first.file == file) (all_without P file rest all.1)
  where
    by_test : (answer : Bool) → AllByRecursion P (without_file file rest)
        → AllByRecursion P (cond (not answer) (first ∷ without_file file rest) (without_file file rest))
    by_test true behind = behind
    by_test false behind = (all.0, behind)

without_stranger : (file : ℕ) (waiters : List Waiter) → is_waiting file waiters ≡ false → without_file file waiters ≡ waiters
without_stranger file [] none = refl
without_stranger file (first ∷ rest) none =
    let parts = or_parts (first.file == file) (is_waiting file rest) none in
    ap (λ test. cond (not test) (first ∷ without_file file rest) (without_file file rest)) parts.0
    ∙ ap (λ later. first ∷ later) (without_stranger file rest parts.1)

pub length_without : (waiter : Waiter) (waiters : List Waiter) → AreApart waiters → IsOneOf waiter waiters
    → length waiters ≡ suc (length (without_file waiter.file waiters))
length_without waiter [] apart among = absurd among
length_without waiter (first ∷ rest) apart among = by_side (length_without waiter rest apart.1) among (first.file == waiter.file) refl
  where
    by_side : (IsOneOf waiter rest → length rest ≡ suc (length (without_file waiter.file rest))) → (first ≡ waiter) ⊎ IsOneOf waiter rest
        → (answer : Bool) → (first.file == waiter.file) ≡ answer
        → suc (length rest) ≡ suc (length (cond (not (first.file == waiter.file)) (first ∷ without_file waiter.file rest) (without_file waiter.file rest)))
    by_side behind side true is =
        let same : first.file ≡ waiter.file = eqb-true first.file waiter.file is in
        ap suc (sym (ap length (without_stranger waiter.file rest (subst (λ file. is_waiting file rest ≡ false) same apart.0))))
        ∙ sym (ap (λ (test : Bool). suc (length (cond (not test) (first ∷ without_file waiter.file rest) (without_file waiter.file rest)))) is)
    by_side behind (inl here) false is =
        let own : true ≡ false = sym (eq-eqb first.file waiter.file (ap (λ (some : Waiter). some.file) here)) ∙ is in
        cc
    by_side behind (inr there) false is =
        ap suc (behind there)
        ∙ sym (ap (λ (test : Bool). suc (length (cond (not test) (first ∷ without_file waiter.file rest) (without_file waiter.file rest)))) is)

-- tests that agree on these files pass alike
pub any_alike : (passes other : Waiter → Bool) (waiters : List Waiter) → ((waiter : Waiter) → IsOneOf waiter waiters → passes waiter ≡ other waiter)
    → list_any passes waiters ≡ list_any other waiters
any_alike passes other [] alike = refl
any_alike passes other (first ∷ rest) alike =
    ap (λ (test : Bool). test || list_any passes rest) (alike first (inl refl))
    ∙ ap (λ (test : Bool). other first || test) (any_alike passes other rest (λ waiter among. alike waiter (inr among)))
