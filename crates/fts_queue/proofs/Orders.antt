-- The order of files and of queues: it passes on, and of two files exactly one goes first.
use Rattle.std.proofs.Common.{◌≡◌, ℕ, ◌<◌, Bool, true, false, ap, sym, ◌∙◌, arith, inl, inr, ⊎_elim}
use Rattle.std.specs.Prelude.{not, ◌||◌, ◌&&◌, ◌==◌, ◌⊎◌, nat_lt}
use Rattle.std.proofs.lemmas.Bool.{or_cases, and_parts, ltb-true, lt-ltb, le-ltb, eqb-true, eq-eqb, ne_eqb, cases_order}
use Rattle.fts_queue.specs.declared.waiter.Waiter.{Waiter}
use Rattle.fts_queue.specs.WaitingData.{is_first_by, goes_before}
use Rattle.fts_queue.proofs.Sorting.{IsOrder}

-- the lesser number is first
pub first_less : (one other : ℕ) (rest : Bool) → one < other → is_first_by one other rest ≡ true
first_less one other rest less = ap (λ test. test || ((one == other) && rest)) (lt-ltb one other less)

-- of equal numbers the rest decides
pub first_equal : (one other : ℕ) (rest : Bool) → one ≡ other → is_first_by one other rest ≡ rest
first_equal one other rest same =
    ap (λ test. test || ((one == other) && rest)) (le-ltb one other (omega arith)) ∙ ap (λ test. test && rest) (eq-eqb one other same)

-- the greater number is not first
pub first_greater : (one other : ℕ) (rest : Bool) → other < one → is_first_by one other rest ≡ false
first_greater one other rest more =
    let apart : one ≡ other → ⊥ = λ same. omega arith in
    ap (λ test. test || ((one == other) && rest)) (le-ltb one other (omega arith)) ∙ ap (λ test. test && rest) (ne_eqb one other apart)

-- why one is first
pub first_why : (one other : ℕ) (rest : Bool) → is_first_by one other rest ≡ true → (one < other) ⊎ ((one ≡ other) × (rest ≡ true))
first_why one other rest first =
    ⊎_elim (λ less. inl (ltb-true one other less))
    (λ same. let both = and_parts (one == other) rest same in inr (eqb-true one other both.0, both.1))
    (or_cases (nat_lt one other) ((one == other) && rest) first)

-- what is first passes on
pub first_passes_on : (one other third : ℕ) (r1 r2 r3 : Bool) → is_first_by one other r1 ≡ true → is_first_by other third r2 ≡ true
    → (r1 ≡ true → r2 ≡ true → r3 ≡ true) → is_first_by one third r3 ≡ true
first_passes_on one other third r1 r2 r3 first then_third rest =
    by_why (first_why one other r1 first) (first_why other third r2 then_third)
  where
    by_why : (one < other) ⊎ ((one ≡ other) × (r1 ≡ true)) → (other < third) ⊎ ((other ≡ third) × (r2 ≡ true)) → is_first_by one third r3 ≡ true
    by_why (inl less) (inl more) = first_less one third r3 (omega arith)
    by_why (inl less) (inr same) = let last : other ≡ third = same.0 in first_less one third r3 (omega arith)
    by_why (inr same) (inl more) = let last : one ≡ other = same.0 in first_less one third r3 (omega arith)
    by_why (inr same) (inr last) =
        let a : one ≡ other = same.0 in
        let b : other ≡ third = last.0 in
        first_equal one third r3 (omega arith) ∙ rest same.1 last.1

-- of two exactly one is first, where the rest decides so
pub first_decides : (one other : ℕ) (rest back : Bool) → rest ≡ not back → is_first_by one other rest ≡ not (is_first_by other one back)
first_decides one other rest back says =
    ⊎_elim
    (λ same. first_equal one other rest same ∙ (says ∙ ap not (sym (first_equal other one back (sym same)))))
    (λ apart. ⊎_elim (λ less. first_less one other rest less ∙ ap not (sym (first_greater other one back less)))
    (λ more. first_greater one other rest more ∙ ap not (sym (first_less other one back more))) apart)
    (cases_order one other)

-- the lesser number, of two that differ
less_decides : (one other : ℕ) → (one ≡ other → ⊥) → nat_lt one other ≡ not (nat_lt other one)
less_decides one other apart =
    ⊎_elim (λ same. absurd (apart same))
    (λ differ. ⊎_elim (λ less. lt-ltb one other less ∙ ap not (sym (le-ltb other one (omega arith))))
    (λ more. le-ltb one other (omega arith) ∙ ap not (sym (lt-ltb other one more))) differ)
    (cases_order one other)

-- lesser numbers pass on
pub less_passes_on : (one other third : ℕ) → nat_lt one other ≡ true → nat_lt other third ≡ true → nat_lt one third ≡ true
less_passes_on one other third first then_third =
    let a : one < other = ltb-true one other first in
    let b : other < third = ltb-true other third then_third in
    lt-ltb one third (omega arith)

-- the order by the file alone, by the priority before it, and so on
abbrev by_file : Waiter → Waiter → Bool
by_file one other = nat_lt one.file other.file

abbrev by_priority : Waiter → Waiter → Bool
by_priority one other = is_first_by other.priority one.priority (by_file one other)

abbrev by_activity : Waiter → Waiter → Bool
by_activity one other = is_first_by one.activity other.activity (by_priority one other)

abbrev by_dest : Waiter → Waiter → Bool
by_dest one other = is_first_by one.link.dest other.link.dest (by_activity one other)

-- each of these passes on
priority_passes_on : (one other third : Waiter) → by_priority one other ≡ true → by_priority other third ≡ true → by_priority one third ≡ true
priority_passes_on one other third first then_third =
    first_passes_on third.priority other.priority one.priority (by_file other third) (by_file one other) (by_file one third) then_third first
    (λ later sooner. less_passes_on one.file other.file third.file sooner later)

activity_passes_on : (one other third : Waiter) → by_activity one other ≡ true → by_activity other third ≡ true → by_activity one third ≡ true
activity_passes_on one other third first then_third =
    first_passes_on one.activity other.activity third.activity (by_priority one other) (by_priority other third) (by_priority one third)
    first then_third (priority_passes_on one other third)

dest_passes_on : (one other third : Waiter) → by_dest one other ≡ true → by_dest other third ≡ true → by_dest one third ≡ true
dest_passes_on one other third first then_third =
    first_passes_on one.link.dest other.link.dest third.link.dest (by_activity one other) (by_activity other third) (by_activity one third)
    first then_third (activity_passes_on one other third)

-- the order of files that wait
pub waiting_order : IsOrder goes_before
waiting_order = record {
  passes_on = λ one other third first then_third.
      first_passes_on one.link.source other.link.source third.link.source (by_dest one other) (by_dest other third) (by_dest one third)
      first then_third (dest_passes_on one other third);
  decides = λ one other apart.
      first_decides one.link.source other.link.source (by_dest one other) (by_dest other one)
      (first_decides one.link.dest other.link.dest (by_activity one other) (by_activity other one)
      (first_decides one.activity other.activity (by_priority one other) (by_priority other one)
      (first_decides other.priority one.priority (by_file one other) (by_file other one)
      (less_decides one.file other.file apart))));
}
