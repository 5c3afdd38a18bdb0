-- Ranks stand to each other as the names of their endpoints do.
use Rattle.std.proofs.Common.{◌≡◌, ℕ, zero, suc, ◌<◌, ◌≤◌, Bool, true, false, cond, List, [], ◌∷◌, length, Some, refl, ap, sym, ◌∙◌, subst, arith, inl, inr}
use Rattle.std.specs.Prelude.{◌==◌, count_by, slice_get}
use Rattle.std.specs.Option.{option_map_or}
use Rattle.std.specs.declared.cmp.Ordering.{Ordering}
use Rattle.std.specs.declared.cmp.Ordering.TheVariants.{Less, Equal, Greater}
use Rattle.std.specs.Ordering.{nat_cmp, ordering_reverse, is_lt}
use Rattle.std.specs.Cmp.{IsTotalOrder}
use Rattle.std.specs.Cmp.Lexicographic.{slice_cmp, on_texts}
use Rattle.std.proofs.lemmas.Bool.{lt-ltb, le-ltb, eq-eqb, ne_eqb}
use Rattle.std.proofs.lemmas.Map.Lookups.{exact_bytes}
use Rattle.std.proofs.lemmas.Option.{same_Some, slice_get_cases, slice_get_within}
use Rattle.std.proofs.lemmas.List.Sums.{sum_by-cons}
use Rattle.fts_tables.specs.SettingsData.{SettingsData}
use Rattle.fts_tables.specs.declared.settings.Endpoint.{Endpoint}
use Rattle.fts_slots.specs.SlotsData.{name_at}
use Rattle.fts_slots.specs.Ranks.{rank_of, rank_at}

-- the order of names
names_total : IsTotalOrder (λ (one other : List ℕ). slice_cmp nat_cmp one other)
names_total = on_texts (λ (name : List ℕ). name)

-- what passes the test of less is less
less_is : (order : Ordering) → is_lt order ≡ true → order ≡ Less
less_is Less is = refl
less_is Equal is = cc
less_is Greater is = cc

-- what an item counts for
abbrev one_of : Bool → ℕ
one_of answer = cond answer 1 0

module _ {Item : Type 0} (few many : Item → Bool) (among : (item : Item) → few item ≡ true → many item ≡ true) where
  -- of one item, what passes the narrower test passes the wider
  one_more : (item : Item) → cond (few item) 1 0 ≤ cond (many item) 1 0
  one_more item = by_test (few item) (many item) (among item)
    where
      by_test : (one other : Bool) → (one ≡ true → other ≡ true) → cond one 1 0 ≤ cond other 1 0
      by_test true true is = omega arith
      by_test true false is = let clash : false ≡ true = is refl in cc
      by_test false true is = omega arith
      by_test false false is = omega arith

  -- no fewer pass the wider one
  no_fewer : (items : List Item) → count_by few items ≤ count_by many items
  no_fewer [] = omega arith
  no_fewer (item ∷ items) =
      omega (
        arith,
        no_fewer items,
        one_more item,
        sum_by-cons (λ (other : Item). cond (few other) 1 0) item items,
        sum_by-cons (λ (other : Item). cond (many other) 1 0) item items,
      )

  -- and more do where an item passes that one alone
  some_more : (items : List Item) (place : ℕ) (item : Item) → slice_get items place ≡ Some item → few item ≡ false → many item ≡ true
      → count_by few items < count_by many items
  some_more [] place item at fails passes = let past = slice_get_within [] place item at in absurd (omega (arith, past))
  some_more (first ∷ items) zero item at fails passes =
      let same = same_Some first item at in
      let none : one_of (few first) ≡ 0 = ap one_of (ap few same ∙ fails) in
      let one : one_of (many first) ≡ 1 = ap one_of (ap many same ∙ passes) in
      omega (
        arith,
        none,
        one,
        no_fewer items,
        sum_by-cons (λ (other : Item). cond (few other) 1 0) first items,
        sum_by-cons (λ (other : Item). cond (many other) 1 0) first items,
      )
  some_more (first ∷ items) (suc place) item at fails passes =
      omega (
        arith,
        some_more items place item at fails passes,
        one_more first,
        sum_by-cons (λ (other : Item). cond (few other) 1 0) first items,
        sum_by-cons (λ (other : Item). cond (many other) 1 0) first items,
      )

-- a name that goes before another has the lesser rank, where it is an endpoint's
lesser_rank : (endpoints : List Endpoint) (place : ℕ) (endpoint : Endpoint) (other : List ℕ) → slice_get endpoints place ≡ Some endpoint
    → slice_cmp nat_cmp endpoint.name other ≡ Less → rank_of endpoints endpoint.name < rank_of endpoints other
lesser_rank endpoints place endpoint other at less =
    some_more (λ (some : Endpoint). is_lt (slice_cmp nat_cmp some.name endpoint.name)) (λ (some : Endpoint). is_lt (slice_cmp nat_cmp some.name other))
    (λ some before. ap is_lt (names_total.trans some.name endpoint.name other (less_is (slice_cmp nat_cmp some.name endpoint.name) before) less))
    endpoints place endpoint at (ap is_lt own) (ap is_lt less)
  where
    level : (order : Ordering) → order ≡ ordering_reverse order → order ≡ Equal
    level Less is = cc
    level Equal is = refl
    level Greater is = cc

    own : slice_cmp nat_cmp endpoint.name endpoint.name ≡ Equal
    own = level (slice_cmp nat_cmp endpoint.name endpoint.name) (names_total.antisymm endpoint.name endpoint.name)

-- numbers in their order
in_order : (one other : ℕ) → one < other → nat_cmp one other ≡ Less
in_order one other less = ap (λ answer. cond answer Less (cond (one == other) Equal Greater)) (lt-ltb one other less)

out_of_order : (one other : ℕ) → other < one → nat_cmp one other ≡ Greater
out_of_order one other more =
    ap (λ answer. cond answer Less (cond (one == other) Equal Greater)) (le-ltb one other (omega (arith, more)))
    ∙ ap (λ answer. cond answer Equal Greater) (ne_eqb one other (λ same. omega (arith, more, same)))

level_order : (number : ℕ) → nat_cmp number number ≡ Equal
level_order number =
    ap (λ answer. cond answer Less (cond (number == number) Equal Greater)) (le-ltb number number (omega arith))
    ∙ ap (λ answer. cond answer Equal Greater) (eq-eqb number number refl)

-- the endpoint at a place inside, and its name
pub endpoint_there : (settings : SettingsData) (place : ℕ) → place < length settings.endpoints
    → (endpoint : Endpoint) × (slice_get settings.endpoints place ≡ Some endpoint) × (name_at settings place ≡ endpoint.name)
endpoint_there settings place inside = elim (slice_get_cases settings.endpoints place).1 [
  | inl found ↦ (found.0, found.2, ap (λ at. option_map_or (λ (endpoint : Endpoint). endpoint.name) at []) found.2)
  | inr past ↦ absurd (omega (arith, past.0, inside))
]

-- two ranks go as the names
pub ranks_go : (settings : SettingsData) (one other : ℕ) → one < length settings.endpoints → other < length settings.endpoints
    → nat_cmp (rank_at settings one) (rank_at settings other) ≡ slice_cmp nat_cmp (name_at settings one) (name_at settings other)
ranks_go settings one other one_inside other_inside = by_order (slice_cmp nat_cmp (name_at settings one) (name_at settings other)) refl
  where
    before : (first second : ℕ) → first < length settings.endpoints → slice_cmp nat_cmp (name_at settings first) (name_at settings second) ≡ Less
        → rank_at settings first < rank_at settings second
    before first second inside less =
        let there = endpoint_there settings first inside in
        subst (λ name. rank_of settings.endpoints name < rank_at settings second) (sym there.2)
        (lesser_rank settings.endpoints first there.0 (name_at settings second) there.1
        (ap (λ name. slice_cmp nat_cmp name (name_at settings second)) (sym there.2) ∙ less))

    by_order : (order : Ordering) → slice_cmp nat_cmp (name_at settings one) (name_at settings other) ≡ order
        → nat_cmp (rank_at settings one) (rank_at settings other) ≡ slice_cmp nat_cmp (name_at settings one) (name_at settings other)
    by_order Less is = in_order (rank_at settings one) (rank_at settings other) (before one other one_inside is) ∙ sym is
    by_order Equal is =
        ap (λ name. nat_cmp (rank_of settings.endpoints name) (rank_at settings other)) (exact_bytes (name_at settings one) (name_at settings other) is)
        ∙ (level_order (rank_at settings other) ∙ sym is)
    by_order Greater is =
        out_of_order (rank_at settings one) (rank_at settings other)
        (before other one other_inside (names_total.antisymm (name_at settings other) (name_at settings one) ∙ ap ordering_reverse is)) ∙ sym is
