-- A table that sums up, for each of a row of numbers, what items of a list belong to it: how it begins, and an item more.
use Rattle.std.proofs.Common.{◌≡◌, ◌≢◌, ℕ, zero, suc, ◌+◌, ◌<◌, ◌≤◌, Bool, true, false, cond, List, [], ◌∷◌, ◌++◌, length, get_or, set, take, replicate, refl, ap, sym, ◌∙◌, arith, append-nil, inl, inr}
use Rattle.std.specs.Prelude.{map, filter}
use Rattle.std.specs.List.{range_with_len}
use Rattle.std.proofs.lemmas.List.{ext_get_or, get_or-set_same, get_or-set_other, length-set}
use Rattle.std.proofs.lemmas.List.Elements.{filter_more}
use Rattle.std.proofs.lemmas.List.FromFn.{length-map-range_with_len, get_or-map-range_with_len}
use Rattle.std.proofs.lemmas.Bool.{cases_eq}

module _ {Item Sum : Type 0} (belongs : ℕ → Item → Bool) (sum_of : List Item → Sum) where
  -- the sums of the items of each number
  abbrev pub tallies : ℕ → ℕ → List Item → List Sum
  tallies first count items = map (λ number. sum_of (filter (belongs number) items)) (range_with_len first count)

  -- of no items
  pub tallies_none : (nothing : Sum) → sum_of [] ≡ nothing → (first count : ℕ) → replicate count nothing ≡ tallies first count []
  tallies_none nothing is first zero = refl
  tallies_none nothing is first (suc count) = (λ i. sym is i ∷ tallies_none nothing is (first + 1) count i)

  -- as many as numbers
  pub tallies_count : (first count : ℕ) (items : List Item) → length (tallies first count items) ≡ count
  tallies_count first count items = length-map-range_with_len (λ number. sum_of (filter (belongs number) items)) first count

  -- the sum at a place
  pub tallies_at : (first count : ℕ) (items : List Item) (place : ℕ) (other : Sum) → place < count
      → get_or (tallies first count items) place other ≡ sum_of (filter (belongs (first + place)) items)
  tallies_at first count items place other inside =
      get_or-map-range_with_len (λ number. sum_of (filter (belongs number) items)) first count place (first + place) other inside refl

  module _ (items : List Item) (i : ℕ) (default : Item) (inside : i < length items) where
    -- the items of a number that the next one doesn't belong to
    apart : (number : ℕ) → belongs number (get_or items i default) ≡ false → filter (belongs number) (take (i + 1) items) ≡ filter (belongs number) (take i items)
    apart number not_here =
        filter_more (belongs number) items i default inside
        ∙ ap (λ (l : List Item). filter (belongs number) (take i items) ++ l) (ap (λ answer. cond answer (get_or items i default ∷ []) []) not_here)
        ∙ append-nil (filter (belongs number) (take i items))

    -- and of one that it belongs to
    joined : (number : ℕ) → belongs number (get_or items i default) ≡ true → filter (belongs number) (take (i + 1) items) ≡ filter (belongs number) (take i items) ++ get_or items i default ∷ []
    joined number here =
        filter_more (belongs number) items i default inside
        ∙ ap (λ (l : List Item). filter (belongs number) (take i items) ++ l) (ap (λ answer. cond answer (get_or items i default ∷ []) []) here)

    -- an item more that belongs to none of the numbers
    pub tallies_same : (first count : ℕ) → ((number : ℕ) → first ≤ number → number < first + count → belongs number (get_or items i default) ≡ false)
        → (sums : List Sum) → sums ≡ tallies first count (take i items) → sums ≡ tallies first count (take (i + 1) items)
    tallies_same first count nowhere sums so_far = so_far ∙ alike first count nowhere
      where
        alike : (first count : ℕ) → ((number : ℕ) → first ≤ number → number < first + count → belongs number (get_or items i default) ≡ false)
            → tallies first count (take i items) ≡ tallies first count (take (i + 1) items)
        alike first zero nowhere = refl
        alike first (suc count) nowhere = λ j.
            sum_of (sym (apart first (nowhere first (omega arith) (omega arith))) j)
            ∷ alike (first + 1) count (λ number above below. nowhere number (omega arith) (omega arith)) j

    -- an item more that belongs to the number at a place, and to no other
    pub tallies_more : (add : Sum → Item → Sum) → ((before : List Item) → sum_of (before ++ get_or items i default ∷ []) ≡ add (sum_of before) (get_or items i default))
        → (first count place number : ℕ) → place < count → number ≡ first + place → belongs number (get_or items i default) ≡ true
        → ((one : Item) (number away : ℕ) → belongs number one ≡ true → away ≢ number → belongs away one ≡ false)
        → (other : Sum) (sums : List Sum) → sums ≡ tallies first count (take i items)
        → other ≡ get_or sums place other → (sum : Sum) → sum ≡ add other (get_or items i default)
        → set sums place sum ≡ tallies first count (take (i + 1) items)
    tallies_more add adds first count place number within numbered belongs_there elsewhere other sums so_far other_is sum sum_is =
        ext_get_or other (set sums place sum) (tallies first count (take (i + 1) items))
        (long ∙ sym (tallies_count first count (take (i + 1) items)))
        (λ q below. each q (omega (arith, long, below)))
      where
        here : belongs (first + place) (get_or items i default) ≡ true
        here = ap (λ (n : ℕ). belongs n (get_or items i default)) (sym numbered) ∙ belongs_there

        long : length (set sums place sum) ≡ count
        long = length-set sums place sum ∙ ap length so_far ∙ tallies_count first count (take i items)

        short : length sums ≡ count
        short = ap length so_far ∙ tallies_count first count (take i items)

        at_place : get_or sums place other ≡ sum_of (filter (belongs (first + place)) (take i items))
        at_place = ap (λ (l : List Sum). get_or l place other) so_far ∙ tallies_at first count (take i items) place other within

        there : get_or (set sums place sum) place other ≡ get_or (tallies first count (take (i + 1) items)) place other
        there =
            get_or-set_same sums place sum other (omega (arith, short))
            ∙ sum_is ∙ ap (λ (before : Sum). add before (get_or items i default)) (other_is ∙ at_place)
            ∙ sym (adds (filter (belongs (first + place)) (take i items)))
            ∙ ap sum_of (sym (joined (first + place) here))
            ∙ sym (tallies_at first count (take (i + 1) items) place other within)

        away : (q : ℕ) → q < count → q ≢ place → get_or (set sums place sum) q other ≡ get_or (tallies first count (take (i + 1) items)) q other
        away q below apart_from =
            get_or-set_other sums place q sum other apart_from
            ∙ ap (λ (l : List Sum). get_or l q other) so_far
            ∙ tallies_at first count (take i items) q other below
            ∙ ap sum_of (sym (apart (first + q) (elsewhere (get_or items i default) (first + place) (first + q) here (λ same. apart_from (omega arith)))))
            ∙ sym (tallies_at first count (take (i + 1) items) q other below)

        each : (q : ℕ) → q < count → get_or (set sums place sum) q other ≡ get_or (tallies first count (take (i + 1) items)) q other
        each q below = elim (cases_eq q place) as (λ _. get_or (set sums place sum) q other ≡ get_or (tallies first count (take (i + 1) items)) q other) [
          | inl same ↦ ap (λ (p : ℕ). get_or (set sums place sum) p other) same ∙ there ∙ ap (λ (p : ℕ). get_or (tallies first count (take (i + 1) items)) p other) (sym same)
          | inr apart_from ↦ away q below apart_from
        ]
