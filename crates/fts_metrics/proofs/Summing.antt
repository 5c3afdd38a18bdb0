-- Sums by places, from one amount to the next.
use Rattle.std.proofs.Common.{◌≡◌, ℕ, ◌+◌, ◌*◌, ◌<◌, ◌≤◌, Bool, true, false, cond, List, length, get_or, take, refl, ap, sym, ◌∙◌, arith}
use Rattle.std.specs.Prelude.{◌==◌, slice_index, slice_set}
use Rattle.std.proofs.lemmas.Bool.{eqb-true, eqb-false}
use Rattle.std.proofs.lemmas.List.{take_more, get_or-set_same, get_or-set_other}
use Rattle.std.proofs.lemmas.List.Sums.{sum_by_push}
use Rattle.fts_metrics.specs.Sums.{sum_at}
use Rattle.fts_metrics.specs.declared.sums.Share.{Share}

-- what an amount at a place adds there
abbrev pub added_at : ℕ → Share → ℕ
added_at place share = cond (share.place == place) share.amount 0

-- the numbers once it was added
pub added : (sums : List ℕ) (share : Share) (place : ℕ) → place < length sums
    → slice_index (slice_set sums share.place (slice_index sums share.place + share.amount)) place ≡ slice_index sums place + added_at place share
added sums share place inside = by_test (share.place == place) refl
  where
    by_test : (answer : Bool) → (share.place == place) ≡ answer
        → slice_index (slice_set sums share.place (slice_index sums share.place + share.amount)) place
        ≡ slice_index sums place + cond answer share.amount 0
    by_test true is =
        let same = eqb-true share.place place is in
        ap (slice_index (slice_set sums share.place (slice_index sums share.place + share.amount))) (sym same)
        ∙ get_or-set_same sums share.place (slice_index sums share.place + share.amount) 0 (omega (arith, same, inside))
        ∙ ap (λ at. slice_index sums at + share.amount) same
    by_test false is =
        get_or-set_other sums share.place place (slice_index sums share.place + share.amount) 0 (λ same. eqb-false share.place place is (sym same))
        ∙ omega arith

-- no amount adds more than itself
pub added_at-le : (place : ℕ) (share : Share) (most : ℕ) → share.amount ≤ most → added_at place share ≤ most
added_at-le place share most small = by_test (share.place == place)
  where
    by_test : (answer : Bool) → cond answer share.amount 0 ≤ most
    by_test true = small
    by_test false = omega arith

-- the number at a place, with one share more
pub number_more : (shares : List Share) (i : ℕ) (other : Share) (sums after : List ℕ) (place : ℕ) → i < length shares → place < length sums
    → after ≡ slice_set sums (get_or shares i other).place (slice_index sums (get_or shares i other).place + (get_or shares i other).amount)
    → slice_index sums place ≡ sum_at place (take i shares)
    → slice_index after place ≡ sum_at place (take (i + 1) shares)
number_more shares i other sums after place inside place_inside grown so_far =
    ap (λ (numbers : List ℕ). slice_index numbers place) grown
    ∙ added sums (get_or shares i other) place place_inside
    ∙ ap (λ sum. sum + added_at place (get_or shares i other)) so_far
    ∙ sym (sum_by_push (added_at place) (take i shares) (get_or shares i other))
    ∙ ap (sum_at place) (sym (take_more shares i other inside))

-- it grows by the amount at most
pub low_more : (share : Share) (i : ℕ) (sums after : List ℕ) (place : ℕ) → place < length sums → share.amount < 18446744073709551616
    → after ≡ slice_set sums share.place (slice_index sums share.place + share.amount)
    → slice_index sums place ≤ i * 18446744073709551615 → slice_index after place ≤ (i + 1) * 18446744073709551615
low_more share i sums after place inside small grown low =
    let is : slice_index after place ≡ slice_index sums place + added_at place share
    = ap (λ (numbers : List ℕ). slice_index numbers place) grown ∙ added sums share place inside in
    let most = added_at-le place share 18446744073709551615 (omega arith) in
    omega arith
