-- The orders by numbers are orders: by the least number, and by one number before the rest, the lesser or the greater first.
use Rattle.std.specs.Prelude.{◌≡◌, ℕ, Bool, true, false, nat_lt}
use Rattle.std.proofs.Common.{arith}
use Rattle.std.proofs.lemmas.Bool.Decides.{nat_tests}
use Rattle.ordered.specs.Orders.{IsStrictOrder}
use Rattle.ordered.specs.ByNumbers.{is_first_by, IsOrderUpTo}

-- a key doesn't stand before itself, where the rest of it doesn't
not_self : (n : ℕ) (rest : Bool) → rest ≡ false → is_first_by n n rest ≡ false
not_self n rest is = grind (arith, nat_tests)

-- the order passes on, where that of the rest does
passes_on : (l m n : ℕ) (one other both : Bool) → (one ≡ true → other ≡ true → both ≡ true) → is_first_by l m one ≡ true → is_first_by m n other ≡ true
    → is_first_by l n both ≡ true
passes_on l m n one other both on first second = grind (arith, nat_tests)

-- of two of which neither stands first, by number or by the rest
record AreEven (m n : ℕ) (one other : Bool) : Type 0 where
  number : m ≡ n
  rest : one ≡ false
  back : other ≡ false

-- they have the number in common, and of the rest neither stands first
even : (m n : ℕ) (one other : Bool) → is_first_by m n one ≡ false → is_first_by n m other ≡ false → AreEven m n one other
even m n one other first second = record {
  number = grind (arith, nat_tests);
  rest = grind (arith, nat_tests);
  back = grind (arith, nat_tests);
}

-- the lesser number first
pub by_least : {K : Type 0} (number : K → ℕ) → IsOrderUpTo (λ one other. nat_lt (number one) (number other)) (λ one other. number one ≡ number other)
by_least number = record {
  irreflexive = λ one. grind (arith, nat_tests);
  transitive = λ one other third first second. grind (arith, nat_tests);
  total = λ one other first second. grind (arith, nat_tests);
}

module _ {K : Type 0} (number : K → ℕ) (rest : K → K → Bool) (same : K → K → Type 0) (order : IsOrderUpTo rest same) where
  -- the lesser number first, then as the rest says
  pub least_then : IsOrderUpTo (λ one other. is_first_by (number one) (number other) (rest one other))
      (λ one other. (number one ≡ number other) × same one other)
  least_then = record {
    irreflexive = λ one. not_self (number one) (rest one one) (order.irreflexive one);
    transitive = λ one other third first second.
        passes_on (number one) (number other) (number third) (rest one other) (rest other third) (rest one third)
        (order.transitive one other third) first second;
    total = λ one other first second.
        let are = even (number one) (number other) (rest one other) (rest other one) first second in
        (are.number, order.total one other are.rest are.back);
  }

  -- the greater number first, then as the rest says
  pub greatest_then : IsOrderUpTo (λ one other. is_first_by (number other) (number one) (rest one other))
      (λ one other. (number one ≡ number other) × same one other)
  greatest_then = record {
    irreflexive = λ one. not_self (number one) (rest one one) (order.irreflexive one);
    transitive = λ one other third first second.
        passes_on (number third) (number other) (number one) (rest other third) (rest one other) (rest one third)
        (λ later sooner. order.transitive one other third sooner later) second first;
    total = λ one other first second.
        let are = even (number one) (number other) (rest other one) (rest one other) second first in
        (are.number, order.total one other are.back are.rest);
  }

-- an order where those that are the same to it are one
pub strict : {K : Type 0} (before : K → K → Bool) (same : K → K → Type 0) → IsOrderUpTo before same
    → ((one other : K) → same one other → one ≡ other) → IsStrictOrder before
strict before same order one_of = record {
  irreflexive = order.irreflexive;
  transitive = order.transitive;
  total = λ one other first second. one_of one other (order.total one other first second);
}
