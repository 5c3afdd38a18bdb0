-- The order of the places of jobs: that it is one.
use Rattle.std.specs.Prelude.{nat_lt}
use Rattle.std.proofs.Common.{arith}
use Rattle.std.proofs.lemmas.Bool.Decides.{nat_tests}
use Rattle.ordered.specs.Orders.{IsStrictOrder}

-- the lesser place first
pub places_are_ordered : IsStrictOrder nat_lt
places_are_ordered = record {
  irreflexive = λ one. grind (arith, nat_tests);
  transitive = λ one other third first second. grind (arith, nat_tests);
  total = λ one other first second. grind (arith, nat_tests);
}
