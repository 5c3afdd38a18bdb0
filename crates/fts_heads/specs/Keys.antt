-- The order of the files in line, as keys.
use Rattle.std.specs.Prelude.{Bool}
use Rattle.std.proofs.Common.{ap}
use Rattle.ordered.specs.Orders.{IsStrictOrder}
use Rattle.fts_heads.specs.declared.ripe_file.Lined.{Lined}
use Rattle.fts_heads.specs.RipeFiles.{goes_in_line, in_line}

abbrev pub is_line_before : Lined → Lined → Bool
is_line_before one other = goes_in_line one.waiter other.waiter

pub lines_in_order : IsStrictOrder is_line_before
lines_in_order = record {
  irreflexive = λ one. in_line.irreflexive one.waiter;
  transitive = λ one other third. in_line.transitive one.waiter other.waiter third.waiter;
  total = λ one other first second. ap (λ waiter. record { waiter = waiter }) (in_line.total one.waiter other.waiter first second);
}
