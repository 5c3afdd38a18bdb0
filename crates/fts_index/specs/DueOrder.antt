-- The order of moments with their files, an earlier moment first and then the lesser file: that it is one.
use Rattle.std.specs.Prelude.{◌≡◌, nat_lt}
use Rattle.std.proofs.Common.{ap, ◌∙◌}
use Rattle.fts_tables.specs.Dues.{Due, is_due_before}
use Rattle.ordered.specs.Orders.{IsStrictOrder}
use Rattle.ordered.proofs.ByNumbers.{by_least, least_then, strict}

-- files with the same moment and the same number are one
same_due : (one other : Due) → one.moment ≡ other.moment → one.file ≡ other.file → one ≡ other
same_due one other moment file = ap (λ n. record one { moment = n }) moment ∙ ap (λ n. record other { file = n }) file

-- it is an order by numbers
pub dues_are_ordered : IsStrictOrder is_due_before
dues_are_ordered =
    strict is_due_before (λ one other. (one.moment ≡ other.moment) × (one.file ≡ other.file))
    (least_then (λ (due : Due). due.moment) (λ one other. nat_lt one.file other.file) (λ one other. one.file ≡ other.file) (by_least (λ (due : Due). due.file)))
    (λ one other same. same_due one other same.0 same.1)
