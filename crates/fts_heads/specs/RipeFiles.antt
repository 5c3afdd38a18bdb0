-- Files that wait, and the two orders in which they stand: in groups of one queue and one destination, and in the line of their queue.
use Rattle.std.specs.Prelude.{◌≡◌, ℕ, suc, Bool, nat_lt, ◌==◌, ◌&&◌}
use Rattle.std.proofs.Common.{ap, ◌∙◌}
use Rattle.ordered.specs.Orders.{IsStrictOrder}
use Rattle.ordered.specs.ByNumbers.{is_first_by}
use Rattle.ordered.proofs.ByNumbers.{by_least, least_then, greatest_then, strict}
use Rattle.fts_heads.specs.declared.ripe_file.RipeFile.{RipeFile}

-- by destination, the greater number first, and queue; in one group the lesser rank, then the lesser number
abbrev pub goes_by_group : RipeFile → RipeFile → Bool
goes_by_group one other =
    is_first_by other.dest one.dest
    (is_first_by one.queue other.queue
    (is_first_by one.rank other.rank
    (nat_lt one.file other.file)))

-- by queue; in one line the lesser rank, then the lesser number
abbrev pub goes_in_line : RipeFile → RipeFile → Bool
goes_in_line one other =
    is_first_by one.queue other.queue
    (is_first_by one.rank other.rank
    (is_first_by one.file other.file
    (nat_lt one.dest other.dest)))

-- whether a file waits in a queue
abbrev pub is_in : ℕ → RipeFile → Bool
is_in queue waiter = waiter.queue == queue

-- whether a file brought a destination: files count from 1, and destinations from 0, each with the first file that has it
abbrev pub brought : ℕ → RipeFile → Bool
brought dest file = (file.dest == dest) && (file.file == suc dest)

-- files with the same numbers are one
same_waiter : (one other : RipeFile) → one.queue ≡ other.queue → one.dest ≡ other.dest → one.rank ≡ other.rank → one.file ≡ other.file → one ≡ other
same_waiter one other queue dest rank file =
    ap (λ n. record one { queue = n }) queue
    ∙ (ap (λ n. record one { queue = other.queue; dest = n }) dest
    ∙ (ap (λ n. record one { queue = other.queue; dest = other.dest; rank = n }) rank
    ∙ ap (λ n. record other { file = n }) file))

-- both are orders
pub by_group : IsStrictOrder goes_by_group
by_group =
    strict goes_by_group
    (λ one other. (one.dest ≡ other.dest) × ((one.queue ≡ other.queue) × ((one.rank ≡ other.rank) × (one.file ≡ other.file))))
    (greatest_then (λ (waiter : RipeFile). waiter.dest) _ (λ one other. (one.queue ≡ other.queue) × ((one.rank ≡ other.rank) × (one.file ≡ other.file)))
    (least_then (λ (waiter : RipeFile). waiter.queue) _ (λ one other. (one.rank ≡ other.rank) × (one.file ≡ other.file))
    (least_then (λ (waiter : RipeFile). waiter.rank) _ (λ one other. one.file ≡ other.file) (by_least (λ (waiter : RipeFile). waiter.file)))))
    (λ one other same. same_waiter one other same.1.0 same.0 same.1.1.0 same.1.1.1)

pub in_line : IsStrictOrder goes_in_line
in_line =
    strict goes_in_line
    (λ one other. (one.queue ≡ other.queue) × ((one.rank ≡ other.rank) × ((one.file ≡ other.file) × (one.dest ≡ other.dest))))
    (least_then (λ (waiter : RipeFile). waiter.queue) _ (λ one other. (one.rank ≡ other.rank) × ((one.file ≡ other.file) × (one.dest ≡ other.dest)))
    (least_then (λ (waiter : RipeFile). waiter.rank) _ (λ one other. (one.file ≡ other.file) × (one.dest ≡ other.dest))
    (least_then (λ (waiter : RipeFile). waiter.file) _ (λ one other. one.dest ≡ other.dest) (by_least (λ (waiter : RipeFile). waiter.dest)))))
    (λ one other same. same_waiter one other same.0 same.1.1.1 same.1.0 same.1.1.0)
