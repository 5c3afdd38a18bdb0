-- What a binary search finds among queues in their order is how many are from sources up to this one.
use Rattle.std.proofs.Common.{rules}
use Rattle.std.specs.Prelude.{nat_le}
use Rattle.std.proofs.lemmas.List.Sorted.{IsPartitionPoint-from_clause}
use Rattle.fts_queue.specs.declared.rooms.QueueRoom.{QueueRoom}
use Rattle.fts_line.proofs.Sources.{up_to, parted_at}
use Rattle.fts_line.proofs.line.count_up_to.Goals as goal

pub returns-clause-count : goal.returns-clause-count
returns-clause-count c =
    let passes = λ (room : QueueRoom). nat_le room.link.source c.args.source in
    parted_at passes c.args.rooms.now c.partition_point.result c.partition_point.ensures.bound
    (IsPartitionPoint-from_clause passes c.args.rooms.now c.partition_point.result c.partition_point.ensures.partitioned
    (up_to c.args.source c.args.rooms.now c.requires.order)
    (λ a r f' called. search rules))
