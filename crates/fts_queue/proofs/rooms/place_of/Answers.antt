use Rattle.std.proofs.Common.{rules}
use Rattle.std.proofs.lemmas.List.Sorted.{IsPartitionPoint-from_clause}
use Rattle.fts_queue.specs.declared.rooms.QueueRoom.{QueueRoom}
use Rattle.fts_queue.specs.WaitingData.{is_queue_before}
use Rattle.fts_queue.proofs.QueueRooms.{queues_pass_on, new_room}
use Rattle.fts_queue.proofs.Places.{parted, parted_at}
use Rattle.fts_queue.proofs.rooms.place_of.Goals as goal

pub returns-clause-place : goal.returns-clause-place
returns-clause-place c =
    parted_at (λ (room : QueueRoom). is_queue_before room.link room.activity c.args.link c.args.activity) c.args.rooms.now c.partition_point.result
    (new_room c.args.link c.args.activity 0) c.partition_point.ensures.bound
    (IsPartitionPoint-from_clause (λ (room : QueueRoom). is_queue_before room.link room.activity c.args.link c.args.activity) c.args.rooms.now
    c.partition_point.result c.partition_point.ensures.partitioned
    (parted (λ (room later : QueueRoom). is_queue_before room.link room.activity later.link later.activity)
    (λ (room : QueueRoom). is_queue_before room.link room.activity c.args.link c.args.activity)
    (λ one other goes passes.
    queues_pass_on one.link.source one.link.dest one.activity other.link.source other.link.dest other.activity c.args.link.source c.args.link.dest
    c.args.activity goes passes)
    c.args.rooms.now c.requires.order)
    (λ a r f' called. search rules))
