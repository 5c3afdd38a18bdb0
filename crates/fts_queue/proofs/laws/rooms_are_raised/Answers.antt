use Rattle.fts_queue.proofs.QueueRooms.{room_raised, room_of_others}
use Rattle.fts_queue.proofs.laws.rooms_are_raised.Goals as goal

pub returns : goal.returns
returns c = record { raised = room_raised; others = room_of_others }
