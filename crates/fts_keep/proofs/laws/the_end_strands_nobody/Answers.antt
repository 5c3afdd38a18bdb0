use Rattle.fts_keep.proofs.Ending.{room_behind, limit_more, limit_short, limit_front, cost_less}
use Rattle.fts_keep.proofs.laws.the_end_strands_nobody.Goals as goal

pub returns-clause-room : goal.returns-clause-room
returns-clause-room c = room_behind c.entries_are_sized.ensures.sized c.accepted_rows_can_be_settled.ensures.fits

pub returns-clause-more : goal.returns-clause-more
returns-clause-more c = limit_more

pub returns-clause-short : goal.returns-clause-short
returns-clause-short c = limit_short

pub returns-clause-front : goal.returns-clause-front
returns-clause-front c = limit_front

pub returns-clause-cost : goal.returns-clause-cost
returns-clause-cost c = cost_less
