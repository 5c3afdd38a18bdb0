-- A row that may follow may wait.
use Rattle.std.proofs.Common.{subst}
use Rattle.fts_desk.specs.Parts.{IsFollowOf}
use Rattle.fts_desk.proofs.reports.follow.Goals as goal

pub wake_hop-requires-clause-room : goal.wake_hop-requires-clause-room
wake_hop-requires-clause-room c = c.requires.room (subst (IsFollowOf c.args.job.now.kind) c.in-NextHop.is c.requires.kind)

pub wake_alternative-requires-clause-room : goal.wake_alternative-requires-clause-room
wake_alternative-requires-clause-room c = c.requires.room (subst (IsFollowOf c.args.job.now.kind) c.in-NextAlternative.is c.requires.kind)
