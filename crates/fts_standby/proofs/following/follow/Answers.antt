-- A doubt that could not be ended; an end at the last entry; and one behind it.
use Rattle.fts_standby.proofs.FollowedCalls.{followed_unsettled, followed_compared, followed_taken}
use Rattle.fts_standby.proofs.following.follow.Goals as goal

pub returns-in-Err-clause-followed : goal.returns-in-Err-clause-followed
returns-in-Err-clause-followed g c =
    followed_unsettled g.D.Disk.state g.D.Disk.faults _ _ c.args.port c.args.tries c.args.journal.now c.settle.new.journal c.in-Err.ensures.settles.grows _ _ c.in-Err.end
    c.in-Err.ensures.settles.answer

pub returns-in-Err-compare-clause-followed : goal.returns-in-Err-compare-clause-followed
returns-in-Err-compare-clause-followed g c =
    followed_compared g.D.Disk.state g.D.Disk.faults _ _ c.args.port c.args.tries c.args.journal.now c.settle.new.journal c.in_default.ensures.settles.grows
    c.in_default.ensures.settles.answer c.compare.new.journal _ _ _ _ c.in-Err-compare.end c.in-Err-compare.ensures

pub returns-clause-followed : goal.returns-clause-followed
returns-clause-followed g c =
    followed_taken g.D.Disk.state g.D.Disk.faults _ _ c.args.port c.args.tries c.args.journal.now c.settle.new.journal c.in_default.ensures.settles.grows
    c.in_default.ensures.settles.answer c.compare.new.journal _ _ _ _ c.take_all.new.journal _ _ c.take_all.result c.in_default-compare.ensures c.take_all.ensures.takes
