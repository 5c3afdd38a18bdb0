-- The hop behind, where one was found, and where none was.
use Rattle.std.proofs.Common.{◌-◌, ◌+◌, arith}
use Rattle.fts_desk.proofs.Hops.{found_hop, no_hop}
use Rattle.fts_desk.proofs.reports.wake_hop.Goals as goal

pub wake_counted-requires-clause-room : goal.wake_counted-requires-clause-room
wake_counted-requires-clause-room c = λ row at.
    c.requires.room (c.args.job.now.first - 1 + c.in-Some.next) row (omega arith) (omega (arith, c.in-Some.ensures.inside, c.rows_of_job.ensures.count)) at

pub returns-in-Some-clause-rows : goal.returns-in-Some-clause-rows
returns-in-Some-clause-rows c = λ row at. found_hop c.args.rows.now c.rows_of_job.result.now c.args.job.now row c.args.place c.requires.numbered c.requires.together
    c.rows_of_job.ensures.rows c.rows_of_job.ensures.count at
    c.requires.owned.0 c.requires.owned.1 c.in-Some.next c.wake_counted.new.rows c.in-Some.ensures.place c.wake_counted.ensures.rows

pub returns-in-None-clause-rows : goal.returns-in-None-clause-rows
returns-in-None-clause-rows c = λ row at. no_hop c.args.rows.now c.rows_of_job.result.now c.args.job.now row c.args.place c.requires.numbered c.requires.together
    c.rows_of_job.ensures.rows c.rows_of_job.ensures.count at
    c.requires.owned.0 c.requires.owned.1 c.in-None.ensures.place
