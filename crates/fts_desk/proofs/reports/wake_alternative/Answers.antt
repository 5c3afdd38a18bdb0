use Rattle.std.proofs.Common.{◌-◌, ◌+◌, ◌<◌, arith}
use Rattle.fts_desk.proofs.Follows.{alternative_woken}
use Rattle.fts_desk.proofs.reports.wake_alternative.Goals as goal

pub wake_counted-requires-clause-room : goal.wake_counted-requires-clause-room
wake_counted-requires-clause-room c = λ row at.
    c.requires.room (c.args.job.now.first - 1 + c.in-Some.place) row (omega arith) (omega (arith, c.in-Some.ensures.inside, c.rows_of_job.ensures.count)) at

pub returns-in-Some-clause-rows : goal.returns-in-Some-clause-rows
returns-in-Some-clause-rows c =
    let inside : c.in-Some.place < c.args.job.now.count = omega (arith, c.in-Some.ensures.inside, c.rows_of_job.ensures.count) in
    alternative_woken c.args.rows.now c.rows_of_job.result.now c.wake_counted.new.rows c.args.job.now c.in-Some.place c.requires.numbered
    c.requires.together c.rows_of_job.ensures.rows inside
    (c.in-Some.ensures.row c.args.rows.now c.requires.beside.counts.loads) c.wake_counted.ensures.rows
