-- Nothing waits at first, and what waits at the end is sent.
use Rattle.fts_show.specs.Shown.{shown_text}
use Rattle.fts_show.proofs.Gathering.{gathered_whole, cut_whole}
use Rattle.fts_show.proofs.shown.send_tables.Goals as goal

pub returns-in-Err-clause-sent : goal.returns-in-Err-clause-sent
returns-in-Err-clause-sent g c = cut_whole (g.K.Sink.held c.args.output.now) (g.K.Sink.held c.gather_jobs.new.output) c.new-gathered.result
    (shown_text c.args.desk.now.tables) c.in-Err.fault c.new-gathered.ensures c.in-Err.ensures.gathers

pub returns-clause-sent : goal.returns-clause-sent
returns-clause-sent g c = gathered_whole (g.K.Sink.held c.args.output.now) (g.K.Sink.held c.gather_jobs.new.output) (g.K.Sink.held c.send.new.output)
    c.new-gathered.result c.gather_jobs.new.gathered (shown_text c.args.desk.now.tables) c.send.result c.new-gathered.ensures c.in-Ok.ensures.gathers c.send.ensures.sent
