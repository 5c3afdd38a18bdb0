-- The line of a job, in its state by its rows, and the lines of its files.
use Rattle.std.proofs.Common.{sym, ◌∙◌}
use Rattle.fts_show.proofs.Showing.{state_is, job_cut, job_gathered}
use Rattle.fts_show.proofs.shown.gather_job.Goals as goal

pub returns-in-Err-clause-gathers : goal.returns-in-Err-clause-gathers
returns-in-Err-clause-gathers g c = job_cut c.args.desk.now.tables c.args.job.now c.in-Some.state (g.K.Sink.held c.args.output.now)
    (g.K.Sink.held c.args.output.now) (g.K.Sink.held c.gather_job_line.new.output) c.args.gathered.now c.args.gathered.now c.gather_job_line.new.gathered
    (state_is c.args.desk.now.tables c.args.job.now c.in-Some.state c.requires.number (sym c.in-Some.is ∙ c.state.ensures)) c.in-Err.fault c.in-Err.ensures.gathers

pub returns-clause-gathers : goal.returns-clause-gathers
returns-clause-gathers g c = job_gathered c.args.desk.now.tables c.args.job.now c.in-Some.state (g.K.Sink.held c.args.output.now)
    (g.K.Sink.held c.gather_job_line.new.output) (g.K.Sink.held c.gather_files.new.output)
    c.args.gathered.now c.gather_job_line.new.gathered c.gather_files.new.gathered
    (state_is c.args.desk.now.tables c.args.job.now c.in-Some.state c.requires.number (sym c.in-Some.is ∙ c.state.ensures)) c.job_rows.result.now c.gather_files.result
    c.job_rows.ensures.rows c.in-Ok.ensures.gathers c.gather_files.ensures.gathers
