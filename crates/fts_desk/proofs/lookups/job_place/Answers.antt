use Rattle.std.proofs.Common.{ap, ◌∙◌}
use Rattle.std.specs.Prelude.{slice_get, option_and_then}
use Rattle.fts_tables.specs.declared.rows.JobRow.{JobRow}
use Rattle.fts_desk.proofs.Numbered.{found_at}
use Rattle.fts_desk.proofs.lookups.job_place.Goals as goal

pub returns-clause-job : goal.returns-clause-job
returns-clause-job c = ap (option_and_then (slice_get c.args.jobs.now)) c.place_of.ensures.place
    ∙ found_at (λ (job : JobRow). job.number) c.args.jobs.now c.args.number c.requires.numbered
