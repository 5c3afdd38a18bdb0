-- The job of the id's number is the id's.
use Rattle.std.proofs.Common.{ℕ, ap, sym, ◌∙◌}
use Rattle.std.specs.Prelude.{◌==◌, find, option_and_then}
use Rattle.fts_tables.specs.declared.rows.JobRow.{JobRow}
use Rattle.fts_routes.proofs.Numbered.{named-by_id}
use Rattle.fts_routes.proofs.named.job_named.Goals as goal

pub returns-clause-job : goal.returns-clause-job
returns-clause-job c = c.job_of_number.ensures.job
    ∙ (named-by_id c.args.desk.now.tables.jobs c.in_ok-id_in.field-0 c.in_ok-number.number c.standing.ensures.standing.formed.jobs (sym c.find.ensures ∙ c.in_ok-number.was)
    ∙ ap (option_and_then (λ (id : ℕ). find (λ (job : JobRow). job.id == id) c.args.desk.now.tables.jobs)) (sym (c.in_ok-id_in.was) ∙ c.id_in.ensures))
