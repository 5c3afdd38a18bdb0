-- The list holds what is shown so far, behind which the next job is sought; it grows with each turn.
use Rattle.std.proofs.Common.{◌-◌, length}
use Rattle.serde_json.specs.View.{view}
use Rattle.fts_tables.specs.declared.rows.JobRow.{JobRow}
use Rattle.fts_desk.specs.JobLists.{is_among}
use Rattle.fts_routes.specs.Objects.{job_object, state_in}
use Rattle.fts_routes.proofs.Listed.{ShownSoFar}
use Rattle.fts_routes.proofs.looks.value_of_jobs.Given as goal

abbrev pub invariant-loop-job : goal.invariant-loop-job
invariant-loop-job l = ShownSoFar view (job_object l.desk.tables) (λ (job : JobRow). is_among l.asked (state_in l.desk.tables job))
    l.limit l.desk.tables.jobs l.behind l.list.items

abbrev pub decreases-loop-job : goal.decreases-loop-job
decreases-loop-job l = l.limit - length l.list.items
