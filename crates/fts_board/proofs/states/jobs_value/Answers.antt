-- What is counted of the jobs' states is counted of the jobs.
use Rattle.std.proofs.Common.{◌≡◌, ◌∙◌, ap, subst, map}
use Rattle.std.specs.Prelude.{IfOk, count_by}
use Rattle.serde_json.specs.Data.{Data}
use Rattle.serde_json.specs.View.{view}
use Rattle.fts_tables.specs.Tables.{Tables}
use Rattle.fts_tables.specs.declared.rows.JobRow.{JobRow}
use Rattle.fts_desk.specs.DeskData.{state_at}
use Rattle.fts_counts.specs.Jobs.{place_of, stands_in}
use Rattle.fts_counts.proofs.Counting.{count_read}
use Rattle.fts_board.specs.Snapshot.{by_job_state, jobs_object}
use Rattle.fts_board.proofs.states.jobs_value.Goals as goal

-- the states of the jobs, counted
jobs_same : (tables : Tables)
    → by_job_state (λ state. count_by (stands_in (place_of state)) (map (λ (job : JobRow). state_at tables job.number) tables.jobs)) ≡ jobs_object tables
jobs_same tables = ap by_job_state (λ i state. count_read (λ (job : JobRow). state_at tables job.number) (stands_in (place_of state)) tables.jobs i)

pub returns : goal.returns
returns c = subst (λ (wanted : Data). IfOk c.value_of_states.result (λ value. view value ≡ wanted))
    (ap (λ states. by_job_state (λ state. count_by (stands_in (place_of state)) states)) (c.deref.ensures.value ∙ c.in_ok-states.ensures)
    ∙ jobs_same c.args.desk.now.tables) c.value_of_states.ensures
