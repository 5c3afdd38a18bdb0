-- The samples, one behind the other.
use Rattle.std.proofs.Common.{◌≡◌, ◌++◌, ◌∙◌, List, ap, append_assoc, codes, Option}
use Rattle.std.specs.Prelude.{map, count_by}
use Rattle.fts_desk.specs.DeskData.{state_at}
use Rattle.fts_tables.specs.declared.rows.JobRow.{JobRow}
use Rattle.fts_tables.specs.declared.rows.JobState.{JobState}
use Rattle.fts_tables.specs.declared.rows.JobState.TheVariants.{FinishedDirty, Submitted, Active, Finished, Failed, Canceled}
use Rattle.fts_counts.specs.Jobs.{stands_in, jobs_in, place_of}
use Rattle.fts_metrics.specs.Metrics.{jobs_text, jobs_sample}
use Rattle.fts_counts.proofs.Counting.{count_read}
use Rattle.fts_metrics.proofs.jobs.put_jobs.Goals as goal

pub returns : goal.returns
unfolding jobs_text
returns c =
    let tables = c.args.desk.now.tables in
    let counted : (state : JobState) (states : List (Option JobState)) → states ≡ map (λ (job : JobRow). state_at tables job.number) tables.jobs
    → count_by (stands_in (place_of state)) states ≡ jobs_in tables state = λ state states are.
    ap (count_by (stands_in (place_of state))) are
    ∙ count_read (λ (job : JobRow). state_at tables job.number) (stands_in (place_of state)) tables.jobs in
    let submitted = c.in_ok-put_state.ensures
    ∙ (λ i. c.in_ok-put_head.ensures i ++ jobs_sample (codes "SUBMITTED") (counted Submitted _ (c.deref.ensures.value ∙ c.in_ok-states.ensures) i)) in
    let active = c.in_ok-put_state-2.ensures
    ∙ (λ i. submitted i ++ jobs_sample (codes "ACTIVE") (counted Active _ (c.deref-2.ensures.value ∙ c.in_ok-states.ensures) i)) in
    let finished = c.in_ok-put_state-3.ensures
    ∙ (λ i. active i ++ jobs_sample (codes "FINISHED") (counted Finished _ (c.deref-3.ensures.value ∙ c.in_ok-states.ensures) i)) in
    let dirty = c.in_ok-put_state-4.ensures
    ∙ (λ i. finished i ++ jobs_sample (codes "FINISHEDDIRTY") (counted FinishedDirty _ (c.deref-4.ensures.value ∙ c.in_ok-states.ensures) i)) in
    let failed = c.in_ok-put_state-5.ensures
    ∙ (λ i. dirty i ++ jobs_sample (codes "FAILED") (counted Failed _ (c.deref-5.ensures.value ∙ c.in_ok-states.ensures) i)) in
    let all = c.in_ok-put_state-6.ensures
    ∙ (λ i. failed i ++ jobs_sample (codes "CANCELED") (counted Canceled _ (c.deref-6.ensures.value ∙ c.in_ok-states.ensures) i)) in
    all ∙ simp append_assoc
