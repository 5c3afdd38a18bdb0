-- The samples of a link, one behind the other.
use Rattle.std.proofs.Common.{◌≡◌, ◌++◌, ℕ, Bool, ap, ◌∙◌, append_assoc, codes}
use Rattle.std.specs.Prelude.{count_by}
use Rattle.fts_tables.specs.Tables.{is_submitted, is_active, is_finished, is_failed, is_canceled, is_not_used}
use Rattle.fts_tables.specs.declared.rows.FileState.{FileState}
use Rattle.fts_metrics.specs.Metrics.{files_on, files_sample, rows_in}
use Rattle.fts_metrics.proofs.Places.{counted_on}
use Rattle.fts_metrics.proofs.files.put_files_on.Goals as goal

pub returns : goal.returns
unfolding files_on
returns c = λ rows source dest labelled are.
    let counted : (is_state : FileState → Bool) (count : ℕ) → count ≡ count_by is_state c.args.states.now → count ≡ rows_in is_state rows source dest =
    λ is_state count is. is ∙ ap (count_by is_state) are ∙ counted_on is_state source dest rows in
    let submitted = c.in_ok-put_state.ensures
    ∙ (λ i. c.args.text.now.items ++ files_sample (labelled i) (codes "SUBMITTED") (counted is_submitted _ c.count_in-submitted.ensures i)) in
    let active = c.in_ok-put_state-2.ensures
    ∙ (λ i. submitted i ++ files_sample (labelled i) (codes "ACTIVE") (counted is_active _ c.count_in-active.ensures i)) in
    let finished = c.in_ok-put_state-3.ensures
    ∙ (λ i. active i ++ files_sample (labelled i) (codes "FINISHED") (counted is_finished _ c.count_in-finished.ensures i)) in
    let failed = c.in_ok-put_state-4.ensures
    ∙ (λ i. finished i ++ files_sample (labelled i) (codes "FAILED") (counted is_failed _ c.count_in-failed.ensures i)) in
    let canceled = c.in_ok-put_state-5.ensures
    ∙ (λ i. failed i ++ files_sample (labelled i) (codes "CANCELED") (counted is_canceled _ c.count_in-canceled.ensures i)) in
    let all = c.in_ok-put_state-6.ensures
    ∙ (λ i. canceled i ++ files_sample (labelled i) (codes "NOT_USED") (counted is_not_used _ c.count_in-not_used.ensures i)) in
    all ∙ simp append_assoc
