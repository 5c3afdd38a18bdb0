-- The files are those of the job's rows, by what the chronicle tells.
use Rattle.std.proofs.Common.{◌≡◌, ◌∙◌, subst, codes}
use Rattle.std.specs.Prelude.{IfOk}
use Rattle.serde_json.specs.Data.{Data}
use Rattle.serde_json.specs.View.{view}
use Rattle.fts_routes.specs.Json.{array_of}
use Rattle.fts_pages.specs.Events.{events_of_job}
use Rattle.fts_pages.specs.Pages.{with_member, file_shown}
use Rattle.fts_pages.proofs.objects.job_with_files.Goals as goal

pub returns : goal.returns
returns c =
    let job = c.args.job.now in
    let events = c.deref.ensures.value ∙ c.in_ok-events.ensures ∙ (λ i. events_of_job (c.reports-reports.ensures i) job (c.events.ensures i)) in
    let files = c.in_ok-files.ensures ∙ (λ i. array_of (file_shown (c.reports-reports.ensures i) job (events i)) (c.job_rows.ensures.rows i)) in
    subst (λ (shown : Data). IfOk c.with_member.result (λ value. view value ≡ shown))
    (λ i. with_member (codes "files") (files i) (c.in_ok-value.ensures i)) c.with_member.ensures
