-- The rules behind those on the URLs decide, and a document that breaks none has its job.
use Rattle.std.proofs.Common.{◌≡◌, Err, Ok, None, map, ap, inl, rules, ◌∙◌}
use Rattle.serde_json.specs.View.{view}
use Rattle.fts_tables.specs.FirstFault.{first_fault}
use Rattle.fts_jobdoc.specs.Json.{files_of}
use Rattle.fts_jobdoc.specs.Ends.{ends_of}
use Rattle.fts_jobdoc.specs.Documents.{rules_of, job_in}
use Rattle.fts_jobdoc.proofs.Chain.{exit_later, none_broken}
use Rattle.fts_jobdoc.proofs.document.Document.job.Goals as goal

pub returns-in_err-check_later : goal.returns-in_err-check_later
unfolding job_in
returns-in_err-check_later c =
    let ends : c.as_slice-ends.result.now ≡ map ends_of (files_of (view c.args.self.now.value)) = c.as_slice-ends.ensures ∙ c.requires.ends in
    let is : c.from_residual.result ≡ Err c.in_err-check_later.field-0.0 = search rules in
    rw is (exit_later (view c.args.self.now.value) c.args.settings.now (map view c.list_under-files.result.now) c.as_slice-ends.result.now _
    c.in_err-check_later.field-0.0 c.list_under-files.ensures ends c.requires.early c.in_err-check_later.ensures)

pub make_job-requires-clause-kept : goal.make_job-requires-clause-kept
make_job-requires-clause-kept c =
    none_broken (view c.args.self.now.value) c.args.settings.now (map view c.list_under-files.result.now) c.as_slice-ends.result.now
    c.list_under-files.ensures (c.as_slice-ends.ensures ∙ c.requires.ends) c.requires.early c.in_ok-check_later.ensures

pub returns : goal.returns
unfolding job_in
returns c =
    let none : first_fault (rules_of (view c.args.self.now.value) c.args.settings.now) ≡ None =
    none_broken (view c.args.self.now.value) c.args.settings.now (map view c.list_under-files.result.now) c.as_slice-ends.result.now
    c.list_under-files.ensures (c.as_slice-ends.ensures ∙ c.requires.ends) c.requires.early c.in_ok-check_later.ensures in
    inl (rw none (ap Ok c.in_ok-job.ensures))
