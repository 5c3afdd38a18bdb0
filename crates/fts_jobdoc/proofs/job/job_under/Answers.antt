-- A document that is refused before the settings, and what it comes to under them.
use Rattle.std.proofs.Common.{◌≡◌, Err, rules, subst}
use Rattle.std.specs.Prelude.{Result}
use Rattle.fts_jobdoc.specs.Json.{value_of}
use Rattle.fts_jobdoc.specs.Document.{IsReadAs}
use Rattle.fts_jobdoc.specs.Documents.{job_of}
use Rattle.fts_jobdoc.specs.declared.document.Document.{Document}
use Rattle.fts_jobdoc.specs.declared.fault.DocFault.{DocFault}
use Rattle.fts_jobdoc.proofs.Chain.{refused_under, read_under}
use Rattle.fts_jobdoc.proofs.job.job_under.Goals as goal

pub returns-in_err-document : goal.returns-in_err-document
unfolding job_of
returns-in_err-document c body read =
    let is : c.from_residual.result ≡ Err c.in_err-document.field-0.0 = search rules in
    rw is (refused_under (value_of body) c.args.settings.now c.in_err-document.field-0.0
    (subst (λ (read : Result Document DocFault). IsReadAs body read) c.in_err-document.was read))

pub returns : goal.returns
unfolding job_of
returns c body read = read_under (value_of body) c.args.settings.now c.in_ok-document.field-0 c.job.result
    (subst (λ (read : Result Document DocFault). IsReadAs body read) c.in_ok-document.was read) c.job.ensures
