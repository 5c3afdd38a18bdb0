-- A document that breaks a rule, one with an own id, and one without.
use Rattle.std.proofs.Common.{◌≡◌, Some, None, Ok, Err, ap, inl, refl, sym, ◌∙◌, rules}
use Rattle.std.specs.Prelude.{option_map}
use Rattle.serde_json.specs.View.{view}
use Rattle.fts_jobdoc.specs.Fields.{sid_in}
use Rattle.fts_jobdoc.specs.Sids.{sid_given}
use Rattle.fts_jobdoc.proofs.Chain.{told, kept}
use Rattle.fts_jobdoc.proofs.sid.sid_given.Goals as goal

pub returns-in_err-check_sid_document : goal.returns-in_err-check_sid_document
unfolding sid_given
returns-in_err-check_sid_document c =
    let is : c.from_residual.result ≡ Err c.in_err-check_sid_document.field-0.0 = search rules in
    rw is (inl (rw (told _ c.in_err-check_sid_document.field-0.0 c.in_err-check_sid_document.ensures) refl))

pub returns-in_ok-new-in-Some : goal.returns-in_ok-new-in-Some
unfolding sid_given
returns-in_ok-new-in-Some c =
    let sid : sid_in (view c.args.document.now) ≡ Some c.in-Some.sid.now = sym c.sid_of.ensures ∙ ap (option_map (λ found. found.now)) c.in-Some.is in
    inl (rw (kept _ c.in_ok-check_sid_document.ensures, sid) (ap Ok c.in_ok-new-in-Some.ensures))

pub returns-in-None : goal.returns-in-None
unfolding sid_given
returns-in-None c =
    let sid : sid_in (view c.args.document.now) ≡ None = sym c.sid_of.ensures ∙ ap (option_map (λ found. found.now)) c.in-None.is in
    inl (rw (kept _ c.in_ok-check_sid_document.ensures, sid) refl)
