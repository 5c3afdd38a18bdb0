-- The document was sent by tries, and then the id of its job was told; or the link failed in the last try.
use Rattle.std.proofs.Common.{inr, ap, sym, ◌∙◌}
use Rattle.fts_submitting.specs.Ends.{client_status}
use Rattle.fts_submitting.proofs.FailedTries.{submission_sixteen}
use Rattle.fts_submitting.proofs.submitting.run_submit.Goals as goal

pub returns-clause-run : goal.returns-clause-run
returns-clause-run g c = inr (record {
  document = c.in-Ok.document.items;
  document_is = c.in-Ok.ensures.read;
  ended = c.submit-end.result;
  room = c.in-Ok-new.room;
  left = c.submit-end.new.room;
  submitted = rw c.as_slice.ensures.value at c.submit-end.ensures;
  whole = c.tell-whole.result;
  told = c.tell-whole.ensures.told;
  end_is = c.end_of_submission.ensures;
})

pub returns-clause-link : goal.returns-clause-link
returns-clause-link g c = λ sixteen.
    submission_sixteen _ _ _ _ c.submit-end.ensures.tries _ _ _ _ c.submit-end.ensures.tried _ c.submit-end.result c.tell-whole.result c.submit-end.ensures.ends
    (ap client_status (sym c.end_of_submission.ensures) ∙ sixteen)
