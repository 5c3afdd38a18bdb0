use Rattle.fts_delete.proofs.SomeAsked.{asked_are_some}
use Rattle.fts_delete.proofs.laws.a_document_asks_for_some.Goals as goal

pub returns : goal.returns
returns c = asked_are_some
