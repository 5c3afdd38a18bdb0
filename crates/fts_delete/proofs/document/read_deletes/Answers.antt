-- What a body's value asks for, and a body that has none.
use Rattle.std.proofs.Common.{inl, refl}
use Rattle.fts_delete.specs.Documents.{deletes_in}
use Rattle.fts_delete.proofs.document.read_deletes.Goals as goal

pub returns-in-Some : goal.returns-in-Some
unfolding deletes_in
returns-in-Some c = rw (← c.in_ok-document.ensures, c.in-Some.is) c.asked_by.ensures

pub returns-in-None : goal.returns-in-None
unfolding deletes_in
returns-in-None c = rw (← c.in_ok-document.ensures, c.in-None.is) (inl refl)
