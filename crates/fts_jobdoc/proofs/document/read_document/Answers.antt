-- The document of a body's value, and a body that has none.
use Rattle.std.proofs.Common.{inl, refl}
use Rattle.fts_jobdoc.proofs.document.read_document.Goals as goal

pub returns-in-Some : goal.returns-in-Some
returns-in-Some c = rw (← c.in_ok-value.ensures, c.in-Some.is) c.checked.ensures

pub returns-in-None : goal.returns-in-None
returns-in-None c = rw (← c.in_ok-value.ensures, c.in-None.is) (inl refl)
