use Rattle.fts_delete.proofs.Sizes.{body_some, body_short}
use Rattle.fts_delete.proofs.laws.spellings_are_bodies.Goals as goal

pub returns : goal.returns
returns c = record { some = λ event proper. body_some event; short = body_short }
