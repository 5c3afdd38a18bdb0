-- An input that is too long breaks the rule of that.
use Rattle.std.proofs.Common.{inr, refl}
use Rattle.fts_submitting.proofs.submitting.read_document.Goals as goal

pub returns-in-Err-TooLong-clause-stopped : goal.returns-in-Err-TooLong-clause-stopped
returns-in-Err-TooLong-clause-stopped g c = inr (refl, rw c.in-Err-TooLong.field-0-is at c.in-Err-TooLong.ensures.refused)
