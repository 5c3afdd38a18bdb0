-- Between the gates stand as many bodies as there are gates.
use Rattle.std.proofs.Common.{arith}
use Rattle.fts_journal.proofs.Spans.{length-between}
use Rattle.fts_journal.proofs.journal.Journal.used.Goals as goal

pub returns-clause-least : goal.returns-clause-least
returns-clause-least g c = rw (← c.self.view_is) (omega (arith, c.self.invariant.bounds.low, length-between c.self.inside.gates.items c.self.inside.used))
