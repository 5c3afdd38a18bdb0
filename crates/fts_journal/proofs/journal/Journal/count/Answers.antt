-- Between the gates stand as many bodies as there are gates.
use Rattle.std.proofs.Common.{rules}
use Rattle.fts_journal.proofs.Spans.{length-sizes, length-told}
use Rattle.fts_journal.proofs.journal.Journal.count.Goals as goal

pub returns-clause-sizes : goal.returns-clause-sizes
returns-clause-sizes g c =
    let same = length-sizes c.self.inside.gates.items c.self.inside.used in
    rw (← c.self.view_is) (search (rules, same))

pub returns-clause-told : goal.returns-clause-told
returns-clause-told g c = rw (← c.self.view_is) (λ told.
    let same = length-told (g.D.Disk.state c.self.inside.disk) c.self.inside.gates.items c.self.inside.used told in
    search (rules, same))
