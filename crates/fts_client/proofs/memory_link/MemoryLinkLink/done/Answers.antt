-- A line that has failed is one fault more.
use Rattle.fts_client.proofs.FailedLines.{counts_line}
use Rattle.fts_client.proofs.memory_link.MemoryLinkLink.done.Goals as goal

pub returns-clause-faults : goal.returns-clause-faults
returns-clause-faults c =
    rw (← c.self.view_is, c.push_reserved.ensures.items) (counts_line c.self.inside.failed c.self.inside.back.items c.args.line)
