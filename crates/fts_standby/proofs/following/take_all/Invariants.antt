-- The entries that were taken so far; each makes the journal longer, below its end.
use Rattle.std.proofs.Common.{◌-◌}
use Rattle.fts_tables.specs.declared.limits.TheConstants.{JOURNAL_END}
use Rattle.fts_client.specs.Links.{read_side, written_side}
use Rattle.fts_standby.proofs.TakenEntries.{TakenSoFar}
use Rattle.fts_standby.proofs.following.take_all.Given as goal

abbrev pub invariant-taking : goal.invariant-taking
invariant-taking g l = TakenSoFar g.D.Disk.state g.D.Disk.faults (read_side g.L.Line.Source) (written_side g.L.Line.Sink)
    l.port l.tries l.fn.journal l.journal (g.L.Link.link l.fn.link) (g.L.Link.link l.link) (g.L.Link.faults l.fn.link) (g.L.Link.faults l.link)

abbrev pub decreases-taking : goal.decreases-taking
decreases-taking g l = JOURNAL_END - l.journal.used
