use Rattle.std.proofs.Common.{◌≡◌, ◌≤◌, ◌+◌, ◌*◌, ◌-◌, length, drop}
use Rattle.fts_tables.specs.declared.limits.TheConstants.{JOURNAL_END}
use Rattle.fts_disk.specs.Disk.{IsTold}
use Rattle.fts_journal.specs.Journal.{spans_between, IsBounded}
use Rattle.fts_journal.specs.Loading.{HasRead, IsPiece, IsQuiet}
use Rattle.fts_journal.proofs.loading.pass_bodies.Given as goal

abbrev pub invariant-gates : goal.invariant-gates
invariant-gates g l = record {
  told : (g.D.Disk.state l.disk).told ≡ (g.D.Disk.state l.fn.disk).told;
  quiet : IsTold (g.D.Disk.state l.fn.disk) → IsQuiet (g.D.Disk.state l.fn.disk) (g.D.Disk.state l.disk);
  counts : g.D.Disk.faults l.fn.disk ≤ g.D.Disk.faults l.disk;
  end : IsTold (g.D.Disk.state l.fn.disk) → l.known ≡ length (g.D.Disk.state l.fn.disk).seen;
  piece : IsTold (g.D.Disk.state l.fn.disk) → IsPiece (g.D.Disk.state l.fn.disk).seen l.piece.start l.piece.bytes.items;
  from : l.piece.start ≤ l.used;
  bounds : IsBounded (spans_between l.gates.items l.used) l.used;
  read : IsTold (g.D.Disk.state l.fn.disk)
      → HasRead (g.D.Disk.state l.fn.disk).seen (drop l.used (g.D.Disk.state l.fn.disk).seen) l.used (spans_between l.gates.items l.used);
}

-- either the known end rises, or a body is passed
abbrev pub decreases-gates : goal.decreases-gates
decreases-gates g l = (18446744073709551615 - l.known) * (JOURNAL_END + 1) + (JOURNAL_END - l.used)
