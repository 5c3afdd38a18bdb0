use Rattle.std.proofs.Common.{◌+◌, ◌-◌, ◌*◌, ◌/◌}
use Rattle.fts_files.specs.Script.{Script, LeadsTo}
use Rattle.fts_disk.specs.Guard.{zeros_on}
use Rattle.fts_disk.proofs.guard.write_zeros.Given as goal

-- so many pieces were written
abbrev pub invariant-zeros : goal.invariant-zeros
invariant-zeros g l = (next : Script) → LeadsTo (zeros_on (g.F.FileSystem.number l.file) next l.to l.from ((l.to - l.from + 65535) / 65536)) (g.F.FileSystem.calls l.initial.files)
    (zeros_on (g.F.FileSystem.number l.file) next l.to (l.from + l.i * 65536) ((l.to - l.from + 65535) / 65536 - l.i)) (g.F.FileSystem.calls l.files)
