use Rattle.std.proofs.Common.{ℕ, ◌-◌, List, length}
use Rattle.fts_files.specs.Script.{Script, LeadsTo}
use Rattle.fts_files.specs.Reading.{reads_once}
use Rattle.fts_files.specs.declared.reading.TheConstants.{READ_TRIES}
use Rattle.fts_files.proofs.reading.read_some.Given as goal

-- so often it was interrupted
abbrev pub invariant-tries : goal.invariant-tries
invariant-tries g l = (next : List ℕ → Script) → LeadsTo (reads_once (g.F.FileSystem.number l.file) l.offset (length l.initial.into) next READ_TRIES) (g.F.FileSystem.calls l.initial.files)
    (reads_once (g.F.FileSystem.number l.file) l.offset (length l.initial.into) next (READ_TRIES - l.i)) (g.F.FileSystem.calls l.files)
