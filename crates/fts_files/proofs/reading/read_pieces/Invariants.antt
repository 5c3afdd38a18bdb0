use Rattle.std.proofs.Common.{ℕ, ◌+◌, ◌-◌, ◌≤◌, ◌≡◌, List, [], length, take}
use Rattle.fts_files.specs.Script.{Script, LeadsTo}
use Rattle.fts_files.specs.Reading.{reads_on}
use Rattle.fts_files.proofs.reading.read_pieces.Given as goal

-- so many bytes were read, by no more reads than there are of them
abbrev pub invariant-reads : goal.invariant-reads
invariant-reads g l = record {
  long : length l.into ≡ length l.initial.into;
  within : l.done ≤ length l.into;
  some : l.i ≤ l.done;
  script : (next : List ℕ → Script) → LeadsTo (reads_on (g.F.FileSystem.number l.file) next (length l.initial.into) l.offset (length l.initial.into) []) (g.F.FileSystem.calls l.initial.files)
      (reads_on (g.F.FileSystem.number l.file) next (length l.initial.into - l.i) (l.offset + l.done) (length l.initial.into - l.done) (take l.done l.into)) (g.F.FileSystem.calls l.files);
}
