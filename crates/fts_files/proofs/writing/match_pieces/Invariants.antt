use Rattle.std.proofs.Common.{◌≤◌, ◌+◌, ◌-◌, length, drop}
use Rattle.fts_files.specs.Script.{Script, LeadsTo}
use Rattle.fts_files.specs.Writing.{matches_on}
use Rattle.fts_files.specs.declared.writing.TheConstants.{MAX_AGAIN}
use Rattle.fts_files.proofs.writing.match_pieces.Given as goal

-- what was compared so far, in so many calls
abbrev pub invariant-calls : goal.invariant-calls
invariant-calls g l = record {
  within : l.done ≤ length l.bytes;
  script : (next : Script) → LeadsTo (matches_on (g.F.FileSystem.number l.file) next (length l.bytes + MAX_AGAIN) l.offset l.bytes) (g.F.FileSystem.calls l.initial.files)
      (matches_on (g.F.FileSystem.number l.file) next (length l.bytes + MAX_AGAIN - l.i) (l.offset + l.done) (drop l.done l.bytes)) (g.F.FileSystem.calls l.files);
}
