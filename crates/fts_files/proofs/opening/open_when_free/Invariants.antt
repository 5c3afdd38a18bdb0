use Rattle.std.proofs.Common.{◌-◌}
use Rattle.fts_files.specs.Calls.{Answer}
use Rattle.fts_files.specs.Script.{Script, LeadsTo}
use Rattle.fts_files.specs.Opening.{opens_within}
use Rattle.fts_files.specs.declared.opening.TheConstants.{MAX_RESTS}
use Rattle.fts_files.proofs.opening.open_when_free.Given as goal

-- so often it was rested
abbrev pub invariant-rests : goal.invariant-rests
invariant-rests g l = (next : Answer → Script) → LeadsTo (opens_within l.path l.way next MAX_RESTS) (g.F.FileSystem.calls l.initial.files)
    (opens_within l.path l.way next (MAX_RESTS - l.i)) (g.F.FileSystem.calls l.files)
