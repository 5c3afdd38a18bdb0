use Rattle.std.proofs.Common.{◌-◌, map, string_bytes, take}
use Rattle.fts_files.specs.Script.{Script, LeadsTo}
use Rattle.fts_store.specs.Folders.{makes_down}
use Rattle.fts_store.proofs.folders.make_all.Given as goal

-- so many of them are made
abbrev pub invariant-folders : goal.invariant-folders
invariant-folders g l = (next : Script) → LeadsTo (makes_down (map string_bytes l.folders) next) (g.F.FileSystem.calls l.initial.files)
    (makes_down (take (l.count - l.i) (map string_bytes l.folders)) next) (g.F.FileSystem.calls l.files)
