use Rattle.std.proofs.Common.{map, string_bytes, drop}
use Rattle.fts_files.specs.Script.{Script, LeadsTo}
use Rattle.fts_files.specs.Moving.{syncs}
use Rattle.fts_files.proofs.moving.sync_folders.Given as goal

-- so many of them were synced
abbrev pub invariant-folders : goal.invariant-folders
invariant-folders g l = (next ended : Script) → LeadsTo (syncs (map string_bytes l.folders) next ended) (g.F.FileSystem.calls l.initial.files)
    (syncs (map string_bytes (drop l.folder-index l.folders)) next ended) (g.F.FileSystem.calls l.files)
