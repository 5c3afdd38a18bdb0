use Rattle.std.proofs.Common.{drop, filter, map, string_bytes}
use Rattle.fts_files.specs.Script.{Script, LeadsTo}
use Rattle.fts_store.specs.Sweep.{is_part_name, clears_each}
use Rattle.fts_store.proofs.sweep.clear_parts.Given as goal

-- so many of the names were gone through
abbrev pub invariant-names : goal.invariant-names
invariant-names g l = (next : Script) → LeadsTo (clears_each l.folder (filter is_part_name (map string_bytes l.fn.names)) next)
    (g.F.FileSystem.calls l.initial.files)
    (clears_each l.folder (filter is_part_name (map string_bytes (drop l.name-index l.fn.names))) next) (g.F.FileSystem.calls l.files)
