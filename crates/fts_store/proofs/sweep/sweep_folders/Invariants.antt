use Rattle.std.proofs.Common.{drop, filter, map, string_bytes}
use Rattle.fts_files.specs.Script.{Script, LeadsTo}
use Rattle.fts_store.specs.Sweep.{stays_below, sweeps_each}
use Rattle.fts_store.proofs.sweep.sweep_folders.Given as goal

-- so many of the names were gone through
abbrev pub invariant-names : goal.invariant-names
invariant-names g l = (next : Script) → LeadsTo (sweeps_each l.root (filter stays_below (map string_bytes l.fn.names)) next)
    (g.F.FileSystem.calls l.initial.files)
    (sweeps_each l.root (filter stays_below (map string_bytes (drop l.name-index l.fn.names))) next) (g.F.FileSystem.calls l.files)
