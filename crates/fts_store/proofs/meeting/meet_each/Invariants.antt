use Rattle.std.proofs.Common.{drop, filter, List, map, string_bytes}
use Rattle.fts_files.specs.Script.{Script, LeadsTo}
use Rattle.fts_store.specs.Sweep.{stays_below}
use Rattle.fts_store.specs.Meeting.{Known, known_of, looks_each}
use Rattle.fts_store.proofs.meeting.meet_each.Given as goal

-- so many of the names were gone through, and what the looks saw is known
abbrev pub invariant-names : goal.invariant-names
invariant-names g l = (next : List Known → Script)
    → LeadsTo (looks_each l.root (filter stays_below (map string_bytes l.fn.names)) (map known_of l.initial.met.items) next)
    (g.F.FileSystem.calls l.initial.files)
    (looks_each l.root (filter stays_below (map string_bytes (drop l.name-index l.fn.names))) (map known_of l.met.items) next) (g.F.FileSystem.calls l.files)
