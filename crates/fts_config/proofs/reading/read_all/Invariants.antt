-- The loop that reads the items of a list.
use Rattle.std.proofs.Common.{◌≡◌, map, take, drop}
use Rattle.std.specs.List.{flat_map}
use Rattle.toml.specs.View.{view}
use Rattle.fts_config.specs.Reading.{first_bad}
use Rattle.fts_config.proofs.reading.read_all.Given as goal

-- the items so far are read, and the URLs that are left decide
abbrev pub invariant-loop-entry : goal.invariant-loop-entry
invariant-loop-entry g l = record {
  left : first_bad (flat_map g.T.Entry.urls (map view (drop l.entry-index l.entries))) ≡ first_bad (flat_map g.T.Entry.urls (map view l.entries));
  read : l.items ≡ map g.T.Entry.value (map view (take l.entry-index l.entries));
}
