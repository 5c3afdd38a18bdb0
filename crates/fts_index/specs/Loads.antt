-- What a `Loads` is to its callers, and what it keeps.
use Rattle.std.specs.Prelude.{List, [], ◌∷◌, ◌++◌, map, replicate}
use Rattle.fts_index.specs.Links.{Link, LinkLists, AreInOrder}
use Rattle.fts_index.specs.declared.loads.Known.{Known}
use Rattle.fts_index.specs.declared.loads.Loads.TheInside.{Inside}

-- the link of an entry
abbrev pub link_of_known : Known → Link
link_of_known known = record { source = known.source; dest = known.dest }

-- the link of each entry, as often as it counts
abbrev pub links_counted : List Known → List Link
links_counted [] = []
links_counted (known ∷ others) = replicate known.count (link_of_known known) ++ links_counted others

-- the links counted, and the links known
abbrev pub link_lists : Inside → LinkLists
link_lists loads = record { links = links_counted loads.known.items; known = map link_of_known loads.known.items }

-- each link goes before those behind it
pub record AreLoads (loads : Inside) : Type 0 where
  pub order : AreInOrder (map link_of_known loads.known.items)
