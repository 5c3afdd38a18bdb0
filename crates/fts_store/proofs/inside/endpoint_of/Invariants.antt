use Rattle.std.proofs.Common.{◌≡◌, ◌++◌, map, take, codes}
use Rattle.fts_store.specs.Paths.{comma_for}
use Rattle.fts_store.proofs.inside.endpoint_of.Given as goal

-- the letters so far stand behind the root
abbrev pub invariant-letters : goal.invariant-letters
invariant-letters l = l.folder.items ≡ (l.root ++ codes "/") ++ map comma_for (take l.byte-index l.letters)
