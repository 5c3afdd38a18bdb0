-- The parts so far stand behind the text.
use Rattle.std.proofs.Common.{◌≡◌, ◌++◌, take}
use Rattle.std.specs.Prelude.{map}
use Rattle.std.specs.List.{concat}
use Rattle.fts_show.proofs.gathered.put.Given as goal

abbrev pub invariant-parts : goal.invariant-parts
invariant-parts l = record {
  line : l.text.items ≡ l.fn.text.items ++ concat (map (λ part. part.now) (take l.part-index l.parts));
}
