-- What was tried so far, of which each try goes on, and the end that the last one would be.
use Rattle.std.specs.Prelude.{map}
use Rattle.std.specs.List.{concat}
use Rattle.fts_client.specs.Links.{read_side, written_side}
use Rattle.fts_client.proofs.MoreTries.{TriedSoFar}
use Rattle.fts_client.proofs.repeating.repeat.Given as goal

abbrev pub invariant-loop : goal.invariant-loop
invariant-loop g l = TriedSoFar g.H.Hears.says (read_side g.L.Line.Source) (written_side g.L.Line.Sink)
    l.port (concat (map (λ part. part.now) l.request)) l.counter
    (g.L.Link.link l.fn.link) (g.L.Link.link l.link) (g.L.Link.faults l.fn.link) (g.L.Link.faults l.link)
    l.fn.room l.room l.end
