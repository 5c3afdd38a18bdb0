-- Tries so far, of which each goes on, and how many are left.
use Rattle.std.proofs.Common.{◌≤◌, map}
use Rattle.std.specs.List.{concat}
use Rattle.fts_client.specs.Links.{read_side, written_side}
use Rattle.fts_standby.proofs.AskedTries.{TriedSoFar}
use Rattle.fts_standby.proofs.asking.ask.Given as goal

abbrev pub invariant-tries : goal.invariant-tries
invariant-tries g l = record {
  some : 1 ≤ l.left;
  so_far : TriedSoFar (read_side g.L.Line.Source) (written_side g.L.Line.Sink)
      l.port (concat (map (λ part. part.now) l.request)) l.number l.left l.tries
      (g.L.Link.link l.fn.link) (g.L.Link.link l.link) (g.L.Link.faults l.fn.link) (g.L.Link.faults l.link);
}

abbrev pub decreases-tries : goal.decreases-tries
decreases-tries g l = l.left
