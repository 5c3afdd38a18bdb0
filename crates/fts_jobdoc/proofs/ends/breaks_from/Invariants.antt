-- The loop over the files behind the first.
use Rattle.std.proofs.Common.{◌≡◌, drop}
use Rattle.fts_jobdoc.specs.Ends.{breaks_from}
use Rattle.fts_jobdoc.proofs.ends.breaks_from.Given as goal

-- what is left gives the same answer as the whole
abbrev pub invariant-loop-next : goal.invariant-loop-next
invariant-loop-next l = breaks_from l.ends (drop l.next-index l.later) ≡ breaks_from l.first l.later
