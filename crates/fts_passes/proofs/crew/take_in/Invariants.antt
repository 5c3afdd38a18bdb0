use Rattle.std.proofs.Common.{◌≡◌, [], ◌∷◌}
use Rattle.fts_turnstile.specs.History.{NoneBy}
use Rattle.fts_passes.proofs.Gathered.{TakenSoFar}
use Rattle.fts_passes.proofs.crew.take_in.Given as goal

abbrev pub invariant-loop-pass : goal.invariant-loop-pass
invariant-loop-pass g l = record {
  table : l.first.table ≡ l.initial.first.table;
  number : l.first.number ≡ 0;
  opening : l.first.opening ≡ l.initial.first.opening;
  shows : l.first.opening_shows ≡ l.initial.first.opening_shows;
  given : l.first.given ≡ l.initial.first.given;
  none : NoneBy (0 ∷ []) l.first.seen;
  taken : TakenSoFar l.first l.initial.passes.items l.passes.items;
}

abbrev pub decreases-loop-pass : goal.decreases-loop-pass
decreases-loop-pass g l = goal.left-loop-pass g l
