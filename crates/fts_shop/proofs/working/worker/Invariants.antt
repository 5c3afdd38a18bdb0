-- The turns so far, after none of which the worker ended.
use Rattle.std.proofs.Common.{◌≡◌, ℕ}
use Rattle.fts_turnstile.specs.Passes.{IsSame}
use Rattle.fts_shop.specs.Turns.{IsReady}
use Rattle.fts_shop.specs.Workers.{AreTurns, station_data}
use Rattle.fts_shop.proofs.working.worker.Given as goal

abbrev pub invariant-loop : goal.invariant-loop
invariant-loop g l = record {
  turns : (more : ℕ) × AreTurns g.E.Store more
      (station_data g.C.Clock g.W.Words l.initial.station) (station_data g.C.Clock g.W.Words l.station);
  same : IsSame l.initial.station.pass l.station.pass;
  ready : IsReady l.station.bench.held;
  places : l.station.bench.places ≡ l.initial.station.bench.places;
}
