-- The loop that fills in the loads: those of the rows so far stand at their places.
use Rattle.std.proofs.Common.{◌≡◌, map, take}
use Rattle.fts_desk.specs.Loaded.{load_in}
use Rattle.fts_desk.proofs.sources.fill_loads.Given as goal

abbrev pub invariant-loop-place : goal.invariant-loop-place
invariant-loop-place l = record {
  loads : take l.place l.filled ≡ map (load_in l.loads) (take l.place l.of_job);
}
