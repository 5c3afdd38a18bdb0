-- How a bench is seen, and the room that it keeps.
use Rattle.std.specs.Prelude.{◌≤◌, length, vec_capacity}
use Rattle.fts_workers.specs.Benches.{BenchData}
use Rattle.fts_workers.specs.declared.bench.Bench.TheInside.{Inside}

-- what contracts see of a bench
abbrev pub bench_data : Inside → BenchData
bench_data bench = record { held = bench.held.items; places = bench.places }

-- it holds no more files than it has places, of which there are 1 to 16, and has room for all
pub record IsBench (bench : Inside) : Type 0 where
  pub few : length bench.held.items ≤ bench.places
  pub some : 1 ≤ bench.places
  pub most : bench.places ≤ 16
  pub room : bench.places ≤ vec_capacity bench.held
