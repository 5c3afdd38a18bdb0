-- What a keep and a bench are between two rounds.
use Rattle.std.specs.Prelude.{List}
use Rattle.fts_tables.specs.declared.commands.Entry.{Entry}
use Rattle.fts_keep.specs.Keeps.{KeepData}
use Rattle.fts_workers.specs.Benches.{BenchData, KeepsOne}
use Rattle.fts_workers.specs.Rounds.{IsWorkedOver}

-- the bench holds the files that some list leaves out, of which the keep is, and an outcome of the first at most
pub record IsReady {D : Type 0} (keep : KeepData D) (bench : BenchData) : Type 0 where
  pub order : (entries : List Entry) × IsWorkedOver keep bench entries
  pub kept : KeepsOne bench.held
