-- The loop that cancels a job's rows: those before the turn's place are cancelled where they are the job's, the others are as they were.
use Rattle.std.proofs.Common.{◌≡◌, ℕ, ◌+◌, ◌<◌, ◌≤◌}
use Rattle.std.specs.Prelude.{slice_get, option_map}
use Rattle.fts_tables.specs.Tables.{AreNumberedFrom}
use Rattle.fts_desk.specs.Cancels.{cancelled_of, count_canceled}
use Rattle.fts_desk.specs.Parts.{limits_of, IsBeside}
use Rattle.fts_desk.proofs.cancels.cancel_all_of.Given as goal

abbrev pub invariant-loop-place : goal.invariant-loop-place
invariant-loop-place l = record {
  done : (at : ℕ) → at < l.place → slice_get l.rows at ≡ option_map (cancelled_of l.reason l.job.number) (slice_get l.fn.rows at);
  rest : (at : ℕ) → l.place ≤ at → slice_get l.rows at ≡ slice_get l.fn.rows at;
  numbered : AreNumberedFrom (λ row. row.id) 1 l.rows;
  count : count_canceled l.rows ≡ count_canceled l.fn.rows + l.canceled;
  beside : IsBeside l.jobs l.rows l.beside;
  limits : limits_of l.beside.parts ≡ limits_of l.fn.beside.parts;
}
