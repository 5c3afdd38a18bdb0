-- The walk of a ban that cancels: no row passed waits at the storage, what is left to go ends in the same rows, and those that became CANCELED are counted.
use Rattle.std.proofs.Common.{◌≡◌, ◌+◌, false, take}
use Rattle.std.specs.List.{list_any}
use Rattle.fts_tables.specs.Waits.{waits_at, rows_cancelled}
use Rattle.fts_tables.specs.declared.rows.Reason.TheVariants.{Cancelled}
use Rattle.fts_desk.specs.Cancels.{count_canceled}
use Rattle.fts_desk.specs.Parts.{limits_of, IsBeside}
use Rattle.fts_desk.specs.Standing.{AreFormed}
use Rattle.fts_desk.proofs.bans.cancel_waiting.Given as goal

abbrev pub invariant-loop-place : goal.invariant-loop-place
invariant-loop-place l = record {
  formed : AreFormed l.jobs l.rows;
  ends : rows_cancelled Cancelled l.jobs (waits_at l.storage) l.rows ≡ rows_cancelled Cancelled l.jobs (waits_at l.storage) l.fn.rows;
  passed : list_any (waits_at l.storage) (take l.place l.rows) ≡ false;
  count : count_canceled l.rows ≡ count_canceled l.fn.rows + l.cancelled;
  beside : IsBeside l.jobs l.rows l.beside;
  limits : limits_of l.beside.parts ≡ limits_of l.fn.beside.parts;
}
