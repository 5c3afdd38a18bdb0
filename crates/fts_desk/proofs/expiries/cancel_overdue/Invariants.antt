-- The files of the first moments go while these have come: what is left to go ends in the same rows, those that became CANCELED are counted, and
-- there is a moment less each time.
use Rattle.std.proofs.Common.{◌≡◌, ◌+◌, length}
use Rattle.fts_tables.specs.Waits.{is_overdue, rows_cancelled}
use Rattle.fts_tables.specs.declared.rows.Reason.TheVariants.{Expired}
use Rattle.fts_desk.specs.Cancels.{count_canceled}
use Rattle.fts_desk.specs.Parts.{limits_of, IsBeside}
use Rattle.fts_desk.specs.Standing.{AreFormed}
use Rattle.fts_desk.proofs.expiries.cancel_overdue.Given as goal

abbrev pub invariant-loop-file : goal.invariant-loop-file
invariant-loop-file l = record {
  formed : AreFormed l.jobs l.rows;
  ends : rows_cancelled Expired l.jobs (is_overdue l.jobs l.now) l.rows ≡ rows_cancelled Expired l.jobs (is_overdue l.jobs l.now) l.fn.rows;
  count : count_canceled l.rows ≡ count_canceled l.fn.rows + l.cancelled;
  beside : IsBeside l.jobs l.rows l.beside;
  limits : limits_of l.beside.parts ≡ limits_of l.fn.beside.parts;
}

abbrev pub decreases-loop-file : goal.decreases-loop-file
decreases-loop-file l = length l.beside.counts.dues.dues
