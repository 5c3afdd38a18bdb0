-- The rows before this one that become CANCELED are counted, and what is kept of a job holds of it.
use Rattle.std.proofs.Common.{◌≡◌, take}
use Rattle.std.specs.Prelude.{count_by}
use Rattle.fts_tables.specs.Waits.{waits_at}
use Rattle.fts_routes.specs.Changes.{goes_whole}
use Rattle.fts_routes.proofs.Counted.{is_counted}
use Rattle.fts_routes.proofs.counts.count_cancelled.Given as goal

-- the loop over the rows
abbrev pub invariant-loop-row : goal.invariant-loop-row
invariant-loop-row l = record {
  counted : l.count ≡ count_by (is_counted l.desk.tables (waits_at l.storage)) (take l.row-index l.desk.tables.rows);
  whole : l.whole ≡ goes_whole l.desk.tables (waits_at l.storage) l.job;
}
