-- The newest so far is the last that gave the reason.
use Rattle.std.proofs.Common.{◌≡◌, take, None}
use Rattle.std.specs.Prelude.{filter}
use Rattle.std.specs.List.{last_or}
use Rattle.fts_board.specs.Snapshot.{is_for}
use Rattle.fts_board.proofs.failures.newest_for.Given as goal

abbrev pub invariant-loop-report : goal.invariant-loop-report
invariant-loop-report l = l.newest ≡ last_or None (filter (is_for l.reason) (take l.report-index l.reports))
