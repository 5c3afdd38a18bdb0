-- Each thread leaves one thread less to begin.
use Rattle.std.proofs.Common.{◌+◌, ◌*◌}
use Rattle.fts_devices.proofs.threads.+deeper.Given as goal

abbrev pub decreases-begin : goal.decreases-begin
decreases-begin g l = 2 * l.left

abbrev pub decreases-join_mut+arg2 : goal.decreases-join_mut+arg2
decreases-join_mut+arg2 g l = 2 * l.others + 1
