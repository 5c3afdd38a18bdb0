use Rattle.std.proofs.Common.{◌≡◌, ◌-◌, ◌≤◌}
use Rattle.std.specs.Prelude.{not, ◌&&◌}
use Rattle.fts_heads.specs.declared.ripe_file.RipeFile.{RipeFile}
use Rattle.fts_heads.specs.Heads.{leads, is_lined, is_within}
use Rattle.fts_heads.proofs.walk.leave.Given as goal

-- it is done for all queues up to one
abbrev pub invariant-loop-head : goal.invariant-loop-head
invariant-loop-head l = record {
  from : l.from ≤ l.queue;
  to : l.queue ≤ l.to;
  lined : (waiter : RipeFile)
      → is_lined l.line.keys waiter ≡ (is_lined l.fn.line.keys waiter && not (is_within l.dest l.from l.queue waiter && leads l.files.keys waiter));
  room : l.line.room ≡ l.fn.line.room;
}

abbrev pub decreases-loop-head : goal.decreases-loop-head
decreases-loop-head l = l.to - l.queue
