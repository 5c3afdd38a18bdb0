use Rattle.std.proofs.Common.{◌≡◌, take}
use Rattle.fts_disk.specs.Replay.{stopped_on, stopped_through}
use Rattle.fts_disk.proofs.past.Past.after_stop.Given as goal

-- the content, and what a stop leaves, after the calls so far
abbrev pub invariant-loop-call : goal.invariant-loop-call
invariant-loop-call l = stopped_through l.byte (stopped_on l.self.first.items) (take l.call-index l.call-items) ≡ record { content = l.content.items; left = l.left.items }
