use Rattle.std.proofs.Common.{◌≡◌, ◌≤◌, true}
use Rattle.std.specs.Prelude.{IfSome}
use Rattle.ordered.specs.Orders.{has_key}
use Rattle.fts_heads.specs.RipeFiles.{goes_by_group}
use Rattle.fts_heads.proofs.Passed.{left}
use Rattle.fts_heads.proofs.Brought.{IsAhead}
use Rattle.fts_heads.proofs.crowd.bringer_in.Given as goal

-- the next is there, not of a greater destination, and nobody who brought the destination was passed
abbrev pub invariant-loop-next : goal.invariant-loop-next
invariant-loop-next l = record {
  there : IfSome l.next (λ file. has_key goes_by_group file l.files.keys ≡ true);
  dest : IfSome l.next (λ file. file.dest ≤ l.dest);
  ahead : IsAhead l.dest l.files.keys l.next;
}

abbrev pub decreases-loop-next : goal.decreases-loop-next
decreases-loop-next l = left l.next l.files.keys
