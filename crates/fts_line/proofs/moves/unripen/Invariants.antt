use Rattle.std.proofs.Common.{◌≡◌, true, false, length}
use Rattle.std.specs.Prelude.{IfSome}
use Rattle.ordered.specs.Orders.{has_key}
use Rattle.fts_heads.specs.RipeFiles.{goes_by_group}
use Rattle.fts_line.specs.Keys.{is_later, waiters_of, AreKeyed, AreDue}
use Rattle.fts_heads.proofs.Passed.{left}
use Rattle.fts_line.proofs.Passed.{ArePast}
use Rattle.fts_line.proofs.moves.unripen.Given as goal

-- what waits is the same; the next key is there, of a file that stands with its destination; and each such file that was passed has had its moment
abbrev pub invariant-loop-next : goal.invariant-loop-next
invariant-loop-next l = record {
  keys : AreKeyed l.dests (length l.heads.busy) l.rests l.heads.files;
  waiters : waiters_of l.rests l.heads.files ≡ waiters_of l.fn.rests l.fn.heads.files;
  due : AreDue l.now l.before l.rests l.heads.files;
  there : IfSome l.next (λ key. has_key goes_by_group key l.heads.files ≡ true);
  ripe : IfSome l.next (λ key. is_later key ≡ false);
  past : ArePast l.rests l.heads.files l.next l.now;
  busy : l.heads.busy ≡ l.fn.heads.busy;
  room : l.heads.room ≡ l.fn.heads.room;
  dest_room : l.heads.dest_room ≡ l.fn.heads.dest_room;
}

abbrev pub decreases-loop-next : goal.decreases-loop-next
decreases-loop-next l = left l.next l.heads.files
