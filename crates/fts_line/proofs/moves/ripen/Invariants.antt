-- the files whose moment has come since stand with their destinations, as far as the walk has come
use Rattle.std.proofs.Common.{◌≡◌, length}
use Rattle.std.specs.Prelude.{count_by}
use Rattle.fts_line.specs.Keys.{is_later, waiters_of, AreKeyed, AreDue}
use Rattle.fts_line.proofs.moves.ripen.Given as goal

-- what waits is the same; and a file that stands with its destination had its moment by now
abbrev pub invariant-loop-key : goal.invariant-loop-key
invariant-loop-key l = record {
  keys : AreKeyed l.dests (length l.heads.busy) l.rests l.heads.files;
  waiters : waiters_of l.rests l.heads.files ≡ waiters_of l.fn.rests l.fn.heads.files;
  due : AreDue l.before l.now l.rests l.heads.files;
  busy : l.heads.busy ≡ l.fn.heads.busy;
  room : l.heads.room ≡ l.fn.heads.room;
  dest_room : l.heads.dest_room ≡ l.fn.heads.dest_room;
}

abbrev pub decreases-loop-key : goal.decreases-loop-key
decreases-loop-key l = count_by is_later l.heads.files
