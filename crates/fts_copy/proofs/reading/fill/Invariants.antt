use Rattle.std.proofs.Common.{◌≡◌, ℕ, ◌≤◌, ◌+◌, ◌-◌, Bool, Option, List, take}
use Rattle.fts_store.specs.Store.{IsTold, bytes_of, place_at}
use Rattle.fts_copy.specs.Script.{Script, LeadsTo, log_of, reads_on, reads_piece}
use Rattle.fts_copy.specs.Steps.{IsFilled}
use Rattle.fts_copy.proofs.reading.fill.Given as goal

-- the front of the buffer is the file's, and the store is as before
abbrev pub invariant-loop-filled : goal.invariant-loop-filled
invariant-loop-filled g l = record {
  inside : l.filled ≤ l.wanted;
  same : g.E.Store.state l.store ≡ g.E.Store.state l.initial.store;
  no_fewer : g.E.Store.faults l.initial.store ≤ g.E.Store.faults l.store;
  -- what is left to read, at most so many times
  times : ℕ;
  enough : l.wanted ≤ times + l.filled;
  script : (answers : Option (List Bool)) (next : List ℕ → Script) → LeadsTo (reads_piece (place_at l.fn.at) l.offset l.wanted next) (log_of (g.E.Store.calls l.initial.store) answers)
      (reads_on (place_at l.fn.at) l.offset l.wanted next times (take l.filled l.buffer)) (log_of (g.E.Store.calls l.store) answers);
  read : IsTold (g.E.Store.state l.initial.store) → IsFilled (bytes_of ((g.E.Store.state l.initial.store).files (place_at l.fn.at))) l.offset l.buffer l.filled;
}

abbrev pub decreases-loop-filled : goal.decreases-loop-filled
decreases-loop-filled g l = l.wanted - l.filled
