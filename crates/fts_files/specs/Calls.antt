-- The calls of a file system, each with what it answered, for one that tells them.
use Rattle.std.specs.Prelude.{ℕ, Option, option_map, Result, Ok, Err, List, [], ◌∷◌, ◌++◌, take}
use Rattle.fts_files.specs.declared.files.Way.{Way}
use Rattle.fts_files.specs.declared.files.Seen.{Seen}
use Rattle.fts_files.specs.declared.errno.Refused.{Refused}

-- what was asked; paths are their bytes, and open files their numbers
pub data Asked : Type 0 where
  Open : List ℕ → Way → Asked
  Look : List ℕ → Asked
  LookAtName : List ℕ → Asked
  LookAtOpen : ℕ → Asked
  -- from which byte on, and how many at most
  ReadAt : ℕ → ℕ → ℕ → Asked
  WriteAt : ℕ → ℕ → List ℕ → Asked
  SyncData : ℕ → Asked
  SyncAll : ℕ → Asked
  Link : List ℕ → List ℕ → Asked
  Rename : List ℕ → List ℕ → Asked
  Unlink : List ℕ → Asked
  MakeFolder : List ℕ → Asked
  -- the pages that aren't waiting to be written are dropped
  Forget : ℕ → Asked
  -- no other opening may hold it
  Lock : ℕ → Asked
  -- the rights of an open file
  SetMode : ℕ → ℕ → Asked
  -- the names in a folder, each with a zero behind it
  Names : List ℕ → Asked
  -- a short rest
  Rest : Asked

-- what was answered
pub data Answer : Type 0 where
  Done : Answer
  -- the number of the open file
  Opened : ℕ → Answer
  Saw : Seen → Answer
  -- these bytes
  Gave : List ℕ → Answer
  -- so many bytes were written
  Counted : ℕ → Answer
  -- refused, with the system's number
  Failed : ℕ → Answer

-- a call
pub record Call : Type 0 where
  pub asked : Asked
  pub answer : Answer

-- the calls that were told, and this one behind them; a file system that tells none tells none
abbrev pub with_call : Option (List Call) → Asked → Answer → Option (List Call)
with_call calls asked answer = option_map (λ list. list ++ record { asked = asked; answer = answer } ∷ []) calls

-- what a call answered that gives nothing
abbrev pub done_of : {T : Type 0} → Result T Refused → Answer
done_of (Ok done) = Done
done_of (Err refused) = Failed refused.errno

-- that opens
abbrev pub opened_of : {H : Type 0} → (H → ℕ) → Result H Refused → Answer
opened_of number (Ok file) = Opened (number file)
opened_of number (Err refused) = Failed refused.errno

-- that looks
abbrev pub saw_of : Result Seen Refused → Answer
saw_of (Ok seen) = Saw seen
saw_of (Err refused) = Failed refused.errno

-- that reads to the front of a buffer
abbrev pub read_of : Result ℕ Refused → List ℕ → Answer
read_of (Ok count) into = Gave (take count into)
read_of (Err refused) into = Failed refused.errno

-- that reads a whole list
abbrev pub gave_of : {T : Type 0} → Result T Refused → List ℕ → Answer
gave_of (Ok done) bytes = Gave bytes
gave_of (Err refused) bytes = Failed refused.errno

-- that writes
abbrev pub counted_of : Result ℕ Refused → Answer
counted_of (Ok count) = Counted count
counted_of (Err refused) = Failed refused.errno
