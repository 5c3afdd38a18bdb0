-- What a `Line` keeps.
use Rattle.std.specs.Prelude.{◌≡◌, ℕ, List, length}
use Rattle.fts_queue.specs.WaitingData.{WaitingData, AreWaiting}
use Rattle.fts_queue.specs.declared.rooms.QueueRoom.{QueueRoom}
use Rattle.fts_heads.specs.Heads.{HeadsData}
use Rattle.fts_line.specs.Keys.{waiters_of, AreKeyed, AreDue}

-- the files that wait: those of the keys
abbrev pub waiting_of : HeadsData → List ℕ → List QueueRoom → ℕ → WaitingData
waiting_of heads rests rooms moment = record { waiters = waiters_of rests heads.files; moment = moment; rooms = rooms }

-- each key is that of its file, and stands with its destination exactly where its moment has come; queues have room for their files; and each file with a number
-- brought a destination
pub record IsLine (heads : HeadsData) (rests : List ℕ) (rooms : List QueueRoom) (dests : List ℕ) (moment : ℕ) : Type 0 where
  pub keys : AreKeyed dests (length heads.busy) rests heads.files
  pub due : AreDue moment moment rests heads.files
  pub waiting : AreWaiting (waiting_of heads rests rooms moment)
  pub rows : length dests ≡ length heads.busy
