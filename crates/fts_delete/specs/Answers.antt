-- What the readers of the code answer, said by the definitions of `Spelling`. Want of memory is an answer of its own, for no cause.
use Rattle.std.specs.Prelude.{◌≡◌, ℕ, List, Result, Ok, Err}
use Rattle.fts_record.specs.Reading.{Read}
use Rattle.fts_record.specs.Answers.{Stops}
use Rattle.fts_record.specs.declared.stops.Stop.{Stop as RecordStop}
use Rattle.fts_record.specs.declared.stops.Stop.TheVariants as of_record
use Rattle.fts_delete.specs.declared.events.Event.{Event}
use Rattle.fts_delete.specs.declared.reading.Stop.{Stop}
use Rattle.fts_delete.specs.declared.reading.Stop.TheVariants.{OutOfMemory, Unspelled}
use Rattle.fts_delete.specs.declared.reading.EventFault.{EventFault}
use Rattle.fts_delete.specs.declared.reading.EventFault.TheVariants.{BadEvent, Memory}

-- why reading stopped, as the readers of entries say it
abbrev pub stop_of : Stop → RecordStop
stop_of OutOfMemory = of_record.OutOfMemory
stop_of (Unspelled left) = of_record.Unspelled left

-- what a reader returned is, seen so, what reading answers
abbrev pub Gives : {R A : Type 0} → (R → A × List ℕ) → Result R Stop → Read A → Type 0
Gives seen (Ok value) read = read ≡ Ok (seen value)
Gives seen (Err stop) read = Stops (stop_of stop) read

-- what was returned is the event that the bytes spell, or the place of the first field that is not spelled
abbrev pub Tells : Result Event EventFault → Result Event ℕ → Type 0
Tells (Ok event) read = read ≡ Ok event
Tells (Err (BadEvent place)) read = read ≡ Err place
Tells (Err Memory) read = Unit {0}
