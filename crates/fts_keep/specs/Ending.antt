-- The journal's end, as a list of entries meets it: whether the list kept the first limit, what its restarts cost, and what then has room.
use Rattle.std.specs.Prelude.{◌≡◌, ℕ, ◌+◌, ◌≤◌, true, List, [], ◌∷◌, ◌++◌, length, Result, Ok, Err}
use Rattle.fts_tables.specs.Tables.{Tables, empty_tables}
use Rattle.fts_tables.specs.Step.{step}
use Rattle.fts_tables.specs.History.{IsAccepted}
use Rattle.fts_tables.specs.Settling.{settles, OpenBelow, restarts_from}
use Rattle.fts_tables.specs.declared.commands.Entry.{Entry}
use Rattle.fts_tables.specs.declared.commands.Answer.{Answer}
use Rattle.fts_record.specs.Spelling.{spelled}
use Rattle.fts_record.specs.Proper.{IsProper}
use Rattle.fts_keep.specs.Keeps.{KeepData, IsFilledBy}
use Rattle.fts_keep.specs.Applied.{fits}
use Rattle.fts_keep.specs.declared.fault.KeepFault.{KeepFault}
use Rattle.fts_keep.specs.declared.fault.KeepFault.TheVariants.{Rule, DiskFailed, JournalFull, Damaged, Memory}

-- how many bytes of a journal an entry takes: its gate, its length and its spelling
abbrev pub entry_bytes : Entry → ℕ
entry_bytes entry = 5 + length (spelled entry)

-- each submission, priority and ban of the list ended below the first limit
abbrev pub KeepsFirstLimit : List Entry → Type 0
KeepsFirstLimit entries = OpenBelow entry_bytes 8 entries

-- what the restarts of a list cost: their entries, and one claim more for each row that they released
abbrev pub restarts_cost : List Entry → ℕ
restarts_cost entries = restarts_from entry_bytes empty_tables entries

-- so much they may cost at most: what the greatest tables and all bans leave of a journal
abbrev pub most_for_restarts : ℕ
most_for_restarts = 275888642

-- a list behind which there is room: it kept the first limit, and its restarts cost no more than they may
pub record LeavesRoom (entries : List Entry) : Type 0 where
  pub limit : KeepsFirstLimit entries
  pub restarts : restarts_cost entries ≤ most_for_restarts

-- whatever settles something and is accepted by the machine fits a journal of which so many bytes are used
abbrev pub HasRoom : Tables → ℕ → Type 0
HasRoom tables used = (entry : Entry) → IsProper entry → settles entry.command ≡ true → IsAccepted (step tables entry.command) → fits used entry ≡ true

-- a call wasn't refused for want of room in the journal
abbrev pub IsNotFull : {T : Type 0} → Result T KeepFault → Type 0
IsNotFull (Ok done) = Unit {0}
IsNotFull (Err (JournalFull used)) = ⊥
IsNotFull (Err (Rule refusal)) = Unit {0}
IsNotFull (Err DiskFailed) = Unit {0}
IsNotFull (Err (Damaged offset)) = Unit {0}
IsNotFull (Err Memory) = Unit {0}

-- an entry that was accepted, or for which the journal had no room, is a proper one
abbrev pub ShowsProper : {T : Type 0} → Entry → Result T KeepFault → Type 0
ShowsProper entry (Ok done) = IsProper entry
ShowsProper entry (Err (JournalFull used)) = IsProper entry
ShowsProper entry (Err (Rule refusal)) = Unit {0}
ShowsProper entry (Err DiskFailed) = Unit {0}
ShowsProper entry (Err (Damaged offset)) = Unit {0}
ShowsProper entry (Err Memory) = Unit {0}

-- over every disk: whatever list a keep's tables and bytes are of, they then are of that list with the entry where it was accepted, and else of it
abbrev pub StaysFilled : {D : Type 0} → KeepData D → KeepData D → Entry → Result Answer KeepFault → Type 0
StaysFilled old new entry (Ok answer) = (entries : List Entry) → IsFilledBy old entries → IsFilledBy new (entries ++ entry ∷ [])
StaysFilled old new entry (Err fault) = (entries : List Entry) → IsFilledBy old entries → IsFilledBy new entries
