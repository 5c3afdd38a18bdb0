-- Following: what was asked for and heard, which entries were appended, where it ended, and what the journal and its disk hold then.
use Rattle.std.specs.Prelude.{◌≡◌, ◌≢◌, ◌⊎◌, ℕ, ◌+◌, ◌≤◌, ◌<◌, Bool, true, false, Option, Some, None, option_to_list, List, [], ◌∷◌, ◌++◌, length, map, slice_get, Result, Ok, Err}
use Rattle.fts_tables.specs.Counts.{Rose}
use Rattle.fts_tables.specs.declared.limits.TheConstants.{JOURNAL_END}
use Rattle.fts_disk.specs.Disk.{DiskState, IsTold, LeavesOnly}
use Rattle.fts_journal.specs.Format.{Stands}
use Rattle.fts_journal.specs.Journal.{JournalData, IsImageOf, IsSound}
use Rattle.fts_wire.specs.Outside.{Side}
use Rattle.fts_client.specs.Links.{LinkData}
use Rattle.fts_client.specs.Tries.{Try, AreTried}
use Rattle.fts_standby.specs.Hearing.{Gives, NoneThere, Refuses, CannotServe, NoAnswer, LinkFailed}
use Rattle.fts_standby.specs.Asking.{request_bytes, IsAsked, IsCut, Request, AreMade}
use Rattle.fts_standby.specs.declared.ends.FollowEnd.{FollowEnd}
use Rattle.fts_standby.specs.declared.ends.FollowEnd.TheVariants as ends

-- ---- the journal

-- the content stands for the list with a beginning of what came behind it
pub record StandsWith (list came : List (List ℕ)) (content : List ℕ) : Type 0 where
  pub since : List (List ℕ)
  pub later : List (List ℕ)
  pub parts : came ≡ since ++ later
  pub stands : Stands content (list ++ since)

-- the content stands for the list, or for it with its doubt, or for it with a beginning of the entries that came
abbrev pub IsMoment : List (List ℕ) → Option (List ℕ) → List (List ℕ) → List ℕ → Type 0
IsMoment list doubt came content = IsImageOf list doubt content ⊎ StandsWith list came content

-- how many bytes of a journal are used once these entries stand behind so many
abbrev pub used_after : ℕ → List (List ℕ) → ℕ
used_after used [] = used
used_after used (entry ∷ entries) = used_after (used + 5 + length entry) entries

-- These entries were appended to a journal, of those that came. At each moment a crash leaves the list as it was, with its doubt, or with a
-- beginning of what came.
pub record Grows {D : Type 0} (state : D → DiskState) (faults : D → ℕ) (old new : JournalData D) (came entries : List (List ℕ)) : Type 0 where
  pub told : (state new.disk).told ≡ (state old.disk).told
  pub counts : faults old.disk ≤ faults new.disk
  pub count : new.count ≡ old.count + length entries
  pub used : new.used ≡ used_after old.used entries
  pub sizes : new.sizes ≡ old.sizes ++ map (λ entry. length entry) entries
  pub listed : IsTold (state old.disk) → new.bodies ≡ old.bodies ++ entries
  pub moments : IsTold (state old.disk) → LeavesOnly (state old.disk) (state new.disk) (IsMoment old.bodies old.doubt came)

-- nothing is in doubt
pub record IsSure {D : Type 0} (state : D → DiskState) (journal : JournalData D) : Type 0 where
  pub sure : journal.in_doubt ≡ false
  pub none : IsTold (state journal.disk) → journal.doubt ≡ None

-- an entry is in doubt
pub record IsInDoubt {D : Type 0} (state : D → DiskState) (journal : JournalData D) (entry : List ℕ) : Type 0 where
  pub unsure : journal.in_doubt ≡ true
  pub one : IsTold (state journal.disk) → journal.doubt ≡ Some entry

-- an entry whose append failed is in doubt, or nothing is
abbrev pub DoubtsAtMost : {D : Type 0} → (D → DiskState) → JournalData D → Option (List ℕ) → Type 0
DoubtsAtMost state journal None = IsSure state journal
DoubtsAtMost state journal (Some entry) = IsSure state journal ⊎ IsInDoubt state journal entry

-- nothing is in doubt, and a crash leaves the list
pub record IsReady {D : Type 0} (state : D → DiskState) (journal : JournalData D) : Type 0 where
  pub sure : IsSure state journal
  pub sound : IsSound (state journal.disk) journal.bodies journal.doubt

-- this is the journal's entry of that number, where its disk tells it
abbrev pub IsOwn : {D : Type 0} → (D → DiskState) → JournalData D → ℕ → List ℕ → Type 0
IsOwn state journal number own = IsTold (state journal.disk) → slice_get journal.bodies number ≡ Some own

-- ---- the comparison with the last entry

-- the service has that entry, and it is the journal's own
pub record IsSame {D : Type 0} (state : D → DiskState) (journal : JournalData D) (number most : ℕ) (tries : List Try) : Type 0 where
  pub own : List ℕ
  pub is_own : IsOwn state journal number own
  pub given : IsAsked number most tries (Gives own)

-- the service has another one
pub record IsOther {D : Type 0} (state : D → DiskState) (journal : JournalData D) (number most : ℕ) (tries : List Try) : Type 0 where
  pub own : List ℕ
  pub is_own : IsOwn state journal number own
  pub entry : List ℕ
  pub given : IsAsked number most tries (Gives entry)
  pub other : entry ≢ own

-- the service gave an entry of this number
pub record IsGiven (number most : ℕ) (tries : List Try) : Type 0 where
  pub entry : List ℕ
  pub given : IsAsked number most tries (Gives entry)

-- how following ends at its last entry, for which these tries were made
abbrev pub EndsComparing : {D : Type 0} → (D → DiskState) → JournalData D → ℕ → ℕ → List Try → FollowEnd → Type 0
EndsComparing state journal number most tries (ends.CaughtUp count) = ⊥
EndsComparing state journal number most tries (ends.Diverged at) =
    (at ≡ number) × (IsAsked number most tries NoneThere ⊎ IsOther state journal number most tries)
EndsComparing state journal number most tries (ends.Refused status) = IsAsked number most tries (Refuses status)
EndsComparing state journal number most tries (ends.CannotServe status) = IsAsked number most tries (CannotServe status)
EndsComparing state journal number most tries ends.NoAnswer = IsAsked number most tries NoAnswer
EndsComparing state journal number most tries ends.LinkFailed = IsAsked number most tries LinkFailed
-- its own entry could not be read
EndsComparing state journal number most tries ends.DiskFailed = IsGiven number most tries
EndsComparing state journal number most tries (ends.JournalFull used) = ⊥
EndsComparing state journal number most tries ends.Memory = IsCut number most tries

-- ---- taking entries

-- an entry that was taken: the tries of its request, and its bytes
pub record Taken : Type 0 where
  pub tries : List Try
  pub entry : List ℕ

abbrev pub entries_of : List Taken → List (List ℕ)
entries_of taken = map (λ (one : Taken). one.entry) taken

-- entries were taken one after the other, from this count and so many used bytes on: each was given for the number of the count, and has room
abbrev pub AreTaken : ℕ → ℕ → ℕ → List Taken → Type 0
AreTaken most count used [] = Unit {0}
AreTaken most count used (one ∷ more) =
    IsAsked count most one.tries (Gives one.entry) × (used + 6 + length one.entry ≤ JOURNAL_END)
    × AreTaken most (count + 1) (used + 5 + length one.entry) more

-- their requests
abbrev pub requests_from : ℕ → List Taken → List Request
requests_from number [] = []
requests_from number (one ∷ more) = record { number = number; tries = one.tries } ∷ requests_from (number + 1) more

-- the append of an entry that was given failed, though it had room
pub record IsLost (number used most : ℕ) (tries : List Try) (lost : Option (List ℕ)) : Type 0 where
  pub entry : List ℕ
  pub given : IsAsked number most tries (Gives entry)
  pub room : used + 6 + length entry ≤ JOURNAL_END
  pub lost_is : lost ≡ Some entry

-- an entry that was given has no room
pub record IsTooLong (number used most : ℕ) (tries : List Try) : Type 0 where
  pub entry : List ℕ
  pub given : IsAsked number most tries (Gives entry)
  pub full : JOURNAL_END < used + 6 + length entry

-- how following ends at the entry behind the last one, for which these tries were made
abbrev pub EndsTaking : ℕ → ℕ → ℕ → List Try → Option (List ℕ) → FollowEnd → Type 0
EndsTaking number used most tries lost (ends.CaughtUp count) = (count ≡ number) × IsAsked number most tries NoneThere
EndsTaking number used most tries lost (ends.Diverged at) = ⊥
EndsTaking number used most tries lost (ends.Refused status) = IsAsked number most tries (Refuses status)
EndsTaking number used most tries lost (ends.CannotServe status) = IsAsked number most tries (CannotServe status)
EndsTaking number used most tries lost ends.NoAnswer = IsAsked number most tries NoAnswer
EndsTaking number used most tries lost ends.LinkFailed = IsAsked number most tries LinkFailed
EndsTaking number used most tries lost ends.DiskFailed = IsLost number used most tries lost
EndsTaking number used most tries lost (ends.JournalFull at) = (at ≡ used) × IsTooLong number used most tries
EndsTaking number used most tries lost ends.Memory = IsCut number most tries

-- ---- the whole call

-- an old doubt could not be ended, and that was all
pub record StopsUnsettled {D : Type 0} (state : D → DiskState) (old new : JournalData D) (requests : List Request) (entries : List (List ℕ))
    (lost : Option (List ℕ)) (end : FollowEnd) : Type 0 where
  pub end_is : end ≡ ends.DiskFailed
  pub was : old.in_doubt ≡ true
  pub still : new.in_doubt ≡ true
  pub doubt : IsTold (state old.disk) → new.doubt ≡ old.doubt
  pub none_asked : requests ≡ []
  pub none_taken : entries ≡ []
  pub none_lost : lost ≡ None

-- there are entries, and following ends at the last one, for which these tries were made and no others
pub record EndsAtLast {D : Type 0} (state : D → DiskState) (most : ℕ) (old : JournalData D) (requests : List Request) (end : FollowEnd) : Type 0 where
  pub number : ℕ
  pub last : number + 1 ≡ old.count
  pub tries : List Try
  pub ends_so : EndsComparing state old number most tries end
  pub asked : requests ≡ record { number = number; tries = tries } ∷ []

-- and that was all
pub record StopsComparing {D : Type 0} (state : D → DiskState) (most : ℕ) (old new : JournalData D) (requests : List Request) (entries : List (List ℕ))
    (lost : Option (List ℕ)) (end : FollowEnd) : Type 0 where
  pub counted : IsTold (state old.disk) → length old.bodies ≡ old.count
  pub at_last : EndsAtLast state most old requests end
  pub sure : IsSure state new
  pub none_taken : entries ≡ []
  pub none_lost : lost ≡ None

-- where there are entries, these tries found that the last one is the service's
abbrev pub HasSameLast : {D : Type 0} → (D → DiskState) → JournalData D → ℕ → List Request → Type 0
HasSameLast state journal most [] = journal.count ≡ 0
HasSameLast state journal most (request ∷ []) = (request.number + 1 ≡ journal.count) × IsSame state journal request.number most request.tries
HasSameLast state journal most (request ∷ other ∷ others) = ⊥

-- its last entry, if it has one, is the service's, and it ended at the entry behind the last one that was taken
pub record StopsTaking {D : Type 0} (state : D → DiskState) (most : ℕ) (old new : JournalData D) (requests : List Request) (entries : List (List ℕ))
    (lost : Option (List ℕ)) (end : FollowEnd) : Type 0 where
  pub counted : IsTold (state old.disk) → length old.bodies ≡ old.count
  pub compared : List Request
  pub same : HasSameLast state old most compared
  pub taken : List Taken
  pub each : AreTaken most old.count old.used taken
  pub tries : List Try
  pub ends_so : EndsTaking (old.count + length taken) (used_after old.used entries) most tries lost end
  pub doubt : DoubtsAtMost state new lost
  pub whole : end ≢ ends.DiskFailed → lost ≡ None
  pub asked : requests ≡ compared ++ (requests_from old.count taken ++ record { number = old.count + length taken; tries = tries } ∷ [])
  pub entries_are : entries ≡ entries_of taken

-- What following did: to the link by the requests that were made, to the journal by the entries that were appended and the one whose append failed.
pub record Followed {D L : Type 0} (state : D → DiskState) (faults : D → ℕ) (read written : Side L) (port most : ℕ) (old new : JournalData D)
    (link left : LinkData L) (broken failed : ℕ) (end : FollowEnd) : Type 0 where
  pub requests : List Request
  pub made : AreMade read written port link left broken failed requests
  pub entries : List (List ℕ)
  pub lost : Option (List ℕ)
  pub grows : Grows state faults old new (entries ++ option_to_list lost) entries
  pub stops : StopsUnsettled state old new requests entries lost end
      ⊎ (StopsComparing state most old new requests entries lost end ⊎ StopsTaking state most old new requests entries lost end)

-- ---- its steps

-- a doubt was ended, or not
abbrev pub SettlesBy : {D : Type 0} → (D → DiskState) → (D → ℕ) → JournalData D → JournalData D → Result (Unit {0}) FollowEnd → Type 0
SettlesBy state faults old new (Ok done) = IsReady state new
SettlesBy state faults old new (Err end) =
    (end ≡ ends.DiskFailed) × (old.in_doubt ≡ true) × (new.in_doubt ≡ true) × (IsTold (state old.disk) → new.doubt ≡ old.doubt)
    × Rose (faults old.disk) (faults new.disk)

pub record Settles {D : Type 0} (state : D → DiskState) (faults : D → ℕ) (old new : JournalData D) (result : Result (Unit {0}) FollowEnd) : Type 0 where
  pub answer : SettlesBy state faults old new result
  pub grows : Grows state faults old new [] []

-- a journal's own entry was looked at, or why not
abbrev pub LooksBy : {D : Type 0} → (D → DiskState) → (D → ℕ) → JournalData D → JournalData D → ℕ → List ℕ → Result Bool FollowEnd → Type 0
LooksBy state faults old new number entry (Ok true) = IsOwn state old number entry
LooksBy state faults old new number entry (Ok false) = (own : List ℕ) × IsOwn state old number own × (entry ≢ own)
LooksBy state faults old new number entry (Err end) =
    ((end ≡ ends.DiskFailed) × Rose (faults old.disk) (faults new.disk)) ⊎ (end ≡ ends.Memory)

pub record LooksAtOwn {D : Type 0} (state : D → DiskState) (faults : D → ℕ) (old new : JournalData D) (number : ℕ) (entry : List ℕ)
    (result : Result Bool FollowEnd) : Type 0 where
  pub answer : LooksBy state faults old new number entry result
  pub grows : Grows state faults old new [] []
  pub ready : IsReady state new

-- the comparison with the last entry
abbrev pub ComparesBy : {D : Type 0} → (D → DiskState) → ℕ → JournalData D → List Request → Result (Unit {0}) FollowEnd → Type 0
ComparesBy state most old requests (Ok done) = HasSameLast state old most requests
ComparesBy state most old requests (Err end) = EndsAtLast state most old requests end

pub record Compares {D L : Type 0} (state : D → DiskState) (faults : D → ℕ) (read written : Side L) (port most : ℕ) (old new : JournalData D)
    (link left : LinkData L) (broken failed : ℕ) (result : Result (Unit {0}) FollowEnd) : Type 0 where
  pub counted : IsTold (state old.disk) → length old.bodies ≡ old.count
  pub requests : List Request
  pub made : AreMade read written port link left broken failed requests
  pub answer : ComparesBy state most old requests result
  pub grows : Grows state faults old new [] []
  pub ready : IsReady state new
  pub cause : result ≡ Err ends.DiskFailed → Rose (faults old.disk) (faults new.disk)

-- an entry was appended, or why not
abbrev pub AppendsBy : {D : Type 0} → (D → DiskState) → (D → ℕ) → JournalData D → JournalData D → List ℕ → Result (Unit {0}) FollowEnd → Type 0
AppendsBy state faults old new entry (Ok done) =
    (old.used + 6 + length entry ≤ JOURNAL_END) × Grows state faults old new (entry ∷ []) (entry ∷ []) × IsReady state new
AppendsBy state faults old new entry (Err ends.DiskFailed) =
    (old.used + 6 + length entry ≤ JOURNAL_END) × Grows state faults old new (entry ∷ []) []
    × (IsSure state new ⊎ IsInDoubt state new entry) × Rose (faults old.disk) (faults new.disk)
AppendsBy state faults old new entry (Err (ends.JournalFull at)) = (at ≡ old.used) × (JOURNAL_END < old.used + 6 + length entry) × (new ≡ old)
AppendsBy state faults old new entry (Err ends.Memory) = new ≡ old
AppendsBy state faults old new entry (Err (ends.CaughtUp count)) = ⊥
AppendsBy state faults old new entry (Err (ends.Diverged number)) = ⊥
AppendsBy state faults old new entry (Err (ends.Refused status)) = ⊥
AppendsBy state faults old new entry (Err (ends.CannotServe status)) = ⊥
AppendsBy state faults old new entry (Err ends.NoAnswer) = ⊥
AppendsBy state faults old new entry (Err ends.LinkFailed) = ⊥

-- the entry behind the last one was taken, or following ended at it
pub record TakesOne {D : Type 0} (state : D → DiskState) (faults : D → ℕ) (most : ℕ) (old new : JournalData D) (tries : List Try) : Type 0 where
  pub entry : List ℕ
  pub given : IsAsked old.count most tries (Gives entry)
  pub room : old.used + 6 + length entry ≤ JOURNAL_END
  pub grows : Grows state faults old new (entry ∷ []) (entry ∷ [])
  pub ready : IsReady state new

pub record TakesNone {D : Type 0} (state : D → DiskState) (faults : D → ℕ) (most : ℕ) (old new : JournalData D) (tries : List Try) (end : FollowEnd) : Type 0 where
  pub lost : Option (List ℕ)
  pub ends_so : EndsTaking old.count old.used most tries lost end
  pub doubt : DoubtsAtMost state new lost
  pub whole : end ≢ ends.DiskFailed → lost ≡ None
  pub grows : Grows state faults old new (option_to_list lost) []
  pub cause : end ≡ ends.DiskFailed → Rose (faults old.disk) (faults new.disk)

abbrev pub TakesBy : {D : Type 0} → (D → DiskState) → (D → ℕ) → ℕ → JournalData D → JournalData D → List Try → Result (Unit {0}) FollowEnd → Type 0
TakesBy state faults most old new tries (Ok done) = TakesOne state faults most old new tries
TakesBy state faults most old new tries (Err end) = TakesNone state faults most old new tries end

pub record TakesNext {D L : Type 0} (state : D → DiskState) (faults : D → ℕ) (read written : Side L) (port most : ℕ) (old new : JournalData D)
    (link left : LinkData L) (broken failed : ℕ) (result : Result (Unit {0}) FollowEnd) : Type 0 where
  pub tries : List Try
  pub tried : AreTried read written port (request_bytes port old.count) link left broken failed tries
  pub answer : TakesBy state faults most old new tries result

-- entries were taken, from the count on, until following ended
pub record TakesAll {D L : Type 0} (state : D → DiskState) (faults : D → ℕ) (read written : Side L) (port most : ℕ) (old new : JournalData D)
    (link left : LinkData L) (broken failed : ℕ) (end : FollowEnd) : Type 0 where
  pub taken : List Taken
  pub each : AreTaken most old.count old.used taken
  pub tries : List Try
  pub lost : Option (List ℕ)
  pub ends_so : EndsTaking (old.count + length taken) (used_after old.used (entries_of taken)) most tries lost end
  pub doubt : DoubtsAtMost state new lost
  pub whole : end ≢ ends.DiskFailed → lost ≡ None
  pub made : AreMade read written port link left broken failed (requests_from old.count taken ++ record { number = old.count + length taken; tries = tries } ∷ [])
  pub grows : Grows state faults old new (entries_of taken ++ option_to_list lost) (entries_of taken)
  pub cause : end ≡ ends.DiskFailed → Rose (faults old.disk) (faults new.disk)
