-- The journal of deletions: its events, the rows that they make, the event in doubt, and a disk whose images stand for them.
use Rattle.std.specs.Prelude.{◌≡◌, ◌⊎◌, ℕ, ◌+◌, ◌*◌, ◌≤◌, ◌<◌, Bool, Option, Some, None, is_some, List, [], ◌∷◌, ◌++◌, length, All, Result, Ok, Err}
use Rattle.fts_tables.specs.declared.limits.TheConstants.{JOURNAL_END}
use Rattle.fts_disk.specs.Disk.{DiskState, IsTold, LeavesOnly}
use Rattle.fts_journal.specs.Format.{used_by, Stands}
use Rattle.fts_journal.specs.Loading.{IsNotJournal, IsCut}
use Rattle.fts_delete.specs.declared.rows.DeleteRow.{DeleteRow}
use Rattle.fts_delete.specs.declared.events.Event.{Event}
use Rattle.fts_delete.specs.Rows.{rows_after, AreRowsOf}
use Rattle.fts_delete.specs.Spelling.{IsProper, body_of, bodies_of, event_in}

-- what contracts see of it
pub record DeletesData (D : Type 0) : Type 0 where
  -- over a disk that tells nothing there are none to see
  pub events : List Event
  pub doubt : Option Event
  -- these are seen over every disk
  pub rows : List DeleteRow
  pub count : ℕ
  pub used : ℕ
  pub in_doubt : Bool
  pub disk : D

-- how many bytes stand before the last gate of a journal of these events
abbrev pub used_of : List Event → ℕ
used_of events = used_by (bodies_of events)

-- how many are used once these events stand behind so many
abbrev pub used_after : ℕ → List Event → ℕ
used_after used [] = used
used_after used (event ∷ events) = used_after (used + 5 + length (body_of event)) events

-- the content of a disk stands for these events
abbrev pub StandsFor : List ℕ → List Event → Type 0
StandsFor content events = Stands content (bodies_of events)

abbrev pub with_doubt : List Event → Option Event → List Event
with_doubt events None = events
with_doubt events (Some event) = events ++ event ∷ []

-- a list of events is legal
pub record IsLegal (events : List Event) : Type 0 where
  pub rows : List DeleteRow
  pub are : AreRowsOf rows events

-- the content stands for what the list was at some time since its opening, or for that and one event more
pub record IsImageSince (opening final : List Event) (content : List ℕ) : Type 0 where
  pub since : List Event
  pub later : List Event
  pub parts : final ≡ (opening ++ since) ++ later
  pub doubt : Option Event
  pub legal : IsLegal (with_doubt (opening ++ since) doubt)
  pub stands : StandsFor content (with_doubt (opening ++ since) doubt)

-- over a disk that tells its contents: the rows are the fold of the list, and each image stands for the list, or for it with one event more
pub record HoldsEvents (disk : DiskState) (events : List Event) (doubt : Option Event) (rows : List DeleteRow) (count used : ℕ) (in_doubt : Bool) : Type 0 where
  pub folded : AreRowsOf rows events
  pub legal : IsLegal (with_doubt events doubt)
  pub proper : All IsProper (with_doubt events doubt)
  pub counted : count ≡ length events
  pub fills : used ≡ used_of events
  pub doubted : in_doubt ≡ is_some doubt
  pub images : (content : List ℕ) → disk.may_leave content → StandsFor content events ⊎ StandsFor content (with_doubt events doubt)

-- whatever disk there is: these events make the rows
pub record IsListOf {D : Type 0} (deletes : DeletesData D) (events : List Event) : Type 0 where
  pub folded : AreRowsOf deletes.rows events
  pub counted : deletes.count ≡ length events

-- what the type keeps
pub record IsDeletes {D : Type 0} (state : D → DiskState) (deletes : DeletesData D) : Type 0 where
  pub low : 8 + 6 * deletes.count ≤ deletes.used
  pub high : deletes.used < JOURNAL_END
  pub some : (events : List Event) × IsListOf deletes events
  pub holds : IsTold (state deletes.disk) → HoldsEvents (state deletes.disk) deletes.events deletes.doubt deletes.rows deletes.count deletes.used deletes.in_doubt

-- since any opening of the list each image is a beginning of it, with one event more at most
abbrev pub KeepsImages : {D : Type 0} → (D → DiskState) → DeletesData D → DeletesData D → Type 0
KeepsImages state old new = (opening since : List Event) → old.events ≡ opening ++ since → IsTold (state old.disk)
    → LeavesOnly (state old.disk) (state new.disk) (IsImageSince opening new.events)

-- the gate of an event that is illegal; of one that is legal, what comes of the later ones
abbrev pub fault_behind : ℕ → Option (List DeleteRow) → (List DeleteRow → Option ℕ) → Option ℕ
fault_behind gate (Some rows) later = later rows
fault_behind gate None later = Some gate

-- the place in a body that is no event, else what comes of its event
abbrev pub fault_at : List DeleteRow → ℕ → Result Event ℕ → (List DeleteRow → Option ℕ) → Option ℕ
fault_at rows gate (Ok event) later = fault_behind gate (rows_after rows event) later
fault_at rows gate (Err place) later = Some (gate + 5 + place)

-- the offset of the first body that is no event, or whose event is illegal behind those before it, where the first gate is at this offset
abbrev pub fault_from : List DeleteRow → ℕ → List (List ℕ) → Option ℕ
fault_from rows gate [] = None
fault_from rows gate (body ∷ bodies) = fault_at rows gate (event_in body) (λ next. fault_from next (gate + 5 + length body) bodies)

abbrev pub fault_in : List (List ℕ) → Option ℕ
fault_in bodies = fault_from [] 8 bodies

-- the bytes stand for bodies of which one is no event, or is illegal: the first such one has this offset
pub record HasFault (content : List ℕ) (offset : ℕ) : Type 0 where
  pub bodies : List (List ℕ)
  pub stands : Stands content bodies
  pub fault : fault_in bodies ≡ Some offset

-- the bytes are damaged at this offset
abbrev pub IsDamaged : List ℕ → ℕ → Type 0
IsDamaged content offset = (IsNotJournal content × (offset ≡ 0)) ⊎ (IsCut content offset ⊎ HasFault content offset)

-- the bytes stand for these events, which are legal
pub record IsWhole (content : List ℕ) (events : List Event) : Type 0 where
  pub stands : StandsFor content events
  pub proper : All IsProper events
  pub legal : IsLegal events

-- a content is damaged at one offset at most, or whole for one list at most, and never both
pub record DamageIsOne (content : List ℕ) : Type 0 where
  pub offset : (one other : ℕ) → IsDamaged content one → IsDamaged content other → one ≡ other
  pub apart : (offset : ℕ) (events : List Event) → IsDamaged content offset → IsWhole content events → ⊥
  pub list : (one other : List Event) → IsWhole content one → IsWhole content other → one ≡ other
