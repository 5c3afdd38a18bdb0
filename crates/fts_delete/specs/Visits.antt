-- What a visit of a file came to, and the event that it gives.
use Rattle.std.specs.Prelude.{ℕ, Bool, true, false, if◌then◌else◌, Option, Some, None}
use Rattle.fts_delete.specs.declared.visits.Visit.{Visit}
use Rattle.fts_delete.specs.declared.visits.Visit.TheVariants.{Unseen, Absent, Tried}
use Rattle.fts_delete.specs.declared.events.Event.{Event}
use Rattle.fts_delete.specs.declared.events.Event.TheVariants.{Gone, Missed}

-- a look found no file; one that found one, or failed, didn't
abbrev pub found_none : Option (Option ℕ) → Bool
found_none (Some None) = true
found_none (Some (Some size)) = false
found_none None = false

-- the last look of a visit found no file
abbrev pub saw_none : Visit → Bool
saw_none Unseen = false
saw_none Absent = true
saw_none (Tried size removed seen) = found_none seen

-- the event that a visit of the row of this id gives
abbrev pub event_of : ℕ → Visit → Event
event_of id visit = if saw_none visit then Gone id else Missed id

-- nothing was answered
abbrev pub is_none : {A : Type 0} → Option A → Bool
is_none None = true
is_none (Some value) = false

-- a call of the visit failed
abbrev pub has_failed : Visit → Bool
has_failed Unseen = true
has_failed Absent = false
has_failed (Tried size removed seen) = if is_none removed then true else is_none seen
