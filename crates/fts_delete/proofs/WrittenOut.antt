-- Deletions that are written out.
use Rattle.std.proofs.Common.{◌≡◌, refl, Some, None, List, [], ◌∷◌}
use Rattle.std.specs.Prelude.{codes}
use Rattle.fts_tables.specs.declared.places.Place.{Place}
use Rattle.fts_delete.specs.declared.rows.DeleteState.TheVariants.{Waiting, Finished, Failed}
use Rattle.fts_delete.specs.declared.visits.Visit.TheVariants.{Absent, Tried}
use Rattle.fts_delete.specs.declared.events.Event.{Event}
use Rattle.fts_delete.specs.declared.events.Event.TheVariants.{Ask, Gone, Missed}
use Rattle.fts_delete.specs.Rows.{rows_of_events}
use Rattle.fts_delete.specs.Passes.{events_of, rows_passed}

abbrev place : Place
place = record { endpoint = codes "https://a.example"; path = codes "data/f1" }

-- three passes of which each call fails: it waits, waits, and has failed
abbrev one : List Event
one = Ask (place ∷ []) ∷ Missed 1 ∷ []

first-miss : rows_of_events (Ask (place ∷ []) ∷ Missed 1 ∷ []) ≡ Some (record { id = 1; place = place; state = Waiting; missed = 1 } ∷ [])
first-miss = refl

second-miss : rows_of_events (Ask (place ∷ []) ∷ Missed 1 ∷ Missed 1 ∷ []) ≡ Some (record { id = 1; place = place; state = Waiting; missed = 2 } ∷ [])
second-miss = refl

third-miss : rows_of_events (Ask (place ∷ []) ∷ Missed 1 ∷ Missed 1 ∷ Missed 1 ∷ []) ≡ Some (record { id = 1; place = place; state = Failed; missed = 3 } ∷ [])
third-miss = refl

-- a row that failed or was finished has no more events
fourth-miss : rows_of_events (Ask (place ∷ []) ∷ Missed 1 ∷ Missed 1 ∷ Missed 1 ∷ Missed 1 ∷ []) ≡ None
fourth-miss = refl

gone-twice : rows_of_events (Ask (place ∷ []) ∷ Gone 1 ∷ Gone 1 ∷ []) ≡ None
gone-twice = refl

-- a row that wasn't asked for
gone-unasked : rows_of_events (Ask (place ∷ []) ∷ Gone 2 ∷ []) ≡ None
gone-unasked = refl

-- one that failed twice and is then gone is finished
at-last-gone : rows_of_events (Ask (place ∷ []) ∷ Missed 1 ∷ Missed 1 ∷ Gone 1 ∷ []) ≡ Some (record { id = 1; place = place; state = Finished; missed = 2 } ∷ [])
at-last-gone = refl

-- a file that is there and is removed, and one that isn't: both are gone, in order of id
both-gone : events_of (record { id = 1; place = place; state = Waiting; missed = 0 } ∷ record { id = 2; place = place; state = Failed; missed = 3 } ∷ record { id = 3; place = place; state = Waiting; missed = 2 } ∷ [])
    (Tried 3 (Some tt) (Some None) ∷ Absent ∷ []) ≡ Gone 1 ∷ Gone 3 ∷ []
both-gone = refl

-- a second look that fails, or still sees the file, is a miss
missed-by-look : events_of (record { id = 1; place = place; state = Waiting; missed = 2 } ∷ []) (Tried 3 (Some tt) None ∷ []) ≡ Missed 1 ∷ []
missed-by-look = refl

failed-by-look : rows_passed (record { id = 1; place = place; state = Waiting; missed = 2 } ∷ []) (Tried 3 None (Some (Some 3)) ∷ []) ≡ record { id = 1; place = place; state = Failed; missed = 3 } ∷ []
failed-by-look = refl
