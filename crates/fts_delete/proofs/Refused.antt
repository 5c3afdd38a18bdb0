-- What the definitions refuse: events without their looks, a row passed twice or out of order, a third miss that goes on waiting.
use Rattle.std.proofs.Common.{◌≡◌, refl, Some, None, [], ◌∷◌}
use Rattle.std.specs.Prelude.{codes}
use Rattle.fts_tables.specs.declared.places.Place.{Place}
use Rattle.fts_store.specs.Calls.{Sized, Removed}
use Rattle.fts_delete.specs.declared.rows.DeleteState.TheVariants.{Finished}
use Rattle.fts_delete.specs.declared.visits.Visit.TheVariants.{Unseen, Absent, Tried}
use Rattle.fts_delete.specs.declared.events.Event.TheVariants.{Ask, Gone, Missed}
use Rattle.fts_delete.specs.Rows.{rows_of_events}
use Rattle.fts_delete.specs.Visits.{event_of}
use Rattle.fts_delete.specs.Passes.{events_of}
use Rattle.fts_delete.specs.Looks.{calls_of}

abbrev place : Place
place = record { endpoint = codes "https://a.example"; path = codes "data/f1" }

-- no file is gone before the second look, nor where the look failed
before-the-second-look : event_of 1 (Tried 3 (Some tt) (Some (Some 3))) ≡ Missed 1
before-the-second-look = refl

where-the-look-failed : event_of 1 Unseen ≡ Missed 1
where-the-look-failed = refl

where-the-second-look-failed : event_of 1 (Tried 3 (Some tt) None) ≡ Missed 1
where-the-second-look-failed = refl

-- a removal that failed, and a file that is gone all the same, is gone
gone-all-the-same : event_of 1 (Tried 3 None (Some None)) ≡ Gone 1
gone-all-the-same = refl

-- the calls of a visit that found a file: a look, a removal, a look
three-calls : calls_of place (Tried 3 (Some tt) (Some None)) ≡ Sized place (Some (Some 3)) ∷ Removed place (Some tt) ∷ Sized place (Some None) ∷ []
three-calls = refl

one-call : calls_of place Absent ≡ Sized place (Some None) ∷ []
one-call = refl

-- a row that is passed twice in one pass
passed-twice : rows_of_events (Ask (place ∷ []) ∷ Gone 1 ∷ Missed 1 ∷ []) ≡ None
passed-twice = refl

-- a settled row has no event in a later pass
settled-again : events_of (record { id = 1; place = place; state = Finished; missed = 0 } ∷ []) (Absent ∷ []) ≡ []
settled-again = refl
