-- What the loop of a pass needs: one visit more, and its event.
use Rattle.std.proofs.Common.{◌≡◌, refl, sym, ◌∙◌, ap, subst, ℕ, ◌+◌, Bool, true, false, if◌then◌else◌, Some, List, [], ◌∷◌, ◌++◌, length}
use Rattle.std.specs.Prelude.{slice_get}
use Rattle.fts_tables.specs.declared.places.Place.{Place}
use Rattle.fts_store.specs.Store.{StoreState}
use Rattle.fts_delete.specs.declared.rows.DeleteRow.{DeleteRow}
use Rattle.fts_delete.specs.declared.visits.Visit.{Visit}
use Rattle.fts_delete.specs.declared.events.Event.{Event}
use Rattle.fts_delete.specs.Rows.{is_waiting, rows_after, rows_from}
use Rattle.fts_delete.specs.Visits.{event_of}
use Rattle.fts_delete.specs.Passes.{waiting_of, event_next, events_of, rows_passed}
use Rattle.fts_delete.specs.Laws.{AreNumbered}
use Rattle.fts_delete.specs.Looks.{Visits}
use Rattle.fts_delete.specs.Spelling.{body_of}
use Rattle.fts_delete.specs.Journals.{used_after}
use Rattle.fts_delete.specs.Passed.{AreVisits}
use Rattle.fts_delete.proofs.Beginnings.{none_some, some_is, from-append}
use Rattle.fts_delete.proofs.Passing.{pass_is_legal}

-- visits, and that of the next place
pub visits_more : {E : Type 0} (files : E → StoreState) (failures : E → ℕ) (places : List Place) (visits : List Visit) (place : Place) (visit : Visit) (store mid left : E)
    → slice_get places (length visits) ≡ Some place → AreVisits files failures places visits store mid → Visits files failures mid left place visit
    → AreVisits files failures places (visits ++ visit ∷ []) store left
visits_more files failures [] visits place visit store mid left next done last = absurd (none_some place next)
visits_more files failures (first ∷ places) [] place visit store mid left next done last =
    (left, (subst (λ s. Visits files failures s left first visit) done (subst (λ p. Visits files failures mid left p visit) (sym (some_is first place next)) last), refl))
visits_more files failures (first ∷ places) (v ∷ visits) place visit store mid left next done last =
    (done.0, (done.1.0, visits_more files failures places visits place visit done.0 mid left next done.1.1 last))

-- a pass without visits has no events
none_next : (b : Bool) (row : DeleteRow) (rows : List DeleteRow) → events_of rows [] ≡ [] → event_next b row [] (events_of rows) ≡ []
none_next true row rows e = refl
none_next false row rows e = e

pub none_come : (rows : List DeleteRow) → events_of rows [] ≡ []
none_come [] = refl
none_come (row ∷ rows) = none_next (is_waiting row.state) row rows (none_come rows)

-- the events of visits, and that of the next row that waits
next_event : (b : Bool) (first : DeleteRow) (rows : List DeleteRow) (visits : List Visit) (row : DeleteRow) (visit : Visit)
    → ((more : List Visit) → slice_get (waiting_of rows) (length more) ≡ Some row → events_of rows (more ++ visit ∷ []) ≡ events_of rows more ++ event_of row.id visit ∷ [])
    → slice_get (if b then first ∷ waiting_of rows else waiting_of rows) (length visits) ≡ Some row
    → event_next b first (visits ++ visit ∷ []) (events_of rows) ≡ event_next b first visits (events_of rows) ++ event_of row.id visit ∷ []
next_event true first rows [] row visit later next =
    λ i. event_of ((some_is first row next i).id) visit ∷ none_come rows i
next_event true first rows (v ∷ visits) row visit later next = ap (λ l. event_of first.id v ∷ l) (later visits next)
next_event false first rows visits row visit later next = later visits next

pub events_more : (rows : List DeleteRow) (visits : List Visit) (row : DeleteRow) (visit : Visit)
    → slice_get (waiting_of rows) (length visits) ≡ Some row → events_of rows (visits ++ visit ∷ []) ≡ events_of rows visits ++ event_of row.id visit ∷ []
events_more [] visits row visit next = absurd (none_some row next)
events_more (first ∷ rows) visits row visit next =
    next_event (is_waiting first.state) first rows visits row visit (λ more e. events_more rows more row visit e) next

-- that event is legal behind the others, and makes the rows of one visit more
pub rows_more : (rows : List DeleteRow) (visits : List Visit) (row : DeleteRow) (visit : Visit) → AreNumbered 1 rows
    → slice_get (waiting_of rows) (length visits) ≡ Some row → rows_after (rows_passed rows visits) (event_of row.id visit) ≡ Some (rows_passed rows (visits ++ visit ∷ []))
rows_more rows visits row visit numbered next =
    let event = event_of row.id visit in
    ap (λ came. rows_from came (event ∷ [])) (sym (pass_is_legal rows visits numbered))
    ∙ sym (from-append (Some rows) (events_of rows visits) (event ∷ []))
    ∙ ap (λ l. rows_from (Some rows) l) (sym (events_more rows visits row visit next))
    ∙ pass_is_legal rows (visits ++ visit ∷ []) numbered

-- and it fills so many bytes more
pub used_more : (used : ℕ) (events : List Event) (event : Event) → used_after used (events ++ event ∷ []) ≡ used_after used events + 5 + length (body_of event)
used_more used [] event = refl
used_more used (first ∷ events) event = used_more (used + 5 + length (body_of first)) events event
