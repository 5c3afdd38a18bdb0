-- What a visit asks of a store, and what it does to it.
use Rattle.std.specs.Prelude.{◌≡◌, ℕ, ◌≤◌, true, false, Option, Some, None, option_map, List, [], ◌∷◌, ◌++◌}
use Rattle.fts_tables.specs.Counts.{Rose}
use Rattle.fts_tables.specs.declared.places.Place.{Place}
use Rattle.fts_store.specs.Calls.{Call, Sized, Removed}
use Rattle.fts_store.specs.Store.{StoreState, IsTold, Stays, SameBut}
use Rattle.fts_delete.specs.declared.visits.Visit.{Visit}
use Rattle.fts_delete.specs.declared.visits.Visit.TheVariants.{Unseen, Absent, Tried}
use Rattle.fts_delete.specs.Visits.{saw_none, has_failed}

-- the calls of a visit, in their order: a look; where it found a file, a removal and another look; nothing else
abbrev pub calls_of : Place → Visit → List Call
calls_of place Unseen = Sized place None ∷ []
calls_of place Absent = Sized place (Some None) ∷ []
calls_of place (Tried size removed seen) = Sized place (Some (Some size)) ∷ Removed place removed ∷ Sized place seen ∷ []

-- the calls that were told, and these behind them; a store that tells none tells none
abbrev pub with_calls : Option (List Call) → List Call → Option (List Call)
with_calls told calls = option_map (λ list. list ++ calls) told

-- what a visit does to a store. Over every store: the count of faults never falls, and a call failed only where it rose. Over one that tells its
-- files: no other file changes, none is made, a file that was seen to be gone is gone, and one is missed only where the count rose.
pub record Visits {E : Type 0} (state : E → StoreState) (faults : E → ℕ) (old new : E) (place : Place) (visit : Visit) : Type 0 where
  pub stays : Stays (state old) (state new)
  pub counts : faults old ≤ faults new
  pub cause : has_failed visit ≡ true → Rose (faults old) (faults new)
  pub others : IsTold (state old) → SameBut place (state old).files (state new).files
  pub none_made : IsTold (state old) → (state old).files place ≡ None → (state new).files place ≡ None
  pub gone : IsTold (state old) → saw_none visit ≡ true → (state new).files place ≡ None
  pub missed : IsTold (state old) → saw_none visit ≡ false → Rose (faults old) (faults new)
