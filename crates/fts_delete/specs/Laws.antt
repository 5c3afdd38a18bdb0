-- Laws of the lists of deletions: what a beginning of a list makes, how rows move, when a row fails, and what a whole pass adds.
use Rattle.std.specs.Prelude.{◌≡◌, ℕ, ◌+◌, ◌≤◌, false, Some, List, [], ◌∷◌, ◌++◌, length, map}
use Rattle.std.specs.List.{flat_map}
use Rattle.fts_delete.specs.declared.rows.DeleteRow.{DeleteRow}
use Rattle.fts_delete.specs.declared.rows.DeleteState.{DeleteState}
use Rattle.fts_delete.specs.declared.rows.DeleteState.TheVariants.{Waiting, Finished, Failed}
use Rattle.fts_delete.specs.declared.visits.Visit.{Visit}
use Rattle.fts_delete.specs.declared.events.Event.{Event}
use Rattle.fts_delete.specs.Rows.{is_waiting, rows_from, AreRowsOf}
use Rattle.fts_delete.specs.Passes.{waiting_of, events_of, rows_passed, named_by}

-- a beginning of a legal list is legal, and what stands behind it goes on from its rows
pub record SplitsAt (events more : List Event) (rows : List DeleteRow) : Type 0 where
  pub before : List DeleteRow
  pub first : AreRowsOf before events
  pub goes_on : rows_from (Some before) more ≡ Some rows

abbrev pub BeginningIsLegal : Type 0
BeginningIsLegal = (events more : List Event) (rows : List DeleteRow) → AreRowsOf rows (events ++ more) → SplitsAt events more rows

-- a row keeps its id and its place; it is missed no less often; and once it waits no more it stays as it is
pub record MovesOn (old new : DeleteRow) : Type 0 where
  pub id : new.id ≡ old.id
  pub place : new.place ≡ old.place
  pub missed : old.missed ≤ new.missed
  pub settled : is_waiting old.state ≡ false → new ≡ old

-- rows move on one by one, and others come behind them
abbrev pub AllMoveOn : List DeleteRow → List DeleteRow → Type 0
AllMoveOn [] new = Unit {0}
AllMoveOn (row ∷ rows) [] = ⊥
AllMoveOn (row ∷ rows) (next ∷ new) = MovesOn row next × AllMoveOn rows new

abbrev pub RowsMoveOn : Type 0
RowsMoveOn = (rows : List DeleteRow) (events : List Event) (new : List DeleteRow) → rows_from (Some rows) events ≡ Some new → AllMoveOn rows new

-- rows are numbered from here on
abbrev pub AreNumbered : ℕ → List DeleteRow → Type 0
AreNumbered id [] = Unit {0}
AreNumbered id (row ∷ rows) = (row.id ≡ id) × AreNumbered (id + 1) rows

-- a row fails exactly by its third miss
abbrev pub IsCounted : DeleteState → ℕ → Type 0
IsCounted Waiting missed = missed ≤ 2
IsCounted Finished missed = missed ≤ 2
IsCounted Failed missed = missed ≡ 3

abbrev pub AreCounted : List DeleteRow → Type 0
AreCounted [] = Unit {0}
AreCounted (row ∷ rows) = IsCounted row.state row.missed × AreCounted rows

-- of each legal list: its rows have the ids 1, 2, 3 and so on, and each fails exactly by its third miss
pub record AreFormed (rows : List DeleteRow) : Type 0 where
  pub numbered : AreNumbered 1 rows
  pub counted : AreCounted rows

abbrev pub LegalRowsAreFormed : Type 0
LegalRowsAreFormed = (events : List Event) (rows : List DeleteRow) → AreRowsOf rows events → AreFormed rows

-- the numbers that events name
abbrev pub ids_of : List Event → List ℕ
ids_of events = flat_map named_by events

-- a pass over numbered rows is always legal, and makes these rows of them, also where it stopped after some of its visits
abbrev pub PassIsLegal : Type 0
PassIsLegal = (rows : List DeleteRow) (visits : List Visit) → AreNumbered 1 rows → rows_from (Some rows) (events_of rows visits) ≡ Some (rows_passed rows visits)

-- a whole pass adds one event for each row that waited, in order of id, and none for any other
abbrev pub PassNamesEachOnce : Type 0
PassNamesEachOnce = (rows : List DeleteRow) (visits : List Visit) → length visits ≡ length (waiting_of rows)
    → ids_of (events_of rows visits) ≡ map (λ row. row.id) (waiting_of rows)
