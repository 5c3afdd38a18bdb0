-- What making the files of a load does to a store.
use Rattle.std.specs.Prelude.{◌≡◌, ℕ, ◌+◌, ◌≤◌, ◌<◌, false, List, [], ◌∷◌, ◌++◌, Option, Some, option_map, Result, Ok, Err}
use Rattle.std.specs.List.{flat_map}
use Rattle.fts_tables.specs.Counts.{CountsFaults}
use Rattle.fts_tables.specs.Places.{is_same_place}
use Rattle.fts_tables.specs.declared.places.Place.{Place}
use Rattle.fts_store.specs.Calls.{Call, Created, Appended}
use Rattle.fts_store.specs.Store.{StoreState, IsTold, IsFaithful, Stays, Same, SameBut, with_file}
use Rattle.fts_store.specs.declared.held.StoredFile.{StoredFile}
use Rattle.fts_load.specs.Sources.{file_count, source_place, first_sources, sources}

-- the files, with these at their places, one after another
abbrev pub with_sources : (Place → Option (List ℕ)) → List StoredFile → Place → Option (List ℕ)
with_sources files [] = files
with_sources files (source ∷ others) = with_sources (with_file files source.place (Some source.bytes)) others

-- the calls that make a file
abbrev pub calls_of : StoredFile → List Call
calls_of source = Created source.place (Some tt) ∷ Appended source.place source.bytes (Some tt) ∷ []

-- the calls that were told, and those that make these files behind them
abbrev pub with_calls_of : Option (List Call) → List StoredFile → Option (List Call)
with_calls_of calls made = option_map (λ list. list ++ flat_map calls_of made) calls

-- a place is of none of a load's files
abbrev pub IsNoSource : List ℕ → Place → Type 0
IsNoSource endpoint place = (file : ℕ) → 1 ≤ file → file ≤ file_count → is_same_place place (source_place endpoint file) ≡ false

-- no file changed, but at most those at the places of a load's files
abbrev pub SameButSources : List ℕ → (Place → Option (List ℕ)) → (Place → Option (List ℕ)) → Type 0
SameButSources endpoint old new = (place : Place) → IsNoSource endpoint place → new place ≡ old place

-- the files before one were made, and at most that one's place holds something else
pub record StopsAmong (endpoint : List ℕ) (number : ℕ) (old new : Place → Option (List ℕ)) : Type 0 where
  pub made : ℕ
  pub few : made < file_count
  pub files : SameBut (source_place endpoint (made + 1)) (with_sources old (first_sources endpoint number made)) new

-- what making them came to, of a store that tells its files, and whose appends lose nothing: all were made, or a call failed at one
abbrev pub AreMade : {E : Type 0} → List ℕ → ℕ → (Place → Option (List ℕ)) → (Place → Option (List ℕ)) → Result (Unit {0}) E → Type 0
AreMade endpoint number old new (Ok done) = Same new (with_sources old (sources endpoint number))
AreMade endpoint number old new (Err failed) = StopsAmong endpoint number old new

-- the files of a load were made in a store, or a call failed, where its count of faults rose
pub record MakesSources {E : Type 0} (endpoint : List ℕ) (number : ℕ) (old new : StoreState) (called calls_now : Option (List Call)) (faults later : ℕ)
    (result : Result (Unit {0}) E) : Type 0 where
  pub stays : Stays old new
  pub files : IsTold old → IsFaithful old → AreMade endpoint number old.files new.files result
  pub others : IsTold old → SameButSources endpoint old.files new.files
  pub calls : (done : Unit {0}) → result ≡ Ok done → calls_now ≡ with_calls_of called (sources endpoint number)
  pub counts : CountsFaults faults later result
