-- What a map of files in memory holds: the files that it was given, and over them those that were made since.
use Rattle.std.specs.Prelude.{◌≡◌, ℕ, ◌+◌, ◌≤◌, Bool, Option, Some, None, IsSome, option_map, List, length, Vec, vec_capacity, string_bytes}
use Rattle.std.specs.List.{find, position}
use Rattle.std.specs.declared.alloc.Global.{Global}
use Rattle.fts_tables.specs.declared.places.Place.{Place}
use Rattle.fts_tables.specs.Places.{is_same_place}
use Rattle.fts_store.specs.declared.held.StoredFile.{StoredFile}
use Rattle.fts_store.specs.declared.held.Entry.{Entry}
use Rattle.fts_store.specs.declared.held.Held.{Held}

-- a given file is at this place
abbrev pub is_given_at : Place → StoredFile → Bool
is_given_at place file = is_same_place place file.place

-- the first file that was given there
abbrev pub given_at : List StoredFile → Place → Option (List ℕ)
given_at files place = option_map (λ file. file.bytes) (find (is_given_at place) files)

-- the place of an entry
abbrev pub entry_place : Entry → Place
entry_place entry = record { endpoint = string_bytes entry.endpoint; path = string_bytes entry.path }

-- an entry is for this place
abbrev pub is_entry_at : Place → Entry → Bool
is_entry_at place entry = is_same_place place (entry_place entry)

-- the bytes of a file that an entry keeps, where it keeps one
abbrev pub kept_file : Option (Vec ℕ Global) → Option (List ℕ)
kept_file file = option_map (λ bytes. bytes.items) file

-- what the first of these entries for a place keeps, or else what was given there
abbrev pub made_over : (Place → Option (List ℕ)) → Option Entry → Place → Option (List ℕ)
made_over given (Some entry) place = kept_file entry.file
made_over given None place = given place

-- the files of these entries, over those that were given
abbrev pub files_over : List StoredFile → List Entry → Place → Option (List ℕ)
files_over given made place = made_over (given_at given) (find (is_entry_at place) made) place

-- the files
abbrev pub held_files : Held → Place → Option (List ℕ)
held_files held = files_over held.given held.made.items

-- the n-th entry is the first one for this place
abbrev pub IsEntryOf : List Entry → ℕ → Place → Type 0
IsEntryOf made n place = position (is_entry_at place) made ≡ Some n

-- a call has named this place before
abbrev pub IsNamed : Held → Place → Type 0
IsNamed held place = IsSome (position (is_entry_at place) held.made.items)

-- a file takes so many bytes more without memory
abbrev pub Takes : Option (Vec ℕ Global) → ℕ → Type 0
Takes (Some bytes) count = length bytes.items + count ≤ vec_capacity bytes
Takes None count = ⊥

-- and so does that of an entry, where there is one
abbrev pub EntryTakes : Option Entry → ℕ → Type 0
EntryTakes (Some entry) count = Takes entry.file count
EntryTakes None count = ⊥

-- a call has named this place before, and the file that it left there takes so many bytes more without memory
pub record HasRoom (held : Held) (place : Place) (count : ℕ) : Type 0 where
  pub named : IsNamed held place
  pub takes : EntryTakes (find (is_entry_at place) held.made.items) count
