-- What a store in a folder has open, and where it found nothing.
use Rattle.std.specs.Prelude.{Bool, false, Option, Some, None, List, ℕ, String, string_bytes, bytes_eq}
use Rattle.std.specs.declared.alloc.Global.{Global}
use Rattle.fts_tables.specs.declared.places.Place.{Place}
use Rattle.fts_tables.specs.Places.{is_same_place}
use Rattle.fts_store.specs.declared.folder.Opened.{Opened}

-- something is open at this place
abbrev pub is_opened_at : {T : Type 0} → Opened T → Place → Bool
is_opened_at opened place = is_same_place (record { endpoint = string_bytes opened.endpoint; path = string_bytes opened.path }) place

-- that is there, and open at this place
abbrev pub is_open_at : {T : Type 0} → Option (Opened T) → Place → Bool
is_open_at (Some opened) place = is_opened_at opened place
is_open_at None place = false

-- the last look found nothing here
abbrev pub is_free : Option (String Global) → List ℕ → Bool
is_free (Some known) path = bytes_eq (string_bytes known) path
is_free None path = false
