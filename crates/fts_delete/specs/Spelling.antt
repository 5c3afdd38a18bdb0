-- The bytes of an event, and the event that bytes are. Numbers, texts and lists are spelled as in the entries of the service's own journal.
use Rattle.std.specs.Prelude.{◌≡◌, ℕ, suc, ◌-◌, ◌==◌, if◌then◌else◌, Bool, true, List, [], ◌∷◌, ◌++◌, length, map, Result, Ok, Err, IsTrue, ◌&&◌}
use Rattle.fts_tables.specs.SettingsData.{is_within}
use Rattle.fts_tables.specs.declared.places.Place.{Place}
use Rattle.fts_record.specs.Spelling.{number_bytes, text_bytes, list_bytes}
use Rattle.fts_record.specs.Reading.{Read, made, ◌⊛◌, name_at, path_at, list_at, u32_at}
use Rattle.fts_record.specs.Proper.{is_name_text, is_path_text, is_list}
use Rattle.fts_record.specs.Fields.{is_u32}
use Rattle.fts_record.specs.Laws.{AreBytes}
use Rattle.fts_delete.specs.declared.events.Event.{Event}
use Rattle.fts_delete.specs.declared.events.Event.TheVariants.{Ask, Gone, Missed}
use Rattle.fts_delete.specs.Rows.{most_asked}

-- a place: the endpoint's name, and the path
unfoldable pub place_bytes : Place → List ℕ
place_bytes place = text_bytes place.endpoint ++ text_bytes place.path

-- an event: its byte, and its fields
unfoldable pub body_of : Event → List ℕ
body_of (Ask places) = 1 ∷ list_bytes place_bytes places
body_of (Gone id) = 2 ∷ number_bytes id
body_of (Missed id) = 3 ∷ number_bytes id

-- a place of its fields
abbrev pub place_of : List ℕ → List ℕ → Place
place_of endpoint path = record { endpoint = endpoint; path = path }

unfoldable pub place_at : List ℕ → Read Place
place_at bytes = (made place_of ⊛ name_at ⊛ path_at) bytes

-- an asking: 1 to so many places
abbrev pub ask_at : List ℕ → Read Event
ask_at bytes = (made Ask ⊛ list_at 1 most_asked place_at) bytes

abbrev pub gone_at : List ℕ → Read Event
gone_at bytes = (made Gone ⊛ u32_at) bytes

abbrev pub missed_at : List ℕ → Read Event
missed_at bytes = (made Missed ⊛ u32_at) bytes

-- an event, with bytes behind it
unfoldable pub event_at : List ℕ → Read Event
event_at [] = Err 0
event_at (byte ∷ bytes) =
    if byte == 1 then ask_at bytes else (
    if byte == 2 then gone_at bytes else (
    if byte == 3 then missed_at bytes else Err (suc (length bytes))))

-- what is read has to be all of the bytes: otherwise the place is where the last field ends
abbrev pub whole_event : ℕ → Read Event → Result Event ℕ
whole_event size (Err left) = Err (size - left)
whole_event size (Ok (event, [])) = Ok event
whole_event size (Ok (event, byte ∷ bytes)) = Err (size - suc (length bytes))

-- the event that the bytes spell, or the place of the first field that is not spelled
unfoldable pub event_in : List ℕ → Result Event ℕ
event_in bytes = whole_event (length bytes) (event_at bytes)

-- a place whose texts are a name and a path
abbrev pub is_proper_place : Place → Bool
is_proper_place place = is_name_text place.endpoint && is_path_text place.path

-- an event asks for 1 to so many places, where it asks
abbrev pub has_places : Event → Bool
has_places (Ask places) = is_within 1 most_asked (length places)
has_places (Gone id) = true
has_places (Missed id) = true

-- an event whose fields are in their ranges
abbrev pub is_proper_event : Event → Bool
is_proper_event (Ask places) = is_list 1 most_asked is_proper_place places
is_proper_event (Gone id) = is_u32 id
is_proper_event (Missed id) = is_u32 id

abbrev pub IsProper : Event → Type 0
IsProper event = IsTrue (is_proper_event event)

-- the bodies of a journal of these events
abbrev pub bodies_of : List Event → List (List ℕ)
bodies_of events = map body_of events

-- the law: what is spelled is read, and nothing else is
pub record SpelledIsRead : Type 0 where
  pub read : (event : Event) → IsProper event → event_in (body_of event) ≡ Ok event
  pub spelled : (bytes : List ℕ) (event : Event) → AreBytes bytes → event_in bytes ≡ Ok event → (bytes ≡ body_of event) × IsProper event
