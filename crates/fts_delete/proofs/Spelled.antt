-- The bytes of events that are written out, and damage in a journal of them.
use Rattle.std.proofs.Common.{◌≡◌, refl, Some, Ok, Err, [], ◌∷◌}
use lib.Utf8.{encode}
use Rattle.std.specs.Prelude.{codes}
use Rattle.std.specs.Str.{is_utf8, chars}
use Rattle.fts_tables.specs.declared.places.Place.{Place}
use Rattle.fts_record.specs.Spelling.{number_bytes, text_bytes}
use Rattle.fts_record.specs.Reading.{number_at, name_at, path_at, list_at, items_at}
use Rattle.fts_record.specs.Fields.{number_of, text_of}
use Rattle.fts_delete.specs.declared.events.Event.TheVariants.{Ask, Gone, Missed}
use Rattle.fts_delete.specs.Spelling.{place_bytes, body_of, place_at, event_at, event_in}
use Rattle.fts_delete.specs.Journals.{fault_in}

abbrev place : Place
place = record { endpoint = codes "https://a.example"; path = codes "data/f1" }

-- 01, one place, its endpoint's 17 bytes, its path's 7 bytes
asks : body_of (Ask (place ∷ [])) ≡ 1 ∷ 1 ∷ 17 ∷ 104 ∷ 116 ∷ 116 ∷ 112 ∷ 115 ∷ 58 ∷ 47 ∷ 47 ∷ 97 ∷ 46 ∷ 101 ∷ 120 ∷ 97 ∷ 109 ∷ 112 ∷ 108 ∷ 101 ∷ 7 ∷ 100 ∷ 97 ∷ 116 ∷ 97 ∷ 47 ∷ 102 ∷ 49 ∷ []
unfolding body_of place_bytes text_bytes number_bytes
asks = refl

gone : body_of (Gone 300) ≡ 2 ∷ 172 ∷ 2 ∷ []
unfolding body_of number_bytes
gone = refl

missed : body_of (Missed 1) ≡ 3 ∷ 1 ∷ []
unfolding body_of number_bytes
missed = refl

gone-read : event_in (2 ∷ 172 ∷ 2 ∷ []) ≡ Ok (Gone 300)
unfolding event_in event_at number_at number_of
gone-read = refl

-- a number that isn't in its shortest form, and a byte too many
gone-long : event_in (2 ∷ 129 ∷ 0 ∷ []) ≡ Err 1
unfolding event_in event_at number_at number_of
gone-long = refl

missed-long : event_in (3 ∷ 1 ∷ 0 ∷ []) ≡ Err 2
unfolding event_in event_at number_at number_of
missed-long = refl

-- no asking of nothing, and no other byte
asks-nothing : event_in (1 ∷ 0 ∷ []) ≡ Err 1
unfolding event_in event_at number_at number_of list_at
asks-nothing = refl

other-byte : event_in (4 ∷ 1 ∷ []) ≡ Err 0
unfolding event_in event_at
other-byte = refl

-- a row that was not asked for: the damage is at the event's gate; a body that is no event: at its field
gone-first : fault_in ((2 ∷ 1 ∷ []) ∷ []) ≡ Some 8
unfolding event_in event_at number_at number_of
gone-first = refl

broken-second : fault_in ((1 ∷ 1 ∷ 17 ∷ 104 ∷ 116 ∷ 116 ∷ 112 ∷ 115 ∷ 58 ∷ 47 ∷ 47 ∷ 97 ∷ 46 ∷ 101 ∷ 120 ∷ 97 ∷ 109 ∷ 112 ∷ 108 ∷ 101 ∷ 7 ∷ 100 ∷ 97 ∷ 116 ∷ 97 ∷ 47 ∷ 102 ∷ 49 ∷ []) ∷ (2 ∷ 129 ∷ 0 ∷ []) ∷ []) ≡ Some 47
unfolding event_in event_at number_at number_of list_at items_at place_at name_at path_at text_of is_utf8 chars encode
broken-second = refl
