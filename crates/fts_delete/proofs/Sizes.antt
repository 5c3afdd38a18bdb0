-- The bytes of an event are one body of the journal: one byte at least, and no more than a body may have.
use Rattle.std.proofs.Common.{◌≡◌, ℕ, ◌+◌, ◌*◌, ◌≤◌, true, List, [], ◌∷◌, length, arith}
use Rattle.std.specs.List.{flat_map, list_all}
use Rattle.std.proofs.lemmas.Bool.{and_parts}
use Rattle.std.proofs.lemmas.List.{length-append}
use Rattle.fts_tables.specs.SettingsData.{is_within}
use Rattle.fts_tables.specs.Names.{is_endpoint_name, is_path_key}
use Rattle.fts_tables.specs.declared.places.Place.{Place}
use Rattle.fts_record.specs.Spelling.{text_bytes}
use Rattle.fts_record.specs.Proper.{is_name_text, is_path_text}
use Rattle.fts_record.proofs.NumberLaws.{within_parts}
use Rattle.fts_record.proofs.EntryLaws.{name_short, path_short}
use Rattle.fts_record.proofs.Bounds.{number_short}
use Rattle.fts_delete.specs.declared.events.Event.{Event}
use Rattle.fts_delete.specs.declared.events.Event.TheVariants.{Ask, Gone, Missed}
use Rattle.fts_delete.specs.Spelling.{place_bytes, body_of, is_proper_place, IsProper}

-- an event has a byte
pub body_some : (event : Event) → 1 ≤ length (body_of event)
unfolding body_of
body_some (Ask places) = omega arith
body_some (Gone id) = omega arith
body_some (Missed id) = omega arith

-- a file that is gone takes as many bytes as one that was missed
pub same_size : (id : ℕ) → length (body_of (Gone id)) ≡ length (body_of (Missed id))
unfolding body_of
same_size id = omega arith

-- a text has its own bytes, and those of its length
text_short : (text : List ℕ) → length (text_bytes text) ≤ 10 + length text
unfolding text_bytes
text_short text = simp length-append (omega (arith, number_short (length text)))

-- a place: a name and a path
place_short : (place : Place) → is_proper_place place ≡ true → length (place_bytes place) ≤ 2068
unfolding place_bytes is_name_text is_path_text
place_short place passed =
    let both = and_parts (is_name_text place.endpoint) (is_path_text place.path) passed in
    simp length-append (omega (
      arith,
      text_short place.endpoint,
      text_short place.path,
      name_short place.endpoint (and_parts _ (is_endpoint_name place.endpoint) both.0).1,
      path_short place.path (and_parts _ (is_path_key place.path) both.1).1,
    ))

-- places
places_short : (places : List Place) → list_all is_proper_place places ≡ true → length (flat_map place_bytes places) ≤ length places * 2068
places_short [] passed = omega arith
places_short (place ∷ places) passed =
    let both = and_parts (is_proper_place place) (list_all is_proper_place places) passed in
    simp length-append (omega (arith, place_short place both.0, places_short places both.1))

-- a proper event: 200 places at most
pub body_short : (event : Event) → IsProper event → length (body_of event) ≤ 4194304
unfolding body_of
body_short (Ask places) passed =
    let both = and_parts (is_within 1 200 (length places)) (list_all is_proper_place places) passed in
    simp length-append (omega (arith, number_short (length places), places_short places both.1, (within_parts 1 200 (length places) both.0).1))
body_short (Gone id) passed = omega (arith, number_short id)
body_short (Missed id) passed = omega (arith, number_short id)
