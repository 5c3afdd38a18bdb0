-- Numbers of destinations: each is that of the first place in a list that is the same.
use Rattle.std.specs.Prelude.{◌≡◌, ℕ, Bool, false, ◌==◌, List, length, map, slice_get, Option, position}
use Rattle.std.specs.Option.{option_map_or}
use Rattle.ordered.specs.Orders.{has_key}
use Rattle.fts_tables.specs.Places.{is_same_place}
use Rattle.fts_tables.specs.declared.places.Place.{Place}
use Rattle.fts_tables.specs.declared.rows.FileRow.{FileRow}
use Rattle.fts_heads.specs.Digests.{digest_of, is_digested_before}
use Rattle.fts_heads.specs.declared.digest.Digested.{Digested}

-- the places that have numbers, each by its digest, and how many there is room for
pub record DestsData : Type 0 where
  pub keys : List Digested
  pub room : ℕ

-- the destinations of rows
abbrev pub dests_of : List FileRow → List Place
dests_of rows = map (λ row. row.dest) rows

-- the number of a place: how many stand in front of the first that is the same
abbrev pub number_of : List Place → Place → Option ℕ
number_of places place = position (λ other. is_same_place other place) places

-- whether the place of a number has a digest
abbrev pub has_digest : List Place → Digested → Bool
has_digest places key = option_map_or (λ place. digest_of place == key.digest) (slice_get places key.number) false

-- the numbers are those of these places: each place has one, by its digest
pub record AreNumbersOf (places : List Place) (dests : DestsData) : Type 0 where
  pub count : length dests.keys ≡ length places
  pub digests : (key : Digested) → has_key is_digested_before key dests.keys ≡ has_digest places key
