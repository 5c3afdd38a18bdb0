-- The loop that writes places.
use Rattle.std.proofs.Common.{◌≡◌, ◌++◌, true, length, take}
use Rattle.std.specs.List.{flat_map, list_all}
use Rattle.fts_record.specs.Spelling.{number_bytes}
use Rattle.fts_delete.specs.Spelling.{place_bytes, is_proper_place}
use Rattle.fts_delete.proofs.spelling.write_places.Given as goal

-- the number of places and the places so far are written, and these were proper
abbrev pub invariant-loop-place : goal.invariant-loop-place
invariant-loop-place l = record {
  bytes : l.out.items ≡ (l.fn.out.items ++ number_bytes (length l.places)) ++ flat_map place_bytes (take l.place-index l.places);
  proper : list_all is_proper_place (take l.place-index l.places) ≡ true;
}
