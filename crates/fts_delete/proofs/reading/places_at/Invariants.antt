-- The loop that reads a list.
use Rattle.std.proofs.Common.{◌≡◌, ◌-◌}
use Rattle.fts_record.specs.Reading.{items_at}
use Rattle.fts_delete.specs.Spelling.{place_at}
use Rattle.fts_record.proofs.ListLoop.{with_front}
use Rattle.fts_delete.proofs.reading.places_at.Given as goal

-- the items so far, in front of those that are still read, are all
abbrev pub invariant-loop : goal.invariant-loop
invariant-loop l = with_front l.places (items_at place_at (l.count - l.counter) l.rest) ≡ items_at place_at l.count l.bytes
