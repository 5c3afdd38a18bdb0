-- The number of places, and the places.
use Rattle.std.proofs.Common.{rules}
use Rattle.fts_record.specs.Reading.{list_at}
use Rattle.fts_delete.proofs.reading.ask_at.Goals as goal

pub returns-in_err-count : goal.returns-in_err-count
unfolding list_at
returns-in_err-count c = search rules

pub returns-in_err-places : goal.returns-in_err-places
unfolding list_at
returns-in_err-places c = search rules

pub returns : goal.returns
unfolding list_at
returns c = search rules
