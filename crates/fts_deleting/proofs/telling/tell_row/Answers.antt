-- The beginning of the line, and its URL behind it.
use Rattle.std.proofs.Common.{◌++◌, codes}
use Rattle.fts_wire.proofs.Sent.{sends_then, sends_no_more}
use Rattle.fts_deleting.specs.Told.{place_text, row_start}
use Rattle.fts_deleting.proofs.telling.tell_row.Goals as goal

pub returns-in-Err-clause-sent : goal.returns-in-Err-clause-sent
returns-in-Err-clause-sent g c =
    let row = c.args.row.now in
    sends_no_more _ _ (row_start row.id row.state) (place_text row.place ++ codes "\n") c.in-Err.fault c.in-Err.ensures.sent

pub returns-clause-sent : goal.returns-clause-sent
returns-clause-sent g c =
    let row = c.args.row.now in
    sends_then _ (g.K.Sink.held c.tell_start.new.output) _ (row_start row.id row.state) (place_text row.place ++ codes "\n") c.tell_place.result
    c.in-Ok.ensures.sent c.tell_place.ensures.sent
