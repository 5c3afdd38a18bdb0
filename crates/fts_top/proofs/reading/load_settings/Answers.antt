-- A text that is too long breaks its rule.
use Rattle.fts_top.proofs.Settled.{stops_too_long}
use Rattle.fts_top.proofs.reading.load_settings.Goals as goal

pub returns-in-Err-TooLong-clause-stopped : goal.returns-in-Err-TooLong-clause-stopped
returns-in-Err-TooLong-clause-stopped g c =
    let read = rw c.in-Err-TooLong.field-0-is at c.in-Err-TooLong.ensures in
    stops_too_long (g.F.Source.left c.args.source.now) (g.F.Source.left c.read_all.new.source) c.end_by.result read.refused c.end_by.ensures
