-- Each event's line is one line.
use Rattle.fts_log.proofs.OneLine.{event_line_IsLine}
use Rattle.fts_log.proofs.laws.each_event_is_one_line.Goals as goal

pub returns : goal.returns
returns c = record { line = event_line_IsLine }
