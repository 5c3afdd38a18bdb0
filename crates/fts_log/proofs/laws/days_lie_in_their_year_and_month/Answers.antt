-- A day lies in its year and its month.
use Rattle.fts_log.proofs.Calendars.{lies_in_year, lies_in_month}
use Rattle.fts_log.proofs.laws.days_lie_in_their_year_and_month.Goals as goal

pub returns : goal.returns
returns c = record { year = lies_in_year; month = lies_in_month }
