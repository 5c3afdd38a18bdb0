use Rattle.std.proofs.Common.{◌≡◌, ◌-◌}
use Rattle.fts_log.specs.Moments.{first_from, days_before}
use Rattle.fts_log.proofs.moments.year_of.Given as goal

abbrev pub invariant-loop-year : goal.invariant-loop-year
invariant-loop-year l = first_from days_before 8029 1970 l.day ≡ first_from days_before (9999 - l.year) l.year l.day
