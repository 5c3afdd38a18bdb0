use Rattle.std.proofs.Common.{◌≡◌, ◌-◌}
use Rattle.fts_log.specs.Moments.{first_from, days_before_month}
use Rattle.fts_log.proofs.moments.month_of.Given as goal

abbrev pub invariant-loop-month : goal.invariant-loop-month
invariant-loop-month l = first_from (days_before_month l.leap) 11 1 l.day ≡ first_from (days_before_month l.leap) (12 - l.month) l.month l.day
