-- The month is the first that ends behind the day.
use Rattle.std.proofs.Common.{ℕ, ◌+◌, ◌<◌, ◌≤◌, sym, subst, ◌∙◌, arith}
use Rattle.fts_log.specs.Moments.{days_before_month, month_of}
use Rattle.fts_log.proofs.Calendars.{goes_on, ends_here, ends_last}
use Rattle.fts_log.proofs.moments.month_of.Goals as goal

pub returns-then-day-days_before_month-clause-month : goal.returns-then-day-days_before_month-clause-month
unfolding month_of
returns-then-day-days_before_month-clause-month c =
    let this = c.loop-month.month in
    let early : c.args.day < days_before_month c.args.leap (this + 1) = subst (λ (begin : ℕ). c.args.day < begin) c.days_before_month.ensures c.if-day-days_before_month.true in
    sym (c.loop-month.invariant ∙ ends_here (days_before_month c.args.leap) 12 this c.args.day (omega (arith, c.loop-month-test.true)) early)

pub loop-month-preserved : goal.loop-month-preserved
loop-month-preserved c =
    let this = c.loop-month.month in
    let late : days_before_month c.args.leap (this + 1) ≤ c.args.day = subst (λ (begin : ℕ). begin ≤ c.args.day) c.days_before_month.ensures c.if-day-days_before_month.false in
    c.loop-month.invariant ∙ goes_on (days_before_month c.args.leap) 12 this c.args.day (omega (arith, c.loop-month-test.true)) late

pub returns-clause-month : goal.returns-clause-month
unfolding month_of
returns-clause-month c =
    let this = c.loop-month.month in
    sym (c.loop-month.invariant ∙ ends_last (days_before_month c.args.leap) 12 this c.args.day (omega (arith, c.loop-month-test.false, c.loop-month.auto.month-end)))
