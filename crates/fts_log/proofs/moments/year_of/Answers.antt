-- The year is the first that ends behind the day.
use Rattle.std.proofs.Common.{ℕ, ◌+◌, ◌<◌, ◌≤◌, sym, subst, ◌∙◌, arith}
use Rattle.fts_log.specs.Moments.{days_before, year_of}
use Rattle.fts_log.proofs.Calendars.{goes_on, ends_here, ends_last}
use Rattle.fts_log.proofs.moments.year_of.Goals as goal

pub returns-then-day-days_before-clause-year : goal.returns-then-day-days_before-clause-year
unfolding year_of
returns-then-day-days_before-clause-year c =
    let this = c.loop-year.year in
    let early : c.args.day < days_before (this + 1) = subst (λ (begin : ℕ). c.args.day < begin) c.days_before.ensures.days c.if-day-days_before.true in
    sym (c.loop-year.invariant ∙ ends_here (days_before) 9999 this c.args.day (omega (arith, c.loop-year-test.true)) early)

pub loop-year-preserved : goal.loop-year-preserved
loop-year-preserved c =
    let this = c.loop-year.year in
    let late : days_before (this + 1) ≤ c.args.day = subst (λ (begin : ℕ). begin ≤ c.args.day) c.days_before.ensures.days c.if-day-days_before.false in
    c.loop-year.invariant ∙ goes_on (days_before) 9999 this c.args.day (omega (arith, c.loop-year-test.true)) late

pub returns-clause-year : goal.returns-clause-year
unfolding year_of
returns-clause-year c =
    let this = c.loop-year.year in
    sym (c.loop-year.invariant ∙ ends_last (days_before) 9999 this c.args.day (omega (arith, c.loop-year-test.false, c.loop-year.auto.year-end)))
