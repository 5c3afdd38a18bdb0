-- The loop over the last rounds: each but the last is busy, and uses more of the journal.
use Rattle.std.proofs.Common.{◌-◌}
use Rattle.fts_tables.specs.declared.limits.TheConstants.{JOURNAL_END}
use Rattle.fts_session.specs.Sessions.{Works, thread}
use Rattle.fts_session.proofs.Serving.{RoundsOn}
use Rattle.fts_session.proofs.session.make_last_rounds.Given as goal

-- whatever last rounds are made from here were made from the beginning
abbrev pub invariant-rounds : goal.invariant-rounds
invariant-rounds g l = Works g.D.Disk g.E.Store (λ own before after. RoundsOn l.fn.working.bench.places before after)
    (thread l.fn.working.keep l.fn.working.bench l.fn.working.claims l.fn.store (g.C.Clock.moments l.fn.clock) (g.W.Words.words l.fn.words))
    (thread l.working.keep l.working.bench l.working.claims l.store (g.C.Clock.moments l.clock) (g.W.Words.words l.words))

-- what is left of the journal
abbrev pub decreases-rounds : goal.decreases-rounds
decreases-rounds g l = JOURNAL_END - l.working.keep.used
