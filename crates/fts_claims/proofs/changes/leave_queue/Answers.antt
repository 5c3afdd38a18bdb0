-- The file that is taken out is the row's, which waits.
use Rattle.std.proofs.Common.{ap, ◌∙◌}
use Rattle.std.specs.List.{list_any}
use Rattle.fts_tables.specs.SettingsData.{SettingsData}
use Rattle.fts_queue.specs.declared.waiter.Waiter.{Waiter}
use Rattle.fts_line.specs.LineData.{is_same_waiter}
use Rattle.fts_claims.specs.Ties.{waiter_of}
use Rattle.fts_claims.proofs.changes.leave_queue.Goals as goal

pub remove-requires-clause-waits : goal.remove-requires-clause-waits
remove-requires-clause-waits c =
    ap (λ (waiter : Waiter). list_any (is_same_waiter waiter) c.args.parts.now.line.waiting.waiters)
    (c.waiter_of-waiter.ensures.waiter ∙ ap (λ (settings : SettingsData). waiter_of settings c.args.jobs.now c.args.row.now) c.settings.ensures.settings)
    ∙ c.requires.waits
