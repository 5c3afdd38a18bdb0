-- A priority that was read is one.
use Rattle.fts_routes.proofs.Priorities.{priority-read}
use Rattle.fts_routes.proofs.plan.plan_prioritization.Goals as goal

pub plan_priority-requires-clause-priority : goal.plan_priority-requires-clause-priority
plan_priority-requires-clause-priority c = priority-read c.args.body.now c.in-Ok.priority c.in-Ok.ensures
