-- Each state at its rank.
use Rattle.std.proofs.Common.{◌≡◌}
use Rattle.fts_tables.specs.declared.rows.JobState.{JobState}
use Rattle.fts_tables.specs.declared.rows.JobState.TheVariants.{Submitted, Active, Finished, FinishedDirty, Failed, Canceled}
use Rattle.fts_routes.proofs.queries.asked_states.Goals as goal

pub returns : goal.returns
returns c = elim [
  | Submitted ↦ c.is_asked.ensures
  | Active ↦ c.is_asked-2.ensures
  | Finished ↦ c.is_asked-3.ensures
  | FinishedDirty ↦ c.is_asked-4.ensures
  | Failed ↦ c.is_asked-5.ensures
  | Canceled ↦ c.is_asked-6.ensures
]
