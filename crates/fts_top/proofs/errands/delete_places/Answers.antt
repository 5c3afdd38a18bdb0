-- The deletions that ran under the settings that were read.
use Rattle.std.proofs.Common.{inr, ◌∙◌, rules}
use Rattle.fts_top.proofs.errands.delete_places.Goals as goal

pub returns-clause-deletes : goal.returns-clause-deletes
returns-clause-deletes g c = inr (
  c.in-Ok.settings,
  (
    search rules,
    (c.in-Ok.ensures.read, (c.delete_under-end.result, (c.stop-2.ensures.end ∙ c.of_deletion.ensures, c.delete_under-end.ensures.run))),
  ),
)
