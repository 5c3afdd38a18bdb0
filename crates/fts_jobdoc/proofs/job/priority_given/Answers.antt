-- A document that breaks no rule has a priority.
use Rattle.serde_json.specs.View.{view}
use Rattle.fts_jobdoc.proofs.Chain.{priority_kept}
use Rattle.fts_jobdoc.proofs.job.priority_given.Goals as goal

pub priority_value-requires : goal.priority_value-requires
priority_value-requires c = priority_kept (view c.args.document.now) c.in_ok-check_priority_document.ensures
