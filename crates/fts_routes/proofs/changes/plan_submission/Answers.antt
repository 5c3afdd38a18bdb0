-- The reply shows the new job's id, whatever comes of the submission.
use Rattle.std.proofs.Common.{ap, ◌∙◌, refl, ℕ}
use Rattle.fts_tables.specs.Step.{step}
use Rattle.fts_tables.specs.declared.commands.Command.TheVariants.{Submit}
use Rattle.fts_routes.specs.Objects.{accepted_object}
use Rattle.fts_routes.specs.Refusals.{shows}
use Rattle.fts_routes.specs.Replies.{id_of_new}
use Rattle.fts_routes.proofs.Changed.{shown-anyway}
use Rattle.fts_routes.proofs.changes.plan_submission.Goals as goal

pub returns : goal.returns
returns c = record {
  same = refl;
  outcome = shown-anyway (accepted_object (id_of_new c.args.desk.now.tables c.args.job)) c.args.desk.now.tables c.in_ok-reply.reply
      (c.in_ok-reply.ensures ∙ ap (λ (id : ℕ). shows (accepted_object id)) c.id_of_new.ensures) (step c.args.desk.now.tables (Submit c.args.now c.args.job));
  in_range = refl;
}
