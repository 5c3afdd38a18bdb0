-- The copy of the command that was prepared is ready, over tables that stay as they are.
use Rattle.std.proofs.Common.{◌<◌, sym, subst}
use Rattle.fts_tables.specs.Step.{step}
use Rattle.fts_tables.specs.Tables.{Tables}
use Rattle.fts_tables.specs.declared.limits.TheConstants.{MAX_COMMANDS}
use Rattle.fts_desk.specs.DeskData.{DeskData}
use Rattle.fts_desk.specs.Kept.{tables_kept}
use Rattle.fts_desk.specs.Prepared.{IsPrepared}
use Rattle.fts_desk.specs.Desk.{IsSound}
use Rattle.fts_desk.specs.declared.commands.Decided.{Decided}
use Rattle.fts_desk.specs.declared.desk.Plan.{Plan}
use Rattle.std.proofs.Common.{Ok}
use Rattle.fts_desk.proofs.Sound.{made_as, ready_after}
use Rattle.fts_desk.proofs.desk.Desk.prepare.Goals as goal

pub invariant_of-self-in-Ok-copy : goal.invariant_of-self-in-Ok-copy
invariant_of-self-in-Ok-copy c =
    let inside = c.self.inside in
    record {
      sound = subst (λ (tables : Tables). IsSound tables inside.commands) (sym c.in-Ok.ensures.tables) c.self.invariant.sound;
      ready = ready_after c.decide.new.kept (tables_kept inside.kept) inside.commands c.in-Ok.decided c.args.command.now c.in-Ok-copy.copy
          (subst (λ (desk : DeskData). desk.commands < MAX_COMMANDS) (sym c.self.view_is) c.requires.few)
          c.in-Ok.ensures.tables c.in-Ok.ensures.answer c.in-Ok.ensures.planned c.in-Ok-copy.ensures;
    }

pub returns-in-Ok-copy-clause-answer : goal.returns-in-Ok-copy-clause-answer
returns-in-Ok-copy-clause-answer c =
    subst (λ (desk : DeskData). IsPrepared {T = Plan} (step desk.tables c.args.command.now) (Ok (record { mark = tt }))) c.self.view_is
    (made_as Decided Plan (step (tables_kept c.self.inside.kept) c.args.command.now) c.in-Ok.decided (record { mark = tt }) c.in-Ok.ensures.answer)
