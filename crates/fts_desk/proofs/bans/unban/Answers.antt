-- What the end of a ban leaves is the machine's step.
use Rattle.std.proofs.Common.{Ok, ap, sym, ◌∙◌}
use Rattle.std.specs.Prelude.{max}
use Rattle.std.proofs.lemmas.List.{with_items_is}
use Rattle.fts_tables.specs.Step.{without_ban}
use Rattle.fts_tables.specs.declared.commands.Answer.TheVariants.{Unbanned}
use Rattle.fts_desk.specs.Kept.{tables_kept}
use Rattle.fts_desk.specs.Parts.{flags_in}
use Rattle.fts_desk.proofs.Banned.{unban_done}
use Rattle.fts_desk.proofs.bans.unban.Goals as goal

pub returns : goal.returns
returns c =
    let tables = tables_kept c.args.kept.now in
    record {
      step = unban_done tables (max c.args.now tables.moment) c.args.storage c.remove_ban.new.banned.items c.requires.accepted
          (c.remove_ban.ensures.banned ∙ ap (without_ban tables.banned) c.as_str.ensures.text)
          ∙ ap (λ moment. Ok (record tables { moment = moment; banned = c.remove_ban.new.banned.items }, Unbanned)) (sym c.max-kept.ensures);
    }

pub invariant_of-kept : goal.invariant_of-kept
invariant_of-kept c = record {
  ids_of_jobs = c.args.kept.now.ids_of_jobs;
  beside_rows = c.args.kept.now.beside_rows;
  of_settings = c.args.kept.now.of_settings;
  of_bans = with_items_is c.args.kept.now.flags c.refill.new.flags (c.refill.auto.flags ∙ c.deref_mut.ensures.len)
      ∙ (c.refill.ensures.flags ∙ ap (flags_in c.args.kept.now.settings) c.deref.ensures.value);
}
