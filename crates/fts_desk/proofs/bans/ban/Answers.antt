-- What a ban leaves is the machine's step.
use Rattle.std.proofs.Common.{◌+◌, List, Ok, ap, sym, subst, ◌∙◌}
use Rattle.std.specs.Prelude.{max, if◌then◌else◌}
use Rattle.std.specs.Vec.{with_items}
use Rattle.std.proofs.lemmas.List.{with_items_is}
use Rattle.fts_tables.specs.Waits.{waits_at, rows_cancelled}
use Rattle.fts_tables.specs.declared.commands.Answer.TheVariants.{Banned}
use Rattle.fts_tables.specs.declared.rows.FileRow.{FileRow}
use Rattle.fts_tables.specs.declared.rows.JobRow.{JobRow}
use Rattle.fts_tables.specs.declared.rows.Reason.TheVariants.{Cancelled}
use Rattle.fts_desk.specs.Cancels.{count_canceled}
use Rattle.fts_desk.specs.Kept.{tables_kept}
use Rattle.fts_desk.specs.Parts.{flags_in, IsBeside}
use Rattle.fts_desk.proofs.Banned.{ban_done}
use Rattle.fts_desk.proofs.bans.ban.Goals as goal

pub returns : goal.returns
returns c =
    let tables = tables_kept c.args.kept.now in
    let cancelled = c.cancel_where_asked-cancelled.result in
    let after : List FileRow = (with_items c.args.kept.now.rows c.cancel_where_asked-cancelled.new.rows).items in
    let stay = with_items_is c.args.kept.now.rows c.cancel_where_asked-cancelled.new.rows
    (c.cancel_where_asked-cancelled.auto.rows ∙ c.deref_mut.ensures.len) in
    let left = λ (jobs : List JobRow) (storage : List _) (rows : List FileRow).
    (if c.args.cancel then rows_cancelled Cancelled jobs (waits_at storage) rows else rows) in
    let rows = stay ∙ (c.cancel_where_asked-cancelled.ensures.rows
    ∙ (ap (λ (jobs : List JobRow). left jobs c.as_str.result.now c.deref_mut.result.now) c.deref.ensures.value
    ∙ (ap (λ storage. left tables.jobs storage c.deref_mut.result.now) c.as_str.ensures.text
    ∙ ap (left tables.jobs c.args.storage) c.deref_mut.ensures.value))) in
    let counted = ap count_canceled stay ∙ (c.cancel_where_asked-cancelled.ensures.count
    ∙ ap (λ (rows : List FileRow). count_canceled rows + cancelled) c.deref_mut.ensures.value) in
    record {
      step = ban_done c.overdue_and_banned_rows_go.ensures.counted tables (max c.args.now tables.moment) c.args.storage c.args.cancel after
          c.add_ban.new.banned.items cancelled c.requires.accepted rows counted c.add_ban.ensures.banned
          ∙ ap (λ moment. Ok (record tables { moment = moment; rows = after; banned = c.add_ban.new.banned.items }, Banned cancelled)) (sym c.max-kept.ensures);
    }

pub invariant_of-kept : goal.invariant_of-kept
invariant_of-kept c =
    let stay = with_items_is c.args.kept.now.rows c.cancel_where_asked-cancelled.new.rows
    (c.cancel_where_asked-cancelled.auto.rows ∙ c.deref_mut.ensures.len) in
    record {
      ids_of_jobs = c.args.kept.now.ids_of_jobs;
      beside_rows = subst (λ (rows : List FileRow). IsBeside c.args.kept.now.jobs.items rows c.cancel_where_asked-cancelled.new.beside) (sym stay)
          (subst (λ (jobs : List JobRow). IsBeside jobs c.cancel_where_asked-cancelled.new.rows c.cancel_where_asked-cancelled.new.beside)
          c.deref.ensures.value c.cancel_where_asked-cancelled.ensures.beside);
      of_settings = c.cancel_where_asked-cancelled.ensures.limits ∙ c.args.kept.now.of_settings;
      of_bans = with_items_is c.args.kept.now.flags c.refill.new.flags (c.refill.auto.flags ∙ c.deref_mut-2.ensures.len)
          ∙ (c.refill.ensures.flags ∙ ap (flags_in c.args.kept.now.settings) c.deref-2.ensures.value);
    }
