-- What an expiry leaves is the machine's step.
use Rattle.std.proofs.Common.{◌+◌, List, Ok, ap, sym, subst, ◌∙◌}
use Rattle.std.specs.Prelude.{max}
use Rattle.std.specs.Vec.{with_items}
use Rattle.std.proofs.lemmas.List.{with_items_is}
use Rattle.fts_tables.specs.Step.{with_rows}
use Rattle.fts_tables.specs.Waits.{is_overdue, rows_cancelled}
use Rattle.fts_tables.specs.declared.commands.Answer.TheVariants.{Expired as ExpiredAnswer}
use Rattle.fts_tables.specs.declared.rows.FileRow.{FileRow}
use Rattle.fts_tables.specs.declared.rows.JobRow.{JobRow}
use Rattle.fts_tables.specs.declared.rows.Reason.TheVariants.{Expired}
use Rattle.fts_desk.specs.Cancels.{count_canceled}
use Rattle.fts_desk.specs.Kept.{tables_kept}
use Rattle.fts_desk.specs.Parts.{IsBeside}
use Rattle.fts_desk.proofs.Banned.{expire_done}
use Rattle.fts_desk.proofs.expiries.expire.Goals as goal

pub returns : goal.returns
returns c =
    let tables = tables_kept c.args.kept.now in
    let now = max c.args.now tables.moment in
    let cancelled = c.cancel_overdue-cancelled.result in
    let after : List FileRow = (with_items c.args.kept.now.rows c.cancel_overdue-cancelled.new.rows).items in
    let stay = with_items_is c.args.kept.now.rows c.cancel_overdue-cancelled.new.rows
    (c.cancel_overdue-cancelled.auto.rows ∙ c.deref_mut.ensures.len) in
    let rows = stay ∙ (c.cancel_overdue-cancelled.ensures.rows
    ∙ (ap (λ (jobs : List JobRow). rows_cancelled Expired jobs (is_overdue jobs c.max-kept.result) c.deref_mut.result.now) c.deref.ensures.value
    ∙ (ap (λ moment. rows_cancelled Expired tables.jobs (is_overdue tables.jobs moment) c.deref_mut.result.now) c.max-kept.ensures
    ∙ ap (rows_cancelled Expired tables.jobs (is_overdue tables.jobs now)) c.deref_mut.ensures.value))) in
    let counted = ap count_canceled stay ∙ (c.cancel_overdue-cancelled.ensures.count
    ∙ ap (λ (rows : List FileRow). count_canceled rows + cancelled) c.deref_mut.ensures.value) in
    record {
      step = expire_done c.overdue_and_banned_rows_go.ensures.counted tables now after cancelled c.requires.accepted rows counted
          ∙ ap (λ moment. Ok (with_rows tables moment after, ExpiredAnswer cancelled)) (sym c.max-kept.ensures);
    }

pub invariant_of-kept-clause-beside_rows : goal.invariant_of-kept-clause-beside_rows
invariant_of-kept-clause-beside_rows c =
    subst (λ (rows : List FileRow). IsBeside c.args.kept.now.jobs.items rows c.cancel_overdue-cancelled.new.beside)
    (sym (with_items_is c.args.kept.now.rows c.cancel_overdue-cancelled.new.rows (c.cancel_overdue-cancelled.auto.rows ∙ c.deref_mut.ensures.len)))
    (subst (λ (jobs : List JobRow). IsBeside jobs c.cancel_overdue-cancelled.new.rows c.cancel_overdue-cancelled.new.beside) c.deref.ensures.value
    c.cancel_overdue-cancelled.ensures.beside)
