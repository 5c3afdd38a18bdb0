-- The job is there, and what cancelling its rows leaves is the machine's step.
use Rattle.std.proofs.Common.{List, map, ap, sym, ◌∙◌, subst}
use Rattle.std.specs.Prelude.{max}
use Rattle.std.specs.Vec.{with_items}
use Rattle.std.proofs.lemmas.List.{with_items_is}
use Rattle.fts_tables.specs.Tables.{job_at}
use Rattle.fts_tables.specs.Step.{cancel_rows}
use Rattle.fts_tables.specs.History.{IsAccepted}
use Rattle.fts_tables.specs.declared.rows.JobRow.{JobRow}
use Rattle.fts_tables.specs.declared.commands.Answer.TheVariants.{Cancelled}
use Rattle.fts_tables.specs.declared.rows.Reason.TheVariants.{Cancelled as CancelledReason}
use Rattle.fts_desk.specs.Kept.{tables_kept}
use Rattle.fts_desk.specs.Cancels.{cancelled_of}
use Rattle.fts_desk.specs.Parts.{IsBeside}
use Rattle.fts_desk.proofs.Found.{on_option, job_cancelled, rows_done}
use Rattle.fts_desk.proofs.Numbered.{number_at}
use Rattle.fts_desk.proofs.LentTables.{job_there, together_there, holds_there}
use Rattle.fts_desk.proofs.cancels.cancel_job.Goals as goal

pub cancel_all_of-requires-clause-together : goal.cancel_all_of-requires-clause-together
cancel_all_of-requires-clause-together c =
    together_there c.requires.formed c.args.job c.in-Some.place c.index.result.now c.deref.ensures.value c.in-Some.ensures.job c.in-Some.ensures.inside.0
    c.index.ensures c.deref_mut.ensures.value

pub unreachable-requires : goal.unreachable-requires
unreachable-requires c = subst (λ found. IsAccepted (on_option (cancel_rows (tables_kept c.args.kept.now) (max c.args.now c.args.kept.now.moment)) found))
    (ap (λ (jobs : List JobRow). job_at jobs c.args.job) (sym c.deref.ensures.value) ∙ sym c.in-None.ensures.job) c.requires.accepted

pub returns : goal.returns
returns c =
    let tables = tables_kept c.args.kept.now in
    let job = c.index.result.now in
    let found = job_there c.requires.formed c.args.job c.in-Some.place job c.deref.ensures.value c.in-Some.ensures.job c.in-Some.ensures.inside.0
    c.index.ensures in
    let rows = ap (λ number. map (cancelled_of CancelledReason number) tables.rows) (sym (number_at tables.jobs c.args.job job found))
    ∙ ap (map (cancelled_of CancelledReason job.number)) (sym c.deref_mut.ensures.value) ∙ sym c.cancel_all_of.ensures.rows
    ∙ sym (with_items_is c.args.kept.now.rows c.cancel_all_of.new.rows (c.cancel_all_of.auto.rows ∙ c.deref_mut.ensures.len)) in
    record {
      step = job_cancelled tables (max c.args.now c.args.kept.now.moment) c.args.job c.requires.accepted
          ∙ rows_done tables (Cancelled c.args.job) (max c.args.now c.args.kept.now.moment) c.max-kept.result
          (map (cancelled_of CancelledReason c.args.job) tables.rows)
          (with_items c.args.kept.now.rows c.cancel_all_of.new.rows).items (sym c.max-kept.ensures) rows;
    }

pub invariant_of-kept-clause-beside_rows : goal.invariant_of-kept-clause-beside_rows
invariant_of-kept-clause-beside_rows c = holds_there (λ jobs rows. IsBeside jobs rows c.cancel_all_of.new.beside) c.deref-in-Some.ensures.value
    (sym (with_items_is c.args.kept.now.rows c.cancel_all_of.new.rows (c.cancel_all_of.auto.rows ∙ c.deref_mut.ensures.len))) c.cancel_all_of.ensures.beside
