-- The job and its row are there, and what cancelling leaves is the machine's step.
use Rattle.std.proofs.Common.{◌-◌, List, Some, ap, sym, ◌∙◌, arith, subst}
use Rattle.std.specs.Prelude.{max, option_map}
use Rattle.std.specs.Vec.{with_items}
use Rattle.std.proofs.lemmas.List.{with_items_is}
use Rattle.std.proofs.lemmas.Option.{slice_get_within}
use Rattle.fts_tables.specs.Tables.{job_at, row_at}
use Rattle.fts_tables.specs.Step.{cancel_file}
use Rattle.fts_tables.specs.History.{IsAccepted}
use Rattle.fts_tables.specs.declared.rows.JobRow.{JobRow}
use Rattle.fts_tables.specs.declared.commands.Answer.TheVariants.{Cancelled}
use Rattle.fts_tables.specs.declared.rows.Reason.TheVariants.{Cancelled as CancelledReason}
use Rattle.fts_desk.specs.Kept.{tables_kept}
use Rattle.fts_desk.specs.Parts.{IsBeside}
use Rattle.fts_desk.specs.Cancels.{after_file, IsInside}
use Rattle.fts_desk.proofs.Found.{on_option, file_found, file_cancelled, rows_done}
use Rattle.fts_desk.proofs.Numbered.{number_at}
use Rattle.fts_desk.proofs.LentTables.{job_there, together_there, holds_there}
use Rattle.fts_desk.proofs.cancels.cancel_file.Goals as goal

pub cancel_by_kind-requires-clause-together : goal.cancel_by_kind-requires-clause-together
cancel_by_kind-requires-clause-together c =
    together_there c.requires.formed c.args.job c.in-Some.place c.index.result.now c.deref.ensures.value c.in-Some.ensures.job c.in-Some.ensures.inside.0
    c.index.ensures c.deref_mut.ensures.value

pub cancel_by_kind-requires-clause-inside : goal.cancel_by_kind-requires-clause-inside
cancel_by_kind-requires-clause-inside c =
    let tables = tables_kept c.args.kept.now in
    let named = file_found tables (max c.args.now c.args.kept.now.moment) c.args.job c.args.file (job_at tables.jobs c.args.job)
    (row_at tables.rows c.args.file) c.requires.accepted in
    let stands = c.found_rows_stand.ensures.place tables c.args.file named.0 c.requires.formed named.1 in
    let within = slice_get_within tables.rows (c.args.file - 1) named.0 stands.1 in
    subst (λ rows. IsInside rows c.args.file) (sym c.deref_mut.ensures.value)
    (record { numbered = c.requires.formed.rows; first = stands.0; last = omega (arith, stands.0, within) })

pub unreachable-requires : goal.unreachable-requires
unreachable-requires c =
    let tables = tables_kept c.args.kept.now in
    subst (λ found. IsAccepted (on_option (λ job. cancel_file tables (max c.args.now c.args.kept.now.moment) job (row_at tables.rows c.args.file)) found))
    (ap (λ (jobs : List JobRow). job_at jobs c.args.job) (sym c.deref.ensures.value) ∙ sym c.in-None.ensures.job) c.requires.accepted

pub returns : goal.returns
returns c =
    let tables = tables_kept c.args.kept.now in
    let now = max c.args.now c.args.kept.now.moment in
    let job = c.index.result.now in
    let found = job_there c.requires.formed c.args.job c.in-Some.place job c.deref.ensures.value c.in-Some.ensures.job c.in-Some.ensures.inside.0
    c.index.ensures in
    let rows = ap (λ found. after_file CancelledReason found c.args.job c.args.file tables.rows) (ap (option_map (λ (job : JobRow). job.kind)) found)
    ∙ (ap (λ number. after_file CancelledReason (Some job.kind) number c.args.file tables.rows) (sym (number_at tables.jobs c.args.job job found))
    ∙ (ap (after_file CancelledReason (Some job.kind) job.number c.args.file) (sym c.deref_mut.ensures.value) ∙ (sym c.cancel_by_kind.ensures.rows
    ∙ sym (with_items_is c.args.kept.now.rows c.cancel_by_kind.new.rows (c.cancel_by_kind.auto.rows ∙ c.deref_mut.ensures.len))))) in
    record {
      step = file_cancelled tables now c.args.job c.args.file c.requires.accepted
          ∙ rows_done tables (Cancelled c.args.job) (max c.args.now c.args.kept.now.moment) c.max-kept.result
          (after_file CancelledReason (option_map (λ (job : JobRow). job.kind) (job_at tables.jobs c.args.job)) c.args.job c.args.file tables.rows)
          (with_items c.args.kept.now.rows c.cancel_by_kind.new.rows).items (sym c.max-kept.ensures) rows;
    }

pub invariant_of-kept-clause-beside_rows : goal.invariant_of-kept-clause-beside_rows
invariant_of-kept-clause-beside_rows c = holds_there (λ jobs rows. IsBeside jobs rows c.cancel_by_kind.new.beside) c.deref-in-Some.ensures.value
    (sym (with_items_is c.args.kept.now.rows c.cancel_by_kind.new.rows (c.cancel_by_kind.auto.rows ∙ c.deref_mut.ensures.len))) c.cancel_by_kind.ensures.beside
