-- Each kind of job adds as many rows as it has files.
use Rattle.std.proofs.Common.{◌+◌, length, ap, ◌∙◌, length-append}
use Rattle.fts_tables.specs.Moves.{new_rows, submit_if_not_used, submit_chosen}
use Rattle.fts_tables.specs.Choice.{next_alternative}
use Rattle.fts_tables.specs.declared.rows.FileState.TheVariants.{Submitted, NotUsed}
use Rattle.fts_desk.proofs.NewRows.{length-new_rows}
use Rattle.fts_desk.proofs.AddedRows.{length-submit_if_not_used, length-submit_chosen}
use Rattle.fts_desk.proofs.submit.add_rows_of_kind.Goals as goal

pub returns-in-Plain-clause-count : goal.returns-in-Plain-clause-count
returns-in-Plain-clause-count c =
    let before = c.args.rows.now.items in
    let added = new_rows c.args.job.now.number (length before + 1) Submitted c.args.files.items in
    ap length c.add_rows.ensures ∙ length-append before added
    ∙ ap (λ n. length before + n) (length-new_rows c.args.job.now.number (length before + 1) Submitted c.args.files.items)

pub returns-in-Multihop-clause-count : goal.returns-in-Multihop-clause-count
returns-in-Multihop-clause-count c =
    let before = c.args.rows.now.items in
    let added = new_rows c.args.job.now.number (length before + 1) NotUsed c.args.files.items in
    ap length c.add_hops.ensures.rows ∙ length-append before (submit_if_not_used (length before + 1) added)
    ∙ ap (λ n. length before + n) (length-submit_if_not_used (length before + 1) added
    ∙ length-new_rows c.args.job.now.number (length before + 1) NotUsed c.args.files.items)

pub returns-in-Replica-clause-count : goal.returns-in-Replica-clause-count
returns-in-Replica-clause-count c =
    let before = c.args.rows.now.items in
    let added = new_rows c.args.job.now.number (length before + 1) NotUsed c.args.files.items in
    let chosen = next_alternative c.args.job.now.strategy before added in
    ap length c.add_sources.ensures.rows ∙ length-append before (submit_chosen chosen added)
    ∙ ap (λ n. length before + n) (length-submit_chosen chosen added ∙ length-new_rows c.args.job.now.number (length before + 1) NotUsed c.args.files.items)
