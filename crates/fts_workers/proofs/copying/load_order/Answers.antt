-- The row that is found by an id has it.
use Rattle.std.proofs.Common.{◌≡◌, subst, sym, Some}
use Rattle.fts_tables.specs.Tables.{row_at}
use Rattle.fts_workers.proofs.Numbered.{row_at-id}
use Rattle.fts_workers.proofs.copying.load_order.Goals as goal

pub find_job-job-requires-clause-there : goal.find_job-job-requires-clause-there
find_job-job-requires-clause-there c =
    let row = c.find_row-row.result.now in
    subst (λ id. row_at c.args.desk.now.tables.rows id ≡ Some row)
    (sym (row_at-id c.args.desk.now.tables.rows c.args.file row c.find_row-row.ensures)) c.find_row-row.ensures
