-- The row that is found by an id has it.
use Rattle.std.proofs.Common.{◌≡◌, subst, sym, Some}
use Rattle.fts_tables.specs.Tables.{row_at}
use Rattle.fts_workers.proofs.Numbered.{row_at-id}
use Rattle.fts_workers.proofs.copying.job_of_file.Goals as goal

pub find_job-requires-clause-there : goal.find_job-requires-clause-there
find_job-requires-clause-there c =
    let row = c.in_ok-row.row.now in
    let found : row_at c.args.desk.now.tables.rows c.args.file ≡ Some row = sym c.in_ok-row.ensures.row in
    subst (λ id. row_at c.args.desk.now.tables.rows id ≡ Some row) (sym (row_at-id c.args.desk.now.tables.rows c.args.file row found)) found
