-- The row of an id has that id, and none has one beyond the last.
use Rattle.std.proofs.Common.{◌≡◌, ◌-◌, ◌<◌, length, ap, arith}
use Rattle.std.specs.Prelude.{slice_get}
use Rattle.std.proofs.lemmas.Grind.{common_steps}
use Rattle.std.proofs.lemmas.Option.{gets}
use Rattle.fts_tables.specs.declared.rows.FileRow.{FileRow}
use Rattle.fts_tables.specs.Tables.{row_at}
use Rattle.fts_routes.proofs.Numbered.{found-at, lent-again}
use Rattle.fts_routes.proofs.named.row_of_number.Goals as goal

pub returns-then-id-rows-clause-row : goal.returns-then-id-rows-clause-row
returns-then-id-rows-clause-row c =
    let past : length c.args.desk.now.tables.rows < c.args.id = omega (arith, ap length c.rows.ensures.rows) in
    let there : row_at c.args.desk.now.tables.rows c.args.id ≡ slice_get c.args.desk.now.tables.rows (c.args.id - 1) =
    found-at (λ (row : FileRow). row.id) 1 c.args.desk.now.tables.rows c.args.id (c.args.id - 1) c.standing.ensures.standing.formed.rows (omega arith) in
    rw there (grind (arith, common_steps, gets))

pub returns-clause-again : goal.returns-clause-again
returns-clause-again c = lent-again (λ (row : FileRow). row.id) c.args.desk.now.tables.rows c.args.id c.row.result
    c.standing.ensures.standing.formed.rows c.row.ensures.row
