-- The row stands at the place before its id, and so does its going.
use Rattle.std.proofs.Common.{◌-◌, ◌∙◌, ap, sym}
use Rattle.std.specs.Prelude.{option_map}
use Rattle.fts_board.specs.Tallied.{pair_of_row}
use Rattle.fts_board.proofs.Tallied.{pair_found}
use Rattle.fts_board.proofs.goings.pair_at.Goals as goal

pub returns-in-Some : goal.returns-in-Some
returns-in-Some c = λ endpoints are.
    let tables = c.args.desk.now.tables in
    let row = c.in-Some.field-0.now in
    let stands = c.found_rows_stand.ensures.place tables c.args.id row c.standing.ensures.standing.formed (sym c.in-Some.ensures.row) in
    c.pair_in.ensures ∙ pair_found endpoints tables.rows c.args.goings.now (c.args.id - 1) row are stands.1 ∙ ap (option_map (pair_of_row endpoints)) c.in-Some.ensures.row
