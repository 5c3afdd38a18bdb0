-- The place of a row stands before its id, and no row has the id 0.
use Rattle.std.proofs.Common.{◌≤◌, ◌<◌, ◌∙◌, sym, arith}
use Rattle.fts_metrics.proofs.Numbered.{told_of, told_of_none}
use Rattle.fts_metrics.proofs.totals.report_place.Goals as goal

pub returns-then-file-eq0 : goal.returns-then-file-eq0
returns-then-file-eq0 c = λ place_of are.
    let low : c.args.file < 1 = omega arith in
    sym (told_of_none place_of c.args.desk.now.tables.rows c.args.file c.standing.ensures.standing.formed.rows low)

pub returns : goal.returns
returns c = λ place_of are.
    let above : 1 ≤ c.args.file = omega arith in
    c.place_at.ensures ∙ told_of place_of c.args.desk.now.tables.rows c.args.places.now c.args.file c.standing.ensures.standing.formed.rows are above
