-- The row's destination has a number among those so far, its own the last, and the row is in line by it.
use Rattle.std.proofs.Common.{◌+◌, refl, ap, sym, ◌∙◌, subst}
use Rattle.std.proofs.lemmas.List.{take-map}
use Rattle.fts_tables.specs.declared.rows.FileRow.{FileRow}
use Rattle.fts_heads.specs.Dests.{number_of, AreNumbersOf}
use Rattle.fts_heads.proofs.Added.{row_at, number_there}
use Rattle.fts_claims.proofs.InLineMore.{row_lined}
use Rattle.fts_claims.proofs.in_line.add_number.Goals as goal

pub add-number-requires-clause-numbers : goal.add-number-requires-clause-numbers
add-number-requires-clause-numbers c =
    subst (λ places. AreNumbersOf places c.args.parts.now.dests) (sym (take-map (λ (row : FileRow). row.dest) c.args.place c.args.rows.now))
    c.requires.line.found

pub returns-clause-line : goal.returns-clause-line
returns-clause-line c =
    let found = row_at c.args.rows.now c.args.place c.requires.inside in
    row_lined c.args.rows.now c.args.place found.0 c.requires.inside (sym found.1) c.add-number.result c.args.parts.now _
    (ap (λ places. number_of places found.0.dest) (sym (take-map (λ (row : FileRow). row.dest) (c.args.place + 1) c.args.rows.now))
    ∙ number_there c.args.rows.now c.args.place found.0 c.requires.inside found.1 c.add-number.result c.add-number.ensures.number)
    c.requires.line c.requires.room.places c.add_row.ensures.row refl c.add-number.ensures.numbers
