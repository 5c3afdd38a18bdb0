use Rattle.std.proofs.Common.{ap, ◌∙◌}
use Rattle.std.specs.Prelude.{slice_get, option_and_then}
use Rattle.fts_tables.specs.declared.rows.FileRow.{FileRow}
use Rattle.fts_desk.proofs.Numbered.{found_at}
use Rattle.fts_desk.proofs.lookups.row_place.Goals as goal

pub returns-clause-row : goal.returns-clause-row
returns-clause-row c = ap (option_and_then (slice_get c.args.rows.now)) c.place_of.ensures.place
    ∙ found_at (λ (row : FileRow). row.id) c.args.rows.now c.args.id c.requires.numbered
