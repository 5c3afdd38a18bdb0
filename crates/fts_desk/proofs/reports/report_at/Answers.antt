-- The reported row, and that which follows it.
use Rattle.std.proofs.Common.{◌≡◌, ◌+◌, List, get_or, set, ap, sym, ◌∙◌, subst, arith}
use Rattle.std.specs.Prelude.{◌==◌, if◌then◌else◌}
use Rattle.std.proofs.lemmas.Option.{get_or_from_slice_get}
use Rattle.fts_tables.specs.Tables.{AreNumberedFrom}
use Rattle.fts_tables.specs.Moves.{change_row, reported, followed}
use Rattle.fts_tables.specs.declared.commands.Answer.TheVariants.{Reported}
use Rattle.fts_tables.specs.declared.rows.FileRow.{FileRow}
use Rattle.fts_states.specs.Afters.{with_follow}
use Rattle.fts_desk.specs.Standing.{StandTogether}
use Rattle.fts_desk.proofs.ChangedRows.{change_row-set, id_at}
use Rattle.fts_desk.proofs.KeptFiles.{reported_file, one_file, together-map}
use Rattle.fts_desk.proofs.Counted.{counts_before}
use Rattle.fts_desk.proofs.RowsBeside.{room_fewer, reported_idle, room_to_follow, site_stood, site_file, site_numbered, site_line, site_idle, site_room}
use Rattle.fts_desk.proofs.reports.report_at.Goals as goal
use Rattle.fts_desk.proofs.reports.report_at.Goals.{After-report_row-after}

-- the rows stay numbered
numbered : (c : After-report_row-after) → AreNumberedFrom (λ row. row.id) 1 (set c.args.rows.now c.args.place c.report_row-after.new.row)
numbered c =
    let job = c.args.job.now in
    site_numbered c.args.rows.now c.args.place (reported job c.args.now c.args.outcome.now) (reported_file job c.args.now c.args.outcome.now)
    c.index-rows-place-2.result c.report_row-after.new.row c.requires.inside c.report_row-after.ensures.row c.requires.numbered

pub follow-requires-clause-numbered : goal.follow-requires-clause-numbered
follow-requires-clause-numbered c = numbered (goal.at.follow-requires-clause-numbered c).After-report_row-after

pub follow-requires-clause-together : goal.follow-requires-clause-together
follow-requires-clause-together c =
    let change = reported c.args.job.now c.args.now c.args.outcome.now in
    let written = change_row-set c.args.rows.now c.args.place change c.index-rows-place-2.result c.report_row-after.new.row c.requires.numbered
    c.requires.inside c.report_row-after.ensures.row in
    let one = λ (row : FileRow). if row.id == c.args.place + 1 then change row else row in
    subst (λ (rows : List FileRow). StandTogether rows c.args.job.now) (sym written)
    (together-map one (one_file (c.args.place + 1) change (reported_file c.args.job.now c.args.now c.args.outcome.now)) c.args.rows.now c.args.job.now
    c.requires.together)

pub returns-clause-rows : goal.returns-clause-rows
returns-clause-rows c = λ row at.
    let rows = c.args.rows.now in
    let place = c.args.place in
    let job = c.args.job.now in
    let change = reported job c.args.now c.args.outcome.now in
    let next = c.report_row-after.result.follow in
    let after = set rows place c.report_row-after.new.row in
    let there : get_or rows place c.index-rows-place-2.result ≡ row = get_or_from_slice_get rows place row c.index-rows-place-2.result at in
    let id : row.id ≡ place + 1 = omega (arith, id_at 1 rows place row c.requires.numbered at) in
    let written = change_row-set rows place change c.index-rows-place-2.result c.report_row-after.new.row c.requires.numbered c.requires.inside
    c.report_row-after.ensures.row in
    let changed : c.report_row-after.new.row ≡ change row = c.report_row-after.ensures.row ∙ ap change there in
    c.follow.ensures.rows row id ∙ ap (λ (other : FileRow). with_follow next job other after) (sym there) ∙ sym (c.report_row-after.ensures.follow after)
    ∙ ap (λ (other : FileRow). followed job other after) changed
    ∙ ap (followed job (change row)) (written ∙ ap (λ number. change_row number change rows) (sym id))

pub returns-clause-answer : goal.returns-clause-answer
returns-clause-answer c = λ row at.
    let change = reported c.args.job.now c.args.now c.args.outcome.now in
    let here = get_or_from_slice_get c.args.rows.now c.args.place row c.index-rows-place.result at in
    let there = get_or_from_slice_get c.args.rows.now c.args.place row c.index-rows-place-2.result at in
    ap (λ (other : FileRow). Reported other.id c.report_row-after.result.state) here
    ∙ ap (Reported row.id) (c.report_row-after.ensures.state ∙ ap (λ (other : FileRow). other.state) (c.report_row-after.ensures.row ∙ ap change there))

pub wait-requires-clause-rows_numbered : goal.wait-requires-clause-rows_numbered
wait-requires-clause-rows_numbered c = numbered (goal.at.wait-requires-clause-rows_numbered c).After-report_row-after

pub wait-requires-clause-line : goal.wait-requires-clause-line
wait-requires-clause-line c =
    let job = c.args.job.now in
    site_line c.args.rows.now c.args.place (reported job c.args.now c.args.outcome.now) (reported_file job c.args.now c.args.outcome.now)
    c.index-rows-place-2.result c.report_row-after.new.row c.requires.inside c.report_row-after.ensures.row c.leave.new.parts c.leave.ensures.line

pub wait-requires-clause-idle : goal.wait-requires-clause-idle
wait-requires-clause-idle c = λ row at.
    let job = c.args.job.now in
    site_idle c.args.rows.now c.args.place (reported job c.args.now c.args.outcome.now) (reported_file job c.args.now c.args.outcome.now)
    c.index-rows-place-2.result c.report_row-after.new.row c.requires.inside c.report_row-after.ensures.row
    (reported_idle job c.args.now c.args.outcome.now (get_or c.args.rows.now c.args.place c.index-rows-place-2.result)) row at

pub wait-requires-clause-room : goal.wait-requires-clause-room
wait-requires-clause-room c = λ row at.
    let rows = c.args.rows.now in
    let place = c.args.place in
    let job = c.args.job.now in
    let before = get_or rows place c.index-rows-place-2.result in
    let stood = site_stood rows place (reported job c.args.now c.args.outcome.now) (reported_file job c.args.now c.args.outcome.now)
    c.index-rows-place-2.result c.report_row-after.new.row c.requires.inside c.report_row-after.ensures.row in
    site_room rows place (reported job c.args.now c.args.outcome.now) (reported_file job c.args.now c.args.outcome.now)
    c.index-rows-place-2.result c.report_row-after.new.row c.requires.inside c.report_row-after.ensures.row c.args.beside.now.parts c.leave.new.parts
    c.leave.ensures.same (room_fewer 1 2 before c.args.beside.now.parts (omega arith) (c.requires.room.own before stood)) row at

pub recount-requires-clause-rows_numbered : goal.recount-requires-clause-rows_numbered
recount-requires-clause-rows_numbered c = numbered (goal.at.recount-requires-clause-rows_numbered c).After-report_row-after

pub recount-requires-clause-before : goal.recount-requires-clause-before
recount-requires-clause-before c =
    let job = c.args.job.now in
    counts_before c.args.jobs.now c.args.rows.now _ c.args.place (reported job c.args.now c.args.outcome.now)
    (reported_file job c.args.now c.args.outcome.now) c.counted-was.result c.args.beside.now.counts c.requires.inside c.counted-was.ensures.counted
    c.requires.beside.counts c.index-rows-place-2.result (ap (set c.args.rows.now c.args.place) c.report_row-after.ensures.row)

pub follow-requires-clause-beside : goal.follow-requires-clause-beside
follow-requires-clause-beside c = record { counts = c.recount.ensures.counts; parts = c.wait.ensures.tied; line = c.wait.ensures.line }

pub follow-requires-clause-room : goal.follow-requires-clause-room
follow-requires-clause-room c =
    let rows = c.args.rows.now in
    let place = c.args.place in
    let job = c.args.job.now in
    let change = reported job c.args.now c.args.outcome.now in
    let stood = site_stood rows place change (reported_file job c.args.now c.args.outcome.now) c.index-rows-place-2.result c.report_row-after.new.row
    c.requires.inside c.report_row-after.ensures.row in
    let same = site_file rows place change (reported_file job c.args.now c.args.outcome.now) c.index-rows-place-2.result c.report_row-after.new.row
    c.requires.inside c.report_row-after.ensures.row in
    room_to_follow job place rows (get_or rows place c.index-rows-place-2.result) c.report_row-after.new.row c.args.beside.now.parts c.leave.new.parts
    c.wait.new.parts c.requires.room stood same c.leave.ensures.same c.wait.ensures.same
