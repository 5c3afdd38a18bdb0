-- The row and its job are there, and what `report_at` leaves is the machine's step.
use Rattle.std.proofs.Common.{◌≡◌, ◌-◌, ◌<◌, List, length, Some, refl, ap, sym, ◌∙◌, subst, arith}
use Rattle.std.specs.Prelude.{max, slice_get}
use Rattle.std.specs.Vec.{with_items}
use Rattle.std.proofs.lemmas.List.{with_items_is}
use Rattle.std.proofs.lemmas.Option.{slice_get_read}
use Rattle.fts_tables.specs.Tables.{row_at, job_at}
use Rattle.fts_tables.specs.Moves.{change_row, reported, followed}
use Rattle.fts_tables.specs.Step.{report}
use Rattle.fts_tables.specs.History.{IsAccepted}
use Rattle.fts_tables.specs.declared.rows.FileRow.{FileRow}
use Rattle.fts_tables.specs.declared.rows.JobRow.{JobRow}
use Rattle.fts_desk.specs.Kept.{tables_kept}
use Rattle.fts_desk.specs.Parts.{HasRoomToReport}
use Rattle.fts_desk.proofs.ChangedRows.{number_at_place}
use Rattle.fts_desk.proofs.Hops.{stands_inside}
use Rattle.fts_desk.proofs.LentTables.{job_there, together_there}
use Rattle.fts_desk.proofs.Reported.{found_there, reported_of_job, report_is}
use Rattle.fts_desk.proofs.reports.report.Goals as goal

pub report_at-requires-clause-together : goal.report_at-requires-clause-together
report_at-requires-clause-together c =
    together_there c.requires.formed c.index.result.now.job c.in-Some-job_place.number c.index-in-Some-job_place.result.now c.deref-in-Some.ensures.value
    c.in-Some-job_place.ensures.job c.in-Some-job_place.ensures.inside.0 c.index-in-Some-job_place.ensures c.deref_mut.ensures.value

pub report_at-requires-clause-owned : goal.report_at-requires-clause-owned
report_at-requires-clause-owned c =
    let rows = c.args.kept.now.rows.items in
    let jobs = c.args.kept.now.jobs.items in
    let place = c.in-Some.place in
    let number = c.in-Some-job_place.number in
    let row = c.index.result.now in
    let job = c.index-in-Some-job_place.result.now in
    let of_job = job_there c.requires.formed row.job c.in-Some-job_place.number job c.deref-in-Some.ensures.value c.in-Some-job_place.ensures.job
    c.in-Some-job_place.ensures.inside.0 c.index-in-Some-job_place.ensures in
    let stand = c.rows_stand_together.ensures.together (tables_kept c.args.kept.now) row.job job c.requires.formed of_job in
    let within : place < length rows = omega (arith, ap length c.deref.ensures.value, c.in-Some.ensures.inside.0) in
    let among : number < length jobs = omega (arith, ap length c.deref-in-Some.ensures.value, c.in-Some-job_place.ensures.inside.0) in
    let at = slice_get_read rows (length rows) place row refl within c.index.ensures in
    let numbered = number_at_place (λ (other : JobRow). other.number) 1 jobs number job c.requires.formed.jobs
    (slice_get_read jobs (length jobs) number job refl among c.index-in-Some-job_place.ensures) in
    let owner : row.job ≡ job.number = omega (arith, numbered, c.in-Some-job_place.ensures.inside.1) in
    stands_inside rows job place row c.requires.formed.rows stand at owner

pub report_at-requires-clause-room : goal.report_at-requires-clause-room
report_at-requires-clause-room c =
    let rows = c.args.kept.now.rows.items in
    let parts = c.args.kept.now.beside.parts in
    let row = c.index.result.now in
    let job = c.index-in-Some-job_place.result.now in
    let found = found_there (λ (some : List FileRow). row_at some c.args.file) c.in-Some.place row c.deref.ensures.value c.in-Some.ensures.row
    c.in-Some.ensures.inside.0 c.index.ensures in
    let of_job = job_there c.requires.formed row.job c.in-Some-job_place.number job c.deref-in-Some.ensures.value c.in-Some-job_place.ensures.job
    c.in-Some-job_place.ensures.inside.0 c.index-in-Some-job_place.ensures in
    let place : c.args.file - 1 ≡ c.in-Some.place = omega (arith, c.in-Some.ensures.inside.1) in
    subst (λ (some : List FileRow). HasRoomToReport job c.in-Some.place some parts) (sym c.deref_mut.ensures.value)
    (subst (λ at. HasRoomToReport job at rows parts) place (c.requires.room row job found of_job))

pub unreachable-requires : goal.unreachable-requires
unreachable-requires c =
    let row = c.index.result.now in
    let found = found_there (λ (some : List FileRow). row_at some c.args.file) c.in-Some.place row c.deref.ensures.value c.in-Some.ensures.row
    c.in-Some.ensures.inside.0 c.index.ensures in
    reported_of_job (tables_kept c.args.kept.now) (max c.args.now c.args.kept.now.moment) c.args.file c.args.attempt c.args.outcome row found
    c.requires.accepted
    (ap (λ (jobs : List JobRow). job_at jobs row.job) (sym c.deref-in-Some.ensures.value) ∙ sym c.in-None-job_place.ensures.job)

pub returns-clause-step : goal.returns-clause-step
returns-clause-step c =
    let tables = tables_kept c.args.kept.now in
    let rows = c.args.kept.now.rows.items in
    let now = c.max-kept.result in
    let row = c.index.result.now in
    let job = c.index-in-Some-job_place.result.now in
    let change = reported job now c.args.outcome in
    let found = found_there (λ (some : List FileRow). row_at some c.args.file) c.in-Some.place row c.deref.ensures.value c.in-Some.ensures.row
    c.in-Some.ensures.inside.0 c.index.ensures in
    let of_job = job_there c.requires.formed row.job c.in-Some-job_place.number job c.deref-in-Some.ensures.value c.in-Some-job_place.ensures.job
    c.in-Some-job_place.ensures.inside.0 c.index-in-Some-job_place.ensures in
    let lent : c.deref_mut.result.now ≡ rows = c.deref_mut.ensures.value in
    let within : c.in-Some.place < length rows = omega (arith, ap length c.deref.ensures.value, c.in-Some.ensures.inside.0) in
    let at : slice_get c.deref_mut.result.now c.in-Some.place ≡ Some row =
    ap (λ (some : List FileRow). slice_get some c.in-Some.place) lent ∙ slice_get_read rows (length rows) c.in-Some.place row refl within c.index.ensures in
    let after = (with_items c.args.kept.now.rows c.report_at.new.rows).items in
    let left : after ≡ followed job (change row) (change_row row.id change rows) =
    with_items_is c.args.kept.now.rows c.report_at.new.rows (c.report_at.auto.rows ∙ c.deref_mut.ensures.len)
    ∙ c.report_at.ensures.rows row at ∙ ap (λ (some : List FileRow). followed job (change row) (change_row row.id change some)) lent in
    let told : IsAccepted (report tables now (row_at rows c.args.file) c.args.attempt c.args.outcome) =
    subst (λ moment. IsAccepted (report tables moment (row_at rows c.args.file) c.args.attempt c.args.outcome)) (sym c.max-kept.ensures) c.requires.accepted in
    ap (λ moment. report tables moment (row_at rows c.args.file) c.args.attempt c.args.outcome) (sym c.max-kept.ensures)
    ∙ report_is tables now c.args.file c.args.attempt c.args.outcome row found told job after c.report_at.result of_job left (c.report_at.ensures.answer row at)
