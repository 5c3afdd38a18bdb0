-- The row and its job are those that the tables have, and only rooms have risen.
use Rattle.std.proofs.Common.{◌≡◌, List, Some, None, ap, sym, ◌∙◌}
use Rattle.std.proofs.lemmas.Option.{same_Some}
use Rattle.std.proofs.lemmas.Result.{on_ok_weaker}
use Rattle.fts_tables.specs.Tables.{row_at, job_at}
use Rattle.fts_tables.specs.declared.rows.FileRow.{FileRow}
use Rattle.fts_tables.specs.declared.rows.JobRow.{JobRow}
use Rattle.fts_desk.proofs.LentTables.{job_there, together_there}
use Rattle.fts_desk.proofs.Reported.{found_there}
use Rattle.fts_desk.proofs.InLineParts.{line_risen}
use Rattle.fts_desk.proofs.RowsBeside.{risen_tied, risen_limits, same_report}
use Rattle.fts_desk.proofs.reports.make_room.Goals as goal

-- a job that is there isn't none
never : (job : JobRow) → Some job ≡ None → ⊥
never job is = cc

pub make_room_at-requires-clause-together : goal.make_room_at-requires-clause-together
make_room_at-requires-clause-together c =
    together_there c.requires.formed c.index.result.now.job c.in-Some-job_place.number c.index-in-Some-job_place.result.now c.deref-in-Some.ensures.value
    c.in-Some-job_place.ensures.job c.in-Some-job_place.ensures.inside.0 c.index-in-Some-job_place.ensures c.deref-in-Some-job_place.ensures.value

pub invariant_of-kept : goal.invariant_of-kept
invariant_of-kept c =
    let old = c.args.kept.now.beside.parts in
    let new = c.make_room_at.new.parts in
    let risen = c.make_room_at.ensures.risen in
    record {
      ids_of_jobs = c.args.kept.now.ids_of_jobs;
      beside_rows = record {
        counts = c.args.kept.now.beside_rows.counts;
        parts = risen_tied c.args.kept.now.jobs.items c.args.kept.now.rows.items old new risen c.args.kept.now.beside_rows.parts;
        line = line_risen c.args.kept.now.rows.items old new risen c.args.kept.now.beside_rows.line;
      };
      of_settings = risen_limits old new risen ∙ c.args.kept.now.of_settings;
      of_bans = c.args.kept.now.of_bans;
    }

pub returns-in-Some-job_place-clause-room : goal.returns-in-Some-job_place-clause-room
returns-in-Some-job_place-clause-room c =
    let rows = c.args.kept.now.rows.items in
    let jobs = c.args.kept.now.jobs.items in
    let place = c.in-Some.place in
    let row = c.index.result.now in
    let job = c.index-in-Some-job_place.result.now in
    let found = found_there (λ (some : List FileRow). row_at some c.args.file) c.in-Some.place row c.deref.ensures.value c.in-Some.ensures.row
    c.in-Some.ensures.inside.0 c.index.ensures in
    on_ok_weaker c.make_room_at.result
    (λ room other owner at owned. same_report jobs rows c.deref-in-Some-job_place.result.now c.args.file place row other job owner c.make_room_at.new.parts
    c.deref-in-Some-job_place.ensures.value c.in-Some.ensures.inside.1 found
    (job_there c.requires.formed row.job c.in-Some-job_place.number job c.deref-in-Some.ensures.value c.in-Some-job_place.ensures.job
    c.in-Some-job_place.ensures.inside.0 c.index-in-Some-job_place.ensures) room at owned)
    c.make_room_at.ensures.room

pub returns-in-None-job_place-clause-room : goal.returns-in-None-job_place-clause-room
returns-in-None-job_place-clause-room c = λ other job at owned.
    let rows = c.args.kept.now.rows.items in
    let jobs = c.args.kept.now.jobs.items in
    let row = c.index.result.now in
    let found = found_there (λ (some : List FileRow). row_at some c.args.file) c.in-Some.place row c.deref.ensures.value c.in-Some.ensures.row
    c.in-Some.ensures.inside.0 c.index.ensures in
    let same : row ≡ other = same_Some row other (sym found ∙ at) in
    let none : job_at jobs row.job ≡ None =
    ap (λ (some : List JobRow). job_at some row.job) (sym c.deref-in-Some.ensures.value) ∙ sym c.in-None-job_place.ensures.job in
    let clash : Some job ≡ None = sym owned ∙ sym (ap (λ (some : FileRow). job_at jobs some.job) same) ∙ none in
    absurd (never job clash)
