-- The new rows count, their files wait, and their job stands as they say.
use Rattle.std.proofs.Common.{◌+◌, List, [], ◌∷◌, ◌++◌, length, length-append, ap, sym, ◌∙◌, arith, subst}
use Rattle.fts_tables.specs.declared.rows.FileRow.{FileRow}
use Rattle.fts_tables.specs.declared.rows.JobRow.{JobRow}
use Rattle.fts_index.specs.RowDues.{MayAdd, HasAdded}
use Rattle.fts_desk.specs.Counted.{AreStatesOf, progress_in}
use Rattle.fts_desk.specs.Parts.{HaveRoomInLine}
use Rattle.fts_desk.specs.Loaded.{are_known}
use Rattle.fts_desk.proofs.RowLinks.{links_of_kind}
use Rattle.fts_desk.proofs.KnownLinks.{rest_may_count, rest_counted}
use Rattle.fts_desk.proofs.NewProgress.{states_more}
use Rattle.fts_desk.proofs.SubmittedParts.{newest, newest_owned, submitted_may, submitted_dues, rest_whole, behind, submitted_jobs, submitted_rows, submitted_idle, submitted_room, submitted_tied, submitted_line}
use Rattle.fts_desk.proofs.submit.come_in.Goals as goal

pub count_new-requires : goal.count_new-requires
count_new-requires c =
    let added = c.requires.added in
    let tables = added.tables in
    let job = c.args.job.now in
    let lists = c.args.beside.now.counts.loads in
    let known = ap (are_known lists) (links_of_kind job.kind tables.rows job.number (length tables.rows + 1) added.new) ∙ added.links in
    record {
      may = rest_may_count tables.rows (newest added) c.args.rows.now c.args.from lists added.with_rows added.behind added.earlier.counts.loads known added.few;
    }

pub add_rows-requires : goal.add_rows-requires
add_rows-requires c = record {
  may = subst (λ some. MayAdd some c.overdue_from.result c.args.beside.now.counts.dues) (sym (rest_whole c.args.rows.now c.args.from))
      (submitted_may c.requires.added c.dues_of_other_jobs.ensures.more c.dues_of_new_rows.ensures.may c.overdue_from.result c.overdue_from.ensures.moment);
}

pub wait_from-requires-clause-jobs_numbered : goal.wait_from-requires-clause-jobs_numbered
wait_from-requires-clause-jobs_numbered c = submitted_jobs c.requires.added

pub wait_from-requires-clause-rows_numbered : goal.wait_from-requires-clause-rows_numbered
wait_from-requires-clause-rows_numbered c = submitted_rows c.requires.added

pub wait_from-requires-clause-tied : goal.wait_from-requires-clause-tied
wait_from-requires-clause-tied c = submitted_tied c.requires.added c.jobs_more_stay_tied.ensures.tied

pub wait_from-requires-clause-line : goal.wait_from-requires-clause-line
wait_from-requires-clause-line c = submitted_line c.requires.added

pub wait_from-requires-clause-places : goal.wait_from-requires-clause-places
wait_from-requires-clause-places c =
    let added = c.requires.added in
    subst (λ count. HaveRoomInLine count c.args.beside.now.parts) (sym added.long) added.places

pub wait_from-requires-clause-idle : goal.wait_from-requires-clause-idle
wait_from-requires-clause-idle c = submitted_idle c.requires.added

pub wait_from-requires-clause-room : goal.wait_from-requires-clause-room
wait_from-requires-clause-room c = submitted_room c.requires.added

pub returns-clause-beside : goal.returns-clause-beside
returns-clause-beside c =
    let added = c.requires.added in
    let tables = added.tables in
    let job = c.args.job.now in
    let rows = c.args.rows.now in
    let lists = c.args.beside.now.counts.loads in
    let known = ap (are_known lists) (links_of_kind job.kind tables.rows job.number (length tables.rows + 1) added.new) ∙ added.links in
    let here = rest_whole rows c.args.from ∙ behind added in
    let long = ap length added.with_rows ∙ length-append tables.rows (newest added) in
    record {
      counts = record {
        loads = rest_counted tables.rows (newest added) rows c.args.from lists added.with_rows added.behind added.earlier.counts.loads known added.few
            c.count_new.new.loads c.count_new.ensures.counts c.count_new.ensures.known;
        dues = submitted_dues added c.add_rows.new.self c.dues_of_other_jobs.ensures.more c.dues_of_new_rows.ensures.done
            c.overdue_from.result c.overdue_from.ensures.moment
            (subst (λ some. HasAdded some c.overdue_from.result c.args.beside.now.counts.dues c.add_rows.new.self) (rest_whole rows c.args.from)
            c.add_rows.ensures.added);
        states = subst (λ (jobs : List JobRow). AreStatesOf jobs rows c.add.new.self) (sym added.with_job)
            (subst (λ (rows : List FileRow). AreStatesOf (tables.jobs ++ job ∷ []) rows c.add.new.self) (sym added.with_rows)
            (states_more tables added.formed job (newest added) c.args.beside.now.counts.states added.number (newest_owned added)
            (omega (arith, added.files, long, added.long)) (omega (arith, added.first, added.behind)) added.earlier.counts.states
            c.progress_of_new.result c.add.new.self
            (c.progress_of_new.ensures.progress
            ∙ ap (λ (some : List FileRow). progress_in some job.kind) here)
            c.add.ensures.jobs));
      };
      parts = c.wait_from.ensures.tied;
      line = c.wait_from.ensures.line;
    }
