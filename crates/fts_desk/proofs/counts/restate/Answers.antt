-- The job stands as its rows say.
use Rattle.std.proofs.Common.{[], length, None, refl, ap, sym, ◌∙◌}
use Rattle.std.proofs.lemmas.Option.{slice_get_read, same_Some}
use Rattle.fts_tables.specs.declared.rows.FileRow.{FileRow}
use Rattle.fts_desk.proofs.JobProgress.{follow_now, found_read, own_read, live_read, begun_read, restated_read, restated_none}
use Rattle.fts_desk.proofs.counts.restate.Goals as goal

pub progress_after-now-requires-clause-together : goal.progress_after-now-requires-clause-together
progress_after-now-requires-clause-together c =
    let at = slice_get_read c.args.rows.now (length c.args.rows.now) c.args.place _ refl c.requires.inside c.index-rows-place.is in
    c.rows_stand_together.ensures.together (record { jobs = c.args.jobs.now; rows = c.args.rows.now; moment = 0; settings = None; banned = [] }) _ _
    (record {
      jobs = c.requires.jobs_numbered;
      rows = c.requires.rows_numbered;
      follow = follow_now c.requires.jobs_numbered c.requires.before at;
    })
    (found_read c.requires.jobs_numbered c.requires.before at
    c.in-Some.at _ c.in-Some.ensures.inside.0 c.in-Some.ensures.job)

pub progress_after-now-requires-clause-own : goal.progress_after-now-requires-clause-own
progress_after-now-requires-clause-own c = λ some there.
    let at = slice_get_read c.args.rows.now (length c.args.rows.now) c.args.place _ refl c.requires.inside c.index-rows-place.is in
    ap (λ (row : FileRow). row.job) (same_Some some _ (sym there ∙ at))
    ∙ (own_read c.requires.jobs_numbered c.requires.before at
    c.in-Some.at _ c.in-Some.ensures.inside.0 c.in-Some.ensures.job)

pub progress_after-now-requires-clause-live : goal.progress_after-now-requires-clause-live
progress_after-now-requires-clause-live c =
    let at = slice_get_read c.args.rows.now (length c.args.rows.now) c.args.place _ refl c.requires.inside c.index-rows-place.is in
    live_read c.requires.jobs_numbered c.requires.before at
    c.in-Some.at _ c.in-Some.ensures.inside.0 c.in-Some.ensures.job c.get-before.result
    c.get-before.ensures.job

pub progress_after-now-requires-clause-begun : goal.progress_after-now-requires-clause-begun
progress_after-now-requires-clause-begun c =
    let at = slice_get_read c.args.rows.now (length c.args.rows.now) c.args.place _ refl c.requires.inside c.index-rows-place.is in
    begun_read c.requires.jobs_numbered c.requires.before at
    c.in-Some.at _ c.in-Some.ensures.inside.0 c.in-Some.ensures.job c.get-before.result
    c.get-before.ensures.job

pub returns-in-Some : goal.returns-in-Some
returns-in-Some c =
    let at = slice_get_read c.args.rows.now (length c.args.rows.now) c.args.place _ refl c.requires.inside c.index-rows-place.is in
    record {
      states = restated_read c.requires.jobs_numbered c.requires.before at
          c.in-Some.at _ c.in-Some.ensures.inside.0 c.in-Some.ensures.job c.set.new.self (sym c.in-Some.ensures.inside.1)
          c.progress_after-now.result c.progress_after-now.ensures.progress c.set.ensures.jobs;
    }

pub returns-in-None : goal.returns-in-None
returns-in-None c =
    let at = slice_get_read c.args.rows.now (length c.args.rows.now) c.args.place _ refl c.requires.inside c.index-rows-place.is in
    record { states = restated_none c.requires.jobs_numbered c.requires.before at (sym c.in-None.ensures.job) }
