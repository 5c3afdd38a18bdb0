-- The job of a row stands at the place before its number.
use Rattle.std.proofs.Common.{◌≡◌, ap, ◌∙◌, sym, subst, ◌-◌, length, Some, arith}
use Rattle.std.specs.Prelude.{slice_get}
use Rattle.std.proofs.lemmas.Option.{slice_get_within, get_or_from_slice_get}
use Rattle.fts_workers.proofs.Numbered.{job_stands}
use Rattle.fts_workers.proofs.copying.find_job.Goals as goal

pub overflow_sub-result : goal.overflow_sub-result
overflow_sub-result c = (job_stands c.args.desk.now.tables c.args.row.now.id c.args.row.now c.requires.formed c.requires.there).from_one

pub bounds-jobs-row : goal.bounds-jobs-row
bounds-jobs-row c =
    let stands = job_stands c.args.desk.now.tables c.args.row.now.id c.args.row.now c.requires.formed c.requires.there in
    omega (arith, ap length c.jobs.ensures.jobs, slice_get_within c.args.desk.now.tables.jobs (c.args.row.now.job - 1) stands.job stands.at)

pub returns : goal.returns
returns c =
    let stands = job_stands c.args.desk.now.tables c.args.row.now.id c.args.row.now c.requires.formed c.requires.there in
    stands.found
    ∙ ap (λ job. Some job) (sym (get_or_from_slice_get c.jobs.result.now (c.args.row.now.job - 1) stands.job _
    (subst (λ jobs. slice_get jobs (c.args.row.now.job - 1) ≡ Some stands.job) (sym c.jobs.ensures.jobs) stands.at)))
