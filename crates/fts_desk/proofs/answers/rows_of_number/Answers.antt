use Rattle.std.proofs.Common.{◌≡◌, Some, None, length, ap, sym, ◌∙◌, arith}
use Rattle.fts_tables.specs.Tables.{job_at}
use Rattle.fts_desk.specs.Kept.{tables_kept}
use Rattle.fts_desk.proofs.LentTables.{job_lent, together_lent, rows_lent}
use Rattle.fts_desk.proofs.Numbered.{none_of_job, files_at}
use Rattle.fts_desk.proofs.answers.rows_of_number.Goals as goal

pub rows_of_job-requires : goal.rows_of_job-requires
rows_of_job-requires c = record {
  together = together_lent c.requires.formed c.args.number c.deref.ensures.value c.in-Some.ensures.job c.deref-in-Some.ensures.value;
}

pub returns-in-Some-clause-rows : goal.returns-in-Some-clause-rows
returns-in-Some-clause-rows c = c.rows_of_job.ensures.rows
    ∙ rows_lent c.requires.formed c.args.number c.deref.ensures.value c.in-Some.ensures.job c.deref-in-Some.ensures.value

pub returns-in-Some-clause-none : goal.returns-in-Some-clause-none
returns-in-Some-clause-none c =
    let found = job_lent c.requires.formed c.args.number c.deref.ensures.value c.in-Some.ensures.job in
    let files = files_at c.args.kept.now.jobs.items c.args.number c.in-Some.job.now c.requires.files found in
    (λ empty. absurd (omega (arith, files, c.rows_of_job.ensures.count, ap length empty)), λ none. absurd (differ (sym none ∙ found)))
  where
    differ : {A : Type 0} {item : A} → ◌≡◌ None (Some item) → ⊥
    differ same = cc

pub returns-in-None-clause-rows : goal.returns-in-None-clause-rows
returns-in-None-clause-rows c =
    let missing = sym (c.in-None.ensures.job ∙ ap (λ jobs. job_at jobs c.args.number) c.deref.ensures.value) in
    sym (none_of_job (tables_kept c.args.kept.now) c.args.number c.requires.formed missing)
