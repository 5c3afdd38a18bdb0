use Rattle.std.proofs.Common.{Some, ap, sym, ◌∙◌, arith}
use Rattle.std.specs.Prelude.{option_map}
use Rattle.fts_tables.specs.Tables.{rows_of_job}
use Rattle.fts_tables.specs.Moves.{state_of_job}
use Rattle.fts_tables.specs.declared.rows.JobRow.{JobRow}
use Rattle.fts_desk.specs.Kept.{tables_kept}
use Rattle.fts_desk.proofs.LentTables.{job_lent, together_lent, rows_lent}
use Rattle.fts_desk.proofs.Numbered.{files_at}
use Rattle.fts_desk.proofs.answers.state_of.Goals as goal

pub rows_of_job-requires : goal.rows_of_job-requires
rows_of_job-requires c = record {
  together = together_lent c.requires.formed c.args.number c.deref.ensures.value c.in-Some.ensures.job c.deref-in-Some.ensures.value;
}

pub job_state-requires : goal.job_state-requires
job_state-requires c =
    let found = job_lent c.requires.formed c.args.number c.deref.ensures.value c.in-Some.ensures.job in
    let files = files_at c.args.kept.now.jobs.items c.args.number c.in-Some.job.now c.requires.files found in
    record { some = omega (arith, files, c.rows_of_job.ensures.count) }

pub returns-in-Some : goal.returns-in-Some
returns-in-Some c =
    let tables = tables_kept c.args.kept.now in
    let job = c.in-Some.job.now in
    let found = job_lent c.requires.formed c.args.number c.deref.ensures.value c.in-Some.ensures.job in
    let rows = c.rows_of_job.ensures.rows
    ∙ rows_lent c.requires.formed c.args.number c.deref.ensures.value c.in-Some.ensures.job c.deref-in-Some.ensures.value in
    record {
      state = ap (λ state. Some state) (c.job_state.ensures.state ∙ ap (state_of_job job.kind) rows)
          ∙ ap (option_map (λ (other : JobRow). state_of_job other.kind (rows_of_job tables.rows c.args.number))) (sym found);
    }
