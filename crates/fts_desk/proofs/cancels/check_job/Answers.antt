use Rattle.std.proofs.Common.{sym, subst}
use Rattle.std.specs.Prelude.{max}
use Rattle.fts_tables.specs.Step.{Outcomes, cancel_rows}
use Rattle.fts_desk.specs.Kept.{tables_kept}
use Rattle.fts_desk.specs.Prepared.{IsChecked}
use Rattle.fts_desk.proofs.Found.{on_found}
use Rattle.fts_desk.proofs.LentTables.{job_lent, together_lent}
use Rattle.fts_desk.proofs.cancels.check_job.Goals as goal

pub check_rows-requires : goal.check_rows-requires
check_rows-requires c = record {
  together = together_lent c.requires.formed c.args.job c.deref.ensures.value c.in-Some.ensures.job c.deref-in-Some.ensures.value;
}

pub returns-in-Some : goal.returns-in-Some
returns-in-Some c =
    let found = job_lent c.requires.formed c.args.job c.deref.ensures.value c.in-Some.ensures.job in
    let tables = tables_kept c.args.kept.now in
    record {
      answer = λ now. subst (λ (outcome : Outcomes). IsChecked outcome c.check_rows.result)
          (sym (on_found tables c.args.job (cancel_rows tables (max now c.args.kept.now.moment)) c.in-Some.job.now found))
          (c.check_rows.ensures.answer tables (max now c.args.kept.now.moment) (sym c.deref-in-Some.ensures.value));
    }
