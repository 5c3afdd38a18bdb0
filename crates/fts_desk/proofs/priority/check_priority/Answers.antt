use Rattle.fts_desk.proofs.LentTables.{together_lent}
use Rattle.fts_desk.proofs.priority.check_priority.Goals as goal

pub rows_of_job-requires : goal.rows_of_job-requires
rows_of_job-requires c = record {
  together = together_lent c.requires.formed c.args.job c.deref.ensures.value c.in-Some.ensures.job c.deref-in-Some.ensures.value;
}
