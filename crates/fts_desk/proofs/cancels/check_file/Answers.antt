use Rattle.fts_desk.proofs.LentTables.{together_lent}
use Rattle.fts_desk.proofs.cancels.check_file.Goals as goal

pub check_found-requires : goal.check_found-requires
check_found-requires c = record {
  together = together_lent c.requires.formed c.args.job c.deref.ensures.value c.in-Some.ensures.job c.deref-in-Some-find_row.ensures.value;
}
