use Rattle.fts_index.proofs.DueRows.{row_stands, due_waits, first_waits}
use Rattle.fts_index.proofs.laws.dues_tell_the_overdue.Goals as goal

pub returns : goal.returns
returns c = record {
  tells = λ jobs rows list now of. c.the_first_moment_tells.ensures.tells jobs rows list.dues now of.index;
  stands = row_stands;
  waits = due_waits;
  first = first_waits;
}
