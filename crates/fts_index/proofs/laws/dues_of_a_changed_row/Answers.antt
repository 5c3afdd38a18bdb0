use Rattle.fts_index.proofs.DueRows.{changed_may, changed_done}
use Rattle.fts_index.proofs.laws.dues_of_a_changed_row.Goals as goal

pub returns : goal.returns
returns c = record {
  may = λ jobs rows place before after file list numbered at own kept of_job of.
      changed_may jobs rows place before after file at own kept of_job list numbered of;
  done = λ jobs rows place before after file old new at own kept of_job of changed.
      changed_done jobs rows place before after file at own kept of_job old new of changed;
}
