use Rattle.fts_index.proofs.DueRows.{added_may, added_done}
use Rattle.fts_index.proofs.laws.dues_of_new_rows.Goals as goal

pub returns : goal.returns
returns c = record { may = added_may; done = added_done }
