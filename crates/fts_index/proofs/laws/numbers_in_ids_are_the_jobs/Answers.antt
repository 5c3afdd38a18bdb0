use Rattle.fts_index.proofs.TableLists.{numbered_ids}
use Rattle.fts_index.proofs.laws.numbers_in_ids_are_the_jobs.Goals as goal

pub returns : goal.returns
returns c = record { number = λ jobs id numbered. numbered_ids jobs id 1 numbered }
