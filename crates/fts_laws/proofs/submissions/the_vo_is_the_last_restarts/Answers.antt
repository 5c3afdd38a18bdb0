use Rattle.fts_tables.specs.Tables.{empty_tables}
use Rattle.fts_laws.proofs.SubmissionLists.{vo_stands}
use Rattle.fts_laws.proofs.submissions.the_vo_is_the_last_restarts.Goals as goal

pub returns : goal.returns
returns c = record { vo = λ entries. vo_stands entries empty_tables }
