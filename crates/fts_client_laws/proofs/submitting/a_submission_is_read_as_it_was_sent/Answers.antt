use Rattle.fts_client_laws.proofs.RequestsRead.{submission_is_read, part_is_open}
use Rattle.fts_client_laws.proofs.submitting.a_submission_is_read_as_it_was_sent.Goals as goal

pub returns : goal.returns
returns c = record {
  whole = λ port document near few. submission_is_read port document near few;
  part = λ port document part more near few parts some. part_is_open port document part more near few parts some;
}
