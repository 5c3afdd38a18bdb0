use Rattle.fts_standby_laws.proofs.RequestsRead.{request_is_read, part_is_open}
use Rattle.fts_standby_laws.proofs.serving.a_request_is_read_as_it_was_sent.Goals as goal

pub returns : goal.returns
returns c = record {
  whole = λ port number near few. request_is_read port number near few;
  part = λ port number part more near few parts some. part_is_open port number part more near few parts some;
}
