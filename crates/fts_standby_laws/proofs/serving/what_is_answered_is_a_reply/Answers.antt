use Rattle.fts_standby_laws.proofs.ServedKeeps.{keep_replies, keep_served}
use Rattle.fts_standby_laws.proofs.serving.what_is_answered_is_a_reply.Goals as goal

pub returns : goal.returns
returns g c = record {
  reply = λ old new writer number now reply kept told answers.
      keep_replies g.D.Disk.state g.D.Disk.faults old new writer number now reply kept told answers;
  served = λ keep kept told. keep_served g.D.Disk.state keep kept told;
}
