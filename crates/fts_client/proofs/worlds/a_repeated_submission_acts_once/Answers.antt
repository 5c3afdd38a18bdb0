-- Both clauses of the law, by what is kept of a world.
use Rattle.fts_client.proofs.KeptWorlds.{events_act_once, reached_acts_once}
use Rattle.fts_client.proofs.worlds.a_repeated_submission_acts_once.Goals as goal

pub returns : goal.returns
returns g c = record {
  events = λ protocol vo request id start events answers is.
      events_act_once c.submissions_add_up.ensures.sum c.one_submission_an_id.ensures.one protocol vo request id answers start events is;
  reached = λ protocol vo request id start world answers is reached.
      reached_acts_once c.submissions_add_up.ensures.sum c.one_submission_an_id.ensures.one protocol vo request id answers start world is reached;
}
