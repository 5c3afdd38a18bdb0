use Rattle.std.specs.Prelude.{false}
use Rattle.fts_panel.specs.Responses.{reply_to}
use Rattle.fts_panel.proofs.Saying.{can_be_sent, fault_can_be_sent, says_reply}
use Rattle.fts_panel.proofs.answers.write_fault.Goals as goal

pub write_response-sent-requires : goal.write_response-sent-requires
write_response-sent-requires g c =
    let can = can_be_sent c.reply_to.result (reply_to c.args.fault) (fault_can_be_sent c.args.fault) c.reply_to.ensures in
    record { phrase = can.phrase; methods = can.methods }

pub returns-clause-says : goal.returns-clause-says
returns-clause-says g c = says_reply (g.K.Sink.held c.args.sink.now) (g.K.Sink.held c.write_response-sent.new.sink) (g.K.Sink.faults c.args.sink.now)
    (g.K.Sink.faults c.write_response-sent.new.sink) false c.write_response-sent.result c.reply_to.result (reply_to c.args.fault) c.reply_to.ensures
    c.write_response-sent.ensures.sent c.write_response-sent.ensures.cause
