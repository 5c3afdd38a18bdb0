-- A reply on a topic, or want of memory in its place.
use Rattle.std.specs.Prelude.{false, option_copied}
use Rattle.fts_panel.specs.Responses.{reply_of_view}
use Rattle.fts_panel.proofs.Saying.{can_be_sent, view_can_be_sent, says_reply}
use Rattle.fts_panel.proofs.answers.write_topic.Goals as goal

pub write_response-sent-requires : goal.write_response-sent-requires
write_response-sent-requires g c =
    let asked = c.args.question in
    let can = can_be_sent c.reply_of_view-reply.result (reply_of_view asked.topic asked.path.now (option_copied asked.query) c.args.now c.args.view.now)
    (view_can_be_sent asked.topic asked.path.now (option_copied asked.query) c.args.now c.args.view.now) c.reply_of_view-reply.ensures in
    record { phrase = can.phrase; methods = can.methods }

pub returns-clause-says : goal.returns-clause-says
returns-clause-says g c =
    let asked = c.args.question in
    says_reply (g.K.Sink.held c.args.sink.now) (g.K.Sink.held c.write_response-sent.new.sink) (g.K.Sink.faults c.args.sink.now)
    (g.K.Sink.faults c.write_response-sent.new.sink) false c.write_response-sent.result c.reply_of_view-reply.result
    (reply_of_view asked.topic asked.path.now (option_copied asked.query) c.args.now c.args.view.now) c.reply_of_view-reply.ensures
    c.write_response-sent.ensures.sent c.write_response-sent.ensures.cause
