use Rattle.fts_panel.specs.Responses.{no_route}
use Rattle.fts_panel.proofs.Saying.{says_reply}
use Rattle.fts_panel.proofs.answers.refuse_path.Goals as goal

pub returns-clause-says : goal.returns-clause-says
returns-clause-says g c = says_reply (g.K.Sink.held c.args.sink.now) (g.K.Sink.held c.write_response-sent.new.sink) (g.K.Sink.faults c.args.sink.now)
    (g.K.Sink.faults c.write_response-sent.new.sink) c.args.head_only c.write_response-sent.result c.no_route.result no_route c.no_route.ensures
    c.write_response-sent.ensures.sent c.write_response-sent.ensures.cause
