-- A line that fits no room was sent behind all that waited.
use Rattle.std.proofs.Common.{◌≡◌, [], rules}
use Rattle.fts_show.proofs.Gathering.{sent_behind}
use Rattle.fts_show.proofs.gathered.Gathered.line.Goals as goal

pub returns-clause-gathers : goal.returns-clause-gathers
returns-clause-gathers g c =
    let same : c.put.new.text.items ≡ c.args.self.now = search rules in
    let empty : c.put-2.new.text.items ≡ [] = search rules in
    sent_behind (g.K.Sink.held c.args.output.now) (g.K.Sink.held c.send.new.output) (g.K.Sink.held c.send_parts.new.sink) c.args.self.now
    c.put-2.new.text.items _ c.send_parts.result (rw same at c.in-Ok.ensures.sent) empty c.send_parts.ensures.sent
