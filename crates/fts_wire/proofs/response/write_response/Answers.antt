use Rattle.std.proofs.Common.{[], ◌++◌, ◌-◌, length, take, drop, ap, ◌∙◌, subst}
use Rattle.fts_wire.specs.Response.{Sends, head_of}
use Rattle.fts_wire.specs.declared.outside.SinkFailed.{SinkFailed}
use Rattle.fts_wire.proofs.Sent.{in_two}
use Rattle.fts_wire.proofs.response.write_response.Goals as goal

pub returns-clause-sent : goal.returns-clause-sent
returns-clause-sent g c =
    let reply = c.args.reply.now in
    let body = c.body_bytes-body.result.now in
    let first = c.min-first.result in
    let piece = c.as_slice.ensures.value ∙ c.joined-piece.ensures in
    let whole = ap (λ xs. xs ++ (take (length body - first) (drop first body) ++ [])) piece ∙ in_two c.response_head-head.result.bytes body first
    ∙ ap (λ head. head ++ body) c.response_head-head.ensures
    ∙ ap (λ b. head_of reply.status (length b) reply.allow c.args.close ++ b) c.body_bytes-body.ensures in
    subst (λ xs. Sends {E = SinkFailed} (g.K.Sink.held c.args.sink.now) (g.K.Sink.held c.send_parts.new.sink) xs c.send_parts.result) whole c.send_parts.ensures.sent
