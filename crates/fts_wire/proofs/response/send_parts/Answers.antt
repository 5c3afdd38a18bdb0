-- One part more, and a part that was cut short.
use Rattle.std.proofs.Common.{◌+◌, ℕ, List, take, drop, ◌∙◌, sym, arith, subst, Ok, Err}
use Rattle.fts_wire.specs.Response.{Sends}
use Rattle.fts_wire.specs.declared.outside.SinkFailed.{SinkFailed}
use Rattle.fts_wire.proofs.Sent.{sends_then, sends_no_more, joined, joined_more, joined_parts}
use Rattle.fts_wire.proofs.response.send_parts.Goals as goal

pub sending-preserved : goal.sending-preserved
sending-preserved g c =
    let inv = c.sending.invariant in
    let parts = c.args.parts.now in
    let i = c.sending.part-index in
    let both = sends_then {E = SinkFailed} _ _ _ (joined (take i parts)) _ _ inv.sent c.in-Ok.ensures.sent in
    record {
      sent = subst (λ (xs : List ℕ). Sends {E = SinkFailed} (g.K.Sink.held c.args.sink.now) (g.K.Sink.held c.send_all.new.sink) xs (Ok tt))
          (sym (joined_more parts i _ c.sending-test.true)) both;
      keeps = omega (arith, inv.keeps, c.send_all.ensures.cause.keeps);
      beside = c.send_all.ensures.beside ∙ inv.beside;
    }

pub returns-in-Err-clause-sent : goal.returns-in-Err-clause-sent
returns-in-Err-clause-sent g c =
    let parts = c.args.parts.now in
    let i = c.sending.part-index in
    let both = sends_then _ _ _ (joined (take i parts)) _ (Err c.in-Err.fault) c.sending.invariant.sent c.in-Err.ensures.sent in
    let more = sends_no_more _ _ _ (joined (drop (i + 1) parts)) c.in-Err.fault both in
    subst (λ (xs : List ℕ). Sends {E = SinkFailed} (g.K.Sink.held c.args.sink.now) (g.K.Sink.held c.send_all.new.sink) xs (Err c.in-Err.fault))
    (joined_parts parts i _ c.sending-test.true) more
