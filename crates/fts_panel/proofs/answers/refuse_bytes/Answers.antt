-- The refusal of a fault of the framing.
use Rattle.std.proofs.Common.{◌∙◌, sym, ap}
use Rattle.std.specs.Prelude.{false, option_map}
use Rattle.fts_wire.specs.declared.response.Allow.TheVariants.{None as NoMethods}
use Rattle.fts_panel.specs.Responses.{refusal_of}
use Rattle.fts_panel.proofs.Saying.{can_be_sent, bytes_can_be_sent, says_reply}
use Rattle.fts_panel.proofs.answers.refuse_bytes.Goals as goal

pub write_response-sent-requires : goal.write_response-sent-requires
write_response-sent-requires g c =
    let m = c.in-Some-Some-Some.message.now in
    let can = can_be_sent c.refusal-reply.result (refusal_of m c.in-Some-Some-Some.rule c.in-Some-Some-Some.status NoMethods)
    (bytes_can_be_sent c.args.fault m c.in-Some-Some-Some.rule c.in-Some-Some-Some.status (sym c.status.ensures ∙ c.in-Some-Some-Some.is-0)) c.refusal-reply.ensures in
    record { phrase = can.phrase; methods = can.methods }

pub returns-clause-refused : goal.returns-clause-refused
returns-clause-refused g c = record {
  status = c.in-Some-Some-Some.status;
  rule = c.in-Some-Some-Some.rule;
  message = c.in-Some-Some-Some.message.now;
  has_status = sym c.status.ensures ∙ c.in-Some-Some-Some.is-0;
  has_rule = sym c.rule.ensures ∙ c.in-Some-Some-Some.is-1;
  has_message = sym c.message.ensures ∙ ap (option_map (λ text. text.now)) c.in-Some-Some-Some.is-2;
  says = says_reply (g.K.Sink.held c.args.sink.now) (g.K.Sink.held c.write_response-sent.new.sink) (g.K.Sink.faults c.args.sink.now) (g.K.Sink.faults c.write_response-sent.new.sink)
      false c.write_response-sent.result c.refusal-reply.result
      (refusal_of c.in-Some-Some-Some.message.now c.in-Some-Some-Some.rule c.in-Some-Some-Some.status NoMethods) c.refusal-reply.ensures
      c.write_response-sent.ensures.sent c.write_response-sent.ensures.cause;
}
