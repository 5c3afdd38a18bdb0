-- A refusal, written or cut short.
use Rattle.std.proofs.Common.{◌∙◌, ℕ, Some, sym, ap}
use Rattle.std.specs.Prelude.{true, false, option_map}
use Rattle.fts_wire.specs.Response.{response_of}
use Rattle.fts_session.specs.Connections.{end_by}
use Rattle.fts_session.proofs.Phrases.{sent_of_refusal}
use Rattle.fts_session.proofs.Turns.{refusal_of_reply}
use Rattle.fts_session.proofs.responding.refuse.Goals as goal

pub write_response-requires : goal.write_response-requires
write_response-requires g c =
    let sent = sent_of_refusal c.args.fault c.in-Some-Some-Some.message.now c.from.result c.in-Some-Some-Some.status c.refusal_reply-reply.result
    (sym c.status.ensures ∙ c.in-Some-Some-Some.is-0) c.refusal_reply-reply.ensures in
    record { phrase = sent.phrase; methods = sent.methods }

pub returns-in-Ok-clause-refused : goal.returns-in-Ok-clause-refused
returns-in-Ok-clause-refused g c = record {
  status = c.in-Some-Some-Some.status;
  response = response_of c.refusal_reply-reply.result false true;
  refusal = refusal_of_reply c.args.fault c.in-Some-Some-Some.status c.from.result c.in-Some-Some-Some.message.now c.refusal_reply-reply.result
      (sym c.status.ensures ∙ c.in-Some-Some-Some.is-0)
      (sym c.rule.ensures ∙ c.in-Some-Some-Some.is-1 ∙ ap (λ (n : ℕ). Some n) (sym c.from.ensures))
      (sym c.message.ensures ∙ ap (option_map (λ text. text.now)) c.in-Some-Some-Some.is-2)
      c.refusal_reply-reply.ensures;
  result = c.write_response.result;
  sent = c.write_response.ensures.sent;
  ended = sym (ap (end_by c.in-Some-Some-Some.status) c.in-Ok.is);
}

pub returns-clause-refused : goal.returns-clause-refused
returns-clause-refused g c = record {
  status = c.in-Some-Some-Some.status;
  response = response_of c.refusal_reply-reply.result false true;
  refusal = refusal_of_reply c.args.fault c.in-Some-Some-Some.status c.from.result c.in-Some-Some-Some.message.now c.refusal_reply-reply.result
      (sym c.status.ensures ∙ c.in-Some-Some-Some.is-0)
      (sym c.rule.ensures ∙ c.in-Some-Some-Some.is-1 ∙ ap (λ (n : ℕ). Some n) (sym c.from.ensures))
      (sym c.message.ensures ∙ ap (option_map (λ text. text.now)) c.in-Some-Some-Some.is-2)
      c.refusal_reply-reply.ensures;
  result = c.write_response.result;
  sent = c.write_response.ensures.sent;
  ended = sym (ap (end_by c.in-Some-Some-Some.status) c.in-Err.is);
}
