-- The metrics of what was folded, or want of memory.
use Rattle.std.proofs.Common.{◌≡◌, inl, inr, ap, ap₂, ◌∙◌, ◌++◌, ℕ, List}
use Rattle.std.specs.Prelude.{true, false}
use Rattle.fts_wire.specs.Response.{response_of}
use Rattle.fts_wire.specs.declared.response.Reply.{Reply}
use Rattle.fts_metrics.specs.Metrics.{metrics_text}
use Rattle.fts_panel.specs.Responses.{text_response}
use Rattle.fts_panel.proofs.answers.write_metrics.Goals as goal

pub returns-in-Ok-clause-says : goal.returns-in-Ok-clause-says
returns-in-Ok-clause-says g c =
    let told : c.chronicle.result.now.told ≡ c.args.monitor.now.chronicle = c.chronicle.ensures.told in
    let text = c.as_slice.ensures.value ∙ c.in-Ok.ensures ∙ (λ i. metrics_text (c.desk.ensures.tables i) (told i) (c.used.ensures i)) in
    record {
      response = text_response (c.as_slice.result.now ++ c.damage_text.result.now);
      is = inl (ap₂ (λ (a b : List ℕ). text_response (a ++ b)) text c.damage_text.ensures);
      result = c.write_text-sent.result;
      sent = c.write_text-sent.ensures.sent;
      counts = c.write_text-sent.ensures.cause;
    }

pub returns-in-Err-clause-says : goal.returns-in-Err-clause-says
returns-in-Err-clause-says g c = record {
  response = response_of c.no_memory.result false true;
  is = inr (ap (λ (r : Reply). response_of r false true) c.no_memory.ensures);
  result = c.write_response-sent.result;
  sent = c.write_response-sent.ensures.sent;
  counts = c.write_response-sent.ensures.cause;
}
