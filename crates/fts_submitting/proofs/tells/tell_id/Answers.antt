-- The two parts are the line of the id.
use Rattle.std.proofs.Common.{◌≡◌, ◌++◌, [], ap, ◌∙◌, subst}
use Rattle.std.specs.Prelude.{ℕ, List}
use Rattle.std.specs.Int.{to_be_bytes, w128}
use Rattle.uuid.specs.Text.{hyphenated_text, lower}
use Rattle.fts_wire.specs.Response.{Sends}
use Rattle.fts_submitting.specs.Runs.{id_line}
use Rattle.fts_submitting.proofs.tells.tell_id.Goals as goal

pub returns-clause-sent : goal.returns-clause-sent
returns-clause-sent g c =
    let id : c.as_bytes.result.now ≡ hyphenated_text lower (to_be_bytes w128 c.args.job) =
    c.as_bytes.ensures.value ∙ (c.encode_lower-id.ensures.text ∙ ap (hyphenated_text lower) (c.hyphenated-id.ensures ∙ c.from_u128.ensures)) in
    let line : c.as_bytes.result.now ++ (c.as_bytes-2.result.now ++ []) ≡ id_line c.args.job =
    ap (λ front. front ++ (c.as_bytes-2.result.now ++ [])) id ∙ ap (λ end. hyphenated_text lower (to_be_bytes w128 c.args.job) ++ (end ++ [])) c.as_bytes-2.ensures.value in
    subst (λ (bytes : List ℕ). Sends (g.K.Sink.held c.args.output.now) (g.K.Sink.held c.send_parts.new.sink) bytes c.send_parts.result) line
    c.send_parts.ensures.sent
