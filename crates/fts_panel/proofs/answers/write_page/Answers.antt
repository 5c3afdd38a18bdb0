-- The page: its head, and its text behind that.
use Rattle.std.proofs.Common.{◌≡◌, inl, refl, ap, ◌∙◌, subst, rules, ℕ, List, [], ◌++◌, length, append-nil}
use Rattle.fts_page.specs.declared.page.TheConstants.{PAGE}
use Rattle.fts_wire.specs.Response.{Sends}
use Rattle.fts_panel.specs.Responses.{page_head, page_response}
use Rattle.fts_panel.proofs.answers.write_page.Goals as goal

-- a head of the page's length and the page are the response
page_in_parts : (head body : List ℕ) → head ≡ page_head (length PAGE.now) → body ≡ PAGE.now → head ++ (body ++ []) ≡ page_response
page_in_parts head body is same = ap (λ (xs : List ℕ). head ++ xs) (append-nil body) ∙ (λ i. is i ++ same i)

pub returns-clause-says : goal.returns-clause-says
returns-clause-says g c =
    let head : c.as_bytes.result.now ≡ page_head (length PAGE.now) = search rules in
    let body : c.as_bytes-2.result.now ≡ PAGE.now = search rules in
    record {
      response = page_response;
      is = inl refl;
      result = c.send_parts-sent.result;
      sent = subst (λ (response : List ℕ). Sends (g.K.Sink.held c.args.sink.now) (g.K.Sink.held c.send_parts-sent.new.sink) response c.send_parts-sent.result)
          (page_in_parts c.as_bytes.result.now c.as_bytes-2.result.now head body) c.send_parts-sent.ensures.sent;
      counts = c.send_parts-sent.ensures.cause;
    }
