-- A request more.
use Rattle.std.proofs.Common.{◌∙◌, ◌++◌, List, ℕ, ap}
use Rattle.fts_load.specs.Requests.{request_with}
use Rattle.fts_load.proofs.Texts.{request_more}
use Rattle.fts_load.proofs.requests.make_requests.Goals as goal

pub loop-made-preserved : goal.loop-made-preserved
loop-made-preserved c = request_more c.loop-made.bytes.items c.push_request.new.bytes.items c.args.source.now c.args.dest.now c.loop-made.made c.loop-made.invariant
    (c.in_ok-push_request.ensures ∙ ap (λ (body : List ℕ). c.loop-made.bytes.items ++ request_with body) (c.as_slice.ensures.value ∙ c.in_ok-document.ensures))
