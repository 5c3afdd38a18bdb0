-- The parts of the request are its bytes.
use Rattle.std.proofs.Common.{◌≡◌, ◌++◌, length, ap, ◌∙◌, append-nil}
use Rattle.fts_client.specs.RequestBytes.{submission_head}
use Rattle.fts_client.proofs.HeardEnds.{repeated_so}
use Rattle.fts_client.proofs.submitting.submit.Goals as goal

pub returns : goal.returns
returns g c =
    let head : c.as_bytes.result.now ≡ submission_head c.args.port (length c.args.document.now) =
    c.as_bytes.ensures.value ∙ (c.as_str.ensures.value ∙ c.submission_head-head.ensures) in
    repeated_so _ _ _ _ _ _ _ _ _ _ _ _ _
    (ap (λ rest. c.as_bytes.result.now ++ rest) (append-nil c.args.document.now) ∙ ap (λ front. front ++ c.args.document.now) head)
    (λ tries ends. ends) c.repeat.ensures
