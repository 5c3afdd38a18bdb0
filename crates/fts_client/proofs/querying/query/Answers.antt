-- A query that is done has found its job.
use Rattle.std.proofs.Common.{◌≡◌, ◌∙◌, append-nil}
use Rattle.fts_client.specs.RequestBytes.{query_bytes}
use Rattle.fts_client.proofs.HeardEnds.{found_so, repeated_so}
use Rattle.fts_client.proofs.querying.query.Goals as goal

pub returns-in-Done : goal.returns-in-Done
returns-in-Done g c =
    let head : c.as_bytes.result.now ≡ query_bytes c.args.port c.args.job =
    c.as_bytes.ensures.value ∙ (c.as_str.ensures.value ∙ c.query_head-head.ensures) in
    repeated_so _ _ _ _ _ _ _ _ _ _ _ _ _ (append-nil c.as_bytes.result.now ∙ head)
    (λ tries ends. found_so c.args.tries tries c.in-Done.job c.in-Done.again ends) c.in-Done.ensures
