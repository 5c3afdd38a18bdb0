-- The link failed in the last try.
use Rattle.std.proofs.Common.{ap, sym, ◌∙◌}
use Rattle.fts_submitting.specs.Ends.{client_status}
use Rattle.fts_submitting.proofs.FailedTries.{query_sixteen}
use Rattle.fts_submitting.proofs.querying.run_query.Goals as goal

pub returns-clause-link : goal.returns-clause-link
returns-clause-link g c = λ sixteen.
    query_sixteen _ _ _ _ c.query-end.ensures.tries _ _ _ _ c.query-end.ensures.tried _ c.query-end.result c.tell-whole.result c.query-end.ensures.ends
    (ap client_status (sym c.end_of_query.ensures) ∙ sixteen)
