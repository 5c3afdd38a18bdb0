-- The chain goes over the submission, and then over what the events did to the row.
use Rattle.std.proofs.Common.{Some, rules, tests}
use Rattle.std.proofs.lemmas.Iterator.{YieldsList-from_slice, items_from_collect}
use Rattle.std.proofs.lemmas.Iterator.Adapters.{YieldsList-from_once}
use Rattle.std.proofs.lemmas.Iterator.Consumers.{YieldsList-at, YieldsList-from_filter_map, YieldsList-from_chain}
use Rattle.fts_pages.specs.Events.{submission_of, event_of}
use Rattle.fts_pages.proofs.events.events_of_row.Goals as goal

pub returns : goal.returns
returns c = items_from_collect _ c.collect.ensures.ran
    (YieldsList-from_chain (YieldsList-at c.chain.ensures.first (YieldsList-from_once (Some (submission_of c.args.job.now)) (search (rules, tests))))
    (YieldsList-at c.chain.ensures.second
    (YieldsList-from_filter_map _ (event_of c.args.reports.now c.args.job.now c.args.row.now) (YieldsList-from_slice c.args.events.now cc) c.filter_map-done.ensures.closure
    (λ x r q k. search (rules, tests))))
    c.chain.ensures.first_done c.chain.ensures.second_done)
