-- The chain goes over the events, and keeps those of the job.
use Rattle.std.proofs.Common.{rules, tests}
use Rattle.std.proofs.lemmas.Iterator.{YieldsList-from_slice, items_from_collect}
use Rattle.std.proofs.lemmas.Iterator.Consumers.{YieldsList-at, YieldsList-from_filter, YieldsList-from_copied}
use Rattle.fts_pages.specs.Events.{is_event_of}
use Rattle.fts_pages.proofs.events.events_of_job.Goals as goal

pub returns : goal.returns
returns c = items_from_collect _ c.collect.ensures.ran
    (YieldsList-from_copied (YieldsList-at c.copied.ensures.source (YieldsList-from_filter _ (is_event_of c.args.reports.now c.args.job.now) (YieldsList-from_slice c.args.events.now cc) c.filter.ensures.closure
    (λ x b q k. search (rules, tests)))))
