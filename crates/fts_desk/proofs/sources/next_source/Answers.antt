-- The loads that were looked up are those of the rows.
use Rattle.std.proofs.Common.{◌∙◌}
use Rattle.fts_desk.proofs.KnownLinks.{loads_are}
use Rattle.fts_desk.proofs.sources.next_source.Goals as goal

pub returns-clause-row : goal.returns-clause-row
returns-clause-row c = λ rows loaded. c.next_alternative.ensures.row rows
    (c.fill_loads.ensures.loads ∙ loads_are rows c.args.of_job.now c.args.loads.now loaded c.counts_of_live_links_are_loads.ensures.load)
