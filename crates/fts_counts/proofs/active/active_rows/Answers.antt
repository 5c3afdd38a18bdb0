-- The chain goes over the rows, and keeps the ACTIVE ones.
use Rattle.std.proofs.Common.{rules, tests}
use Rattle.std.proofs.lemmas.Iterator.{YieldsList-from_slice}
use Rattle.std.proofs.lemmas.Iterator.Consumers.{map_from_collect, YieldsList-from_filter}
use Rattle.fts_tables.specs.Tables.{is_active}
use Rattle.fts_tables.specs.declared.rows.FileRow.{FileRow}
use Rattle.fts_counts.proofs.active.active_rows.Goals as goal

pub returns : goal.returns
returns c = map_from_collect _ c.collect.ensures.ran
    (YieldsList-from_filter _ (λ (row : FileRow). is_active row.state) (YieldsList-from_slice c.args.rows.now cc) c.filter.ensures.closure
    (λ x b q k. search (rules, tests)))
