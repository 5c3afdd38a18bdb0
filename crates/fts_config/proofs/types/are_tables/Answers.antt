-- A test of each value is one of its data.
use Rattle.std.proofs.Common.{rules, tests}
use Rattle.std.proofs.lemmas.Iterator.{YieldsList-from_slice}
use Rattle.std.proofs.lemmas.Iterator.Search.{all_from_yields_List}
use Rattle.toml.specs.View.{view}
use Rattle.fts_config.specs.Types.{is_table}
use Rattle.fts_config.proofs.Viewed.{all_of_viewed}
use Rattle.fts_config.proofs.types.are_tables.Goals as goal

pub returns : goal.returns
returns c =
    let values = c.args.values.now in
    rw (all_of_viewed is_table view values)
    (all_from_yields_List (λ value. is_table (view value)) _ _ _ c.all.ensures.ran (YieldsList-from_slice values cc) (λ x b q k. search (rules, tests)))
