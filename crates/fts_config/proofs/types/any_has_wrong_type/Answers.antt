-- A test of each value is one of its data.
use Rattle.std.proofs.Common.{rules, tests}
use Rattle.std.proofs.lemmas.Iterator.{YieldsList-from_slice}
use Rattle.std.proofs.lemmas.Iterator.Search.{any_from_yields_List}
use Rattle.toml.specs.View.{view}
use Rattle.fts_config.specs.Types.{has_wrong_type}
use Rattle.fts_config.proofs.Viewed.{any_of_viewed}
use Rattle.fts_config.proofs.types.any_has_wrong_type.Goals as goal

pub returns : goal.returns
returns c =
    let values = c.args.tables.now in
    rw (any_of_viewed (has_wrong_type c.args.key) view values)
    (any_from_yields_List (λ value. has_wrong_type c.args.key (view value)) _ _ _ c.any.ensures.ran (YieldsList-from_slice values cc)
    (λ x b q k. search (rules, tests)))
