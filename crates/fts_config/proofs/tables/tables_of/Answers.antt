use Rattle.fts_config.proofs.Listed.{tables_are}
use Rattle.fts_config.proofs.tables.tables_of.Goals as goal

pub returns-in-Some-as_array : goal.returns-in-Some-as_array
returns-in-Some-as_array c = tables_are c.args.list c.name.result.now _ _ _ c.as_slice.result.now c.name.ensures c.in-Some.ensures
    c.in-Some-as_array.ensures c.as_slice.ensures.value
