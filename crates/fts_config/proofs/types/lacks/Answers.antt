use Rattle.std.proofs.Common.{◌≡◌, ◌∙◌, true, arith}
use Rattle.std.proofs.lemmas.Grind.{common_steps}
use Rattle.fts_config.specs.Keys.{is_needed}
use Rattle.fts_config.proofs.Listed.{lacks-items_of}
use Rattle.fts_config.proofs.types.lacks.Goals as goal

pub returns-in-Some-as_array : goal.returns-in-Some-as_array
returns-in-Some-as_array c =
    let needed : is_needed c.args.key ≡ true = grind (arith, common_steps) in
    c.is_empty.ensures ∙ lacks-items_of c.args.key c.name.result.now _ _ _ c.as_slice.result.now needed c.name.ensures c.in-Some.ensures
    c.in-Some-as_array.ensures c.as_slice.ensures.value
