-- The chain goes over the parts between the commas, and looks at each.
use Rattle.std.proofs.Common.{rules, tests}
use Rattle.std.specs.Prelude.{◌==◌}
use Rattle.std.proofs.lemmas.Iterator.Search.{all_from_yields_List}
use Rattle.std.proofs.lemmas.Iterator.Splits.{YieldsList-from_slice_split}
use Rattle.fts_routes.specs.Queries.{is_one_of, job_states}
use Rattle.fts_routes.proofs.queries.are_states.Goals as goal

pub returns : goal.returns
returns c = all_from_yields_List (is_one_of job_states) _ _ c.all.result c.all.ensures.ran
    (YieldsList-from_slice_split _ (λ byte. byte == 44) c.args.text.now (search rules) c.split.ensures.done c.split.ensures.closure
    (λ x b q k. search (rules, tests)))
    (λ x b q k. search (rules, tests))
