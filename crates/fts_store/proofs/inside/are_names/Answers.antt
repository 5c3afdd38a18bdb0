-- Whether all parts between the slashes are names.
use Rattle.std.proofs.Common.{rules, tests}
use Rattle.std.specs.Prelude.{◌==◌}
use Rattle.std.proofs.lemmas.Iterator.Search.{all_from_yields_List}
use Rattle.std.proofs.lemmas.Iterator.Splits.{YieldsList-from_slice_split}
use Rattle.fts_store.specs.Folder.{is_name}
use Rattle.fts_store.proofs.inside.are_names.Goals as goal

-- the chain goes over the parts of the split, and tests each
pub returns : goal.returns
returns c = all_from_yields_List is_name _ _ c.all.result c.all.ensures.ran
    (YieldsList-from_slice_split _ (λ byte. byte == 0x2f) c.args.text.now c.split.ensures.rest c.split.ensures.done c.split.ensures.closure (λ x b q k. search (rules, tests)))
    (λ x b q k. search (rules, tests))
