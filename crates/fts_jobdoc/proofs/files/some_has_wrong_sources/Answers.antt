-- A test of each file is one of its data.
use Rattle.std.proofs.Common.{rules, tests}
use Rattle.std.proofs.lemmas.Iterator.{YieldsList-from_slice}
use Rattle.std.proofs.lemmas.Iterator.Search.{any_from_yields_List}
use Rattle.serde_json.specs.View.{view}
use Rattle.fts_jobdoc.specs.Fields.{has_wrong_sources}
use Rattle.fts_jobdoc.proofs.JsonLemmas.{any_of_viewed}
use Rattle.fts_jobdoc.proofs.files.some_has_wrong_sources.Goals as goal

pub returns : goal.returns
returns c =
    let files = c.args.files.now in
    rw (any_of_viewed has_wrong_sources view files)
    (any_from_yields_List (λ file. has_wrong_sources (view file)) _ _ _ c.any.ensures.ran (YieldsList-from_slice files cc) (λ x b q k. search (rules, tests)))
