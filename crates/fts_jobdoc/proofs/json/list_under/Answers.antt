-- The list that was found.
use Rattle.std.proofs.Common.{◌≡◌, Some, sym, map}
use Rattle.serde_json.specs.Find.{as_array}
use Rattle.serde_json.specs.View.{view, items_view}
use Rattle.fts_jobdoc.specs.Json.{field, list_under}
use Rattle.fts_jobdoc.proofs.JsonLemmas.{list_of-items_of}
use Rattle.fts_jobdoc.proofs.json.list_under.Goals as goal

pub returns-in-Some-as_array : goal.returns-in-Some-as_array
unfolding list_under
returns-in-Some-as_array c =
    let items = c.in-Some-as_array.list.now.items in
    let found : field c.args.key.now (view c.args.value.now) ≡ Some (view c.in-Some.found.now) = sym c.in-Some.ensures in
    let list : as_array (view c.in-Some.found.now) ≡ Some (items_view items) = sym c.in-Some-as_array.ensures in
    rw (c.as_slice.ensures.value, found, list) (sym (list_of-items_of (map view items)))
