-- The list that was found, and none.
use Rattle.std.proofs.Common.{◌≡◌, Some, sym, map, codes}
use Rattle.serde_json.specs.Find.{get, as_array}
use Rattle.serde_json.specs.View.{view, items_view}
use Rattle.fts_delete.specs.Documents.{asked_items}
use Rattle.fts_jobdoc.proofs.JsonLemmas.{list_of-items_of}
use Rattle.fts_delete.proofs.document.asked_items.Goals as goal

pub returns-in-Some-as_array : goal.returns-in-Some-as_array
unfolding asked_items
returns-in-Some-as_array c =
    let items = c.in-Some-as_array.list.now.items in
    let found : get (codes "delete") (view c.args.document.now) ≡ Some (view c.in-Some.found.now) = sym c.in-Some.ensures in
    let list : as_array (view c.in-Some.found.now) ≡ Some (items_view items) = sym c.in-Some-as_array.ensures in
    rw (c.as_slice.ensures.value, found, list) (sym (list_of-items_of (map view items)))
