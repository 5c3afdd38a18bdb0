-- The list holds what the items so far show.
use Rattle.std.proofs.Common.{◌≡◌, map, take}
use Rattle.serde_json.specs.View.{view}
use Rattle.fts_board.proofs.values.array_value.Given as goal

abbrev pub invariant-loop-item : goal.invariant-loop-item
invariant-loop-item g l = map view l.list.items ≡ map g.T.AsJson.shown (take l.item-index l.items)
