-- The list holds the storages so far.
use Rattle.std.proofs.Common.{◌≡◌, map, take}
use Rattle.serde_json.specs.View.{view}
use Rattle.fts_board.specs.Snapshot.{storage_object}
use Rattle.fts_board.proofs.storages.storages_over.Given as goal

abbrev pub invariant-loop-endpoint : goal.invariant-loop-endpoint
invariant-loop-endpoint l = map view l.list.items ≡ map (storage_object (map (λ row. row.now) l.rows)) (take l.endpoint-index l.endpoints)
