-- No item has a float.
use Rattle.fts_routes.proofs.Listed.{array-no_float}
use Rattle.fts_routes.proofs.looks.look_at_list.Goals as goal

pub shows-requires : goal.shows-requires
shows-requires g c = rw c.in_ok-value.ensures (array-no_float g.T.Shown.shown g.met.T.Shown.no_float c.args.items.now)
