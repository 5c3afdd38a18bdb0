use Rattle.std.proofs.Common.{◌≡◌, map, drop}
use Rattle.std.specs.List.{list_any}
use Rattle.fts_service.specs.Served.{are_doors_failed}
use Rattle.fts_service.proofs.together.any_failed.Given as goal

abbrev pub invariant-loop-booth : goal.invariant-loop-booth
invariant-loop-booth g l =
    list_any are_doors_failed (map (λ booth. booth.end) (drop l.booth-index l.booths)) ≡ list_any are_doors_failed (map (λ booth. booth.end) l.booths)
