use Rattle.std.proofs.Common.{◌≡◌, map, drop}
use Rattle.fts_service.specs.Served.{worst_of, worst_from}
use Rattle.fts_service.proofs.together.worst.Given as goal

abbrev pub invariant-loop-station : goal.invariant-loop-station
invariant-loop-station g l =
    worst_from l.worst (map (λ station. station.end) (drop l.station-index l.stations)) ≡ worst_of (map (λ station. station.end) l.stations)
