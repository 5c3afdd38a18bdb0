use Rattle.std.proofs.Common.{◌≡◌}
use Rattle.std.specs.List.{range_with_len, flat_map}
use Rattle.fts_load.specs.Requests.{request}
use Rattle.fts_load.proofs.requests.make_requests.Given as goal

-- so many requests
abbrev pub invariant-loop-made : goal.invariant-loop-made
invariant-loop-made l = l.bytes.items ≡ flat_map (request l.source l.dest) (range_with_len 1 l.made)
