use Rattle.std.proofs.Common.{◌≡◌, take}
use Rattle.fts_copy.proofs.differences.first_difference.Given as goal

-- both have the same bytes so far
abbrev pub invariant-loop-at : goal.invariant-loop-at
invariant-loop-at l = take l.at l.one ≡ take l.at l.other
