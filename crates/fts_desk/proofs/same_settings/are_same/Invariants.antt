-- The items passed are the same.
use Rattle.std.proofs.Common.{◌≡◌, take}
use Rattle.fts_desk.proofs.same_settings.are_same.Given as goal

abbrev pub invariant-loop-place : goal.invariant-loop-place
invariant-loop-place g l = take l.place l.one ≡ take l.place l.other
