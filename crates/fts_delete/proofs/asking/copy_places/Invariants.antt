-- The loop that copies places.
use Rattle.std.proofs.Common.{◌≡◌, take}
use Rattle.fts_delete.proofs.asking.copy_places.Given as goal

-- the copy holds the places that the loop has passed
abbrev pub invariant-loop-place : goal.invariant-loop-place
invariant-loop-place l = l.copy ≡ take l.place-index l.places
