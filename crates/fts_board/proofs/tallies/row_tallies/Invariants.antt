-- Each pair has what the goings so far say of it.
use Rattle.std.proofs.Common.{◌≡◌, take}
use Rattle.fts_board.specs.Tallied.{row_tallies_of}
use Rattle.fts_board.proofs.tallies.row_tallies.Given as goal

abbrev pub invariant-loop-going : goal.invariant-loop-going
invariant-loop-going l = l.tallies.items ≡ row_tallies_of (take l.going-index l.goings) l.count
