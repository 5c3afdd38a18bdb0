use Rattle.std.proofs.Common.{◌≡◌, ◌≤◌, true, length}
use Rattle.fts_heads.specs.declared.ripe_file.RipeFile.{RipeFile}
use Rattle.fts_heads.specs.Crowd.{is_own}
use Rattle.fts_heads.proofs.crowd.own_below.Given as goal

-- no destination from there on has a file, of those that count
abbrev pub invariant-loop-at : goal.invariant-loop-at
invariant-loop-at l = record {
  past : (other : RipeFile) → is_own l.own other ≡ true → l.at ≤ other.dest → l.dest ≤ other.dest;
  most : l.at ≤ l.dest;
  inside : l.at ≤ length l.own;
}

abbrev pub decreases-loop-at : goal.decreases-loop-at
decreases-loop-at l = l.at
