use Rattle.std.proofs.Common.{◌≡◌, ◌≤◌, ◌-◌, length, vec_capacity}
use Rattle.fts_heads.specs.declared.ripe_file.RipeFile.{RipeFile}
use Rattle.fts_heads.specs.declared.heads.TheConstants.{MOST_DESTS}
use Rattle.fts_heads.specs.Crowd.{is_own}
use Rattle.fts_heads.proofs.crowd.add_stands.Given as goal

-- as many stand as before, in memory that is there
abbrev pub invariant-loop-own : goal.invariant-loop-own
invariant-loop-own l = record {
  same : (file : RipeFile) → is_own l.own.items file ≡ is_own l.fn.own.items file;
  few : length l.fn.own.items ≤ MOST_DESTS → length l.own.items ≤ MOST_DESTS;
  memory : l.dests ≤ vec_capacity l.own;
}

abbrev pub decreases-loop-own : goal.decreases-loop-own
decreases-loop-own l = l.dests - length l.own.items
