-- What is known of a watch that always says yes.
use Rattle.std.specs.Prelude.{ℕ, ◌≤◌}
use Rattle.std.proofs.Common.{arith}
use Rattle.fts_workers.specs.declared.watch.AlwaysWanted.{AlwaysWanted}

-- how often it was asked
abbrev pub asked_so_far : AlwaysWanted → ℕ
asked_so_far watch = watch.askings

-- later it was asked no less often
pub record IsLater (old new : AlwaysWanted) : Type 0 where
  pub askings : old.askings ≤ new.askings

-- this holds of a watch itself
pub later_itself : (watch : AlwaysWanted) → IsLater watch watch
later_itself watch = record { askings = omega arith }

-- and from one step to the next
pub later_passes : (one two three : AlwaysWanted) → IsLater one two → IsLater two three → IsLater one three
later_passes one two three first second = record { askings = omega arith }
