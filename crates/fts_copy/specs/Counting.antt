-- What is known of a watch that counts.
use Rattle.std.specs.Prelude.{ℕ, ◌≤◌}
use Rattle.std.proofs.Common.{arith}
use Rattle.fts_copy.specs.declared.watch.CountingWatch.{CountingWatch}

-- how often it was asked
abbrev pub asked_so_far : CountingWatch → ℕ
asked_so_far watch = watch.askings

-- how often it said no
abbrev pub said_no : CountingWatch → ℕ
said_no watch = watch.noes

-- how often it will still say yes
abbrev pub yeses_left : CountingWatch → ℕ
yeses_left watch = watch.left

-- later it was asked no less often, and has no more to say yes to
pub record IsLater (old new : CountingWatch) : Type 0 where
  pub askings : old.askings ≤ new.askings
  pub left : new.left ≤ old.left

-- this holds of a watch itself
pub later_itself : (watch : CountingWatch) → IsLater watch watch
later_itself watch = record { askings = omega arith; left = omega arith }

-- and from one step to the next
pub later_passes : (one two three : CountingWatch) → IsLater one two → IsLater two three → IsLater one three
later_passes one two three first second = record { askings = omega arith; left = omega arith }
