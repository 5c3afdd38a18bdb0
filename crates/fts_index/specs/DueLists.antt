-- Lists of the moments at which waiting files become overdue, with room for more, and such a list where a file's moment changes.
use Rattle.std.specs.Prelude.{◌≡◌, ℕ, ◌+◌, ◌<◌, Bool, false, ◌==◌, if◌then◌else◌, List, length, count_by, Option, is_some, IsTrue, IfSome}
use Rattle.std.specs.Option.{option_map_or}
use Rattle.fts_tables.specs.Dues.{Due, is_due_before, AreInOrder}
use Rattle.ordered.specs.Orders.{has_key}

-- the moments in order, how many files may ever have one there, and how many there is room for
pub record DueList : Type 0 where
  pub dues : List Due
  pub files : ℕ
  pub room : ℕ

-- a file with a moment
abbrev pub due_at : ℕ → ℕ → Due
due_at file moment = record { moment = moment; file = file }

-- whether a file with a moment passes a test, and not without one
abbrev pub passes_at : (Due → Bool) → ℕ → Option ℕ → Bool
passes_at test file moment = option_map_or (λ from. test (due_at file from)) moment false

-- what a file with a moment adds to a count: one where it is counted
abbrev pub counted : (Due → Bool) → ℕ → Option ℕ → ℕ
counted test file moment = if passes_at test file moment then 1 else 0

-- a file may have another moment, or none: it stands there once, with the moment that it had, or not at all where it had none; and where it gets one,
-- fewer files stand there than may, without it
pub record MayChange (file : ℕ) (was is : Option ℕ) (list : DueList) : Type 0 where
  pub there : IfSome was (λ moment. IsTrue (has_key is_due_before (due_at file moment) list.dues))
  pub once : count_by (λ (due : Due). due.file == file) list.dues ≡ (if is_some was then 1 else 0)
  pub fewer : IfSome is (λ moment. length list.dues < list.files + (if is_some was then 1 else 0))

-- a file's moment has changed, and nothing else
pub record HasChanged (file : ℕ) (was is : Option ℕ) (old new : DueList) : Type 0 where
  pub counts : (test : Due → Bool) → count_by test new.dues + counted test file was ≡ count_by test old.dues + counted test file is
  pub order : AreInOrder new.dues
  pub files : new.files ≡ old.files
  pub room : new.room ≡ old.room
