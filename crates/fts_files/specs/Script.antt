-- What is still to be done, as a script: it has ended, or makes a call and goes on by what that answers.
use Rattle.std.specs.Prelude.{◌≡◌, ℕ, Option, Some, None, Result, Ok, Err, List}
use Rattle.fts_files.specs.declared.files.Seen.{Seen}
use Rattle.fts_files.specs.Calls.{Call, Asked, Answer, Done, Opened, Saw, Gave, Counted, Failed, with_call}

pub data Script : Type 0 where
  -- with this, or by a failure
  Ends : Option Answer → Script
  Does : Asked → (Answer → Script) → Script

-- the calls from an older list to a newer one are those of the script, in its order and answered so, and it ended so
unfoldable pub Plays : Script → Option (List Call) → Option (List Call) → Option Answer → Type 0
Plays (Ends end) old new ended = (new ≡ old) × (ended ≡ end)
Plays (Does asked next) old new ended = (answer : Answer) × Plays (next answer) (with_call old asked answer) new ended

-- a script went on to another: whatever that leads to, the first leads there
pub record LeadsTo (from : Script) (old : Option (List Call)) (to : Script) (new : Option (List Call)) : Type 0 where
  pub onward : (last : Option (List Call)) (ended : Option Answer) → Plays to new last ended → Plays from old last ended

-- it failed
abbrev pub fails : Script
fails = Ends None

-- what is left of a script where a step gave this: what follows its value, or what follows its failure
abbrev pub either : {T E : Type 0} → (T → Script) → Script → Result T E → Script
either next ended (Ok value) = next value
either next ended (Err failed) = ended

-- what a step gave, where it didn't fail
abbrev pub value_of : {T E : Type 0} → Result T E → Option T
value_of (Ok value) = Some value
value_of (Err failed) = None

-- how a step without a value ended
abbrev pub done_end : {T E : Type 0} → Result T E → Option Answer
done_end (Ok done) = Some Done
done_end (Err failed) = None

-- goes on where a call was done, and otherwise ends so
abbrev pub unless_failed : Script → Script → Answer → Script
unless_failed next ended Done = next
unless_failed next ended _ = ended

-- goes on with the file that was opened
abbrev pub with_open : (ℕ → Script) → Script → Answer → Script
with_open next ended (Opened file) = next file
with_open next ended _ = ended

-- goes on with what was seen
abbrev pub with_seen : (Seen → Script) → Script → Answer → Script
with_seen next ended (Saw seen) = next seen
with_seen next ended _ = ended

-- goes on with what a step makes of an answer, where it makes something
abbrev pub with_value : {T : Type 0} → (T → Script) → Script → Option T → Script
with_value next ended (Some value) = next value
with_value next ended None = ended
