-- How a file is opened where too many are open.
use Rattle.std.specs.Prelude.{ℕ, zero, suc, if◌then◌else◌, List}
use Rattle.fts_files.specs.declared.files.Way.{Way}
use Rattle.fts_files.specs.Calls.{Answer, Done, Opened, Saw, Gave, Counted, Failed, Open, Rest}
use Rattle.fts_files.specs.Errno.{are_too_many}
use Rattle.fts_files.specs.Script.{Script, Does, fails, unless_failed}

-- by what an opening answered: again where too many files are open, and any other answer is the answer
abbrev pub unless_too_many : (Answer → Script) → Script → Answer → Script
unless_too_many next again (Failed errno) = if are_too_many errno then again else next (Failed errno)
unless_too_many next again other = next other

-- opens; where too many files are open it rests and opens again, so often at most, and then any answer is the answer
unfoldable pub opens_within : List ℕ → Way → (Answer → Script) → ℕ → Script
opens_within path way next zero = Does (Open path way) next
opens_within path way next (suc rests) =
    Does (Open path way) (unless_too_many next (Does Rest (unless_failed (opens_within path way next rests) fails)))

-- a hundred rests at most
abbrev pub opens_when_free : List ℕ → Way → (Answer → Script) → Script
opens_when_free path way next = opens_within path way next 100
