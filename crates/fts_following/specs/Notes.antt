-- The line that a run of `follow` writes to its notes, by how it ended.
use Rattle.std.specs.Prelude.{ℕ, List, [], ◌++◌, codes, decimal}
use Rattle.fts_following.specs.declared.ends.FollowRunEnd.{FollowRunEnd}
use Rattle.fts_following.specs.declared.ends.FollowRunEnd.TheVariants.{CaughtUp, NoMemory, DiskFailed, OutputFailed, Damaged, JournalFull, Refused, LinkFailed, NoAnswer, CannotServe, Diverged}

-- a line with a number
abbrev pub note_with : List ℕ → ℕ → List ℕ
note_with text number = text ++ (decimal number ++ codes "\n")

-- the line of an end
abbrev pub follow_note_of : FollowRunEnd → List ℕ
follow_note_of CaughtUp = []
follow_note_of NoMemory = codes "fts: no memory\n"
follow_note_of DiskFailed = codes "fts: disk failed\n"
follow_note_of OutputFailed = codes "fts: output failed\n"
follow_note_of (Damaged offset) = note_with (codes "fts: journal damaged at ") offset
follow_note_of (JournalFull used) = note_with (codes "fts: journal full at ") used
follow_note_of (Refused status) = note_with (codes "fts: service refused with ") status
follow_note_of LinkFailed = codes "fts: link failed\n"
follow_note_of NoAnswer = codes "fts: no whole answer\n"
follow_note_of (CannotServe status) = note_with (codes "fts: service cannot serve: ") status
follow_note_of (Diverged number) = note_with (codes "fts: diverged at ") number
