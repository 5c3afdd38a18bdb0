-- The exit status of each end of a run of `follow`.
use Rattle.std.specs.Prelude.{ℕ}
use Rattle.fts_following.specs.declared.ends.FollowRunEnd.{FollowRunEnd}
use Rattle.fts_following.specs.declared.ends.FollowRunEnd.TheVariants.{CaughtUp, NoMemory, DiskFailed, OutputFailed, Damaged, JournalFull, Refused, LinkFailed, NoAnswer, CannotServe, Diverged}

abbrev pub follow_status : FollowRunEnd → ℕ
follow_status CaughtUp = 0
follow_status NoMemory = 1
follow_status DiskFailed = 4
follow_status OutputFailed = 6
follow_status (Damaged offset) = 7
follow_status (JournalFull used) = 11
follow_status (Refused status) = 15
follow_status LinkFailed = 16
follow_status NoAnswer = 17
follow_status (CannotServe status) = 18
follow_status (Diverged number) = 22
