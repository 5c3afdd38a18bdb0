-- The exit status of each end of a run. In a session that of a connection which didn't end well goes before that of the last round.
use Rattle.std.specs.Prelude.{◌≡◌, ◌==◌, ◌||◌, false, ℕ, if◌then◌else◌, Option, Some, None, unwrap_or}
use Rattle.fts_workers.specs.declared.ends.RoundEnd.{RoundEnd}
use Rattle.fts_workers.specs.declared.ends.RoundEnd.TheVariants as round_ends
use Rattle.fts_shop.specs.declared.ends.WorkerEnd.{WorkerEnd}
use Rattle.fts_shop.specs.declared.ends.WorkerEnd.TheVariants as worker_ends
use Rattle.fts_service.specs.declared.together.ServedEnd.{ServedEnd}
use Rattle.fts_service.specs.declared.together.ServedEnd.TheVariants as served_ends
use Rattle.fts_session.specs.declared.ends.SessionEnd.{SessionEnd}
use Rattle.fts_session.specs.declared.ends.LineEnd.{LineEnd}
use Rattle.fts_session.specs.declared.ends.LineEnd.TheVariants as line_ends
use Rattle.fts_submitting.specs.Ends.{client_status}
use Rattle.fts_deleting.specs.Ends.{delete_status}
use Rattle.fts_following.specs.Ends.{follow_status}
use Rattle.fts_top.specs.declared.errands.ErrandEnd.{ErrandEnd}
use Rattle.fts_top.specs.declared.errands.ErrandEnd.TheVariants.{Client, Deletion, Standby}
use Rattle.fts_top.specs.declared.ends.RunEnd.{RunEnd}
use Rattle.fts_top.specs.declared.ends.RunEnd.TheVariants.{NoMemory, NoCommand, SettingsUnread, SettingsRule, DiskFailed, Damaged, JournalFull, Session, Shown, SourcesUnmade, LineUnwritten, DoorsFailed, Served, Errand}

-- the status of a connection that didn't end well
abbrev pub line_status : LineEnd → Option ℕ
line_status line_ends.Closed = None
line_status line_ends.SourceFailed = Some 5
line_status line_ends.SinkFailed = Some 6
line_status line_ends.EndsInside = Some 10
line_status (line_ends.Refused status) = Some 12
line_status line_ends.Many = Some 14

-- the status of the last round; a busy one is never the last
abbrev pub round_status : RoundEnd → ℕ
round_status round_ends.Clear = 0
round_status (round_ends.Busy held) = 0
round_status round_ends.DiskFailed = 4
round_status (round_ends.JournalFull used) = 11
round_status round_ends.Memory = 1

-- the status of a session: its connection's where that didn't end well, else its last round's
abbrev pub session_status : SessionEnd → ℕ
session_status end = unwrap_or (line_status end.line) (round_status end.last)

-- the status of workers whose worst end this is
abbrev pub worker_status : WorkerEnd → ℕ
worker_status worker_ends.Drained = 0
worker_status worker_ends.Stopped = 23
worker_status worker_ends.Memory = 1
worker_status worker_ends.DiskFailed = 4
worker_status (worker_ends.JournalFull used) = 11

-- the status of a command that is none of the service's own
abbrev pub errand_status : ErrandEnd → ℕ
errand_status (Client end) = client_status end
errand_status (Deletion end) = delete_status end
errand_status (Standby end) = follow_status end

-- the exit status of a run
abbrev pub status_of : RunEnd → ℕ
status_of NoMemory = 1
status_of NoCommand = 2
status_of (SettingsRule rule) = 3
status_of DiskFailed = 4
status_of (Damaged offset) = 7
status_of SettingsUnread = 8
status_of (JournalFull used) = 11
status_of (Session end) = session_status end
status_of (Shown whole) = if whole then 0 else 6
status_of SourcesUnmade = 13
status_of LineUnwritten = 6
status_of DoorsFailed = 9
status_of (Served end) = worker_status end
status_of (Errand end) = errand_status end

-- how a run ends whose lanes and workers ended so together
abbrev pub end_when_served : ServedEnd → RunEnd
end_when_served served_ends.DoorsFailed = DoorsFailed
end_when_served (served_ends.Worked end) = Served end

-- a status with which a run that serves may end: it is of a command, and has nothing of a session's input and output
abbrev pub IsServingStatus : ℕ → Type 0
IsServingStatus status = (status == 2 || (status == 5 || status == 6)) ≡ false
