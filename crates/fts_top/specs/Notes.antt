-- The line that a run writes to its notes, by how it ended.
use Rattle.std.specs.Prelude.{ℕ, if◌then◌else◌, List, [], ◌++◌, codes, decimal, Option, Result}
use Rattle.fts_tables.specs.Counts.{CountsFaults}
use Rattle.fts_wire.specs.Response.{Sends}
use Rattle.fts_wire.specs.declared.outside.SinkFailed.{SinkFailed}
use Rattle.fts_workers.specs.declared.ends.RoundEnd.{RoundEnd}
use Rattle.fts_workers.specs.declared.ends.RoundEnd.TheVariants as round_ends
use Rattle.fts_shop.specs.declared.ends.WorkerEnd.{WorkerEnd}
use Rattle.fts_shop.specs.declared.ends.WorkerEnd.TheVariants as worker_ends
use Rattle.fts_session.specs.declared.ends.LineEnd.{LineEnd}
use Rattle.fts_session.specs.declared.ends.LineEnd.TheVariants as line_ends
use Rattle.fts_submitting.specs.Notes.{client_note_of}
use Rattle.fts_deleting.specs.Notes.{delete_note_of}
use Rattle.fts_following.specs.Notes.{follow_note_of}
use Rattle.fts_top.specs.declared.errands.ErrandEnd.{ErrandEnd}
use Rattle.fts_top.specs.declared.errands.ErrandEnd.TheVariants.{Client, Deletion, Standby}
use Rattle.fts_top.specs.declared.ends.RunEnd.{RunEnd}
use Rattle.fts_top.specs.declared.ends.RunEnd.TheVariants.{NoMemory, NoCommand, SettingsUnread, SettingsRule, DiskFailed, Damaged, JournalFull, Session, Shown, SourcesUnmade, LineUnwritten, DoorsFailed, Served, Errand}

-- a line with a number
abbrev pub note_with : List ℕ → ℕ → List ℕ
note_with text number = text ++ (decimal number ++ codes "\n")

-- the line of a last round
abbrev pub round_note_of : RoundEnd → List ℕ
round_note_of round_ends.Clear = []
round_note_of (round_ends.Busy held) = []
round_note_of round_ends.DiskFailed = codes "fts: disk failed\n"
round_note_of (round_ends.JournalFull used) = note_with (codes "fts: journal full at ") used
round_note_of round_ends.Memory = codes "fts: no memory\n"

-- the line of a session: its connection's where that didn't end well, else its last round's
abbrev pub session_note_of : LineEnd → RoundEnd → List ℕ
session_note_of line_ends.Closed last = round_note_of last
session_note_of line_ends.SourceFailed last = codes "fts: input failed\n"
session_note_of line_ends.SinkFailed last = codes "fts: output failed\n"
session_note_of line_ends.EndsInside last = codes "fts: input ended inside a request\n"
session_note_of (line_ends.Refused status) last = note_with (codes "fts: request refused with ") status
session_note_of line_ends.Many last = codes "fts: too many requests\n"

-- the line of workers whose worst end this is
abbrev pub worker_note_of : WorkerEnd → List ℕ
worker_note_of worker_ends.Drained = []
worker_note_of worker_ends.Stopped = codes "fts: stopped\n"
worker_note_of worker_ends.Memory = codes "fts: no memory\n"
worker_note_of worker_ends.DiskFailed = codes "fts: disk failed\n"
worker_note_of (worker_ends.JournalFull used) = note_with (codes "fts: journal full at ") used

-- the line of a command that is none of the service's own
abbrev pub errand_note_of : ErrandEnd → List ℕ
errand_note_of (Client end) = client_note_of end
errand_note_of (Deletion end) = delete_note_of end
errand_note_of (Standby end) = follow_note_of end

-- the line of a run's end
abbrev pub note_of : RunEnd → List ℕ
note_of NoMemory = codes "fts: no memory\n"
note_of NoCommand = codes "fts: not a command\n"
note_of (SettingsRule rule) = note_with (codes "fts: settings rule ") rule
note_of DiskFailed = codes "fts: disk failed\n"
note_of (Damaged offset) = note_with (codes "fts: journal damaged at ") offset
note_of SettingsUnread = codes "fts: settings could not be read\n"
note_of (JournalFull used) = note_with (codes "fts: journal full at ") used
note_of (Session end) = session_note_of end.line end.last
note_of (Shown whole) = if whole then [] else codes "fts: output failed\n"
note_of SourcesUnmade = codes "fts: store failed\n"
note_of LineUnwritten = codes "fts: output failed\n"
note_of DoorsFailed = codes "fts: doors failed\n"
note_of (Served end) = worker_note_of end
note_of (Errand end) = errand_note_of end

-- a text was written to a sink: all of it or, where its count of faults rose, a part
pub record IsNoted (before after : Option (List ℕ)) (old new : ℕ) (text : List ℕ) : Type 0 where
  pub result : Result (Unit {0}) SinkFailed
  pub sent : Sends before after text result
  pub cause : CountsFaults old new result
