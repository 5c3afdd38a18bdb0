-- What a list of entries tells that the tables don't keep: the reports of copies, what was done to files by name, when jobs were settled, the last moment,
-- and that of the last restart.
use Rattle.std.specs.Prelude.{ℕ, ◌+◌, Bool, if◌then◌else◌, List, [], ◌∷◌, ◌++◌, map, length, Option, None, Some, option_to_list, unwrap_or, Ok, Err}
use Rattle.std.specs.List.{filter_map, last_or}
use Rattle.fts_tables.specs.Tables.{Tables, empty_tables}
use Rattle.fts_tables.specs.Settling.{is_restart}
use Rattle.fts_tables.specs.Step.{Outcomes, step}
use Rattle.fts_tables.specs.History.{tables_after}
use Rattle.fts_tables.specs.declared.commands.Answer.{Answer}
use Rattle.fts_tables.specs.declared.commands.Answer.TheVariants.{Restarted, Submitted, Cancelled, PrioritySet, Claimed, Reported, Banned, Unbanned, Expired}
use Rattle.fts_tables.specs.declared.commands.Entry.{Entry}
use Rattle.fts_tables.specs.declared.commands.Command.{Command}
use Rattle.fts_tables.specs.declared.commands.Command.TheVariants.{Restart, Submit, CancelJob, CancelFile, SetPriority, Claim, Report, Ban, Unban, Expire}
use Rattle.fts_chronicle.specs.Finishes.{finishes_with, finishes_of}
use Rattle.fts_chronicle.specs.declared.chronicle.CopyReport.{CopyReport}
use Rattle.fts_chronicle.specs.declared.events.FileEvent.{FileEvent}
use Rattle.fts_chronicle.specs.declared.events.FileEvent.TheVariants.{Claimed as FileClaimed, Reported as FileReported, JobCancelled, FileCancelled}

-- the moment that a command carries
abbrev pub now_of : Command → ℕ
now_of (Restart now settings) = now
now_of (Submit now job) = now
now_of (CancelJob now job) = now
now_of (CancelFile now job file) = now
now_of (SetPriority now job priority) = now
now_of (Claim now word) = now
now_of (Report now file attempt outcome) = now
now_of (Ban now storage cancel) = now
now_of (Unban now storage) = now
now_of (Expire now) = now

-- the moment of a Restart, and none of any other command
abbrev pub restart_by : Command → Option ℕ
restart_by command = if is_restart command then Some (now_of command) else None

-- the report of a Report, and none of any other command
abbrev pub report_by : Command → Option CopyReport
report_by (Report now file attempt outcome) = Some (record { moment = now; file = file; attempt = attempt; outcome = outcome })
report_by _ = None

-- the reports among the entries, in their order
abbrev pub reports_of : List Entry → List CopyReport
reports_of entries = filter_map (λ entry. report_by entry.command) entries

-- the claim that an answer names, at a moment
abbrev pub claim_by : ℕ → Answer → Option FileEvent
claim_by now (Claimed file attempt) = Some (FileClaimed now file attempt)
claim_by now _ = None

-- the report of this place among all, and the state of its file that an answer names
abbrev pub ending_by : ℕ → Answer → Option FileEvent
ending_by place (Reported file state) = Some (FileReported place state)
ending_by place _ = None

-- what a command that was answered so, behind so many reports, did to a file or to a job's files: a claim, the end of a copy, or a cancellation, which names
-- a job or a file
abbrev pub event_by : ℕ → Command → Answer → Option FileEvent
event_by place (CancelJob now job) answer = Some (JobCancelled now job)
event_by place (CancelFile now job file) answer = Some (FileCancelled now job file)
event_by place (Claim now word) answer = claim_by now answer
event_by place (Report now file attempt outcome) answer = ending_by place answer
event_by place _ answer = None

-- what a step behind so many reports did to a file: nothing, where it was refused
abbrev pub event_of_step : ℕ → Command → Outcomes → Option FileEvent
event_of_step place command (Ok done) = event_by place command done.1
event_of_step place command (Err refusal) = None

-- what entries did to files, one after the other, from some tables on and behind so many reports
abbrev pub events_from : Tables → ℕ → List Entry → List FileEvent
events_from tables place [] = []
events_from tables place (entry ∷ entries) =
    option_to_list (event_of_step place entry.command (step tables entry.command))
    ++ events_from (tables_after tables (step tables entry.command)) (place + length (option_to_list (report_by entry.command))) entries

-- what the entries did to files, in their order
abbrev pub events_of : List Entry → List FileEvent
events_of entries = events_from empty_tables 0 entries

-- the moment of the last entry's command, and 0 where there is none
abbrev pub moment_of : List Entry → ℕ
moment_of entries = unwrap_or (last_or None (map (λ entry. now_of entry.command) entries)) 0

-- the moment of the last Restart among the entries, and 0 where there is none
abbrev pub restart_of : List Entry → ℕ
restart_of entries = unwrap_or (last_or None (filter_map (λ entry. restart_by entry.command) entries)) 0

-- what entries told: the last moment, that of the last restart, the reports, what was done to files, and when each job was settled, in order of number
pub record ChronicleData : Type 0 where
  pub moment : ℕ
  pub restart : ℕ
  pub reports : List CopyReport
  pub events : List FileEvent
  pub finishes : List ℕ

-- what these entries told
abbrev pub chronicle_of : List Entry → ChronicleData
chronicle_of entries =
    record {
      moment = moment_of entries;
      restart = restart_of entries;
      reports = reports_of entries;
      events = events_of entries;
      finishes = finishes_of entries;
    }

-- what they told, and what a further command tells that is answered so and leaves these tables
abbrev pub chronicle_with : ChronicleData → Command → Answer → Tables → ChronicleData
chronicle_with before command answer tables = record {
  moment = now_of command;
  restart = unwrap_or (restart_by command) before.restart;
  reports = before.reports ++ option_to_list (report_by command);
  events = before.events ++ option_to_list (event_by (length before.reports) command answer);
  finishes = finishes_with before.finishes command tables;
}

-- what contracts see of a chronicle: what the entries told, and whether there is room for one entry more
pub record KeptChronicle : Type 0 where
  pub told : ChronicleData
  pub ready : Bool
