-- What is made of a plan before a command is applied: the reply, or the command with the reply that shows what it will leave.
use Rattle.std.specs.Prelude.{◌≡◌, ℕ, ◌+◌, ◌==◌, Bool, not, ◌&&◌, List, ◌++◌, length, Option, IsTrue, Ok, Err}
use Rattle.serde_json.specs.Data.{Data}
use Rattle.fts_tables.specs.Tables.{Tables}
use Rattle.fts_tables.specs.Step.{Outcomes, step}
use Rattle.fts_tables.specs.declared.commands.Command.{Command}
use Rattle.fts_tables.specs.declared.commands.Command.TheVariants.{Restart, Submit, CancelJob, CancelFile, SetPriority, Claim, Report, Ban, Unban, Expire}
use Rattle.fts_tables.specs.declared.commands.Refusal.{Refusal}
use Rattle.fts_tables.specs.declared.commands.Refusal.TheVariants.{NoJob, NoFile, Duplicate, JobsFull, RowsFull, Idle, Stale, Unchanged, NoStorage, NotBanned}
use Rattle.fts_record.specs.Proper.{has_priority}
use Rattle.fts_disk.specs.Disk.{DiskState}
use Rattle.fts_wire.specs.Response.{has_phrase, has_methods}
use Rattle.fts_wire.specs.declared.response.Reply.{Reply}
use Rattle.fts_keep.specs.Keeps.{KeepData, used_after}
use Rattle.fts_tables.specs.History.{tables_from}
use Rattle.fts_routes.specs.Refusals.{shows}
use Rattle.fts_routes.specs.Replies.{Plan, Replies, Looks, Tries, Said, Way, said_only, said_so, entry_reply, CausedBy, DoubtComes, IsInsteadOf, AreShown}
use Rattle.fts_routes.specs.declared.planned.Planned.{Planned}
use Rattle.fts_routes.specs.declared.planned.Planned.TheVariants.{Replies as PlannedReply, Looks as PlannedLook, Tries as PlannedCommand}

-- a command that a request may ask for
abbrev pub IsAsked : Command → Type 0
IsAsked (Submit now job) = Unit {0}
IsAsked (CancelJob now job) = Unit {0}
IsAsked (CancelFile now job file) = Unit {0}
IsAsked (SetPriority now job priority) = Unit {0}
IsAsked (Ban now storage cancel) = Unit {0}
IsAsked (Unban now storage) = Unit {0}
IsAsked (Restart now settings) = ⊥
IsAsked (Claim now word) = ⊥
IsAsked (Report now file attempt outcome) = ⊥
IsAsked (Expire now) = ⊥

-- a refusal that may come of such a command
abbrev pub IsOfRequests : Refusal → Type 0
IsOfRequests NoJob = Unit {0}
IsOfRequests NoFile = Unit {0}
IsOfRequests (Duplicate job) = Unit {0}
IsOfRequests (JobsFull jobs) = Unit {0}
IsOfRequests (RowsFull rows) = Unit {0}
IsOfRequests (Unchanged job) = Unit {0}
IsOfRequests NoStorage = Unit {0}
IsOfRequests NotBanned = Unit {0}
IsOfRequests Idle = ⊥
IsOfRequests (Stale state attempt) = ⊥

-- whether a status is neither the one for want of memory nor the one for a failing disk
abbrev pub is_decided : ℕ → Bool
is_decided status = not (status == 500) && not (status == 503)

-- the reply shows what a refused command left as it was; of other refusals it says nothing
abbrev pub ShowsUnchanged : (Tables → Data) → Tables → Reply → Refusal → Type 0
ShowsUnchanged shown tables reply (Unchanged job) = reply ≡ shows (shown tables)
ShowsUnchanged shown tables reply NoJob = Unit {0}
ShowsUnchanged shown tables reply NoFile = Unit {0}
ShowsUnchanged shown tables reply (Duplicate job) = Unit {0}
ShowsUnchanged shown tables reply (JobsFull jobs) = Unit {0}
ShowsUnchanged shown tables reply (RowsFull rows) = Unit {0}
ShowsUnchanged shown tables reply NoStorage = Unit {0}
ShowsUnchanged shown tables reply NotBanned = Unit {0}
ShowsUnchanged shown tables reply Idle = Unit {0}
ShowsUnchanged shown tables reply (Stale state attempt) = Unit {0}

-- the reply shows what comes of a step: the tables that it leaves, or those that it didn't change
abbrev pub ShowsOutcome : (Tables → Data) → Tables → Reply → Outcomes → Type 0
ShowsOutcome shown tables reply (Ok done) = reply ≡ shows (shown done.0)
ShowsOutcome shown tables reply (Err refusal) = ShowsUnchanged shown tables reply refusal

-- a command, with a reply that shows what it will come to
pub record IsReady (tables : Tables) (command : Command) (reply : Reply) (wanted : Command) (shown : Tables → Data) : Type 0 where
  pub same : command ≡ wanted
  pub outcome : ShowsOutcome shown tables reply (step tables wanted)
  pub in_range : IsTrue (has_priority wanted)

-- what is made of a plan over tables
abbrev pub IsPlanned : Tables → Planned → Plan → Type 0
IsPlanned tables (PlannedReply reply) (Replies wanted) = reply ≡ wanted
IsPlanned tables (PlannedCommand command reply) (Tries wanted shown) = IsReady tables command reply wanted shown
IsPlanned tables (PlannedLook number) (Looks wanted) = number ≡ wanted
IsPlanned tables (PlannedReply reply) (Tries wanted shown) = ⊥
IsPlanned tables (PlannedReply reply) (Looks wanted) = ⊥
IsPlanned tables (PlannedLook number) (Replies wanted) = ⊥
IsPlanned tables (PlannedLook number) (Tries wanted shown) = ⊥
IsPlanned tables (PlannedCommand command reply) (Replies wanted) = ⊥
IsPlanned tables (PlannedCommand command reply) (Looks wanted) = ⊥

-- a reply that can be written: its status has a phrase, and a refusal of a method names others
pub record IsSendable (reply : Reply) : Type 0 where
  pub phrase : IsTrue (has_phrase reply.status)
  pub methods : IsTrue (has_methods reply.status reply.allow)

-- what saying something to a request did to a keep
pub record Comes {D : Type 0} (state : D → DiskState) (faults : D → ℕ) (old new : KeepData D) (said : Said) (reply : Reply) : Type 0 where
  pub way : Way
  pub cause : CausedBy way (faults old.disk) (faults new.disk)
  pub instead : IsInsteadOf way said
  pub replies : reply ≡ (said_so way said).reply
  pub tables : new.tables ≡ tables_from old.tables (said_so way said).added
  pub commands : new.commands ≡ old.commands + length (said_so way said).added
  pub used : new.used ≡ used_after old.used (said_so way said).added
  pub listed : new.entries ≡ old.entries ++ (said_so way said).added
  pub doubt : DoubtComes (faults old.disk) (faults new.disk) old.doubt new.doubt said.added (said_so way said).added

-- what looking at an entry did to a keep: it said what is shown of that entry
pub record LooksAtEntry {D : Type 0} (state : D → DiskState) (faults : D → ℕ) (old new : KeepData D) (number : Option ℕ) (reply : Reply) : Type 0 where
  pub bodies : List (List ℕ)
  pub shown : AreShown state old bodies
  pub comes : Comes state faults old new (said_only (entry_reply bodies number)) reply
