-- What holds of a writer's reports, and that nobody takes a file from a writer. Entries stand behind an opening list, as those of turns do.
use Rattle.std.specs.Prelude.{◌≡◌, ◌≢◌, ◌⊎◌, ℕ, true, List, [], ◌∷◌, ◌++◌}
use Rattle.fts_tables.specs.History.{tables_of}
use Rattle.fts_tables.specs.declared.rows.Outcome.{Outcome}
use Rattle.fts_tables.specs.declared.rows.Outcome.TheVariants.{Stopped}
use Rattle.fts_tables.specs.declared.commands.Entry.{Entry}
use Rattle.fts_tables.specs.declared.commands.Command.{Command}
use Rattle.fts_tables.specs.declared.commands.Command.TheVariants.{Restart, Submit, CancelJob, CancelFile, SetPriority, Claim, Report, Ban, Unban, Expire}
use Rattle.fts_keep.specs.Applied.{entry_by}
use Rattle.fts_workers.specs.Requests.{IsOfRequest}
use Rattle.fts_shop.specs.Within.{is_cancel_asked}
use Rattle.fts_ledger.specs.Claims.{IsOwn, last_claim}

-- this holds of each report of a writer among the entries, by the entries before it, its file and its outcome
abbrev pub EachReport : ℕ → List Entry → (List Entry → ℕ → Outcome → Type 0) → Type 0
EachReport writer entries Holds = (earlier later : List Entry) (now file attempt : ℕ) (outcome : Outcome)
    → entries ≡ earlier ++ entry_by writer (Report now file attempt outcome) ∷ later → Holds earlier file outcome

-- each report of a writer among the entries that follow those before them is of a file whose last claim before it is the writer's own
abbrev pub ReportsOwn : ℕ → List Entry → List Entry → List Entry → Type 0
ReportsOwn writer opening before entries =
    EachReport writer entries (λ earlier file outcome. IsOwn writer (last_claim file opening (before ++ earlier)))

-- each report of a writer that says stopped, among the entries that follow those before them, is of a file of which cancel was asked before it
abbrev pub StopsAsked : ℕ → List Entry → List Entry → Type 0
StopsAsked writer before entries =
    EachReport writer entries (λ earlier file outcome. outcome ≡ Stopped → is_cancel_asked (tables_of (before ++ earlier)) file ≡ true)

-- a command is a restart
abbrev pub IsRestart : Command → Type 0
IsRestart (Restart now settings) = Unit {0}
IsRestart (Submit now job) = ⊥
IsRestart (CancelJob now job) = ⊥
IsRestart (CancelFile now job file) = ⊥
IsRestart (SetPriority now job priority) = ⊥
IsRestart (Claim now word) = ⊥
IsRestart (Report now file attempt outcome) = ⊥
IsRestart (Ban now storage cancel) = ⊥
IsRestart (Unban now storage) = ⊥
IsRestart (Expire now) = ⊥

-- a command reports this file
abbrev pub IsReportOf : ℕ → Command → Type 0
IsReportOf file (Restart now settings) = ⊥
IsReportOf file (Submit now job) = ⊥
IsReportOf file (CancelJob now job) = ⊥
IsReportOf file (CancelFile now job one) = ⊥
IsReportOf file (SetPriority now job priority) = ⊥
IsReportOf file (Claim now word) = ⊥
IsReportOf file (Report now reported attempt outcome) = reported ≡ file
IsReportOf file (Ban now storage cancel) = ⊥
IsReportOf file (Unban now storage) = ⊥
IsReportOf file (Expire now) = ⊥

-- a command is a worker's own: an expiry, a claim or a report
abbrev pub IsWork : Command → Type 0
IsWork (Restart now settings) = ⊥
IsWork (Submit now job) = ⊥
IsWork (CancelJob now job) = ⊥
IsWork (CancelFile now job file) = ⊥
IsWork (SetPriority now job priority) = ⊥
IsWork (Claim now word) = Unit {0}
IsWork (Report now file attempt outcome) = Unit {0}
IsWork (Ban now storage cancel) = ⊥
IsWork (Unban now storage) = ⊥
IsWork (Expire now) = Unit {0}

-- each entry of a writer among these is an expiry, a claim or a report
abbrev pub AddsWork : ℕ → List Entry → Type 0
AddsWork writer [] = Unit {0}
AddsWork writer (entry ∷ entries) = (entry.writer ≡ writer → IsWork entry.command) × AddsWork writer entries

-- a command is a client's: one of those that requests bring
abbrev pub IsAsked : Command → Type 0
IsAsked = IsOfRequest

-- each entry of a writer among these is a client's command
abbrev pub AddsAsked : ℕ → List Entry → Type 0
AddsAsked writer [] = Unit {0}
AddsAsked writer (entry ∷ entries) = (entry.writer ≡ writer → IsAsked entry.command) × AddsAsked writer entries

-- an entry takes a file from a writer that claimed it: it is a restart, or a report of the file by another
abbrev pub Takes : ℕ → ℕ → Entry → Type 0
Takes writer file entry = IsRestart entry.command ⊎ (IsReportOf file entry.command × (entry.writer ≢ writer))

-- among the entries behind an opening list, behind a claim of this writer and before the next claim of the same file, stands neither a restart nor
-- a report of that file by another
abbrev pub IsUndisturbed : ℕ → List Entry → List Entry → Type 0
IsUndisturbed writer opening entries = (earlier later : List Entry) (entry : Entry) (file : ℕ) → entries ≡ earlier ++ entry ∷ later
    → IsOwn writer (last_claim file opening earlier) → ¬ Takes writer file entry

-- none of the entries is a restart
abbrev pub HasNoRestart : List Entry → Type 0
HasNoRestart [] = Unit {0}
HasNoRestart (entry ∷ entries) = ¬ IsRestart entry.command × HasNoRestart entries
