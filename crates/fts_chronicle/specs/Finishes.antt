-- When jobs were settled. An entry concerns one job, or all: each that it concerns is seen behind it, and settled where none of its files waits or runs.
use Rattle.std.specs.Prelude.{ℕ, suc, ◌-◌, ◌==◌, Bool, false, if◌then◌else◌, nat_le, List, [], ◌∷◌, ◌++◌, length, slice_get, unwrap_or, Option, Some, None, Ok, Err}
use Rattle.fts_tables.specs.Tables.{Tables, empty_tables, rows_of_job, row_at}
use Rattle.fts_tables.specs.Moves.{is_settled_job}
use Rattle.fts_tables.specs.Step.{Outcomes, step}
use Rattle.fts_tables.specs.History.{tables_after}
use Rattle.fts_tables.specs.declared.rows.FileRow.{FileRow}
use Rattle.fts_tables.specs.declared.commands.Entry.{Entry}
use Rattle.fts_tables.specs.declared.commands.Command.{Command}
use Rattle.fts_tables.specs.declared.commands.Command.TheVariants.{Restart, Submit, CancelJob, CancelFile, SetPriority, Claim, Report, Ban, Unban, Expire}

-- whether no file of the job of a number waits or runs
abbrev pub is_settled_at : Tables → ℕ → Bool
is_settled_at tables number = is_settled_job (rows_of_job tables.rows number)

-- the finish of a job that is seen behind an entry of this moment, by the one before: 0 while a file waits or runs, and else the moment at which it was
-- first seen settled
abbrev pub finish_seen : Tables → ℕ → ℕ → ℕ → ℕ
finish_seen tables now number finish = if is_settled_at tables number then (if finish == 0 then now else finish) else 0

-- finishes of jobs numbered from a number on, where those that pass a test are seen
abbrev pub finishes_seen : (ℕ → Bool) → Tables → ℕ → ℕ → List ℕ → List ℕ
finishes_seen test tables now number [] = []
finishes_seen test tables now number (finish ∷ finishes) =
    (if test number then finish_seen tables now number finish else finish) ∷ finishes_seen test tables now (suc number) finishes

-- whether a number is that of a row's job
abbrev pub is_owner : Option FileRow → ℕ → Bool
is_owner None number = false
is_owner (Some row) number = number == row.job

-- whether a number is that of a job of the tables
abbrev pub is_job_in : Tables → ℕ → Bool
is_job_in tables number = nat_le number (length tables.jobs)

-- The finishes behind a command that leaves these tables: a cancellation concerns its job, a report that of its file, and a restart, a ban and an expiry
-- all jobs. A submission adds a job. A claim takes a file that waits, and another priority and the end of a ban leave all files as they are.
abbrev pub finishes_with : List ℕ → Command → Tables → List ℕ
finishes_with finishes (Restart now settings) tables = finishes_seen (is_job_in tables) tables now 1 finishes
finishes_with finishes (Submit now job) tables = finishes ++ 0 ∷ []
finishes_with finishes (CancelJob now job) tables = finishes_seen (λ number. number == job) tables now 1 finishes
finishes_with finishes (CancelFile now job file) tables = finishes_seen (λ number. number == job) tables now 1 finishes
finishes_with finishes (Report now file attempt outcome) tables = finishes_seen (is_owner (row_at tables.rows file)) tables now 1 finishes
finishes_with finishes (Ban now storage cancel) tables = finishes_seen (is_job_in tables) tables now 1 finishes
finishes_with finishes (Expire now) tables = finishes_seen (is_job_in tables) tables now 1 finishes
finishes_with finishes _ tables = finishes

-- the finishes behind a step: a refusal changes nothing
abbrev pub finishes_after : List ℕ → Command → Outcomes → List ℕ
finishes_after finishes command (Ok done) = finishes_with finishes command done.0
finishes_after finishes command (Err refusal) = finishes

-- the finishes behind entries, one after the other, from some tables and finishes on
abbrev pub finishes_from : Tables → List ℕ → List Entry → List ℕ
finishes_from tables finishes [] = finishes
finishes_from tables finishes (entry ∷ entries) =
    finishes_from (tables_after tables (step tables entry.command)) (finishes_after finishes entry.command (step tables entry.command)) entries

-- the finishes of all jobs behind the entries, in order of number
abbrev pub finishes_of : List Entry → List ℕ
finishes_of entries = finishes_from empty_tables [] entries

-- the finish of the job of a number, and 0 where there is none
abbrev pub finish_at : List ℕ → ℕ → ℕ
finish_at finishes number = unwrap_or (slice_get finishes (number - 1)) 0
