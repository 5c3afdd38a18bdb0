-- Submissions under an id among entries, the jobs that have an id, and the VO's name that the last restart gave.
use Rattle.std.specs.Prelude.{ℕ, ◌+◌, ◌==◌, Bool, true, false, ◌&&◌, nat_lt, nat_le, List, [], ◌∷◌, Option, Some, None}
use Rattle.std.specs.Option.{option_map_or}
use Rattle.fts_tables.specs.Moves.{standard_id}
use Rattle.fts_tables.specs.declared.limits.TheConstants.{MAX_JOBS}
use Rattle.fts_tables.specs.declared.rows.JobRow.{JobRow}
use Rattle.fts_tables.specs.declared.commands.Entry.{Entry}
use Rattle.fts_tables.specs.declared.commands.Command.{Command}
use Rattle.fts_tables.specs.declared.commands.Command.TheVariants.{Restart, Submit, CancelJob, CancelFile, SetPriority, Claim, Report, Ban, Unban, Expire}

-- 1 where a test holds, else 0
abbrev pub one_if : Bool → ℕ
one_if true = 1
one_if false = 0

-- whether an id was given, and is this one
abbrev pub is_given : ℕ → Option ℕ → Bool
is_given id given = option_map_or (λ other. other == id) given false

-- whether a command submits a job under this id
abbrev pub submits : ℕ → Command → Bool
submits id (Submit now job) = is_given id job.id
submits id _ = false

-- how many entries submit a job under this id; in a legal list each of them was accepted
abbrev pub submissions : ℕ → List Entry → ℕ
submissions id [] = 0
submissions id (entry ∷ entries) = one_if (submits id entry.command) + submissions id entries

-- how many jobs have this id
abbrev pub jobs_with : ℕ → List JobRow → ℕ
jobs_with id [] = 0
jobs_with id (job ∷ jobs) = one_if (job.id == id) + jobs_with id jobs

-- whether an id is one of those that the machine gives to jobs that come without one
abbrev pub is_standard_id : ℕ → Bool
is_standard_id id = nat_lt (standard_id 0) id && nat_le id (standard_id MAX_JOBS)

-- whether a command is a restart
abbrev pub is_restart : Command → Bool
is_restart (Restart now settings) = true
is_restart _ = false

-- the VO's name after a command: a restart gives it, and every other command leaves it
abbrev pub vo_after : Option (List ℕ) → Command → Option (List ℕ)
vo_after vo (Restart now settings) = Some settings.vo
vo_after vo _ = vo

-- the VO's name after entries, where this was it before
abbrev pub vo_from : Option (List ℕ) → List Entry → Option (List ℕ)
vo_from vo [] = vo
vo_from vo (entry ∷ entries) = vo_from (vo_after vo entry.command) entries

-- the VO's name that the last restart of a list gave
abbrev pub vo_of : List Entry → Option (List ℕ)
vo_of entries = vo_from None entries
