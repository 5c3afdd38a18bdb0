-- The copies that reports stand for, and how a store's files, its calls and its count of faults follow from them.
use Rattle.std.specs.Prelude.{◌≡◌, ℕ, ◌≤◌, Bool, false, if◌then◌else◌, List, [], ◌∷◌, ◌++◌, Option, None, option_and_then, option_map, option_to_list}
use Rattle.std.specs.Option.{option_map_or}
use Rattle.fts_tables.specs.Counts.{Rose}
use Rattle.fts_tables.specs.Tables.{Tables, row_at, job_at}
use Rattle.fts_tables.specs.Step.{step}
use Rattle.fts_tables.specs.History.{tables_after}
use Rattle.fts_tables.specs.declared.commands.Entry.{Entry}
use Rattle.fts_tables.specs.declared.commands.Command.{Command}
use Rattle.fts_tables.specs.declared.commands.Command.TheVariants.{Restart, Submit, CancelJob, CancelFile, SetPriority, Claim, Report, Ban, Unban, Expire}
use Rattle.fts_tables.specs.declared.rows.FileRow.{FileRow}
use Rattle.fts_tables.specs.declared.rows.Outcome.{Outcome}
use Rattle.fts_tables.specs.declared.rows.Outcome.TheVariants.{StoreFailed}
use Rattle.fts_store.specs.Calls.{Call}
use Rattle.fts_store.specs.Store.{StoreState, IsTold, Stays}
use Rattle.fts_copy.specs.Copy.{Order, StaysInside, order_of, IsCopy, KeepsDest}
use Rattle.fts_copy.specs.Script.{Log, Plays, copy_of, log_of}
use Rattle.fts_copy.specs.Tidying.{IsTidied}
use Rattle.fts_workers.specs.declared.held.Held.{Held}

-- a copy: what was asked for, and how it ended
pub record Copy : Type 0 where
  pub order : Order
  pub outcome : Outcome

-- whether what is at a row's destination may be replaced
abbrev pub overwrites : Tables → FileRow → Bool
overwrites tables row = option_map_or (λ job. job.overwrite) (job_at tables.jobs row.job) false

-- what the copy of a row is asked for
abbrev pub order_in : Tables → FileRow → Order
order_in tables row = order_of row (overwrites tables row)

-- the id of the job of a file, by its row
abbrev pub job_id_of : Tables → ℕ → Option ℕ
job_id_of tables file = option_and_then (λ row. option_map (λ job. job.id) (job_at tables.jobs row.job)) (row_at tables.rows file)

-- the copy of a file that ended so, as its row asks for it
abbrev pub copies_of_file : Tables → ℕ → Outcome → List Copy
copies_of_file tables file outcome = option_to_list (option_map (λ row. record { order = order_in tables row; outcome = outcome }) (row_at tables.rows file))

-- the copy that a command reports, where it is a report
abbrev pub copies_in : Tables → Command → List Copy
copies_in tables (Report now file attempt outcome) = copies_of_file tables file outcome
copies_in tables _ = []

-- the copies that these writers' reports among the entries stand for, in order, from some tables on
abbrev pub copies_from : (ℕ → Bool) → Tables → List Entry → List Copy
copies_from by tables [] = []
copies_from by tables (entry ∷ entries) =
    (if by entry.writer then copies_in tables entry.command else []) ++ copies_from by (tables_after tables (step tables entry.command)) entries

-- the copies that are made and not reported
abbrev pub copies_kept : Tables → List Held → List Copy
copies_kept tables [] = []
copies_kept tables (held ∷ others) = option_map_or (copies_of_file tables held.file) held.outcome [] ++ copies_kept tables others

-- A copy by itself leads from a store's state, its calls and what a watch tells, and its count of faults to these. Over every store its calls are those
-- of the copy's script, and a failure was counted; over one that tells its files what it leaves of them is known.
pub record IsMade (old new : StoreState) (log told : Log) (faults later : ℕ) (copy : Copy) : Type 0 where
  pub stays : Stays old new
  pub script : Plays (copy_of copy.order) log told copy.outcome
  pub ends : IsTold old → IsCopy copy.order old new copy.outcome
  pub destination : IsTold old → KeepsDest copy.order old.files new.files copy.outcome
  pub counts : faults ≤ later
  pub cause : copy.outcome ≡ StoreFailed → Rose faults later

-- A copy was made, and led somewhere between; from there its part was removed, where it ended otherwise than verified. The watch is asked no more then.
pub record IsMadeAndTidied (old new : StoreState) (log told : Log) (faults later : ℕ) (copy : Copy) : Type 0 where
  pub between : StoreState
  pub called : Option (List Call)
  pub met : ℕ
  pub made : IsMade old between log (log_of called told.answers) faults met copy
  pub tidied : IsTidied copy.order copy.outcome between new called told.calls met later

-- One copy leads from a store's state, its calls and its count of faults to these: it was made and its part tidied behind it. Over every store its
-- paths stay inside their endpoints, the count never falls, and a failure that ended it was counted.
pub record IsCopied (old new : StoreState) (calls called : Option (List Call)) (faults later : ℕ) (copy : Copy) : Type 0 where
  pub inside : StaysInside copy.order
  pub stays : Stays old new
  pub done : IsMadeAndTidied old new (log_of calls None) (log_of called None) faults later copy
  pub counts : faults ≤ later
  pub cause : copy.outcome ≡ StoreFailed → Rose faults later

module _ {E : Type 0} (state : E → StoreState) (calls : E → Option (List Call)) (faults : E → ℕ) where
  -- these copies, one after the other, lead from one state of a store to another
  abbrev pub AreCopied : E → List Copy → E → Type 0
  AreCopied store [] after = after ≡ store
  AreCopied store (copy ∷ copies) after =
      (next : E) × (IsCopied (state store) (state next) (calls store) (calls next) (faults store) (faults next) copy × AreCopied next copies after)

  -- a store follows from reports: what was kept before, and the copies made, are those reported and those kept now
  pub record FollowsReports (kept reported kept_now : List Copy) (old new : E) : Type 0 where
    pub made : List Copy
    pub balance : kept ++ made ≡ reported ++ kept_now
    pub copied : AreCopied old made new
