-- What a command will leave of a job or of a file, by the rows before it. What it doesn't change is shown as it is. And which jobs a ban
-- cancels as a whole.
use Rattle.std.specs.Prelude.{ℕ, Bool, false, ◌&&◌, if◌then◌else◌, List}
use Rattle.std.specs.List.{list_any}
use Rattle.std.specs.Option.{option_map_or}
use Rattle.fts_tables.specs.Tables.{Tables, is_active, job_at, rows_of_job}
use Rattle.fts_tables.specs.Moves.{is_settled_job, cancelled}
use Rattle.fts_tables.specs.Waits.{goes_as_a_whole}
use Rattle.fts_tables.specs.declared.rows.FileRow.{FileRow}
use Rattle.fts_tables.specs.declared.rows.JobKind.{JobKind}
use Rattle.fts_tables.specs.declared.rows.JobKind.TheVariants.{Plain, Replica, Multihop}
use Rattle.fts_tables.specs.declared.rows.JobState.{JobState}
use Rattle.fts_tables.specs.declared.rows.JobState.TheVariants.{Active, Canceled}

-- the state of a job in this state once its cancellation was tried: a settled one stays, another waits for its copies, or is CANCELED
abbrev pub state_once_cancelled : JobState → List FileRow → JobState
state_once_cancelled state rows = if is_settled_job rows then state else (if list_any (λ row. is_active row.state) rows then Active else Canceled)

-- the priority of a job once another was tried: a settled job keeps its own
abbrev pub priority_once_set : ℕ → ℕ → List FileRow → ℕ
priority_once_set old new rows = if is_settled_job rows then old else new

-- a file once its cancellation was tried: of a plain job its row alone, of others all rows, unless the job is settled
abbrev pub file_once_cancelled : JobKind → List FileRow → FileRow → FileRow
file_once_cancelled Plain rows row = cancelled row
file_once_cancelled Replica rows row = if is_settled_job rows then row else cancelled row
file_once_cancelled Multihop rows row = if is_settled_job rows then row else cancelled row

-- whether the files of a job are cancelled all together where those that pass a test are: it goes as a whole, and one of them passes
abbrev pub goes_whole : Tables → (FileRow → Bool) → ℕ → Bool
goes_whole tables test number =
    option_map_or (λ job. goes_as_a_whole job.kind) (job_at tables.jobs number) false && list_any test (rows_of_job tables.rows number)
