-- The text of tables, as `show` writes it: for each job in order of number one line, and behind it one for each of its rows in order of id.
use Rattle.std.specs.Prelude.{ℕ, List, [], ◌∷◌, ◌++◌, codes, decimal}
use Rattle.std.specs.List.{flat_map}
use Rattle.fts_tables.specs.Tables.{Tables, rows_of_job}
use Rattle.fts_tables.specs.declared.rows.FileRow.{FileRow}
use Rattle.fts_tables.specs.declared.rows.JobKind.{JobKind}
use Rattle.fts_tables.specs.declared.rows.JobRow.{JobRow}
use Rattle.fts_tables.specs.declared.rows.JobState.{JobState}
use Rattle.fts_tables.specs.declared.places.Place.{Place}
use Rattle.fts_routes.specs.Json.{id_text}
use Rattle.fts_routes.specs.Objects.{job_state_text, file_state_text, kind_text, state_in, surl_text}

-- words with single spaces between them, and a line feed behind the last
abbrev pub line_of : List (List ℕ) → List ℕ
line_of [] = codes "\n"
line_of (word ∷ []) = word ++ codes "\n"
line_of (word ∷ next ∷ words) = word ++ (codes " " ++ line_of (next ∷ words))

-- the words of a job's line
abbrev pub words_of_job : List ℕ → JobState → JobKind → ℕ → List ℕ
words_of_job id state kind priority = line_of (codes "job" ∷ id ∷ job_state_text state ∷ kind_text kind ∷ decimal priority ∷ [])

-- the line of a job in a state: its id, its state, its kind and its priority
abbrev pub line_of_job : JobRow → JobState → List ℕ
line_of_job job state = words_of_job (id_text job.id) state job.kind job.priority

-- the line of a file by the words of its id, its index and its state, and where it comes from and goes to
abbrev pub file_words : List ℕ → List ℕ → List ℕ → Place → Place → List ℕ
file_words id index state source dest = line_of (codes "file" ∷ id ∷ index ∷ state ∷ surl_text source ∷ surl_text dest ∷ [])

-- the line of a file
abbrev pub file_line : FileRow → List ℕ
file_line row = file_words (decimal row.id) (decimal row.index) (file_state_text row.state) row.source row.dest

-- the lines of a job, whose state is that by its rows, and of its files
abbrev pub lines_of : Tables → JobRow → List ℕ
lines_of tables job = line_of_job job (state_in tables job) ++ flat_map file_line (rows_of_job tables.rows job.number)

-- the text of tables
abbrev pub shown_text : Tables → List ℕ
shown_text tables = flat_map (lines_of tables) tables.jobs
