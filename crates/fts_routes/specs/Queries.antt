-- Queries: which states and how many jobs are looked at, and which storage's ban is to end. Of pairs with one name the first counts; other names
-- are passed over.
use Rattle.std.specs.Prelude.{ℕ, ◌==◌, ◌&&◌, Bool, if◌then◌else◌, List, [], ◌∷◌, length, take, filter, find, Option, Some, None, option_map, option_and_then, unwrap_or, bytes_eq, codes, Result, Ok, Err}
use Rattle.std.specs.List.{list_all, list_any, slice_split}
use Rattle.std.specs.Str.Lossy.{utf8_lossy}
use Rattle.std.specs.Str.Parse.{digits_value}
use Rattle.form_urlencoded.specs.Form.{raw_pairs, decode}
use Rattle.fts_tables.specs.Names.{is_digit}
use Rattle.fts_tables.specs.SettingsData.{is_within}
use Rattle.fts_tables.specs.Tables.{Tables}
use Rattle.fts_tables.specs.declared.rows.JobRow.{JobRow}
use Rattle.fts_jobdoc.specs.Bans.{storage_named}
use Rattle.fts_routes.specs.Objects.{job_state_text, state_in}

-- the number that 1 to so many decimal digits spell
abbrev pub number_in : ℕ → List ℕ → Option ℕ
number_in most text = if is_within 1 most (length text) && list_all is_digit text then Some (digits_value 10 text) else None

-- the text that the bytes of a name or a value stand for
abbrev pub text_of : List ℕ → List ℕ
text_of bytes = utf8_lossy (decode bytes)

-- the value of the first of these pairs with this name
abbrev pub first_named : List ℕ → List (List ℕ × List ℕ) → Option (List ℕ)
first_named name pairs = option_map (λ pair. text_of pair.1) (find (λ pair. bytes_eq (text_of pair.0) name) pairs)

-- the value of the first pair with this name
abbrev pub value_of : List ℕ → List ℕ → Option (List ℕ)
value_of name query = first_named name (raw_pairs query)

-- the words of the states that a job may have
abbrev pub job_states : List (List ℕ)
job_states = codes "SUBMITTED" ∷ codes "ACTIVE" ∷ codes "FINISHED" ∷ codes "FINISHEDDIRTY" ∷ codes "FAILED" ∷ codes "CANCELED" ∷ []

-- whether a text stands among texts
abbrev pub is_one_of : List (List ℕ) → List ℕ → Bool
is_one_of texts text = list_any (bytes_eq text) texts

-- why a query isn't read
pub data QueryFault : Type 0 where
  BadStates : QueryFault
  BadLimit : QueryFault

-- the texts between commas
abbrev pub between_commas : List ℕ → List (List ℕ)
between_commas text = slice_split (λ byte. byte == 44) text

-- the states that count: those between the commas, all of them states of jobs; all, where none is asked for
abbrev pub states_in : Option (List ℕ) → Result (List (List ℕ)) QueryFault
states_in None = Ok job_states
states_in (Some text) = if list_all (is_one_of job_states) (between_commas text) then Ok (between_commas text) else Err BadStates

-- a number of jobs that may be asked for
abbrev pub limit_by : Option ℕ → Result ℕ QueryFault
limit_by None = Err BadLimit
limit_by (Some limit) = if is_within 1 1000 limit then Ok limit else Err BadLimit

-- how many jobs: 1 to 1,000, in 1 to 4 decimal digits; 100 where nothing is asked for
abbrev pub limit_in : Option (List ℕ) → Result ℕ QueryFault
limit_in None = Ok 100
limit_in (Some text) = limit_by (number_in 4 text)

-- what is asked for, by the states and then the number
abbrev pub both : Result (List (List ℕ)) QueryFault → Result ℕ QueryFault → Result (List (List ℕ) × ℕ) QueryFault
both (Err fault) limit = Err fault
both (Ok states) (Err fault) = Err fault
both (Ok states) (Ok limit) = Ok (states, limit)

-- what a query asks for; its states are looked at first
abbrev pub asked_in : Option (List ℕ) → Result (List (List ℕ) × ℕ) QueryFault
asked_in query = both (states_in (value_of (codes "state_in") (unwrap_or query []))) (limit_in (value_of (codes "limit") (unwrap_or query [])))

-- the storage that a query names, where it names one: the URL of an endpoint
abbrev pub storage_asked : Option (List ℕ) → Option (List ℕ)
storage_asked query = option_and_then storage_named (value_of (codes "storage") (unwrap_or query []))

-- the first so many jobs that are in one of these states
abbrev pub jobs_asked : Tables → List (List ℕ) → ℕ → List JobRow
jobs_asked tables states limit = take limit (filter (λ job. is_one_of states (job_state_text (state_in tables job))) tables.jobs)
