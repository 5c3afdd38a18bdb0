-- Which command lines are accepted: STAND, and behind it `--port PORT` or `--port=PORT`; PORT is a number from 1 to 65,535 in 1 to 20 decimal digits.
use Rattle.std.specs.Prelude.{ℕ, if◌then◌else◌, List, [], ◌∷◌, codes, bytes_eq, Option, Some, None, option_and_then}
use Rattle.std.specs.List.{before_first, after_first}
use Rattle.fts_tables.specs.SettingsData.{is_within}
use Rattle.fts_words.specs.Words.{is_equals, has_value, number_of}
use Rattle.fts_watch.specs.declared.fault.MonitorFault.{MonitorFault}
use Rattle.fts_watch.specs.declared.fault.MonitorFault.TheVariants.{DiskFailed, Damaged, Changed, Memory}

-- a number that a port may have
abbrev pub port_by : ℕ → Option ℕ
port_by number = if is_within 1 65535 number then Some number else None

-- the port of an option, by its name and its value
abbrev pub port_named : List ℕ → List ℕ → Option ℕ
port_named name value = if bytes_eq name (codes "--port") then option_and_then port_by (number_of value) else None

-- the port that the words behind the stand name
abbrev pub port_in : List (List ℕ) → Option ℕ
port_in [] = None
port_in (word ∷ []) = if has_value word then port_named (before_first is_equals word) (after_first is_equals word) else None
port_in (name ∷ value ∷ []) = port_named name value
port_in (name ∷ value ∷ other ∷ words) = None

-- the status where a journal can't be shown: it can't be read, it is none, or there is no memory
abbrev pub status_of : MonitorFault → ℕ
status_of DiskFailed = 4
status_of Changed = 4
status_of (Damaged offset) = 7
status_of Memory = 1
