-- What each field of a document must be, one test a rule, and what it stands for where it is as it must be. Null counts as absent.
use Rattle.std.specs.Prelude.{ℕ, Bool, true, false, not, ◌==◌, ◌&&◌, ◌||◌, nat_le, nat_lt, if◌then◌else◌, List, [], ◌∷◌, length, Option, Some, None, option_and_then, is_some, codes}
use Rattle.std.specs.Option.{option_map_or}
use Rattle.serde_json.specs.Data.{Data}
use Rattle.serde_json.specs.Find.{as_str, as_bool}
use Rattle.fts_tables.specs.FirstFault.{fault_if, first_fault}
use Rattle.fts_tables.specs.SettingsData.{is_label, default_activity}
use Rattle.fts_tables.specs.declared.limits.TheConstants.{MIN_PRIORITY, MAX_PRIORITY, MAX_RETRY, MAX_DELAY, MAX_QUEUE_HOURS, MAX_SOURCES, MAX_SIZE, MAX_LABEL_BYTES}
use Rattle.fts_tables.specs.declared.rows.Strategy.{Strategy}
use Rattle.fts_tables.specs.declared.rows.Strategy.TheVariants.{Auto, Orderly}
use Rattle.fts_jobdoc.specs.Json.{is_object, field, param, list_under, has_texts, is_this_text, is_on, is_natural_within, is_from_minus_one, fails, natural_or}
use Rattle.fts_jobdoc.specs.Checksums.{checksum_of}
use Rattle.fts_jobdoc.specs.declared.checksum.Checksum.{Checksum}
use Rattle.fts_jobdoc.specs.declared.checksum.Checksum.TheVariants.{NotGiven, Malformed, Other, Md5}
use Rattle.fts_jobdoc.specs.declared.fault.Unoffered.{Unoffered}
use Rattle.fts_jobdoc.specs.declared.fault.Unoffered.TheVariants.{Reuse, BringOnline, CopyPinLifetime, ArchiveTimeout}

-- ---- each file

-- a value is no object
abbrev pub is_no_object : Data → Bool
is_no_object value = not (is_object value)

-- `sources` is not a list of 1 to 16 texts
unfoldable pub has_wrong_sources : Data → Bool
has_wrong_sources file = not (has_texts 1 MAX_SOURCES (codes "sources") file)

-- `destinations` is not a list of one text
unfoldable pub has_wrong_destinations : Data → Bool
has_wrong_destinations file = not (has_texts 1 1 (codes "destinations") file)

-- `filesize` is there and no whole number that a file's size can be
unfoldable pub has_bad_filesize : Data → Bool
has_bad_filesize file = fails (is_natural_within 0 MAX_SIZE) (field (codes "filesize") file)

-- the size that a file is to have; 0 where any will do
unfoldable pub size_of : Data → ℕ
size_of file = natural_or 0 (field (codes "filesize") file)

-- a checksum that is none
abbrev pub is_malformed : Checksum → Bool
is_malformed Malformed = true
is_malformed _ = false

-- a checksum of another algorithm
abbrev pub is_other : Checksum → Bool
is_other Other = true
is_other _ = false

-- the digest that a checksum asks for
abbrev pub digest_in : Checksum → Option (List ℕ)
digest_in (Md5 digest) = Some digest
digest_in _ = None

-- `checksum` is there and not an empty text, and it is none
unfoldable pub has_bad_checksum : Data → Bool
has_bad_checksum file = is_malformed (checksum_of file)

-- `checksum` is one of another algorithm than MD5
unfoldable pub has_other_algorithm : Data → Bool
has_other_algorithm file = is_other (checksum_of file)

-- the digest that a file is to have: where verification is asked for, that of its checksum
unfoldable pub wanted_of : Bool → Data → Option (List ℕ)
wanted_of verified file = if verified then digest_in (checksum_of file) else None

-- a strategy's name
abbrev pub is_strategy : Data → Bool
is_strategy value = is_this_text (codes "auto") value || is_this_text (codes "orderly") value

-- `selection_strategy` is there and no strategy
unfoldable pub has_bad_strategy : Data → Bool
has_bad_strategy file = fails is_strategy (field (codes "selection_strategy") file)

-- a file's strategy; `auto` where there is none
unfoldable pub file_strategy : Data → Strategy
file_strategy file = if option_map_or (is_this_text (codes "orderly")) (field (codes "selection_strategy") file) false then Orderly else Auto

-- the strategy of a job is that of its first file
unfoldable pub strategy_of : List Data → Strategy
strategy_of [] = Auto
strategy_of (file ∷ files) = file_strategy file

-- an activity's name, which may be empty
abbrev pub is_activity : Data → Bool
is_activity value = option_map_or (λ text. nat_le (length text) MAX_LABEL_BYTES) (as_str value) false

-- `activity` is there and no name of one
unfoldable pub has_bad_activity : Data → Bool
has_bad_activity file = fails is_activity (field (codes "activity") file)

-- the activity that a text names; an empty one names the default
abbrev pub activity_named : Option (List ℕ) → List ℕ
activity_named None = default_activity
activity_named (Some text) = if length text == 0 then default_activity else text

-- a file's activity
unfoldable pub activity_of : Data → List ℕ
activity_of file = activity_named (option_and_then as_str (field (codes "activity") file))

-- two sources or more
unfoldable pub has_replicas : Data → Bool
has_replicas file = nat_lt 1 (length (list_under (codes "sources") file))

-- ---- the job's parameters

-- `params` is there and no object
unfoldable pub has_wrong_params : Data → Bool
has_wrong_params document = fails is_object (field (codes "params") document)

-- `retry` is there and no whole number from -1 to the greatest
unfoldable pub has_bad_retry : Data → Bool
has_bad_retry document = fails (is_from_minus_one MAX_RETRY) (param (codes "retry") document)

-- the retries of each file; -1 means none
unfoldable pub retry_of : Data → ℕ
retry_of document = natural_or 0 (param (codes "retry") document)

-- `retry_delay` is there and no whole number of its range
unfoldable pub has_bad_delay : Data → Bool
has_bad_delay document = fails (is_natural_within 0 MAX_DELAY) (param (codes "retry_delay") document)

-- the seconds between a failure and the retry
unfoldable pub delay_of : Data → ℕ
delay_of document = natural_or 0 (param (codes "retry_delay") document)

-- `priority` is there and no whole number of its range
unfoldable pub has_bad_priority : Data → Bool
has_bad_priority document = fails (is_natural_within MIN_PRIORITY MAX_PRIORITY) (param (codes "priority") document)

-- `priority` is no whole number of its range, or isn't there
unfoldable pub lacks_priority : Data → Bool
lacks_priority document = not (option_map_or (is_natural_within MIN_PRIORITY MAX_PRIORITY) (param (codes "priority") document) false)

-- the priority of a job
unfoldable pub priority_in : Data → ℕ
priority_in document = natural_or 3 (param (codes "priority") document)

-- a text that asks for verification: of the source, of the target, or of both
abbrev pub asks_for_verification : Data → Bool
asks_for_verification value = is_this_text (codes "source") value || is_this_text (codes "target") value || is_this_text (codes "both") value

-- what may say whether to verify
abbrev pub is_verify : Data → Bool
is_verify value = is_some (as_bool value) || asks_for_verification value || is_this_text (codes "none") value || is_this_text [] value

-- `verify_checksum` is there and says nothing of verification
unfoldable pub has_bad_verify : Data → Bool
has_bad_verify document = fails is_verify (param (codes "verify_checksum") document)

-- whether verification is asked for
unfoldable pub is_verified : Data → Bool
is_verified document = is_on (param (codes "verify_checksum") document) || option_map_or asks_for_verification (param (codes "verify_checksum") document) false

-- whether a whole number greater than 0 stands under a key of `params`
unfoldable pub asks_for : List ℕ → Data → Bool
asks_for key document = nat_lt 0 (natural_or 0 (param key document))

-- whether a key of `params` is on
unfoldable pub is_set : List ℕ → Data → Bool
is_set key document = is_on (param key document)

-- the first field of a document that asks for what isn't offered
unfoldable pub unoffered_in : Data → Option Unoffered
unoffered_in document =
    first_fault
    (fault_if (is_set (codes "reuse") document) Reuse
    ∷ fault_if (asks_for (codes "bring_online") document) BringOnline
    ∷ fault_if (asks_for (codes "copy_pin_lifetime") document) CopyPinLifetime
    ∷ fault_if (asks_for (codes "archive_timeout") document) ArchiveTimeout
    ∷ [])

-- how ids are made
abbrev pub is_generator : Data → Bool
is_generator value = is_this_text (codes "standard") value || is_this_text (codes "deterministic") value

-- whether the id is made of the `sid`
unfoldable pub is_deterministic : Data → Bool
is_deterministic document = option_map_or (is_this_text (codes "deterministic")) (param (codes "id_generator") document) false

-- a client's own id
abbrev pub is_sid : Data → Bool
is_sid value = option_map_or is_label (as_str value) false

-- `id_generator` is there and none, or it asks for a `sid` and there is none
unfoldable pub has_bad_sid : Data → Bool
has_bad_sid document =
    fails is_generator (param (codes "id_generator") document)
    || (is_deterministic document && not (option_map_or is_sid (param (codes "sid") document) false))

-- `max_time_in_queue` is there and no whole number from -1 to the greatest
unfoldable pub has_bad_queue_time : Data → Bool
has_bad_queue_time document = fails (is_from_minus_one MAX_QUEUE_HOURS) (param (codes "max_time_in_queue") document)

-- the hours that a file may wait; 0 is no limit, and so is -1
unfoldable pub queue_hours_of : Data → ℕ
queue_hours_of document = natural_or 0 (param (codes "max_time_in_queue") document)

-- the client's own id, where the job's id is made of it
unfoldable pub sid_in : Data → Option (List ℕ)
sid_in document = if is_deterministic document then option_and_then as_str (param (codes "sid") document) else None
