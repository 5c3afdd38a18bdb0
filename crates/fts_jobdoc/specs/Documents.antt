-- Which new job a document is, or the least rule that it breaks; and which priority another document asks for.
use Rattle.std.specs.Prelude.{ℕ, suc, Bool, ◌==◌, ◌&&◌, ◌||◌, nat_lt, if◌then◌else◌, List, [], ◌∷◌, ◌++◌, length, map, Option, Some, None, option_map, Result, Err, codes}
use Rattle.std.specs.List.{list_any, flat_map}
use Rattle.serde_json.specs.Data.{Data}
use Rattle.fts_tables.specs.FirstFault.{fault_if, first_fault, unless}
use Rattle.fts_tables.specs.JobData.{JobData}
use Rattle.fts_tables.specs.SettingsData.{SettingsData}
use Rattle.fts_tables.specs.declared.limits.TheConstants.{MAX_FILES}
use Rattle.fts_tables.specs.declared.places.Place.{Place}
use Rattle.fts_tables.specs.declared.rows.NewFile.{NewFile}
use Rattle.fts_tables.specs.declared.rows.JobKind.{JobKind}
use Rattle.fts_tables.specs.declared.rows.JobKind.TheVariants.{Plain, Replica, Multihop}
use Rattle.fts_jobdoc.specs.Json.{value_of, files_of}
use Rattle.fts_jobdoc.specs.Fields.{is_no_object, has_wrong_sources, has_wrong_destinations, has_bad_filesize, size_of, has_bad_checksum, has_other_algorithm, wanted_of, has_bad_strategy, strategy_of, has_bad_activity, activity_of, has_replicas, has_wrong_params, has_bad_retry, retry_of, has_bad_delay, delay_of, has_bad_priority, lacks_priority, priority_in, has_bad_verify, is_verified, is_set, unoffered_in, has_bad_sid, has_bad_queue_time, queue_hours_of, sid_in}
use Rattle.fts_jobdoc.specs.Ends.{ends_of, url_rule, has_unknown_endpoint, has_same_url, breaks_chain}
use Rattle.fts_jobdoc.specs.Ids.{sid_id}
use Rattle.fts_jobdoc.specs.declared.ends.FileEnds.{FileEnds}
use Rattle.fts_jobdoc.specs.declared.fault.DocFault.{DocFault}
use Rattle.fts_jobdoc.specs.declared.fault.DocFault.TheVariants.{NotJson, NotObject, NoFiles, TooManyFiles, FileNotObject, SourcesWrong, DestinationsWrong, UnknownEndpoint, SameUrl, BadFilesize, BadChecksum, OtherAlgorithm, BadStrategy, BadActivity, ParamsNotObject, BadRetry, BadDelay, BadPriority, BadVerify, NotOffered, ReplicaManyFiles, MultihopShape, BadSid, BadQueueTime}

-- ---- the rules in the order in which they are answered, each behind its number; rule 1 is that the body is JSON

-- the document's shape: an object with 1 to so many files, each an object with its sources and its destination
unfoldable pub shape_rules : Data → List Data → List (Option DocFault)
shape_rules document files =
    -- 2
    fault_if (is_no_object document) NotObject
    -- 3
    ∷ fault_if (length files == 0) NoFiles
    -- 4
    ∷ fault_if (nat_lt MAX_FILES (length files)) TooManyFiles
    -- 5
    ∷ fault_if (list_any is_no_object files) FileNotObject
    -- 6
    ∷ fault_if (list_any has_wrong_sources files) SourcesWrong
    -- 7
    ∷ fault_if (list_any has_wrong_destinations files) DestinationsWrong
    ∷ []

-- where the files come from and go to, once their URLs were read
unfoldable pub ends_rules : SettingsData → List FileEnds → List (Option DocFault)
ends_rules settings ends =
    -- 9
    fault_if (list_any (has_unknown_endpoint settings) ends) UnknownEndpoint
    -- 10
    ∷ fault_if (list_any has_same_url ends) SameUrl
    ∷ []

-- the other fields of the files; their checksums only where verification is asked for
unfoldable pub files_rules : Bool → List Data → List (Option DocFault)
files_rules verified files =
    -- 11
    fault_if (list_any has_bad_filesize files) BadFilesize
    -- 12
    ∷ fault_if (verified && list_any has_bad_checksum files) BadChecksum
    -- 13
    ∷ fault_if (verified && list_any has_other_algorithm files) OtherAlgorithm
    -- 14
    ∷ fault_if (list_any has_bad_strategy files) BadStrategy
    -- 15
    ∷ fault_if (list_any has_bad_activity files) BadActivity
    ∷ []

-- the job's parameters
unfoldable pub params_rules : Data → List (Option DocFault)
params_rules document =
    -- 16
    fault_if (has_wrong_params document) ParamsNotObject
    -- 17
    ∷ fault_if (has_bad_retry document) BadRetry
    -- 18
    ∷ fault_if (has_bad_delay document) BadDelay
    -- 19
    ∷ fault_if (has_bad_priority document) BadPriority
    -- 20
    ∷ fault_if (has_bad_verify document) BadVerify
    -- 21
    ∷ option_map NotOffered (unoffered_in document)
    ∷ []

-- some file has replicas, and there are several files
abbrev pub has_replicas_among : List Data → Bool
has_replicas_among files = list_any has_replicas files && nat_lt 1 (length files)

-- a multihop job whose files are no chain: one has replicas, or one doesn't go to where the next comes from
abbrev pub has_wrong_hops : Data → List Data → List FileEnds → Bool
has_wrong_hops document files ends = is_set (codes "multihop") document && (list_any has_replicas files || breaks_chain ends)

-- the job's kind, its id, and the time that its files may wait
unfoldable pub kind_rules : Data → List Data → List FileEnds → List (Option DocFault)
kind_rules document files ends =
    -- 22
    fault_if (has_replicas_among files) ReplicaManyFiles
    -- 23
    ∷ fault_if (has_wrong_hops document files ends) MultihopShape
    -- 24
    ∷ fault_if (has_bad_sid document) BadSid
    -- 29
    ∷ fault_if (has_bad_queue_time document) BadQueueTime
    ∷ []

-- the rules behind the one on URLs
unfoldable pub later_rules : Data → SettingsData → List Data → List FileEnds → List (Option DocFault)
later_rules document settings files ends =
    ends_rules settings ends
    ++ (files_rules (is_verified document) files
    ++ (params_rules document
    ++ kind_rules document files ends))

-- the rules that are asked of a document before the settings are: those on its shape, and that on its URLs
unfoldable pub early_rules : Data → List (Option DocFault)
early_rules document = shape_rules document (files_of document) ++ url_rule (files_of document) ∷ []

-- all rules from rule 2 on, of a document with these files; rule 8 is that on URLs
abbrev pub all_rules : Data → SettingsData → List Data → List (Option DocFault)
all_rules document settings files = shape_rules document files ++ url_rule files ∷ later_rules document settings files (map ends_of files)

-- all rules of a document from rule 2 on
unfoldable pub rules_of : Data → SettingsData → List (Option DocFault)
rules_of document settings = all_rules document settings (files_of document)

-- ---- the job

-- a file with the place of one of its sources and of its destination
unfoldable pub new_file : Bool → ℕ → Data → Place → Place → NewFile
new_file verified index file dest source = record {
  index = index;
  source = source;
  dest = dest;
  size = size_of file;
  wanted = wanted_of verified file;
  activity = activity_of file;
}

-- a file with this index: one for each of its sources
abbrev pub new_files : Bool → ℕ → Data → FileEnds → List NewFile
new_files verified index file ends = flat_map (λ dest. map (new_file verified index file dest) ends.sources) ends.dests

-- the files in order, with their indexes from this one on
abbrev pub files_from : Bool → ℕ → List Data → List NewFile
files_from verified index [] = []
files_from verified index (file ∷ files) = new_files verified index file (ends_of file) ++ files_from verified (suc index) files

-- multihop where it is on, else replica where a file has two sources or more, else plain
unfoldable pub kind_of : Data → JobKind
kind_of document = if is_set (codes "multihop") document then Multihop else if list_any has_replicas (files_of document) then Replica else Plain

-- the job of a document that breaks no rule
unfoldable pub new_job : Data → SettingsData → JobData
new_job document settings = record {
  id = option_map (sid_id settings.vo) (sid_in document);
  kind = kind_of document;
  strategy = strategy_of (files_of document);
  priority = priority_in document;
  retry = retry_of document;
  delay = delay_of document;
  overwrite = is_set (codes "overwrite") document;
  queue_hours = queue_hours_of document;
  files = files_from (is_verified document) 0 (files_of document);
}

-- the job of a JSON value, or the least rule that it breaks
unfoldable pub job_in : Data → SettingsData → Result JobData DocFault
job_in document settings = unless (first_fault (rules_of document settings)) (new_job document settings)

-- what is made of the JSON value of a body; a body that has none breaks rule 1
abbrev pub of_value : {T : Type 0} → (Data → Result T DocFault) → Option Data → Result T DocFault
of_value read (Some value) = read value
of_value read None = Err NotJson

-- the job of a body, or the least rule that it breaks
unfoldable pub job_of : List ℕ → SettingsData → Result JobData DocFault
job_of body settings = of_value (λ document. job_in document settings) (value_of body)

-- ---- a document that asks for another priority

-- the rules of a document of which one parameter is read, and the rule on that one
abbrev pub one_param_rules : Data → Option DocFault → List (Option DocFault)
one_param_rules document rule =
    -- 2
    fault_if (is_no_object document) NotObject
    -- 16
    ∷ fault_if (has_wrong_params document) ParamsNotObject
    ∷ rule
    ∷ []

-- the rules of such a document: its own is 19
unfoldable pub priority_rules : Data → List (Option DocFault)
priority_rules document = one_param_rules document (fault_if (lacks_priority document) BadPriority)

-- the priority of such a document, or the least rule that it breaks
abbrev pub priority_given : Data → Result ℕ DocFault
priority_given document = unless (first_fault (priority_rules document)) (priority_in document)

-- the priority that a body asks for, or the least rule that it breaks
unfoldable pub priority_of : List ℕ → Result ℕ DocFault
priority_of body = of_value priority_given (value_of body)
