-- Which ban of a storage a document asks for, or the least rule that it breaks. The numbers and messages of its rules.
use Rattle.std.specs.Prelude.{ℕ, Bool, false, not, ◌||◌, List, [], ◌∷◌, Option, Some, None, option_and_then, unwrap_or, is_none, Result, Err, codes}
use Rattle.std.specs.Option.{option_map_or}
use Rattle.std.specs.Result.{result_ok}
use Rattle.serde_json.specs.Data.{Data}
use Rattle.serde_json.specs.Find.{as_str}
use Rattle.fts_tables.specs.FirstFault.{fault_if, first_fault, unless}
use Rattle.fts_joburl.specs.Urls.{endpoint_of}
use Rattle.fts_jobdoc.specs.Json.{value_of, is_object, field, is_this_text, fails}
use Rattle.fts_jobdoc.specs.declared.ban.BanAsk.{BanAsk}
use Rattle.fts_jobdoc.specs.declared.ban.BanFault.{BanFault}
use Rattle.fts_jobdoc.specs.declared.ban.BanFault.TheVariants.{NotJson, NotObject, BadStorage, BadStatus, Memory}

-- ---- what is asked for

-- the storage that a text names, where it is the URL of an endpoint
unfoldable pub storage_named : List ℕ → Option (List ℕ)
storage_named text = result_ok (endpoint_of text)

-- the storage that a document names
unfoldable pub storage_in : Data → Option (List ℕ)
storage_in document = option_and_then storage_named (option_and_then as_str (field (codes "storage") document))

-- what becomes of the files that wait at the storage: they wait on, or are cancelled
abbrev pub is_status : Data → Bool
is_status value = is_this_text (codes "wait") value || is_this_text (codes "cancel") value

-- `status` is there and says neither
unfoldable pub has_bad_status : Data → Bool
has_bad_status document = fails is_status (field (codes "status") document)

-- whether the files that wait at the storage are cancelled: also where nothing is said of them
unfoldable pub cancels : Data → Bool
cancels document = not (option_map_or (is_this_text (codes "wait")) (field (codes "status") document) false)

-- ---- the rules in the order in which they are answered, each behind its number; rule 1 is that the body is JSON

-- the rules of a ban's document
unfoldable pub ban_rules : Data → List (Option BanFault)
ban_rules document =
    -- 2
    fault_if (not (is_object document)) NotObject
    -- 27
    ∷ fault_if (is_none (storage_in document)) BadStorage
    -- 28
    ∷ fault_if (has_bad_status document) BadStatus
    ∷ []

-- the ban of a document that breaks no rule, and so names a storage
abbrev pub ban_asked : Data → BanAsk
ban_asked document = record { storage = unwrap_or (storage_in document) []; cancel = cancels document }

-- the ban of a document, or the least rule that it breaks
unfoldable pub ban_in : Data → Result BanAsk BanFault
ban_in document = unless (first_fault (ban_rules document)) (ban_asked document)

-- the ban of a JSON value; a body that has none breaks rule 1
abbrev pub ban_by : Option Data → Result BanAsk BanFault
ban_by (Some document) = ban_in document
ban_by None = Err NotJson

-- the ban that a body asks for, or the least rule that it breaks
unfoldable pub ban_of : List ℕ → Result BanAsk BanFault
ban_of body = ban_by (value_of body)

-- ---- the table of its faults

-- the number of the rule; want of memory is none, and has 0
unfoldable pub ban_rule_of : BanFault → ℕ
ban_rule_of NotJson = 1
ban_rule_of NotObject = 2
ban_rule_of BadStorage = 27
ban_rule_of BadStatus = 28
ban_rule_of Memory = 0

-- the message of the rule; want of memory has none
unfoldable pub ban_message_of : BanFault → List ℕ
ban_message_of NotJson = codes "not JSON"
ban_message_of NotObject = codes "not an object"
ban_message_of BadStorage = codes "bad storage"
ban_message_of BadStatus = codes "bad status"
ban_message_of Memory = codes ""
