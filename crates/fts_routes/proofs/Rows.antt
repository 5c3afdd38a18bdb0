-- Replies over lists that are written out, by computing: no route, a bad limit, a priority, a cancellation, a client's id that comes twice, bans,
-- and looks at entries.
use Rattle.std.proofs.Common.{◌≡◌, refl, ℕ, true, false, Some, None, [], ◌∷◌, ◌++◌, List, Option}
use Rattle.std.specs.Prelude.{codes, replicate}
use Rattle.fts_tables.specs.JobData.{JobData}
use Rattle.fts_tables.specs.History.{tables_of}
use Rattle.fts_tables.specs.declared.rows.JobKind.TheVariants.{Plain}
use Rattle.fts_tables.specs.declared.rows.Strategy.TheVariants.{Auto}
use Rattle.fts_tables.specs.declared.rows.Outcome.TheVariants.{Verified}
use Rattle.fts_tables.specs.declared.commands.Entry.{Entry}
use Rattle.fts_tables.specs.declared.commands.Command.TheVariants.{Restart, Submit, CancelJob, SetPriority, Claim, Report, Ban}
use Rattle.fts_tables.specs.declared.rows.NewFile.{NewFile}
use Rattle.fts_wire.specs.RequestData.{RequestData}
use Rattle.fts_wire.specs.declared.response.Allow.TheVariants.{None as NoAllow, Get as AllowGet}
use Rattle.fts_jobdoc.specs.Faults.{rule_of, message_of}
use Rattle.fts_jobdoc.specs.Documents.{priority_of, priority_rules}
use Rattle.fts_jobdoc.specs.Fields.{has_wrong_params, lacks_priority, priority_in}
use Rattle.fts_jobdoc.specs.Json.{field, param}
use Rattle.fts_keep.specs.Keeps.{used_of}
use Rattle.fts_jobdoc.specs.declared.ban.BanAsk.{BanAsk}
use Rattle.fts_routes.specs.Replies.{said_to, said_over, submission, banning, unbanning}
use Rattle.fts_routes.proofs.Told.{at, new_file, new_job, settings_of, endpoint, weight, by, asks, replies}
use Rattle.fts_record.specs.Spelling.{spelled, command_bytes, number_bytes, text_bytes, settings_bytes, endpoint_bytes, link_bytes, weight_bytes, job_bytes, file_bytes, outcome_bytes}
use Rattle.uuid.specs.Text.{by_index}
use Rattle.hex.specs.Hex.{encode_with}
use Rattle.form_urlencoded.specs.Form.{split, raw_pairs}
use Rattle.std.specs.Str.Lossy.{utf8_lossy, utf8_valid_len}
use Rattle.std.specs.Str.{is_utf8, chars}
use Rattle.std.specs.Fmt.{digits}
use Rattle.std.specs.Float.Numeral.{scan_numeral}
use Rattle.json.specs.Print.{escape_byte}
use Rattle.json.specs.Json.{value}
use Rattle.json.specs.Lex.{punctuate, lex}
use Rattle.json.specs.Text.{content}
use Rattle.json.specs.Word.{word, after_number}
use Rattle.serde_json.specs.Read.{number_of}
use Rattle.percent_encoding.specs.Percent.{percent_decode}
use lib.Utf8.{encode}

-- two endpoints, a limit of 2 for their links, and 4 workers
abbrev restart : ℕ → Entry
restart limit = by 0 (Restart 1000 (settings_of (codes "demo") 4 limit (endpoint (codes "https://a.example") 20 20 ∷ endpoint (codes "https://b.example") 20 20 ∷ []) [] (weight (codes "default") 1 ∷ [])))

abbrev file : ℕ → List ℕ → List ℕ → NewFile
file index source dest = new_file index (at (codes "https://a.example") source) (at (codes "https://b.example") dest) 0 None (codes "default")

abbrev job : Option ℕ → List NewFile → JobData
job id files = new_job id Plain Auto 3 0 0 false files

abbrev restarted : List Entry
restarted = restart 2 ∷ []

-- a reply with this body and no entry, over a list, at a moment
abbrev get : List ℕ → Option (List ℕ) → RequestData
get path query = asks (codes "GET") path query []

no-route : said_over restarted 0 (get (codes "/nothing") None) 1000 ≡ replies 404 NoAllow (codes "{\"message\":\"no route\",\"rule\":30,\"status\":404}") []
unfolding spelled command_bytes number_bytes text_bytes settings_bytes endpoint_bytes link_bytes weight_bytes job_bytes file_bytes outcome_bytes by_index encode_with split raw_pairs utf8_lossy rule_of message_of escape_byte digits percent_decode utf8_valid_len is_utf8 chars encode priority_of priority_rules has_wrong_params lacks_priority priority_in field param value punctuate lex content word after_number number_of scan_numeral
no-route = refl

bad-limit : said_over restarted 0 (get (codes "/jobs") (Some (codes "limit=0"))) 1000 ≡ replies 400 NoAllow (codes "{\"message\":\"bad limit\",\"rule\":26,\"status\":400}") []
unfolding spelled command_bytes number_bytes text_bytes settings_bytes endpoint_bytes link_bytes weight_bytes job_bytes file_bytes outcome_bytes by_index encode_with split raw_pairs utf8_lossy rule_of message_of escape_byte digits percent_decode utf8_valid_len is_utf8 chars encode priority_of priority_rules has_wrong_params lacks_priority priority_in field param value punctuate lex content word after_number number_of scan_numeral
bad-limit = refl

-- ---- five files on a link with a limit of 2, of which two are finished and the next two are copied

abbrev five : List Entry
five = restart 2 ∷ by 0 (Submit 1000 (job None (file 0 (codes "s0") (codes "d0") ∷ file 1 (codes "s1") (codes "d1") ∷ file 2 (codes "s2") (codes "d2") ∷ file 3 (codes "s3") (codes "d3") ∷ file 4 (codes "s4") (codes "d4") ∷ [])))
    ∷ by 0 (Claim 1000 0) ∷ by 0 (Claim 1000 0) ∷ by 0 (Report 1000 1 1 (Verified 3 (replicate 16 7))) ∷ by 0 (Report 1000 2 1 (Verified 3 (replicate 16 7)))
    ∷ by 0 (Claim 1000 0) ∷ by 0 (Claim 1000 0) ∷ []

abbrev job-path : List ℕ
job-path = codes "/jobs/00000000-0000-4000-8000-000000000001"

priority-5 : said_over five 0 (asks (codes "POST") job-path None (codes "{\"params\":{\"priority\":5}}")) 1000
    ≡ replies 200 NoAllow (codes "{\"job_id\":\"00000000-0000-4000-8000-000000000001\",\"job_state\":\"ACTIVE\",\"kind\":\"plain\",\"priority\":5,\"retry\":0,\"retry_delay\":0,\"submit_time\":1000,\"vo_name\":\"demo\"}") (by 0 (SetPriority 1000 1 5) ∷ [])
unfolding spelled command_bytes number_bytes text_bytes settings_bytes endpoint_bytes link_bytes weight_bytes job_bytes file_bytes outcome_bytes by_index encode_with split raw_pairs utf8_lossy rule_of message_of escape_byte digits percent_decode utf8_valid_len is_utf8 chars encode priority_of priority_rules has_wrong_params lacks_priority priority_in field param value punctuate lex content word after_number number_of scan_numeral
priority-5 = refl

-- ---- a cancellation of three files, of which one is copied; the second one changes nothing

abbrev three : List Entry
three = restart 1 ∷ by 0 (Submit 1000 (job None (file 0 (codes "s0") (codes "d0") ∷ file 1 (codes "s1") (codes "d1") ∷ file 2 (codes "s2") (codes "d2") ∷ []))) ∷ by 0 (Claim 1000 0) ∷ []

abbrev job-body : List ℕ → List ℕ
job-body state = codes "{\"job_id\":\"00000000-0000-4000-8000-000000000001\",\"job_state\":\"" ++ state ++ codes "\",\"kind\":\"plain\",\"priority\":3,\"retry\":0,\"retry_delay\":0,\"submit_time\":1000,\"vo_name\":\"demo\"}"

cancels : said_over three 0 (asks (codes "DELETE") job-path None []) 1000 ≡ replies 200 NoAllow (job-body (codes "ACTIVE")) (by 0 (CancelJob 1000 1) ∷ [])
unfolding spelled command_bytes number_bytes text_bytes settings_bytes endpoint_bytes link_bytes weight_bytes job_bytes file_bytes outcome_bytes by_index encode_with split raw_pairs utf8_lossy rule_of message_of escape_byte digits percent_decode utf8_valid_len is_utf8 chars encode priority_of priority_rules has_wrong_params lacks_priority priority_in field param value punctuate lex content word after_number number_of scan_numeral
cancels = refl

-- ---- one id twice

abbrev mine : JobData
mine = job (Some 7) (file 0 (codes "s0") (codes "d0") ∷ [])

abbrev after-first : List Entry
after-first = restarted ++ by 0 (Submit 1000 mine) ∷ []

second-time : said_to (tables_of after-first) [] (used_of after-first) 0 (submission (tables_of after-first) 1000 mine)
    ≡ replies 409 NoAllow (codes "{\"job_id\":\"00000000-0000-0000-0000-000000000007\",\"message\":\"duplicate\",\"rule\":34,\"status\":409}") []
unfolding spelled command_bytes number_bytes text_bytes settings_bytes endpoint_bytes link_bytes weight_bytes job_bytes file_bytes outcome_bytes by_index encode_with split raw_pairs utf8_lossy rule_of message_of escape_byte digits percent_decode utf8_valid_len is_utf8 chars encode priority_of priority_rules has_wrong_params lacks_priority priority_in field param value punctuate lex content word after_number number_of scan_numeral
second-time = refl

-- ---- texts of refusals

-- ---- bans: of a storage at which a file waits, of one that the settings don't list, and the end of one that isn't

abbrev waiting : List Entry
waiting = restarted ++ by 0 (Submit 1000 (job None (file 0 (codes "s0") (codes "d0") ∷ []))) ∷ []

abbrev of-b : BanAsk
of-b = record { storage = codes "https://b.example"; cancel = true }

abbrev of-c : BanAsk
of-c = record { storage = codes "https://c.example"; cancel = true }

one-cancelled : said_to (tables_of waiting) [] (used_of waiting) 0 (banning (tables_of waiting) 1000 of-b)
    ≡ replies 200 NoAllow (codes "{\"cancelled\":1,\"storage\":\"https://b.example\"}") (by 0 (Ban 1000 (codes "https://b.example") true) ∷ [])
unfolding spelled command_bytes number_bytes text_bytes settings_bytes endpoint_bytes link_bytes weight_bytes job_bytes file_bytes outcome_bytes by_index encode_with split raw_pairs utf8_lossy rule_of message_of escape_byte digits percent_decode utf8_valid_len is_utf8 chars encode priority_of priority_rules has_wrong_params lacks_priority priority_in field param value punctuate lex content word after_number number_of scan_numeral
one-cancelled = refl

no-storage : said_to (tables_of waiting) [] (used_of waiting) 0 (banning (tables_of waiting) 1000 of-c)
    ≡ replies 404 NoAllow (codes "{\"message\":\"no storage\",\"rule\":39,\"status\":404}") []
unfolding spelled command_bytes number_bytes text_bytes settings_bytes endpoint_bytes link_bytes weight_bytes job_bytes file_bytes outcome_bytes by_index encode_with split raw_pairs utf8_lossy rule_of message_of escape_byte digits percent_decode utf8_valid_len is_utf8 chars encode priority_of priority_rules has_wrong_params lacks_priority priority_in field param value punctuate lex content word after_number number_of scan_numeral
no-storage = refl

not-banned : said_to (tables_of waiting) [] (used_of waiting) 0 (unbanning 1000 (codes "https://a.example"))
    ≡ replies 404 NoAllow (codes "{\"message\":\"not banned\",\"rule\":46,\"status\":404}") []
unfolding spelled command_bytes number_bytes text_bytes settings_bytes endpoint_bytes link_bytes weight_bytes job_bytes file_bytes outcome_bytes by_index encode_with split raw_pairs utf8_lossy rule_of message_of escape_byte digits percent_decode utf8_valid_len is_utf8 chars encode priority_of priority_rules has_wrong_params lacks_priority priority_in field param value punctuate lex content word after_number number_of scan_numeral
not-banned = refl

-- ---- looks at entries: of the only one, of one that isn't there, and by a text that is no number

abbrev priority : Entry
priority = by 3 (SetPriority 1000 1 5)

first-entry : said_over (priority ∷ []) 0 (get (codes "/journal/0") None) 1000
    ≡ replies 200 NoAllow (codes "{\"body\":\"0305e8070105\",\"count\":1,\"number\":0}") []
unfolding spelled command_bytes number_bytes text_bytes settings_bytes endpoint_bytes link_bytes weight_bytes job_bytes file_bytes outcome_bytes by_index encode_with split raw_pairs utf8_lossy rule_of message_of escape_byte digits percent_decode utf8_valid_len is_utf8 chars encode priority_of priority_rules has_wrong_params lacks_priority priority_in field param value punctuate lex content word after_number number_of scan_numeral
first-entry = refl

no-entry : said_over (priority ∷ []) 0 (get (codes "/journal/1") None) 1000 ≡ replies 404 NoAllow (codes "{\"message\":\"no entry\",\"rule\":47,\"status\":404}") []
unfolding spelled command_bytes number_bytes text_bytes settings_bytes endpoint_bytes link_bytes weight_bytes job_bytes file_bytes outcome_bytes by_index encode_with split raw_pairs utf8_lossy rule_of message_of escape_byte digits percent_decode utf8_valid_len is_utf8 chars encode priority_of priority_rules has_wrong_params lacks_priority priority_in field param value punctuate lex content word after_number number_of scan_numeral
no-entry = refl

no-number : said_over (priority ∷ []) 0 (get (codes "/journal/00000000000") None) 1000
    ≡ replies 404 NoAllow (codes "{\"message\":\"no entry\",\"rule\":47,\"status\":404}") []
unfolding spelled command_bytes number_bytes text_bytes settings_bytes endpoint_bytes link_bytes weight_bytes job_bytes file_bytes outcome_bytes by_index encode_with split raw_pairs utf8_lossy rule_of message_of escape_byte digits percent_decode utf8_valid_len is_utf8 chars encode priority_of priority_rules has_wrong_params lacks_priority priority_in field param value punctuate lex content word after_number number_of scan_numeral
no-number = refl

no-such-method : said_over (priority ∷ []) 0 (asks (codes "POST") (codes "/journal/x") None []) 1000
    ≡ replies 405 AllowGet (codes "{\"message\":\"no such method\",\"rule\":33,\"status\":405}") []
unfolding spelled command_bytes number_bytes text_bytes settings_bytes endpoint_bytes link_bytes weight_bytes job_bytes file_bytes outcome_bytes by_index encode_with split raw_pairs utf8_lossy rule_of message_of escape_byte digits percent_decode utf8_valid_len is_utf8 chars encode priority_of priority_rules has_wrong_params lacks_priority priority_in field param value punctuate lex content word after_number number_of scan_numeral
no-such-method = refl
