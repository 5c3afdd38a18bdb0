-- A client's own id in a document, as a client reads it before it sends the document: without settings, and by a few of the rules.
use Rattle.std.specs.Prelude.{ℕ, List, Option, Some, None, Result, Ok, Err}
use Rattle.serde_json.specs.Data.{Data}
use Rattle.fts_tables.specs.FirstFault.{fault_if, first_fault}
use Rattle.fts_jobdoc.specs.Json.{value_of}
use Rattle.fts_jobdoc.specs.Fields.{has_bad_sid, sid_in}
use Rattle.fts_jobdoc.specs.Documents.{one_param_rules, of_value}
use Rattle.fts_jobdoc.specs.declared.fault.DocFault.{DocFault}
use Rattle.fts_jobdoc.specs.declared.fault.DocFault.TheVariants.{BadSid}

-- the rules that are looked at: the one on the id is 24
unfoldable pub sid_rules : Data → List (Option DocFault)
sid_rules document = one_param_rules document (fault_if (has_bad_sid document) BadSid)

-- the own id, where the job's id is made of it; where it isn't, the rule on ids is broken too
abbrev pub sid_found : Option (List ℕ) → Result (List ℕ) DocFault
sid_found (Some sid) = Ok sid
sid_found None = Err BadSid

-- a fault, or the own id that is found
abbrev pub sid_unless : Option DocFault → Option (List ℕ) → Result (List ℕ) DocFault
sid_unless None found = sid_found found
sid_unless (Some fault) found = Err fault

-- the own id in a JSON value, or the least rule that it breaks
unfoldable pub sid_given : Data → Result (List ℕ) DocFault
sid_given document = sid_unless (first_fault (sid_rules document)) (sid_in document)

-- the own id in a body, or the least rule that it breaks; a body without a JSON value breaks rule 1
unfoldable pub sid_of : List ℕ → Result (List ℕ) DocFault
sid_of body = of_value sid_given (value_of body)
