-- What a `Document` is of its body: as far as no settings are asked for.
use Rattle.std.specs.Prelude.{◌≡◌, ◌⊎◌, ℕ, List, Option, Some, None, Result, Ok, Err, map}
use Rattle.serde_json.specs.Data.{Data}
use Rattle.serde_json.specs.View.{view}
use Rattle.fts_tables.specs.FirstFault.{first_fault}
use Rattle.fts_jobdoc.specs.Json.{value_of, files_of}
use Rattle.fts_jobdoc.specs.Ends.{ends_of}
use Rattle.fts_jobdoc.specs.Documents.{early_rules}
use Rattle.fts_jobdoc.specs.declared.document.Document.{Document}
use Rattle.fts_jobdoc.specs.declared.fault.DocFault.{DocFault}
use Rattle.fts_jobdoc.specs.declared.fault.DocFault.TheVariants.{NotJson, Memory}

-- no rule on its shape and its URLs is broken, and its files' ends are those of their URLs
pub record IsDocument (document : Document) : Type 0 where
  pub early : first_fault (early_rules (view document.value)) ≡ None
  pub ends : document.ends ≡ map ends_of (files_of (view document.value))

-- what a JSON value is checked as: the document of it, or the least of these rules that it breaks, unless memory ran out
abbrev pub IsCheckedAs : Data → Result Document DocFault → Type 0
IsCheckedAs value (Ok document) = (view document.value ≡ value) × IsDocument document
IsCheckedAs value (Err fault) = (first_fault (early_rules value) ≡ Some fault) ⊎ (fault ≡ Memory)

-- what a JSON value, where there is one, is read as; without one rule 1 is broken
abbrev pub IsReadFrom : Option Data → Result Document DocFault → Type 0
IsReadFrom (Some value) read = IsCheckedAs value read
IsReadFrom None read = (read ≡ Err NotJson) ⊎ (read ≡ Err Memory)

-- what a body is read as
abbrev pub IsReadAs : List ℕ → Result Document DocFault → Type 0
IsReadAs body read = IsReadFrom (value_of body) read
