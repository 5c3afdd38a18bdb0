-- The document that asks for deletions: an object whose `delete` is a list of 1 to 200 URLs of files on endpoints of the settings.
-- JSON (RFC 8259) is what `serde_json` reads, a URL what `fts_joburl` reads; values and URLs are looked into as in the documents of jobs.
use Rattle.std.specs.Prelude.{◌≡◌, ◌⊎◌, ℕ, ◌≤◌, ◌==◌, nat_lt, Option, Some, None, option_map, option_and_then, Result, Ok, Err, List, [], ◌∷◌, length, codes}
use Rattle.std.specs.List.{list_any, list_all, filter_map}
use Rattle.std.specs.Option.{option_map_or}
use Rattle.serde_json.specs.Data.{Data}
use Rattle.serde_json.specs.Find.{get, as_str, as_array}
use Rattle.fts_tables.specs.FirstFault.{fault_if, fault_unless, first_fault, unless}
use Rattle.fts_tables.specs.SettingsData.{SettingsData}
use Rattle.fts_tables.specs.declared.places.Place.{Place}
use Rattle.fts_joburl.specs.declared.fault.UrlFault.{UrlFault}
use Rattle.fts_jobdoc.specs.Json.{value_of, list_of, is_object, is_text}
use Rattle.fts_jobdoc.specs.Ends.{places_of, first_url_fault, is_elsewhere}
use Rattle.fts_delete.specs.declared.document.DeleteDocFault.{DeleteDocFault}
use Rattle.fts_delete.specs.declared.document.DeleteDocFault.TheVariants.{NotJson, NotObject, NoDeletes, TooMany, NotText, BadUrl, UnknownEndpoint, Memory}
use Rattle.fts_delete.specs.Rows.{most_asked}

-- a result is the expected one, unless memory ran out
abbrev pub Reads : {T : Type 0} → Result T DeleteDocFault → Result T DeleteDocFault → Type 0
Reads result expected = (result ≡ expected) ⊎ (result ≡ Err Memory)

-- what is asked for: the items of the list under `delete`, and none where no list is there
unfoldable pub asked_items : Data → List Data
asked_items document = option_map_or list_of (option_and_then as_array (get (codes "delete") document)) []

-- a broken URL is a fault of the document
abbrev pub url_refused : Option UrlFault → Option DeleteDocFault
url_refused fault = option_map BadUrl fault

-- what is read of some URLs, unless one is broken
abbrev pub places_read : List (List ℕ) → Result (List Place) DeleteDocFault
places_read texts = unless (url_refused (first_url_fault texts)) (places_of texts)

-- the texts of a document's list, in order
abbrev pub texts_of : List Data → List (List ℕ)
texts_of items = filter_map as_str items

-- the rules of a document in the order of their numbers, from 2 on; rule 1 is that the body is JSON
unfoldable pub rules_of : Data → SettingsData → List (Option DeleteDocFault)
rules_of document settings =
    -- 2
    fault_unless (is_object document) NotObject
    -- 3
    ∷ fault_if (length (asked_items document) == 0) NoDeletes
    -- 4
    ∷ fault_if (nat_lt most_asked (length (asked_items document))) TooMany
    -- 5
    ∷ fault_unless (list_all is_text (asked_items document)) NotText
    -- 6
    ∷ url_refused (first_url_fault (texts_of (asked_items document)))
    -- 7
    ∷ fault_if (list_any (is_elsewhere settings) (places_of (texts_of (asked_items document)))) UnknownEndpoint
    ∷ []

-- what a document asks for, or the first rule that it breaks
abbrev pub asked_by : SettingsData → Option Data → Result (List Place) DeleteDocFault
asked_by settings None = Err NotJson
asked_by settings (Some document) = unless (first_fault (rules_of document settings)) (places_of (texts_of (asked_items document)))

-- what a body asks for, or the first rule that it breaks
unfoldable pub deletes_in : List ℕ → SettingsData → Result (List Place) DeleteDocFault
deletes_in body settings = asked_by settings (value_of body)

-- the number of a rule; want of memory has 0
abbrev pub rule_of : DeleteDocFault → ℕ
rule_of NotJson = 1
rule_of NotObject = 2
rule_of NoDeletes = 3
rule_of TooMany = 4
rule_of NotText = 5
rule_of (BadUrl fault) = 6
rule_of UnknownEndpoint = 7
rule_of Memory = 0

-- the law: a document that is accepted asks for 1 to so many places
pub record AsksForSome (places : List Place) : Type 0 where
  pub some : 1 ≤ length places
  pub most : length places ≤ most_asked

abbrev pub AskedAreSome : Type 0
AskedAreSome = (body : List ℕ) (settings : SettingsData) (places : List Place) → deletes_in body settings ≡ Ok places → AsksForSome places
