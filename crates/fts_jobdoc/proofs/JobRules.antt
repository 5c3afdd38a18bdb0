-- A job that is made of a document that breaks no rule keeps the rules of its type: each follows from rules of the document.
use Rattle.std.proofs.Common.{◌≡◌, ◌&&◌, ◌==◌, not, ℕ, suc, Bool, true, false, cond, List, [], ◌∷◌, length, map, codes, Option, Some, None, Ok, Err, refl, ap, sym, ◌∙◌, arith, tests}
use Rattle.std.specs.Prelude.{nat_le, is_some, option_and_then}
use Rattle.std.specs.List.{list_any, list_all, filter_map, flat_map, cons_option}
use Rattle.std.specs.Option.{option_map_or, option_or}
use Rattle.std.proofs.lemmas.List.Folds.{list_all-append}
use Rattle.serde_json.specs.Data.{Data}
use Rattle.serde_json.specs.Find.{as_str}
use Rattle.fts_tables.specs.Places.{is_same_place}
use Rattle.fts_tables.specs.SettingsData.{is_within, is_label, default_activity}
use Rattle.fts_tables.specs.JobData.{goes_elsewhere}
use Rattle.fts_tables.specs.declared.places.Place.{Place}
use Rattle.fts_tables.specs.declared.rows.NewFile.{NewFile}
use Rattle.fts_joburl.specs.declared.fault.UrlFault.{UrlFault}
use Rattle.fts_jobdoc.specs.Json.{field, list_under, texts_under, has_texts, is_text}
use Rattle.fts_jobdoc.specs.Fields.{has_wrong_sources, has_wrong_destinations, has_bad_filesize, size_of, is_activity, has_bad_activity, activity_named, activity_of}
use Rattle.fts_jobdoc.specs.Ends.{place_read, place_kept, places_of, fault_or, first_url_fault, urls_of, ends_of, has_same_url}
use Rattle.fts_jobdoc.specs.Documents.{new_file, new_files, files_from}
use Rattle.fts_jobdoc.specs.declared.ends.FileEnds.{FileEnds}
use Rattle.fts_jobdoc.proofs.EndsLemmas.{first_url_fault-append}
use Rattle.fts_jobdoc.proofs.FieldRules.{is_true, within_or}
use Rattle.fts_jobdoc.proofs.Ruled.{and_parts, or_parts, and_from}

-- ---- what the rules on files say of one file

-- every value of a list is a text
texts_all : (values : List Data) → list_all is_text values ≡ true → length (filter_map as_str values) ≡ length values
texts_all [] all = refl
texts_all (value ∷ values) all =
    elim (as_str value) as
    (λ text. (is_some text && list_all is_text values) ≡ true → length (cons_option text (filter_map as_str values)) ≡ suc (length values)) [
      | Some text ↦ λ others. ap suc (texts_all values others)
      | None ↦ λ none. absurd (cc)
    ] all

-- every text is the URL of a place
places_all : (texts : List (List ℕ)) → first_url_fault texts ≡ None → length (places_of texts) ≡ length texts
unfolding first_url_fault places_of
places_all [] all = refl
places_all (text ∷ texts) all =
    elim (place_read text) as
    (λ read. fault_or read (first_url_fault texts) ≡ None → length (cons_option (place_kept read) (places_of texts)) ≡ suc (length texts)) [
      | Ok place ↦ λ others. ap suc (places_all texts others)
      | Err fault ↦ λ some. absurd (cc)
    ] all

-- neither of two faults
no_fault : (first later : Option UrlFault) → option_or first later ≡ None → (first ≡ None) × (later ≡ None)
no_fault None later none = (refl, none)
no_fault (Some fault) later none = absurd (cc)

-- as many places as values are read of a list of texts
places_under : (key : List ℕ) (low high : ℕ) (file : Data) → has_texts low high key file ≡ true → first_url_fault (texts_under key file) ≡ None
    → length (places_of (texts_under key file)) ≡ length (list_under key file)
unfolding has_texts texts_under
places_under key low high file texts urls =
    places_all (texts_under key file) urls ∙ texts_all (list_under key file) (and_parts (is_within low high (length (list_under key file))) _ texts).1

-- so many values are in it
values_under : (key : List ℕ) (low high : ℕ) (file : Data) → has_texts low high key file ≡ true → is_within low high (length (list_under key file)) ≡ true
unfolding has_texts
values_under key low high file texts = (and_parts (is_within low high (length (list_under key file))) _ texts).0

-- a number from 1 to 1
only_one : (n : ℕ) → is_within 1 1 n ≡ true → n ≡ 1
only_one n inside = grind (arith, tests)

-- what the rules say of a file
pub record FileFits (file : Data) : Type 0 where
  pub sources : length (ends_of file).sources ≡ length (list_under (codes "sources") file)
  pub few : is_within 1 16 (length (list_under (codes "sources") file)) ≡ true
  pub dest : length (ends_of file).dests ≡ 1
  pub distinct : has_same_url (ends_of file) ≡ false
  pub size : has_bad_filesize file ≡ false
  pub activity : has_bad_activity file ≡ false

-- where no rule is broken by it
file_fits : (file : Data) → has_wrong_sources file ≡ false → has_wrong_destinations file ≡ false → first_url_fault (urls_of file) ≡ None
    → has_same_url (ends_of file) ≡ false → has_bad_filesize file ≡ false → has_bad_activity file ≡ false → FileFits file
unfolding has_wrong_sources has_wrong_destinations ends_of
file_fits file sources dests urls distinct size activity =
    let from = is_true (has_texts 1 16 (codes "sources") file) sources in
    let into = is_true (has_texts 1 1 (codes "destinations") file) dests in
    let read = no_fault (first_url_fault (texts_under (codes "sources") file)) (first_url_fault (texts_under (codes "destinations") file))
    (sym (first_url_fault-append (texts_under (codes "sources") file) (texts_under (codes "destinations") file)) ∙ urls) in
    record {
      sources = places_under (codes "sources") 1 16 file from read.0;
      few = values_under (codes "sources") 1 16 file from;
      dest = places_under (codes "destinations") 1 1 file into read.1 ∙ only_one _ (values_under (codes "destinations") 1 1 file into);
      distinct = distinct;
      size = size;
      activity = activity;
    }

-- so of each of some files
abbrev pub AllFit : List Data → Type 0
AllFit [] = Unit {0}
AllFit (file ∷ files) = FileFits file × AllFit files

-- where no rule is broken by any
pub all_fit : (files : List Data) → list_any has_wrong_sources files ≡ false → list_any has_wrong_destinations files ≡ false
    → first_url_fault (flat_map urls_of files) ≡ None
    → list_any has_same_url (map ends_of files) ≡ false → list_any has_bad_filesize files ≡ false → list_any has_bad_activity files ≡ false → AllFit files
all_fit [] sources dests urls distinct sizes activities = tt
all_fit (file ∷ files) sources dests urls distinct sizes activities =
    let s = or_parts (has_wrong_sources file) (list_any has_wrong_sources files) sources in
    let d = or_parts (has_wrong_destinations file) (list_any has_wrong_destinations files) dests in
    let u = no_fault (first_url_fault (urls_of file)) (first_url_fault (flat_map urls_of files))
    (sym (first_url_fault-append (urls_of file) (flat_map urls_of files)) ∙ urls) in
    let n = or_parts (has_same_url (ends_of file)) (list_any has_same_url (map ends_of files)) distinct in
    let z = or_parts (has_bad_filesize file) (list_any has_bad_filesize files) sizes in
    let a = or_parts (has_bad_activity file) (list_any has_bad_activity files) activities in
    (file_fits file s.0 d.0 u.0 n.0 z.0 a.0, all_fit files s.1 d.1 u.1 n.1 z.1 a.1)

-- ---- tests of each file of the job

-- a test that holds of what is made of any place
pub all_map : (test : NewFile → Bool) (made : Place → NewFile) → ((place : Place) → test (made place) ≡ true) → (places : List Place)
    → list_all test (map made places) ≡ true
all_map test made holds [] = refl
all_map test made holds (place ∷ places) = and_from (test (made place)) (list_all test (map made places)) (holds place) (all_map test made holds places)

-- so with lists of files
all_flat : (test : NewFile → Bool) (made : Place → List NewFile) → ((place : Place) → list_all test (made place) ≡ true) → (places : List Place)
    → list_all test (flat_map made places) ≡ true
all_flat test made holds [] = refl
all_flat test made holds (place ∷ places) =
    list_all-append test (made place) (flat_map made places) ∙ and_from (list_all test (made place)) (list_all test (flat_map made places)) (holds place)
    (all_flat test made holds places)

-- so with a file of the document, where the test looks at neither of its ends
all_new : (test : NewFile → Bool) (verified : Bool) (index : ℕ) (file : Data) (ends : FileEnds)
    → ((dest source : Place) → test (new_file verified index file dest source) ≡ true) → list_all test (new_files verified index file ends) ≡ true
all_new test verified index file ends holds =
    all_flat test (λ dest. map (new_file verified index file dest) ends.sources)
    (λ dest. all_map test (new_file verified index file dest) (holds dest) ends.sources) ends.dests

-- so with all files
pub all_from : (test : NewFile → Bool) (verified : Bool)
    → ((index : ℕ) (file : Data) → FileFits file → list_all test (new_files verified index file (ends_of file)) ≡ true)
    → (files : List Data) (index : ℕ) → AllFit files → list_all test (files_from verified index files) ≡ true
all_from test verified holds [] index fit = refl
all_from test verified holds (file ∷ files) index fit =
    list_all-append test (new_files verified index file (ends_of file)) (files_from verified (suc index) files)
    ∙ and_from (list_all test (new_files verified index file (ends_of file))) (list_all test (files_from verified (suc index) files))
    (holds index file fit.0) (all_from test verified holds files (suc index) fit.1)

-- a file's size is in range
size_fits : (file : Data) → has_bad_filesize file ≡ false → nat_le (size_of file) 9223372036854775807 ≡ true
unfolding has_bad_filesize size_of
size_fits file kept = (and_parts (nat_le 0 (size_of file)) _ (within_or 0 9223372036854775807 0 (field (codes "filesize") file) kept refl)).1

-- so in the job
pub sizes_fit : (verified : Bool) (index : ℕ) (file : Data) → FileFits file
    → list_all (λ made. nat_le made.size 9223372036854775807) (new_files verified index file (ends_of file)) ≡ true
unfolding new_file
sizes_fit verified index file fit = all_new (λ made. nat_le made.size 9223372036854775807) verified index file (ends_of file)
    (λ dest source. size_fits file fit.size)

-- a text that isn't too long names an activity
label_fits : (text : List ℕ) (empty : Bool) → (length text == 0) ≡ empty → nat_le (length text) 255 ≡ true → is_label (cond empty default_activity text) ≡ true
label_fits text true is few = refl
label_fits text false is few = grind (arith, tests)

-- a text that is found, or none
name_fits : (text : Option (List ℕ)) → option_map_or (λ name. nat_le (length name) 255) text false ≡ true → is_label (activity_named text) ≡ true
name_fits (Some text) few = label_fits text (length text == 0) refl few
name_fits None few = absurd (cc)

-- a value that is found, or none
activity_found : (found : Option Data) → option_map_or (λ value. not (is_activity value)) found false ≡ false
    → is_label (activity_named (option_and_then as_str found)) ≡ true
activity_found None kept = refl
activity_found (Some value) kept = name_fits (as_str value) (is_true (is_activity value) kept)

-- a file's activity is the name of one
activity_fits : (file : Data) → has_bad_activity file ≡ false → is_label (activity_of file) ≡ true
unfolding has_bad_activity activity_of
activity_fits file kept = activity_found (field (codes "activity") file) kept

-- so in the job
pub activities_fit : (verified : Bool) (index : ℕ) (file : Data) → FileFits file
    → list_all (λ made. is_label made.activity) (new_files verified index file (ends_of file)) ≡ true
unfolding new_file
activities_fit verified index file fit = all_new (λ made. is_label made.activity) verified index file (ends_of file)
    (λ dest source. activity_fits file fit.activity)

-- no source is this destination
sources_apart : (verified : Bool) (index : ℕ) (file : Data) (dest : Place) (sources : List Place) → list_any (λ source. is_same_place source dest) sources
    ≡ false
    → list_all goes_elsewhere (map (new_file verified index file dest) sources) ≡ true
unfolding new_file
sources_apart verified index file dest [] none = refl
sources_apart verified index file dest (source ∷ sources) none =
    let apart = or_parts (is_same_place source dest) (list_any (λ other. is_same_place other dest) sources) none in
    and_from (not (is_same_place source dest)) _ (ap not apart.0) (sources_apart verified index file dest sources apart.1)

-- no source is any destination
ends_apart : (verified : Bool) (index : ℕ) (file : Data) (sources dests : List Place)
    → list_any (λ dest. list_any (λ source. is_same_place source dest) sources) dests ≡ false
    → list_all goes_elsewhere (flat_map (λ dest. map (new_file verified index file dest) sources) dests) ≡ true
ends_apart verified index file sources [] none = refl
ends_apart verified index file sources (dest ∷ dests) none =
    let apart = or_parts (list_any (λ source. is_same_place source dest) sources)
    (list_any (λ other. list_any (λ source. is_same_place source other) sources) dests) none in
    list_all-append goes_elsewhere (map (new_file verified index file dest) sources)
    (flat_map (λ other. map (new_file verified index file other) sources) dests)
    ∙ and_from (list_all goes_elsewhere (map (new_file verified index file dest) sources)) _ (sources_apart verified index file dest sources apart.0)
    (ends_apart verified index file sources dests apart.1)

-- so in the job
pub files_apart : (verified : Bool) (index : ℕ) (file : Data) → FileFits file → list_all goes_elsewhere (new_files verified index file (ends_of file)) ≡ true
unfolding has_same_url
files_apart verified index file fit = ends_apart verified index file (ends_of file).sources (ends_of file).dests fit.distinct
