-- Looking into the value of a document. JSON (RFC 8259) is what `serde_json` reads; null counts as absent.
use Rattle.std.specs.Prelude.{ℕ, Bool, false, not, ◌&&◌, ◌||◌, if◌then◌else◌, List, [], ◌∷◌, length, Option, Some, None, option_and_then, unwrap_or, is_some, bytes_eq, codes, negsuc}
use Rattle.std.specs.List.{list_all, filter_map}
use Rattle.std.specs.Option.{option_map_or}
use Rattle.std.specs.Ordering.{int_eq}
use Rattle.std.specs.Str.{is_utf8}
use Rattle.serde_json.specs.Data.{Data, Items, no_items, item}
use Rattle.serde_json.specs.Read.{read}
use Rattle.serde_json.specs.Find.{get, as_null, as_bool, as_number, as_str, as_array, as_object, as_u64, as_i64}
use Rattle.fts_tables.specs.SettingsData.{is_within}

-- the JSON value that a body is, or none
abbrev pub value_of : List ℕ → Option Data
value_of body = if is_utf8 body then read body else None

-- whether a value is null
abbrev pub is_null : Data → Bool
is_null value = is_some (as_null value)

-- what is there, where null counts as absent
abbrev pub unless_null : Option Data → Option Data
unless_null None = None
unless_null (Some value) = if is_null value then None else Some value

-- what stands under a key of a value
unfoldable pub field : List ℕ → Data → Option Data
field key value = unless_null (get key value)

-- what stands under a key of the document's `params`
unfoldable pub param : List ℕ → Data → Option Data
param key document = option_and_then (field key) (field (codes "params") document)

-- whether a value is an object
abbrev pub is_object : Data → Bool
is_object value = is_some (as_object value)

-- the items of a list, in order
abbrev pub list_of : Items → List Data
list_of no_items = []
list_of (item value items) = value ∷ list_of items

-- the items of the list under a key, and none where no list is there
unfoldable pub list_under : List ℕ → Data → List Data
list_under key value = option_map_or list_of (option_and_then as_array (field key value)) []

-- the files of a document
abbrev pub files_of : Data → List Data
files_of document = list_under (codes "files") document

-- whether a value is a text
abbrev pub is_text : Data → Bool
is_text value = is_some (as_str value)

-- the texts of the list under a key, in order
unfoldable pub texts_under : List ℕ → Data → List (List ℕ)
texts_under key value = filter_map as_str (list_under key value)

-- whether a list of texts alone is under a key, and how many may be in it
unfoldable pub has_texts : ℕ → ℕ → List ℕ → Data → Bool
has_texts low high key value = is_within low high (length (list_under key value)) && list_all is_text (list_under key value)

-- whether a value is this text
abbrev pub is_this_text : List ℕ → Data → Bool
is_this_text text value = option_map_or (λ found. bytes_eq found text) (as_str value) false

-- whether what is found is the JSON value true
abbrev pub is_on : Option Data → Bool
is_on found = unwrap_or (option_and_then as_bool found) false

-- the whole number from 0 on that a value is, in 64 bits
abbrev pub natural_of : Data → Option ℕ
natural_of value = option_and_then as_u64 (as_number value)

-- whether a value is a whole number of a range from 0 on
abbrev pub is_natural_within : ℕ → ℕ → Data → Bool
is_natural_within low high value = option_map_or (is_within low high) (natural_of value) false

-- whether a value is the whole number -1
abbrev pub is_minus_one : Data → Bool
is_minus_one value = option_map_or (λ number. int_eq number (negsuc 0)) (option_and_then as_i64 (as_number value)) false

-- whether a value is a whole number from -1 to this one
abbrev pub is_from_minus_one : ℕ → Data → Bool
is_from_minus_one high value = is_natural_within 0 high value || is_minus_one value

-- whether something is there and fails a test
abbrev pub fails : (Data → Bool) → Option Data → Bool
fails test found = option_map_or (λ value. not (test value)) found false

-- the whole number that is found, or what stands for one that is absent
abbrev pub natural_or : ℕ → Option Data → ℕ
natural_or number found = unwrap_or (option_and_then natural_of found) number
