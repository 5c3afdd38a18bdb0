-- The settings that a document gives: each value as it stands there, and where it doesn't the value that counts instead.
-- These defaults are written out here, so that the code's constants have to be them.
use Rattle.std.specs.Prelude.{ℕ, ℤ, pos, negsuc, min, List, [], ◌∷◌, ◌++◌, map, codes, Option, Some, None, option_and_then, Result, Ok, Err, unwrap_or}
use Rattle.std.specs.List.{flat_map}
use Rattle.std.specs.Option.{option_map_or}
use Rattle.std.specs.Result.{result_unwrap_or}
use Rattle.toml.specs.Data.{Data, get, as_str, as_integer}
use Rattle.fts_tables.specs.SettingsData.{SettingsData, default_activity}
use Rattle.fts_tables.specs.declared.settings.Endpoint.{Endpoint}
use Rattle.fts_tables.specs.declared.settings.LinkRule.{LinkRule}
use Rattle.fts_tables.specs.declared.settings.Weight.{Weight}
use Rattle.fts_joburl.specs.Urls.{endpoint_of}
use Rattle.fts_joburl.specs.declared.fault.UrlFault.{UrlFault}
use Rattle.fts_config.specs.declared.keys.SettingKey.{SettingKey}
use Rattle.fts_config.specs.declared.keys.SettingKey.TheVariants.{Vo, Workers, DefaultMaxActive, Storage, Url, Inbound, Outbound, Link, SymbolicName, LinkSource, LinkDestination, MaxActive, Activity, Name, Weight as WeightKey}
use Rattle.fts_config.specs.declared.fault.SettingsFault.{SettingsFault}
use Rattle.fts_config.specs.declared.fault.SettingsFault.TheVariants.{BadUrl}
use Rattle.fts_config.specs.Keys.{name_of}
use Rattle.fts_config.specs.Tables.{tables_of}

-- the text under a key of a table, and another where there is none
abbrev pub text_or : List ℕ → SettingKey → Data → List ℕ
text_or other key entry = unwrap_or (option_and_then as_str (get (name_of key) entry)) other

-- a whole number as one of 32 bits: the nearest, which is in no range where it isn't the number itself
abbrev pub nearest : ℤ → ℕ
nearest (pos number) = min number 4294967295
nearest (negsuc number) = 0

-- the number under a key of a table, and another where there is none
abbrev pub number_or : ℕ → SettingKey → Data → ℕ
number_or other key entry = option_map_or nearest (option_and_then as_integer (get (name_of key) entry)) other

-- the name of the endpoint that a URL's text names, or its fault
unfoldable pub endpoint_by : List ℕ → Result (List ℕ) UrlFault
endpoint_by url = endpoint_of url

-- the name of the endpoint that a URL's text names, and no text where it names none
abbrev pub named_by : List ℕ → List ℕ
named_by url = result_unwrap_or (endpoint_by url) []

-- a storage; 20 files at a time may come in and go out, where nothing is said
abbrev pub endpoint_in : Data → Endpoint
endpoint_in entry = record {
  name = named_by (text_or [] Url entry);
  inbound = number_or 20 Inbound entry;
  outbound = number_or 20 Outbound entry;
}

-- a link; it is called `link`, where nothing is said
abbrev pub link_in : Data → LinkRule
link_in entry = record {
  symbolic = text_or (codes "link") SymbolicName entry;
  source = named_by (text_or [] LinkSource entry);
  dest = named_by (text_or [] LinkDestination entry);
  max_active = number_or 0 MaxActive entry;
}

-- an activity
abbrev pub weight_in : Data → Weight
weight_in entry = record {
  name = text_or [] Name entry;
  weight = number_or 0 WeightKey entry;
}

-- the activities of a document: those that it lists, and `default` alone, with weight 1, where it has no list
abbrev pub weights_in : Option Data → Data → List Weight
weights_in None document = record { name = default_activity; weight = 1 } ∷ []
weights_in (Some list) document = map weight_in (tables_of Activity document)

-- the settings that a document gives: 4 workers, and 2 files at a time on a link that isn't listed, where nothing is said
unfoldable pub settings_in : Data → SettingsData
settings_in document = record {
  vo = text_or [] Vo document;
  workers = number_or 4 Workers document;
  default_max_active = number_or 2 DefaultMaxActive document;
  endpoints = map endpoint_in (tables_of Storage document);
  links = map link_in (tables_of Link document);
  weights = weights_in (get (name_of Activity) document) document;
}

-- the URL of a storage
abbrev pub storage_urls : Data → List (List ℕ)
storage_urls entry = text_or [] Url entry ∷ []

-- the URLs of a link: of its source, then of its destination
abbrev pub link_urls : Data → List (List ℕ)
link_urls entry = text_or [] LinkSource entry ∷ text_or [] LinkDestination entry ∷ []

-- the URLs of a document: those of its storages, then those of its links
abbrev pub urls_in : Data → List (List ℕ)
urls_in document = flat_map storage_urls (tables_of Storage document) ++ flat_map link_urls (tables_of Link document)

-- the fault of a URL's text that names no endpoint, and behind it that of the rest
abbrev pub bad_or : Result (List ℕ) UrlFault → Option SettingsFault → Option SettingsFault
bad_or (Ok name) rest = rest
bad_or (Err fault) rest = Some (BadUrl fault)

-- the fault of the first of some URLs' texts that names no endpoint
abbrev pub first_bad : List (List ℕ) → Option SettingsFault
first_bad [] = None
first_bad (url ∷ urls) = bad_or (endpoint_by url) (first_bad urls)

-- rule 4: the first URL that names no endpoint
unfoldable pub bad_url : Data → Option SettingsFault
bad_url document = first_bad (urls_in document)
