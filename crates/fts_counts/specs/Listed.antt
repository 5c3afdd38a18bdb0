-- What settings list, and the places of names among the listed endpoints.
use Rattle.std.specs.Prelude.{◌≡◌, ℕ, true, ◌&&◌, bytes_eq, List, [], Option, Some, None}
use Rattle.std.specs.List.{list_all, position_or_len}
use Rattle.fts_tables.specs.SettingsData.{SettingsData, is_listed}
use Rattle.fts_tables.specs.declared.settings.Endpoint.{Endpoint}
use Rattle.fts_tables.specs.declared.settings.LinkRule.{LinkRule}

-- the endpoints that settings list, and none without settings
abbrev pub endpoints_of : Option SettingsData → List Endpoint
endpoints_of None = []
endpoints_of (Some settings) = settings.endpoints

-- the links that settings list, and none without settings
abbrev pub links_of : Option SettingsData → List LinkRule
links_of None = []
links_of (Some settings) = settings.links

-- whether the ends of each link are listed
abbrev pub AreKnown : List Endpoint → List LinkRule → Type 0
AreKnown endpoints links = list_all (λ link. is_listed endpoints link.source && is_listed endpoints link.dest) links ≡ true

-- the place of the first endpoint of a name, and their number where none has it
abbrev pub place_among : List Endpoint → List ℕ → ℕ
place_among endpoints name = position_or_len (λ endpoint. bytes_eq endpoint.name name) endpoints
