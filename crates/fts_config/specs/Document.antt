-- Which document a text is: TOML in UTF-8, as the `toml` crate reads it.
use Rattle.std.specs.Prelude.{ℕ, List, Option, None, option_map, if◌then◌else◌}
use Rattle.std.specs.Str.{is_utf8}
use Rattle.toml.specs.Data.{Data, table}
use Rattle.toml.specs.Parse.{parse_document}

-- the document that a text is, or none
unfoldable pub document_of : List ℕ → Option Data
document_of text = if is_utf8 text then option_map table (parse_document text) else None
