-- What is made of a file's row for its object.
use Rattle.std.specs.Prelude.{Bool}
use Rattle.std.specs.String.{string_bytes}
use Rattle.serde_json.specs.Data.{Data}
use Rattle.fts_tables.specs.declared.rows.FileRow.{FileRow}
use Rattle.fts_tables.specs.declared.rows.FileState.{FileState}
use Rattle.fts_routes.specs.Objects.{file_in_state}
use Rattle.fts_routes.specs.declared.objects.FileTexts.{FileTexts}

-- the object of a file in a state, with its texts
abbrev pub file_with_texts : FileRow → FileState → Bool → FileTexts → Data
file_with_texts row state cancel_asked texts = file_in_state row state cancel_asked
    (string_bytes texts.checksum) (string_bytes texts.dest) (string_bytes texts.digest) (string_bytes texts.reason) (string_bytes texts.source)
