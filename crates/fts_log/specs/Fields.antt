-- The fields that code writes, as a list.
use Rattle.std.specs.Prelude.{ℕ, List, decimal}
use Rattle.fts_log.specs.declared.fields.Field.{Field}
use Rattle.fts_log.specs.declared.fields.Field.TheVariants.{Word, Number, Text}
use Rattle.fts_log.specs.Quoting.{quoted}
use Rattle.fts_log.specs.EventLines.{field}

-- a field's text
abbrev pub field_text : Field → List ℕ
field_text (Word name word) = field name.now word.now
field_text (Number name number) = field name.now (decimal number)
field_text (Text name text) = field name.now (quoted text.now)
