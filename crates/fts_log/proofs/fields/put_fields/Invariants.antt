use Rattle.std.proofs.Common.{◌≡◌, ◌++◌, take}
use Rattle.std.specs.List.{flat_map}
use Rattle.fts_log.specs.Fields.{field_text}
use Rattle.fts_log.proofs.fields.put_fields.Given as goal

abbrev pub invariant-loop-field : goal.invariant-loop-field
invariant-loop-field l = l.line.items ≡ l.fn.line.items ++ flat_map field_text (take l.field-index l.fields)
