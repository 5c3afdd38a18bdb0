use Rattle.std.proofs.Common.{◌≡◌, true, take}
use Rattle.std.specs.Str.{all_ascii_digits}
use Rattle.std.specs.Str.Parse.{digits_value}
use Rattle.fts_wire.proofs.fields.read_length.Given as goal

abbrev pub invariant-loop-b : goal.invariant-loop-b
invariant-loop-b l = (all_ascii_digits (take l.b-index l.value) ≡ true) × (l.length ≡ digits_value 10 (take l.b-index l.value))
