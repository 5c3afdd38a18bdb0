-- The bytes so far are digits, and their number is within the limit.
use Rattle.std.proofs.Common.{◌≡◌, ◌≤◌, true, take}
use Rattle.std.specs.Str.{all_ascii_digits}
use Rattle.std.specs.Str.Parse.{digits_value}
use Rattle.fts_wire.proofs.answer_look.leading_number.Given as goal

abbrev pub invariant-loop-b : goal.invariant-loop-b
invariant-loop-b l = (all_ascii_digits (take l.b-index l.bytes) ≡ true) × (l.number ≡ digits_value 10 (take l.b-index l.bytes)) × (l.number ≤ 8389632)
