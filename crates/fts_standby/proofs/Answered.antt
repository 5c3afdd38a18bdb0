-- What a standby reads of bodies that are written out.
use Rattle.std.proofs.Common.{◌≡◌, refl, ℕ, true, false, Some, None, List, [], ◌∷◌}
use lib.Utf8.{encode}
use Rattle.std.specs.Prelude.{codes}
use Rattle.std.specs.Str.{is_utf8, chars}
use Rattle.serde_json.proofs.OnLiterals.{serde_json_on_literals}
use Rattle.hex.specs.Hex.{decode_pairs}
use Rattle.fts_record.specs.Reading.{read_of, entry_in as entry_of_bytes, entry_at, number_at, command_at}
use Rattle.fts_record.specs.Fields.{number_of}
use Rattle.fts_standby.specs.Entries.{entry_in, says_no_entry}

-- writer 3 cancels job 1 at moment 1700000000
abbrev cancels : List ℕ
cancels = 0x03 ∷ 0x03 ∷ 0x80 ∷ 0xe2 ∷ 0xcf ∷ 0xaa ∷ 0x06 ∷ 0x01 ∷ []

abbrev shows-first : List ℕ
shows-first = codes "{\"body\":\"030380e2cfaa0601\",\"count\":2,\"number\":0}"

read-back : entry_in 0 shows-first ≡ Some cancels
unfolding serde_json_on_literals decode_pairs read_of entry_of_bytes entry_at number_at command_at number_of entry_in is_utf8 chars encode
read-back = refl

-- another number, bytes that are no entry, and what is no object of an entry at all
other-number : entry_in 1 shows-first ≡ None
unfolding serde_json_on_literals decode_pairs read_of entry_of_bytes entry_at number_at command_at number_of entry_in is_utf8 chars encode
other-number = refl

no-entry-bytes : entry_in 0 (codes "{\"body\":\"0303\",\"count\":2,\"number\":0}") ≡ None
unfolding serde_json_on_literals decode_pairs read_of entry_of_bytes entry_at number_at command_at number_of entry_in is_utf8 chars encode
no-entry-bytes = refl

no-object : entry_in 0 (codes "0") ≡ None
unfolding serde_json_on_literals decode_pairs read_of entry_of_bytes entry_at number_at command_at number_of entry_in is_utf8 chars encode
no-object = refl

-- no such entry is told apart from other refusals
none-there : says_no_entry (codes "{\"message\":\"no entry\",\"rule\":47,\"status\":404}") ≡ true
unfolding serde_json_on_literals says_no_entry is_utf8 chars encode
none-there = refl

other-rule : says_no_entry (codes "{\"message\":\"no route\",\"rule\":30,\"status\":404}") ≡ false
unfolding serde_json_on_literals says_no_entry is_utf8 chars encode
other-rule = refl
