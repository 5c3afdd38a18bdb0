-- Damaged journals and the journal's limits, on entries that are written out.
use Rattle.std.proofs.Common.{◌≡◌, refl, ℕ, true, false, List, [], ◌∷◌, Some}
use Rattle.std.specs.Prelude.{codes}
use Rattle.fts_tables.specs.declared.commands.Entry.{Entry}
use Rattle.fts_tables.specs.declared.commands.Command.TheVariants.{SetPriority, Claim, Ban, Unban}
use Rattle.fts_record.specs.Spelling.{spelled, command_bytes, text_bytes, number_bytes}
use Rattle.fts_record.specs.Reading.{entry_in, entry_at, command_at, number_at}
use Rattle.fts_record.specs.Fields.{number_of}
use Rattle.fts_keep.specs.Applied.{entry_by, fits}
use Rattle.fts_keep.specs.Damage.{fault_in}

-- writer 3 cancels job 1 of empty tables: the entry is refused, and the damage is at its gate
abbrev cancels : List ℕ
cancels = 0x03 ∷ 0x03 ∷ 0x80 ∷ 0xe2 ∷ 0xcf ∷ 0xaa ∷ 0x06 ∷ 0x01 ∷ []

refused-entry : fault_in (cancels ∷ []) ≡ Some 8
unfolding entry_in entry_at number_at command_at number_of
refused-entry = refl

-- the moment isn't in its shortest form: the damage is at that field, and the entry behind it isn't looked at
abbrev long-number : List ℕ
long-number = 0x03 ∷ 0x03 ∷ 0x80 ∷ 0xe2 ∷ 0xcf ∷ 0xaa ∷ 0x86 ∷ 0x00 ∷ 0x01 ∷ []

broken-entry : fault_in (long-number ∷ cancels ∷ []) ≡ Some 15
unfolding entry_in entry_at number_at command_at number_of
broken-entry = refl

-- a claim takes 15 bytes, and 5 before it: the gate behind it has to stand below the journal's end
abbrev claim : Entry
claim = entry_by 0 (Claim 1700000000 69)

last-claim-that-fits : fits 1073741803 claim ≡ true
unfolding spelled command_bytes number_bytes
last-claim-that-fits = refl

first-claim-that-does-not : fits 1073741804 claim ≡ false
unfolding spelled command_bytes number_bytes
first-claim-that-does-not = refl

-- another priority takes 9 bytes, and the gate behind it has to stand below the first limit
abbrev priority : Entry
priority = entry_by 0 (SetPriority 1700000000 1 5)

last-priority-that-fits : fits 134217713 priority ≡ true
unfolding spelled command_bytes number_bytes
last-priority-that-fits = refl

first-priority-that-does-not : fits 134217714 priority ≡ false
unfolding spelled command_bytes number_bytes
first-priority-that-does-not = refl

-- a ban takes 26 bytes, and has the same limit; its end takes 25, and has the claim's
abbrev ban : Entry
ban = entry_by 0 (Ban 1700000000 (codes "https://b.example") true)

abbrev unban : Entry
unban = entry_by 0 (Unban 1700000000 (codes "https://b.example"))

last-ban-that-fits : fits 134217696 ban ≡ true
unfolding spelled command_bytes text_bytes number_bytes
last-ban-that-fits = refl

first-ban-that-does-not : fits 134217697 ban ≡ false
unfolding spelled command_bytes text_bytes number_bytes
first-ban-that-does-not = refl

last-unban-that-fits : fits 1073741793 unban ≡ true
unfolding spelled command_bytes text_bytes number_bytes
last-unban-that-fits = refl
