-- A body against what `serde_json` says of it, bytes against what the record says of them, and what is then heard.
use Rattle.std.proofs.Common.{◌≡◌, false, ℕ, List, Some, None, option_map, Ok, Err, ap}
use Rattle.std.specs.Prelude.{option_and_then}
use Rattle.std.specs.Option.{option_map_or}
use Rattle.serde_json.specs.Data.{Data}
use Rattle.fts_tables.specs.declared.commands.Entry.{Entry}
use Rattle.fts_record.specs.Reading.{read_of, entry_in as entry_of_bytes, ok_of}
use Rattle.fts_jobdoc.specs.Json.{value_of}
use Rattle.fts_standby.specs.Entries.{if_entry, entry_shown, entry_in, has_rule_47, says_no_entry}

-- bytes of which an entry was read
pub entry-read : (bytes : List ℕ) (entry : Entry) → entry_of_bytes bytes ≡ Ok entry → if_entry bytes ≡ Some bytes
unfolding read_of
entry-read bytes entry is = ap (λ found. option_map (λ e. bytes) (ok_of found)) is

-- and of which none was
pub entry-refused : (bytes : List ℕ) (place : ℕ) → entry_of_bytes bytes ≡ Err place → if_entry bytes ≡ None
unfolding read_of
entry-refused bytes place is = ap (λ found. option_map (λ e. bytes) (ok_of found)) is

-- the entry that a body shows, by its value
pub entry-of_value : (number : ℕ) (body : List ℕ) (value : Data) → value_of body ≡ Some value → entry_in number body ≡ entry_shown number value
unfolding entry_in
entry-of_value number body value is = ap (λ found. option_and_then (entry_shown number) found) is

pub entry-of_none : (number : ℕ) (body : List ℕ) → value_of body ≡ None → entry_in number body ≡ None
unfolding entry_in
entry-of_none number body is = ap (λ found. option_and_then (entry_shown number) found) is

-- that there is no such entry, by its value
pub none_there-of_value : (body : List ℕ) (value : Data) → value_of body ≡ Some value → says_no_entry body ≡ has_rule_47 value
unfolding says_no_entry
none_there-of_value body value is = ap (λ found. option_map_or has_rule_47 found false) is

pub none_there-of_none : (body : List ℕ) → value_of body ≡ None → says_no_entry body ≡ false
unfolding says_no_entry
none_there-of_none body is = ap (λ found. option_map_or has_rule_47 found false) is
