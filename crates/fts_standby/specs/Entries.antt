-- What a standby reads of the body of an answer to its request for an entry: the entry's bytes, where the body is the object of that entry (JSON,
-- RFC 8259: {"body":HEX,"count":C,"number":N}), or that there is no such entry.
use Rattle.std.specs.Prelude.{◌≡◌, ℕ, ◌==◌, Bool, true, false, if◌then◌else◌, Option, Some, None, option_map, option_and_then, Result, Ok, Err, List, codes}
use Rattle.std.specs.Option.{option_map_or}
use Rattle.std.specs.Str.{is_utf8}
use Rattle.hex.specs.Hex.{encode_lower, decode_of, IsBytes}
use Rattle.hex.specs.declared.error.FromHexError.{FromHexError}
use Rattle.serde_json.specs.Data.{Data, number, string, object, unsigned, no_members, member}
use Rattle.serde_json.specs.Read.{read}
use Rattle.serde_json.specs.Find.{get, as_number, as_str, as_u64}
use Rattle.fts_tables.specs.declared.commands.Entry.{Entry}
use Rattle.fts_record.specs.Reading.{read_of}
use Rattle.fts_jobdoc.specs.Json.{value_of}

-- the whole number under a key
abbrev pub number_under : List ℕ → Data → Option ℕ
number_under key value = option_and_then as_u64 (option_and_then as_number (get key value))

-- the bytes, where they are the spelling of one entry
abbrev pub if_entry : List ℕ → Option (List ℕ)
if_entry bytes = option_map (λ entry. bytes) (read_of bytes)

-- the bytes that digits stand for, where they are the spelling of one entry
abbrev pub decoded : Result (List ℕ) FromHexError → Option (List ℕ)
decoded (Ok bytes) = if_entry bytes
decoded (Err fault) = None

-- whether an object has this number
abbrev pub is_numbered : ℕ → Data → Bool
is_numbered n value = option_map_or (λ found. found == n) (number_under (codes "number") value) false

-- the entry of this number that a value shows
abbrev pub entry_shown : ℕ → Data → Option (List ℕ)
entry_shown n value = if is_numbered n value then option_and_then (λ text. decoded (decode_of text)) (option_and_then as_str (get (codes "body") value)) else None

-- the entry of this number that a body shows; other members of its object are passed over
unfoldable pub entry_in : ℕ → List ℕ → Option (List ℕ)
entry_in n body = option_and_then (entry_shown n) (value_of body)

-- whether a value is a refusal by rule 47
abbrev pub has_rule_47 : Data → Bool
has_rule_47 value = option_map_or (λ rule. rule == 47) (number_under (codes "rule") value) false

-- whether a body is a refusal because there is no such entry, which is rule 47
unfoldable pub says_no_entry : List ℕ → Bool
says_no_entry body = option_map_or has_rule_47 (value_of body) false

-- the object that shows an entry: its spelling in lower hexadecimal digits, how many entries there are, and its number
abbrev pub entry_object : List ℕ → ℕ → ℕ → Data
entry_object body count n =
    object (member (codes "body") (string (encode_lower body))
    (member (codes "count") (number (unsigned count))
    (member (codes "number") (number (unsigned n)) no_members)))

-- a standby that asked for a number reads of bytes which show an entry that entry, where it has this number, and else none
pub record ReadsAsShown (bytes body : List ℕ) (count number asked : ℕ) : Type 0 where
  pub own : asked ≡ number → entry_in asked bytes ≡ Some body
  pub other : (found : List ℕ) → entry_in asked bytes ≡ Some found → (asked ≡ number) × (found ≡ body)

abbrev pub ShownIsRead : Type 0
ShownIsRead = (bytes body : List ℕ) (entry : Entry) (count number asked : ℕ) → is_utf8 bytes ≡ true → read bytes ≡ Some (entry_object body count number)
    → IsBytes body → read_of body ≡ Some entry → ReadsAsShown bytes body count number asked
