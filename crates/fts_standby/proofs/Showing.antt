-- What a standby reads of bytes that show an entry.
use Rattle.std.proofs.Common.{◌≡◌, refl, sym, ◌∙◌, ap, ℕ, ◌==◌, Bool, true, false, if◌then◌else◌, Some, None, List, eq-eqb}
use Rattle.std.specs.Prelude.{option_map, option_and_then, codes}
use Rattle.std.specs.Str.{is_utf8}
use Rattle.std.proofs.lemmas.Bool.{eqb-true}
use Rattle.hex.specs.Hex.{encode_lower, decode_of, IsBytes}
use Rattle.hex.proofs.HexLemmas.{decode_of-encode_lower}
use Rattle.serde_json.specs.Data.{Data}
use Rattle.serde_json.specs.Read.{read}
use Rattle.serde_json.specs.Find.{get, as_str}
use Rattle.fts_tables.specs.declared.commands.Entry.{Entry}
use Rattle.fts_record.specs.Reading.{read_of}
use Rattle.fts_jobdoc.specs.Json.{value_of}
use Rattle.fts_standby.specs.Entries.{entry_object, decoded, is_numbered, entry_shown, entry_in, ShownIsRead}
use Rattle.fts_standby.proofs.Prefixes.{none_some, some_is}

-- the value of bytes that show an entry
value_is : (bytes : List ℕ) (value : Data) → is_utf8 bytes ≡ true → read bytes ≡ Some value → value_of bytes ≡ Some value
value_is bytes value utf8 e = ap (λ b. if b then read bytes else None) utf8 ∙ e

-- its number and its text
numbered_as : (body : List ℕ) (count number asked : ℕ) → is_numbered asked (entry_object body count number) ≡ (number == asked)
numbered_as body count number asked = refl

text_is : (body : List ℕ) (count number : ℕ) → option_and_then as_str (get (codes "body") (entry_object body count number)) ≡ Some (encode_lower body)
text_is body count number = refl

-- the digits are those of the entry
digits_are : (body : List ℕ) (entry : Entry) → IsBytes body → read_of body ≡ Some entry → decoded (decode_of (encode_lower body)) ≡ Some body
digits_are body entry bytes e = ap decoded (decode_of-encode_lower body bytes) ∙ ap (λ o. option_map (λ found. body) o) e

shown_is : (body : List ℕ) (entry : Entry) (count number asked : ℕ) → IsBytes body → read_of body ≡ Some entry
    → entry_shown asked (entry_object body count number) ≡ (if number == asked then Some body else None)
shown_is body entry count number asked bytes e = ap (λ o. if number == asked then o else None) (digits_are body entry bytes e)

by_number : (b : Bool) (body found : List ℕ) → (if b then Some body else None) ≡ Some found → (b ≡ true) × (found ≡ body)
by_number true body found e = (refl, sym (some_is body found e))
by_number false body found e = absurd (none_some found e)

pub shown_is_read : ShownIsRead
unfolding entry_in
shown_is_read bytes body entry count number asked utf8 reads are e =
    let value : Data = entry_object body count number in
    let comes : entry_in asked bytes ≡ (if number == asked then Some body else None) =
    ap (λ o. option_and_then (entry_shown asked) o) (value_is bytes value utf8 reads) ∙ shown_is body entry count number asked are e in
    record {
      own = λ same. comes ∙ ap (λ b. if b then Some body else None) (eq-eqb number asked (sym same));
      other = λ found is. let both = by_number (number == asked) body found (sym comes ∙ is) in (sym (eqb-true number asked both.0), both.1);
    }
