-- The body that shows an entry is read back as that object.
use Rattle.std.proofs.Common.{◌≡◌, ℕ, ◌^◌, ◌<◌, true, List, [], ◌∷◌, ◌++◌, Some, refl, arith, decimal}
use Rattle.std.specs.Prelude.{IsUtf8, codes, nat_lt}
use Rattle.std.specs.Str.{is_utf8, IsAscii}
use Rattle.std.proofs.lemmas.Bool.{and_parts, ltb-true}
use Rattle.std.proofs.lemmas.Fmt.{IsAscii-decimal}
use Rattle.std.proofs.lemmas.Str.{IsUtf8-append, IsUtf8-from_ascii, is_utf8-from_IsUtf8}
use Rattle.std.proofs.lemmas.Str.Ascii.{IsAscii-nil, IsAscii-cons}
use Rattle.json.specs.Print.{quoted}
use Rattle.json.proofs.Printed.Decimals.{IsNumber-decimal}
use Rattle.json.proofs.Printed.Utf8.{are_ascii, IsUtf8-are_ascii, IsUtf8-quoted}
use Rattle.hex.specs.Hex.{encode_lower, lower_digits}
use Rattle.hex.proofs.HexLemmas.{IsAscii-encode_with}
use Rattle.serde_json.specs.Data.{Data, string, number, unsigned, object, member, no_members}
use Rattle.serde_json.specs.Read.{read, of_json}
use Rattle.serde_json.specs.Written.{outline, compact_text}
use Rattle.serde_json.proofs.Numbers.{number_of-decimal}
use Rattle.fts_standby.specs.Entries.{entry_object}
use Rattle.fts_client.proofs.WrittenBack.{read_back}

-- the object of an entry, with this text for its bytes
abbrev entry_with : List ℕ → ℕ → ℕ → Data
entry_with text count n =
    object (member (codes "body") (string text) (member (codes "count") (number (unsigned count)) (member (codes "number") (number (unsigned n)) no_members)))

same_entry : (text : List ℕ) (count n : ℕ) → count < 2 ^ 64 → n < 2 ^ 64 → of_json (outline (entry_with text count n)) ≡ Some (entry_with text count n)
same_entry text count n one two = rw (number_of-decimal count one, number_of-decimal n two) refl

pub entry_back : (body : List ℕ) (count n : ℕ) → count < 2 ^ 64 → n < 2 ^ 64 → read (compact_text (entry_object body count n)) ≡ Some (entry_object body count n)
entry_back body count n one two = read_back (entry_with (encode_lower body) count n)
    (tt, (IsNumber-decimal count one, (IsNumber-decimal n two, tt))) (omega arith) (same_entry (encode_lower body) count n one two)

-- ---- and it is a text

ascii_all : (bytes : List ℕ) → are_ascii bytes ≡ true → IsAscii bytes
ascii_all [] is = IsAscii-nil
ascii_all (byte ∷ bytes) is =
    let both = and_parts (nat_lt byte 128) (are_ascii bytes) is in IsAscii-cons byte bytes (ltb-true byte 128 both.0) (ascii_all bytes both.1)

digits_ascii : IsAscii lower_digits
digits_ascii = ascii_all lower_digits refl

onto : (byte : ℕ) (more : List ℕ) → byte < 128 → IsUtf8 more → IsUtf8 (byte ∷ more)
onto byte more small is = IsUtf8-append (byte ∷ []) more (IsUtf8-from_ascii (byte ∷ []) (IsAscii-cons byte [] small IsAscii-nil)) is

-- a member, and what follows it
member_utf8 : (key : List ℕ) (value more : List ℕ) → IsUtf8 key → IsUtf8 value → IsUtf8 more → IsUtf8 (quoted key ++ 58 ∷ (value ++ more))
member_utf8 key value more one two three =
    IsUtf8-append (quoted key) (58 ∷ (value ++ more)) (IsUtf8-quoted key one) (onto 58 (value ++ more) (omega arith) (IsUtf8-append value more two three))

number_utf8 : (n : ℕ) → n < 2 ^ 64 → IsUtf8 (decimal n)
number_utf8 n small = IsUtf8-from_ascii (decimal n) (IsAscii-decimal n small)

text_utf8 : (text : List ℕ) (count n : ℕ) → IsUtf8 text → count < 2 ^ 64 → n < 2 ^ 64 → IsUtf8 (compact_text (entry_with text count n))
text_utf8 text count n is one two = onto 123 _ (omega arith) (member_utf8 (codes "body") (quoted text) _ (IsUtf8-are_ascii (codes "body") refl) (IsUtf8-quoted text is)
    (onto 44 _ (omega arith) (member_utf8 (codes "count") (decimal count) _ (IsUtf8-are_ascii (codes "count") refl) (number_utf8 count one)
    (onto 44 _ (omega arith) (member_utf8 (codes "number") (decimal n) (125 ∷ []) (IsUtf8-are_ascii (codes "number") refl) (number_utf8 n two)
    (IsUtf8-are_ascii (125 ∷ []) refl))))))

pub entry_text : (body : List ℕ) (count n : ℕ) → count < 2 ^ 64 → n < 2 ^ 64 → is_utf8 (compact_text (entry_object body count n)) ≡ true
entry_text body count n one two = is_utf8-from_IsUtf8 (compact_text (entry_object body count n))
    (text_utf8 (encode_lower body) count n
    (IsUtf8-from_ascii (encode_lower body) (IsAscii-encode_with lower_digits body digits_ascii)) one two)
