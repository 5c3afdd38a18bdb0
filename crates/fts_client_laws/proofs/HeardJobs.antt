-- A body that names a job is read as the job that it names.
use Rattle.std.proofs.Common.{◌++◌, lt-ltb, ◌≡◌, ℕ, zero, suc, ◌^◌, ◌<◌, ◌≤◌, Bool, true, false, cond, List, [], ◌∷◌, Option, Some, None, refl, ap, sym, ◌∙◌, subst, arith, inl}
use Rattle.std.specs.Prelude.{IsUtf8, decimal, ◌&&◌, codes, option_map, option_and_then, All}
use Rattle.std.specs.Str.{is_utf8}
use Rattle.std.specs.Fmt.{digits}
use Rattle.std.specs.Int.{from_be_bytes, to_be_bytes, byte_at, bytes_high_first, w128}
use Rattle.std.specs.List.{AllByRecursion}
use Rattle.std.proofs.lemmas.List.Elements.{All-from_recursion}
use Rattle.json.proofs.Printed.Decimals.{IsNumber-decimal}
use Rattle.serde_json.specs.Data.{Data, string}
use Rattle.serde_json.specs.Read.{read, of_json}
use Rattle.serde_json.specs.Written.{outline, compact_text}
use Rattle.serde_json.specs.Find.{get, as_str}
use Rattle.serde_json.proofs.OnLiterals.{serde_json_on_literals}
use Rattle.uuid.specs.Text.{by_index, hex_digit, nibble, hyphen, is_hyphen_place, digit_place, lower}
use Rattle.uuid.proofs.TextLemmas.{nibble_small}
use Rattle.std.proofs.lemmas.Bool.Decides.{nat_tests}
use Rattle.std.proofs.lemmas.Str.{IsUtf8-append, is_utf8-from_IsUtf8}
use Rattle.json.specs.Print.{quoted}
use Rattle.json.proofs.Printed.Utf8.{IsUtf8-are_ascii, IsUtf8-quoted}
use Rattle.uuid.proofs.RoundTrips.{parses_hyphenated}
use Rattle.uuid.proofs.OrderLemmas.{from_be_bytes-to_be_bytes_16}
use Rattle.fts_routes.specs.Json.{object_of, id_text}
use Rattle.fts_routes.specs.Objects.{accepted_object}
use Rattle.fts_routes.specs.Refusals.{refusal_members, duplicate_members}
use Rattle.fts_laws.specs.Submissions.{submissions}
use Rattle.fts_client.specs.Worlds.{IsBacked}
use Rattle.fts_client.specs.Hearing.{id_spelled, job_named_in, done_by}
use Rattle.fts_tables.specs.declared.commands.Entry.{Entry}
use Rattle.fts_client.proofs.WrittenBack.{read_back}

-- the object of an accepted submission, and that of a refused one, with this text for the id
abbrev accepted_with : List ℕ → Data
accepted_with text = object_of ((codes "job_id", string text) ∷ [])

abbrev duplicate_with : List ℕ → Data
duplicate_with text = object_of ((codes "job_id", string text) ∷ refusal_members (codes "duplicate") 34 409)

accepted_back : (text : List ℕ) → read (compact_text (accepted_with text)) ≡ Some (accepted_with text)
accepted_back text = read_back (accepted_with text) (tt, tt) (omega arith) refl

same_duplicate : (text : List ℕ) → of_json (outline (duplicate_with text)) ≡ Some (duplicate_with text)
unfolding serde_json_on_literals digits
same_duplicate text = refl

duplicate_back : (text : List ℕ) → read (compact_text (duplicate_with text)) ≡ Some (duplicate_with text)
duplicate_back text = read_back (duplicate_with text)
    (tt, (tt, (IsNumber-decimal 34 (omega arith), (IsNumber-decimal 409 (omega arith), tt)))) (omega arith) (same_duplicate text)

-- each byte of a number is one
byte_small : (place number : ℕ) → byte_at place number < 256
byte_small zero number = omega arith
byte_small (suc place) number = omega arith

each_small : (count number : ℕ) → AllByRecursion (λ byte. byte < 256) (bytes_high_first count number)
each_small zero number = tt
each_small (suc count) number = (byte_small count number, each_small count number)

bytes_small : (id : ℕ) → All (λ byte. byte < 256) (to_be_bytes w128 id)
bytes_small id = All-from_recursion (λ byte. byte < 256) (to_be_bytes w128 id) (each_small 16 id)

-- an id is spelled as it is
spelled_id : (id : ℕ) → id < 2 ^ 128 → id_spelled (id_text id) ≡ Some id
spelled_id id small =
    ap (option_map (from_be_bytes w128)) (sym (parses_hyphenated lower (to_be_bytes w128 id) (inl refl) refl (bytes_small id)))
    ∙ ap Some (from_be_bytes-to_be_bytes_16 id small)

-- no job, or this one
abbrev pub IsOnly : ℕ → Option ℕ → Type 0
IsOnly id None = Unit {0}
IsOnly id (Some job) = job ≡ id

only_job : (id : ℕ) → id < 2 ^ 128 → (value : Data) → option_and_then as_str (get (codes "job_id") value) ≡ Some (id_text id)
    → read (compact_text value) ≡ Some value → IsOnly id (job_named_in (compact_text value))
only_job id small value names back = by_utf8 (is_utf8 (compact_text value))
  where
    named : option_and_then id_spelled (option_and_then as_str (option_and_then (get (codes "job_id")) (read (compact_text value)))) ≡ Some id
    named = ap (λ found. option_and_then id_spelled (option_and_then as_str (option_and_then (get (codes "job_id")) found))) back
        ∙ (ap (option_and_then id_spelled) names ∙ spelled_id id small)

    by_utf8 : (answer : Bool) → IsOnly id (option_and_then id_spelled (option_and_then as_str (option_and_then (get (codes "job_id"))
        (cond answer (read (compact_text value)) None))))
    by_utf8 false = tt
    by_utf8 true = subst (λ found. IsOnly id found) (sym named) refl

pub only_accepted : (id : ℕ) → id < 2 ^ 128 → IsOnly id (job_named_in (compact_text (accepted_object id)))
only_accepted id small = only_job id small (accepted_with (id_text id)) refl (accepted_back (id_text id))

pub only_duplicate : (id : ℕ) → id < 2 ^ 128 → IsOnly id (job_named_in (compact_text (object_of (duplicate_members id))))
only_duplicate id small = only_job id small (duplicate_with (id_text id)) refl (duplicate_back (id_text id))

pub backed_by : (id : ℕ) (entries : List Entry) (named : Option ℕ) (again : Bool) → IsOnly id named → 1 ≤ submissions id entries
    → IsBacked id entries (done_by named again)
backed_by id entries None again only some = tt
backed_by id entries (Some job) again only some = (only, some)

-- ---- the bodies are texts, so each of them names its job

hex_ascii : (xs : List ℕ) (k : ℕ) → hex_digit lower (nibble xs k) < 128
hex_ascii xs k = let small = nibble_small xs k in grind (arith, nat_tests, small)

place_ascii : (xs : List ℕ) (k : ℕ) → cond (is_hyphen_place k) hyphen (hex_digit lower (nibble xs (digit_place k))) < 128
place_ascii xs k = by_test (is_hyphen_place k)
  where
    by_test : (answer : Bool) → cond answer hyphen (hex_digit lower (nibble xs (digit_place k))) < 128
    by_test true = omega arith
    by_test false = hex_ascii xs (digit_place k)

one_byte : (byte : ℕ) → byte < 128 → IsUtf8 (byte ∷ [])
one_byte byte small = IsUtf8-are_ascii (byte ∷ []) (ap (λ answer. answer && true) (lt-ltb byte 128 small))

index_utf8 : (count : ℕ) (f : ℕ → ℕ) → ((k : ℕ) → f k < 128) → IsUtf8 (by_index count f)
unfolding by_index
index_utf8 zero f each = IsUtf8-are_ascii [] refl
index_utf8 (suc count) f each = IsUtf8-append (by_index count f) (f count ∷ []) (index_utf8 count f each) (one_byte (f count) (each count))

id_utf8 : (id : ℕ) → IsUtf8 (id_text id)
id_utf8 id = index_utf8 36 (λ k. cond (is_hyphen_place k) hyphen (hex_digit lower (nibble (to_be_bytes w128 id) (digit_place k)))) (place_ascii (to_be_bytes w128 id))

-- a member, and what follows it
member_utf8 : (key : List ℕ) (value more : List ℕ) → IsUtf8 key → IsUtf8 value → IsUtf8 more → IsUtf8 (quoted key ++ 58 ∷ (value ++ more))
member_utf8 key value more one two three =
    IsUtf8-append (quoted key) (58 ∷ (value ++ more)) (IsUtf8-quoted key one)
    (IsUtf8-append (58 ∷ []) (value ++ more) (IsUtf8-are_ascii (58 ∷ []) refl) (IsUtf8-append value more two three))

onto : (byte : ℕ) (more : List ℕ) → byte < 128 → IsUtf8 more → IsUtf8 (byte ∷ more)
onto byte more small is = IsUtf8-append (byte ∷ []) more (one_byte byte small) is

accepted_utf8 : (text : List ℕ) → IsUtf8 text → IsUtf8 (compact_text (accepted_with text))
accepted_utf8 text is = onto 123 _ (omega arith) (member_utf8 (codes "job_id") (quoted text) (125 ∷ []) (IsUtf8-are_ascii (codes "job_id") refl) (IsUtf8-quoted text is)
    (IsUtf8-are_ascii (125 ∷ []) refl))

number_utf8 : (IsUtf8 (decimal 34)) × IsUtf8 (decimal 409)
unfolding digits
number_utf8 = (IsUtf8-are_ascii (decimal 34) refl, IsUtf8-are_ascii (decimal 409) refl)

duplicate_utf8 : (text : List ℕ) → IsUtf8 text → IsUtf8 (compact_text (duplicate_with text))
duplicate_utf8 text is = onto 123 _ (omega arith) (member_utf8 (codes "job_id") (quoted text) _ (IsUtf8-are_ascii (codes "job_id") refl) (IsUtf8-quoted text is)
    (onto 44 _ (omega arith) (member_utf8 (codes "message") (quoted (codes "duplicate")) _ (IsUtf8-are_ascii (codes "message") refl)
    (IsUtf8-quoted (codes "duplicate") (IsUtf8-are_ascii (codes "duplicate") refl))
    (onto 44 _ (omega arith) (member_utf8 (codes "rule") (decimal 34) _ (IsUtf8-are_ascii (codes "rule") refl) number_utf8.0
    (onto 44 _ (omega arith) (member_utf8 (codes "status") (decimal 409) (125 ∷ []) (IsUtf8-are_ascii (codes "status") refl) number_utf8.1
    (IsUtf8-are_ascii (125 ∷ []) refl))))))))

named_job : (id : ℕ) → id < 2 ^ 128 → (value : Data) → option_and_then as_str (get (codes "job_id") value) ≡ Some (id_text id)
    → read (compact_text value) ≡ Some value → IsUtf8 (compact_text value) → job_named_in (compact_text value) ≡ Some id
named_job id small value names back text =
    ap (λ (answer : Bool). option_and_then id_spelled (option_and_then as_str (option_and_then (get (codes "job_id"))
    (cond answer (read (compact_text value)) None)))) (is_utf8-from_IsUtf8 (compact_text value) text)
    ∙ (ap (λ found. option_and_then id_spelled (option_and_then as_str (option_and_then (get (codes "job_id")) found))) back
    ∙ (ap (option_and_then id_spelled) names ∙ spelled_id id small))

pub named_accepted : (id : ℕ) → id < 2 ^ 128 → job_named_in (compact_text (accepted_object id)) ≡ Some id
named_accepted id small = named_job id small (accepted_with (id_text id)) refl (accepted_back (id_text id)) (accepted_utf8 (id_text id) (id_utf8 id))

pub named_duplicate : (id : ℕ) → id < 2 ^ 128 → job_named_in (compact_text (object_of (duplicate_members id))) ≡ Some id
named_duplicate id small = named_job id small (duplicate_with (id_text id)) refl (duplicate_back (id_text id)) (duplicate_utf8 (id_text id) (id_utf8 id))
