-- A head that lines are read as is the one that the grammar has for their bytes.
use Rattle.std.proofs.Common.{◌≡◌, ℕ, zero, suc, ◌+◌, ◌≤◌, Bool, true, false, cond, List, [], ◌∷◌, ◌++◌, length, take, map, Some, None, refl, ap, sym, ◌∙◌, arith, subst, append_assoc, append-nil}
use Rattle.std.specs.Prelude.{◌==◌, ◌&&◌, ◌||◌, not, nat_lt, All, codes, bytes_eq, filter}
use Rattle.std.specs.List.{concat, flat_map, list_any, list_all, before_first, after_first}
use Rattle.std.specs.Str.{is_utf8}
use Rattle.std.proofs.lemmas.Bool.{cond_both, and_from, and_left, and_parts, or_from, or_parts, lt-ltb, ltb-true, true≢false}
use Rattle.std.proofs.lemmas.List.Elements.{All-head, All-tail, All-append, All-cons, All-nil}
use Rattle.std.proofs.lemmas.List.Folds.{list_any-append, list_any_none}
use Rattle.std.proofs.lemmas.List.Sums.{list_all-from_AllPass, AllPass-from_list_all}
use Rattle.std.proofs.lemmas.Slice.Eq.{bytes_eq-Decides}
use Rattle.std.proofs.lemmas.Str.{IsUtf8-from_is_utf8, is_utf8-from_IsUtf8}
use Rattle.httparse.specs.Grammar.{LineEnd, crlf, lf, print_end, print_blank, print_version, is_token, is_token_byte, is_uri_byte, is_value_byte, IsToken, Field, IsField, print_field, print_section, RequestHead, IsRequestHead, print_request, ReadsRequest}
use Rattle.httparse.specs.Pieces.{is_newline, Stops}
use Rattle.httparse.proofs.GrammarLemmas.{print_request-append, cons-append}
use Rattle.fts_wire.specs.Head.{lines_of, is_empty_line, is_space, is_colon, is_return, text_of, end_of, field_of, minor_of, request_of, is_field, is_request, head_if, head_of}
use Rattle.fts_wire.proofs.Cuts.{NoneOf, before_at, after_at, avoids, avoids_newline}
use Rattle.fts_wire.proofs.Feeds.{is_feed, IsLine, AreLines, lines_back}

token_without : (b : ℕ) (xs : List ℕ) → is_token_byte b ≡ false → IsToken xs → NoneOf (λ x. x == b) xs
token_without b xs out t = avoids is_token_byte b xs out t.1

-- what the classes leave out
token_colon : is_token_byte 58 ≡ false
unfolding is_token_byte
token_colon = refl

token_space : is_token_byte 32 ≡ false
unfolding is_token_byte
token_space = refl

token_feed : is_token_byte 10 ≡ false
unfolding is_token_byte
token_feed = refl

token_return : is_token_byte 13 ≡ false
unfolding is_token_byte
token_return = refl

-- the text of a line, whatever its end
text_back : (text : List ℕ) (e : LineEnd) → NoneOf is_newline text → text_of (text ++ print_end e) ≡ text
text_back text crlf none = before_at is_newline text 13 (10 ∷ []) none refl
text_back text lf none = before_at is_newline text 10 [] none refl

-- and that end
end_back : (text : List ℕ) (e : LineEnd) → NoneOf is_return text → end_of (text ++ print_end e) ≡ e
end_back text crlf none =
    ap (λ t. cond t crlf lf) (list_any-append is_return text (13 ∷ 10 ∷ []) ∙ ap (λ t. t || true) (list_any_none is_return text none))
end_back text lf none =
    ap (λ t. cond t crlf lf) (list_any-append is_return text (10 ∷ []) ∙ ap (λ t. t || false) (list_any_none is_return text none))

-- a text without a line feed or CR, and an end, are a line
end_line : (text : List ℕ) (e : LineEnd) → NoneOf is_feed text → IsLine (text ++ print_end e)
end_line text crlf none = record {
  text = text ++ 13 ∷ [];
  none = All-append (λ x. is_feed x ≡ false) text (13 ∷ []) none (All-cons (λ x. is_feed x ≡ false) 13 [] refl (All-nil (λ x. is_feed x ≡ false)));
  is = sym (append_assoc text (13 ∷ []) (10 ∷ []));
}
end_line text lf none = record { text = text; none = none; is = refl }

none_join : (p : ℕ → Bool) (xs : List ℕ) (b : ℕ) (ys : List ℕ) → NoneOf p xs → p b ≡ false → NoneOf p ys → NoneOf p (xs ++ b ∷ ys)
none_join p xs b ys left here right = All-append (λ x. p x ≡ false) xs (b ∷ ys) left (All-cons (λ x. p x ≡ false) b ys here right)

-- a field line: the text of a field, and its end
field_text : Field → List ℕ
field_text f = f.name ++ 58 ∷ f.raw

field_line : (f : Field) → print_field f ≡ field_text f ++ print_end f.end
unfolding field_text
field_line f = refl

field_none : (p : ℕ → Bool) (f : Field) → NoneOf p f.name → p 58 ≡ false → NoneOf p f.raw → NoneOf p (field_text f)
unfolding field_text
field_none p f name colon raw = none_join p f.name 58 f.raw name colon raw

field_is_line : (f : Field) → IsField f → IsLine (print_field f)
field_is_line f x = subst IsLine (sym (field_line f))
    (end_line (field_text f) f.end (field_none is_feed f (token_without 10 f.name token_feed x.name) refl (avoids is_value_byte 10 f.raw refl x.raw)))

after_colon : (f : Field) → IsField f → after_first is_colon (print_field f) ≡ f.raw ++ print_end f.end
after_colon f x = ap (after_first is_colon) (append_assoc f.name (58 ∷ f.raw) (print_end f.end))
    ∙ after_at is_colon f.name 58 (f.raw ++ print_end f.end) (token_without 58 f.name token_colon x.name) refl

before_colon : (f : Field) → IsField f → before_first is_colon (print_field f) ≡ f.name
before_colon f x = ap (before_first is_colon) (append_assoc f.name (58 ∷ f.raw) (print_end f.end))
    ∙ before_at is_colon f.name 58 (f.raw ++ print_end f.end) (token_without 58 f.name token_colon x.name) refl

field_end : (f : Field) → IsField f → end_of (print_field f) ≡ f.end
field_end f x = ap end_of (field_line f)
    ∙ end_back (field_text f) f.end (field_none is_return f (token_without 13 f.name token_return x.name) refl (avoids is_value_byte 13 f.raw refl x.raw))

-- a field is read off its line
field_back : (f : Field) → IsField f → field_of (print_field f) ≡ f
field_back f x =
    let name = before_colon f x in
    let raw : text_of (after_first is_colon (print_field f)) ≡ f.raw =
    ap text_of (after_colon f x) ∙ text_back f.raw f.end (avoids_newline is_value_byte f.raw refl refl x.raw) in
    let end = field_end f x in
    λ i. record { name = name i; raw = raw i; end = end i }

-- a line that begins with a token is not empty
not_empty : (name rest : List ℕ) → IsToken name → is_empty_line (name ++ rest) ≡ false
not_empty [] rest t = absurd (omega (arith, t.0))
not_empty (b ∷ name) rest t =
    let feed = token_without 10 (b ∷ name) token_feed t 0 0 (omega arith) in
    let return = token_without 13 (b ∷ name) token_return t 0 0 (omega arith) in
    or_from (bytes_eq (b ∷ (name ++ rest)) (10 ∷ [])) (bytes_eq (b ∷ (name ++ rest)) (13 ∷ 10 ∷ []))
    (and_left (b == 10) (bytes_eq (name ++ rest) []) feed) (and_left (b == 13) (bytes_eq (name ++ rest) (10 ∷ [])) return)

field_not_empty : (f : Field) → IsField f → is_empty_line (print_field f) ≡ false
field_not_empty f x = ap is_empty_line (append_assoc f.name (58 ∷ f.raw) (print_end f.end)) ∙ not_empty f.name ((58 ∷ f.raw) ++ print_end f.end) x.name

-- the lines behind the first
abbrev other_lines : List Field → LineEnd → List (List ℕ)
other_lines [] last = print_end last ∷ []
other_lines (f ∷ fields) last = print_field f ∷ other_lines fields last

others_concat : (fields : List Field) (last : LineEnd) → concat (other_lines fields last) ≡ print_section fields last
others_concat [] last = append-nil (print_end last)
others_concat (f ∷ fields) last =
    ap (λ xs. print_field f ++ xs) (others_concat fields last) ∙ sym (append_assoc (print_field f) (flat_map print_field fields) (print_end last))

others_are : (fields : List Field) (last : LineEnd) → All IsField fields → AreLines (other_lines fields last)
others_are [] last all = (end_line [] last (All-nil (λ x. is_feed x ≡ false)), tt)
others_are (f ∷ fields) last all = (field_is_line f (All-head IsField f fields all), others_are fields last (All-tail IsField f fields all))

-- which are fields
others_fields : (fields : List Field) (last : LineEnd) → All IsField fields
    → map field_of (filter (λ line. not (is_empty_line line)) (other_lines fields last)) ≡ fields
others_fields [] crlf all = refl
others_fields [] lf all = refl
others_fields (f ∷ fields) last all =
    let here = All-head IsField f fields all in
    let lines = other_lines fields last in
    ap (λ t. map field_of (cond (not t) (print_field f ∷ filter (λ line. not (is_empty_line line)) lines) (filter (λ line. not
    (is_empty_line line)) lines))) (field_not_empty f here)
    ∙ ap (λ g. g ∷ map field_of (filter (λ line. not (is_empty_line line)) lines)) (field_back f here)
    ∙ ap (λ fs. f ∷ fs) (others_fields fields last (All-tail IsField f fields all))

-- and which is empty
others_last : (fields : List Field) (last : LineEnd) → All IsField fields → end_of (concat (filter is_empty_line (other_lines fields last))) ≡ last
others_last [] crlf all = refl
others_last [] lf all = refl
others_last (f ∷ fields) last all =
    let lines = other_lines fields last in
    ap (λ t. end_of (concat (cond t (print_field f ∷ filter is_empty_line lines) (filter is_empty_line lines)))) (field_not_empty f
    (All-head IsField f fields all))
    ∙ others_last fields last (All-tail IsField f fields all)

-- the first line: its text, and its end
abbrev version_text : ℕ → LineEnd → List ℕ
version_text minor e = print_version minor ++ print_end e

abbrev first_line : RequestHead → List ℕ
first_line h = h.method ++ 32 ∷ (h.target ++ 32 ∷ version_text h.minor h.line_end)

minor_back : (minor : ℕ) (e : LineEnd) → minor ≤ 1 → minor_of (version_text minor e) ≡ minor
minor_back zero crlf few = refl
minor_back zero lf few = refl
minor_back (suc zero) crlf few = refl
minor_back (suc zero) lf few = refl
minor_back (suc (suc n)) e few = absurd (omega (arith, few))

version_none : (p : ℕ → Bool) (minor : ℕ) → minor ≤ 1 → list_any p (print_version 0) ≡ false → list_any p (print_version 1) ≡ false
    → list_any p (print_version minor) ≡ false
version_none p zero few zero_none one_none = zero_none
version_none p (suc zero) few zero_none one_none = one_none
version_none p (suc (suc n)) few zero_none one_none = absurd (omega (arith, few))

-- a list that has no such byte, by the test
pub none_from_any : (p : ℕ → Bool) (xs : List ℕ) → list_any p xs ≡ false → NoneOf p xs
none_from_any p [] e = All-nil (λ x. p x ≡ false)
none_from_any p (b ∷ xs) e =
    let parts = or_parts (p b) (list_any p xs) e in
    All-cons (λ x. p x ≡ false) b xs parts.0 (none_from_any p xs parts.1)

-- the text of the first line
abbrev first_text : RequestHead → List ℕ
first_text h = h.method ++ 32 ∷ (h.target ++ 32 ∷ print_version h.minor)

first_cut : (h : RequestHead) → first_line h ≡ first_text h ++ print_end h.line_end
first_cut h = regroup h.method h.target (print_version h.minor) (print_end h.line_end)
  where
    regroup : (a b c e : List ℕ) → a ++ 32 ∷ (b ++ 32 ∷ (c ++ e)) ≡ (a ++ 32 ∷ (b ++ 32 ∷ c)) ++ e
    regroup a b c e = simp (append_assoc, cons-append) refl

first_none : (p : ℕ → Bool) (h : RequestHead) → NoneOf p h.method → p 32 ≡ false → NoneOf p h.target → NoneOf p (print_version h.minor)
    → NoneOf p (first_text h)
first_none p h method space target version =
    none_join p h.method 32 (h.target ++ 32 ∷ print_version h.minor) method space (none_join p h.target 32 (print_version h.minor) target space version)

first_is_line : (h : RequestHead) → IsRequestHead h → IsLine (first_line h)
first_is_line h x = subst IsLine (sym (first_cut h)) (end_line (first_text h) h.line_end
    (first_none is_feed h (token_without 10 h.method token_feed x.method) refl (avoids is_uri_byte 10 h.target refl x.target.1)
    (none_from_any is_feed (print_version h.minor) (version_none is_feed h.minor x.minor refl refl))))

first_end : (h : RequestHead) → IsRequestHead h → end_of (first_line h) ≡ h.line_end
first_end h x = ap end_of (first_cut h) ∙ end_back (first_text h) h.line_end
    (first_none is_return h (token_without 13 h.method token_return x.method) refl (avoids is_uri_byte 13 h.target refl x.target.1)
    (none_from_any is_return (print_version h.minor) (version_none is_return h.minor x.minor refl refl)))

-- the head is read off its lines
request_back : (h : RequestHead) → IsRequestHead h → h.blank ≡ [] → request_of (first_line h) (other_lines h.fields h.last) ≡ h
request_back h x blank =
    let version = version_text h.minor h.line_end in
    let rest = h.target ++ 32 ∷ version in
    let no_space = token_without 32 h.method token_space x.method in
    let no_space_2 = avoids is_uri_byte 32 h.target refl x.target.1 in
    let method : before_first is_space (first_line h) ≡ h.method = before_at is_space h.method 32 rest no_space refl in
    let behind : after_first is_space (first_line h) ≡ rest = after_at is_space h.method 32 rest no_space refl in
    let target : before_first is_space (after_first is_space (first_line h)) ≡ h.target =
    ap (before_first is_space) behind ∙ before_at is_space h.target 32 version no_space_2 refl in
    let minor : minor_of (after_first is_space (after_first is_space (first_line h))) ≡ h.minor =
    ap (λ xs. minor_of (after_first is_space xs)) behind ∙ ap minor_of (after_at is_space h.target 32 version no_space_2 refl)
    ∙ minor_back h.minor h.line_end x.minor in
    let line_end = first_end h x in
    let fields = others_fields h.fields h.last x.fields in
    let last = others_last h.fields h.last x.fields in
    λ i. record { blank = sym blank i; method = method i; target = target i; minor = minor i; line_end = line_end i; fields = fields i; last = last i }

-- the lines of a head
abbrev lines_printed : RequestHead → List (List ℕ)
lines_printed h = first_line h ∷ other_lines h.fields h.last

printed_concat : (h : RequestHead) → h.blank ≡ [] → concat (lines_printed h) ≡ print_request h
printed_concat h blank =
    let section = print_section h.fields h.last in
    ap (λ xs. first_line h ++ xs) (others_concat h.fields h.last)
    ∙ regroup h.method h.target (print_version h.minor) (print_end h.line_end) section
    ∙ ap (λ ends. print_blank ends ++ (h.method ++ 32 ∷ (h.target ++ 32 ∷ (print_version h.minor ++ (print_end h.line_end ++ (section ++ [])))))) (sym blank)
    ∙ sym (print_request-append h []) ∙ append-nil (print_request h)
  where
    regroup : (a b c d e : List ℕ) → (a ++ 32 ∷ (b ++ 32 ∷ (c ++ d))) ++ e ≡ a ++ (32 ∷ (b ++ (32 ∷ (c ++ (d ++ (e ++ []))))))
    regroup a b c d e = simp (append_assoc, append-nil) refl

field_passes : (f : Field) → IsField f → is_field f ≡ true
field_passes f x = and_from (is_token f.name) (list_all is_value_byte f.raw) (token_passes f.name x.name) (list_all-from_AllPass is_value_byte f.raw x.raw)
  where
    token_passes : (name : List ℕ) → IsToken name → is_token name ≡ true
    token_passes name t = and_from (nat_lt 0 (length name)) (list_all is_token_byte name) (lt-ltb 0 (length name) t.0)
        (list_all-from_AllPass is_token_byte name t.1)

fields_pass : (fields : List Field) → All IsField fields → list_all is_field fields ≡ true
fields_pass [] all = refl
fields_pass (f ∷ fields) all =
    and_from (is_field f) (list_all is_field fields) (field_passes f (All-head IsField f fields all)) (fields_pass fields (All-tail IsField f fields all))

request_passes : (h : RequestHead) → IsRequestHead h → is_request h ≡ true
request_passes h x =
    let token = and_from (nat_lt 0 (length h.method)) (list_all is_token_byte h.method) (lt-ltb 0 (length h.method) x.method.0)
    (list_all-from_AllPass is_token_byte h.method x.method.1) in
    let uri = list_all-from_AllPass is_uri_byte h.target x.target.1 in
    let text = and_from (is_utf8 h.target) (list_all is_field h.fields) (is_utf8-from_IsUtf8 h.target x.target_text) (fields_pass h.fields x.fields) in
    let rest = and_from (list_all is_uri_byte h.target) (is_utf8 h.target && list_all is_field h.fields) uri text in
    and_from (is_token h.method) (nat_lt 0 (length h.target) && (list_all is_uri_byte h.target && (is_utf8 h.target && list_all is_field h.fields))) token
    (and_from (nat_lt 0 (length h.target)) (list_all is_uri_byte h.target && (is_utf8 h.target && list_all is_field h.fields)) (lt-ltb 0
    (length h.target) x.target.0) rest)

-- bytes that begin with another byte than CR and LF have no blank lines
no_blank : (h : RequestHead) (bytes : List ℕ) → Stops is_newline bytes → bytes ≡ print_request h → h.blank ≡ []
no_blank h bytes stops e = blank_if h.blank (subst (Stops is_newline) (e ∙ sym (append-nil (print_request h)) ∙ print_request-append h []) stops)
  where
    blank_if : (ends : List LineEnd) → Stops is_newline (print_blank ends
        ++ (h.method ++ 32 ∷ (h.target ++ 32 ∷ (print_version h.minor ++ (print_end h.line_end ++ (print_section h.fields h.last ++ [])))))) → ends ≡ []
    blank_if [] s = refl
    blank_if (crlf ∷ ends) s = absurd (true≢false s)
    blank_if (lf ∷ ends) s = absurd (true≢false s)

-- the lines of a head's bytes
lines_read : (bytes : List ℕ) (h : RequestHead) → Stops is_newline bytes → ReadsRequest bytes h [] → lines_of bytes ≡ lines_printed h
lines_read bytes h stops reads =
    let printed : bytes ≡ print_request h = reads.1 ∙ append-nil (print_request h) in
    let blank = no_blank h bytes stops printed in
    ap lines_of (printed ∙ sym (printed_concat h blank) ∙ sym (append-nil (concat (lines_printed h))))
    ∙ lines_back (lines_printed h) [] (first_is_line h reads.0, others_are h.fields h.last reads.0.fields) ∙ append-nil (lines_printed h)

others_count : (fields : List Field) (last : LineEnd) → length (other_lines fields last) ≡ length fields + 1
others_count [] last = refl
others_count (f ∷ fields) last = omega (arith, others_count fields last)

-- a head has two lines more than fields
pub head_count : (bytes : List ℕ) (h : RequestHead) → Stops is_newline bytes → ReadsRequest bytes h [] → length (lines_of bytes) ≡ length h.fields + 2
head_count bytes h stops reads = ap length (lines_read bytes h stops reads) ∙ omega (arith, others_count h.fields h.last)

-- Every head of the grammar is read.
pub head_complete : (bytes : List ℕ) (h : RequestHead) → Stops is_newline bytes → ReadsRequest bytes h [] → head_of (lines_of bytes) ≡ Some h
head_complete bytes h stops reads =
    let blank = no_blank h bytes stops (reads.1 ∙ append-nil (print_request h)) in
    ap head_of (lines_read bytes h stops reads) ∙ ap (λ k. head_if k (concat (lines_printed h))) (request_back h reads.0 blank)
    ∙ ap (head_if h) (printed_concat h blank)
    ∙ ap (λ t. cond t (Some h) None) (and_from (is_request h) (bytes_eq (print_request h) (print_request h)) (request_passes h reads.0)
    ((bytes_eq-Decides (print_request h) (print_request h)).1 refl))

minor_few : (version : List ℕ) → minor_of version ≤ 1
minor_few version = cond_both (bytes_eq (take 8 version) (codes "HTTP/1.1")) 1 0 (λ n. n ≤ 1) (λ e. omega arith) (λ e. omega arith)

token_from : (name : List ℕ) → is_token name ≡ true → IsToken name
token_from name e =
    let parts = and_parts (nat_lt 0 (length name)) (list_all is_token_byte name) e in
    (ltb-true 0 (length name) parts.0, AllPass-from_list_all is_token_byte name parts.1)

fields_from : (fields : List Field) → list_all is_field fields ≡ true → All IsField fields
fields_from [] e = All-nil IsField
fields_from (f ∷ fields) e =
    let parts = and_parts (is_field f) (list_all is_field fields) e in
    let here = and_parts (is_token f.name) (list_all is_value_byte f.raw) parts.0 in
    All-cons IsField f fields (record { name = token_from f.name here.0; raw = AllPass-from_list_all is_value_byte f.raw here.1 }) (fields_from fields parts.1)

request_from : (h : RequestHead) → h.minor ≤ 1 → is_request h ≡ true → IsRequestHead h
request_from h minor e =
    let text = is_utf8 h.target && list_all is_field h.fields in
    let a = and_parts (is_token h.method) (nat_lt 0 (length h.target) && (list_all is_uri_byte h.target && text)) e in
    let b = and_parts (nat_lt 0 (length h.target)) (list_all is_uri_byte h.target && text) a.1 in
    let c = and_parts (list_all is_uri_byte h.target) text b.1 in
    let d = and_parts (is_utf8 h.target) (list_all is_field h.fields) c.1 in record {
      method = token_from h.method a.0;
      target = (ltb-true 0 (length h.target) b.0, AllPass-from_list_all is_uri_byte h.target c.0);
      target_text = IsUtf8-from_is_utf8 h.target d.0;
      minor = minor;
      fields = fields_from h.fields d.1;
    }

read_if : (bytes : List ℕ) (k h : RequestHead) → k.minor ≤ 1 → head_if k bytes ≡ Some h → ReadsRequest bytes h []
read_if bytes k h minor = by (is_request k && bytes_eq (print_request k) bytes) refl
  where
    by : (t : Bool) → (is_request k && bytes_eq (print_request k) bytes) ≡ t → cond t (Some k) None ≡ Some h → ReadsRequest bytes h []
    by true e same =
        let parts = and_parts (is_request k) (bytes_eq (print_request k) bytes) e in
        let printed = (bytes_eq-Decides (print_request k) bytes).0 parts.1 in
        let one : k ≡ h = cc same in
        subst (λ (g : RequestHead). ReadsRequest bytes g []) one (request_from k minor parts.0, sym printed ∙ sym (append-nil (print_request k)))
    by false e same = absurd (cc same)

-- Every head that is read is one of the grammar, whole.
pub head_sound : (lines : List (List ℕ)) (h : RequestHead) → head_of lines ≡ Some h → ReadsRequest (concat lines) h []
head_sound [] h e = absurd (cc e)
head_sound (first ∷ others) h e =
    read_if (concat (first ∷ others)) (request_of first others) h (minor_few (after_first is_space (after_first is_space first))) e
