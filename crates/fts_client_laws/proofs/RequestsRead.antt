-- The bytes of a submission are read as that submission, whatever its document, on each port.
use Rattle.std.proofs.Common.{◌≡◌, ◌≢◌, ℕ, zero, suc, ◌+◌, ◌-◌, ◌^◌, ◌<◌, ◌≤◌, Bool, true, false, cond, List, [], ◌∷◌, ◌++◌, length, take, drop, reverse, Some, None, Ok, codes, refl, ap, ap₂, sym, ◌∙◌, arith, append_assoc, le-leb, eq-eqb, length-append, true≢false}
use Rattle.std.specs.Prelude.{decimal, ◌&&◌, ◌||◌, not, nat_le, bytes_eq, if◌then◌else◌}
use Rattle.std.specs.List.{concat, list_any, list_all, before_first, prefix_len}
use Rattle.std.specs.Str.{is_utf8, chars, all_ascii_digits}
use Rattle.std.specs.Char.{is_ascii_digit}
use Rattle.std.proofs.lemmas.Fmt.{decimal_is_IsNumeral, length-decimal-le, decimal_nonempty}
use Rattle.std.proofs.lemmas.Bool.Decides.{nat_tests}
use Rattle.std.proofs.lemmas.List.{reverse-reverse, drop_at}
use mathlib.Core.List.{reverse_aux}
use Rattle.httparse.specs.Pieces.{is_newline}
use Rattle.httparse.specs.Grammar.{is_ows, is_value_byte, skip_ows, trim_ows, RequestHead, crlf, lf, print_request}
use Rattle.httparse.proofs.OnLiterals.{httparse_on_literals}
use Rattle.fts_wire.specs.RequestData.{HeadData}
use Rattle.fts_wire.specs.Fields.{length_of}
use Rattle.fts_wire.specs.Head.{lines_of, head_lines, request_of, head_if, head_of, is_return, is_request}
use Rattle.fts_wire.specs.Look.{Headed, sight_body, sight_fields, sight_head, sight_lines, sight_by, sight_in, sight_of}
use Rattle.fts_wire.specs.Requests.{next_of, next_by, asks, IsShort, EndsInside, Asks}
use Rattle.fts_wire.proofs.Stable.{next_more}
use Rattle.fts_client.specs.RequestBytes.{submission_bytes}
use Rattle.fts_client.proofs.DigitBytes.{IsDigit, AreDigits, decimal_digits, not_10, each_digit}
use Rattle.fts_client.proofs.OpenRequests.{host_line, close_line, empty_line, open_before}
use Rattle.fts_client_laws.specs.Submitting.{submission_of}

-- a digit is none of the bytes that end something, and no white space
no_newline : (byte : ℕ) → IsDigit byte → is_newline byte ≡ false
no_newline byte is = grind (arith, nat_tests, is.0)

no_space : (byte : ℕ) → IsDigit byte → is_ows byte ≡ false
no_space byte is = grind (arith, nat_tests, is.0)

-- the line that digits end
line_of_digits : (word more : List ℕ) → AreDigits word → lines_of (word ++ 13 ∷ 10 ∷ more) ≡ (word ++ 13 ∷ 10 ∷ []) ∷ lines_of more
line_of_digits [] more are = refl
line_of_digits (byte ∷ word) more are = rw (line_of_digits word more are.1, not_10 byte are.0) refl

-- one byte more is kept
kept_one : (byte count : ℕ) (bytes : List ℕ) → take (1 + count) (byte ∷ bytes) ≡ byte ∷ take count bytes
kept_one byte count bytes = let next : 1 + count ≡ suc count = omega arith in ap (λ (number : ℕ). take number (byte ∷ bytes)) next

-- the text before a line's end
text_of_digits : (word : List ℕ) → AreDigits word → before_first is_newline (word ++ 13 ∷ 10 ∷ []) ≡ word
text_of_digits [] are = refl
text_of_digits (byte ∷ word) are =
    rw (no_newline byte are.0) (kept_one byte (prefix_len (λ x. not (is_newline x)) (word ++ 13 ∷ 10 ∷ [])) (word ++ 13 ∷ 10 ∷ [])
    ∙ ap (λ (rest : List ℕ). byte ∷ rest) (text_of_digits word are.1))

no_newline_ahead : (byte : ℕ) (bytes : List ℕ) → list_all (λ x. not (is_newline x)) (byte ∷ bytes) ≡ true → (is_newline byte ≡ false) × (list_all (λ x. not (is_newline x)) bytes ≡ true)
no_newline_ahead byte bytes is = by_test (is_newline byte) refl is
  where
    by_test : (answer : Bool) → is_newline byte ≡ answer → (not answer && list_all (λ x. not (is_newline x)) bytes) ≡ true
        → (is_newline byte ≡ false) × (list_all (λ x. not (is_newline x)) bytes ≡ true)
    by_test true at is = absurd (true≢false (sym is))
    by_test false at is = (at, is)

-- a value that is given, and digits behind it
text_behind : (front word : List ℕ) → list_all (λ x. not (is_newline x)) front ≡ true → AreDigits word
    → before_first is_newline (front ++ (word ++ 13 ∷ 10 ∷ [])) ≡ front ++ word
text_behind [] word none are = text_of_digits word are
text_behind (byte ∷ front) word none are =
    let ahead = no_newline_ahead byte front none in
    rw (ahead.0) (kept_one byte (prefix_len (λ x. not (is_newline x)) (front ++ (word ++ 13 ∷ 10 ∷ []))) (front ++ (word ++ 13 ∷ 10 ∷ []))
    ∙ ap (λ (rest : List ℕ). byte ∷ rest) (text_behind front word ahead.1 are))

end_of_digits : (word : List ℕ) → list_any is_return (word ++ 13 ∷ 10 ∷ []) ≡ true
end_of_digits [] = refl
end_of_digits (byte ∷ word) = by_test (is_return byte) (end_of_digits word)
  where
    by_test : (answer : Bool) → list_any is_return (word ++ 13 ∷ 10 ∷ []) ≡ true → (answer || list_any is_return (word ++ 13 ∷ 10 ∷ [])) ≡ true
    by_test true behind = refl
    by_test false behind = behind

value_of_digits : (word : List ℕ) → AreDigits word → list_all is_value_byte word ≡ true
value_of_digits word are = each_digit is_value_byte (λ byte is. grind (arith, nat_tests, is.0, is.1)) word are

-- digits stay as they are where white space around them is dropped
digits-append : (one other : List ℕ) → AreDigits one → AreDigits other → AreDigits (one ++ other)
digits-append [] other first second = second
digits-append (byte ∷ one) other first second = (first.0, digits-append one other first.1 second)

not_skipped : (word : List ℕ) → AreDigits word → skip_ows word ≡ word
not_skipped [] are = refl
not_skipped (byte ∷ word) are = rw (no_space byte are.0) refl

digits_onto : (word behind : List ℕ) → AreDigits word → AreDigits behind → AreDigits (reverse_aux word behind)
digits_onto [] behind are too = too
digits_onto (byte ∷ word) behind are too = digits_onto word (byte ∷ behind) are.1 (are.0, too)

digits_back : (word : List ℕ) → AreDigits word → AreDigits (reverse word)
digits_back word are = digits_onto word [] are tt

trimmed : (word : List ℕ) → AreDigits word → trim_ows (32 ∷ word) ≡ word
unfolding trim_ows
trimmed word are =
    ap (λ rest. reverse (skip_ows (reverse rest))) (not_skipped word are)
    ∙ (ap reverse (not_skipped (reverse word) (digits_back word are)) ∙ reverse-reverse word)

-- the lines of a submission's head
abbrev first_line : List ℕ
first_line = codes "POST /jobs HTTP/1.1\r\n"

abbrev length_line : List ℕ → List ℕ
length_line word = codes "Content-Length: " ++ (word ++ 13 ∷ 10 ∷ [])

abbrev five_lines : List ℕ → List ℕ → List (List ℕ)
five_lines port word = first_line ∷ host_line port ∷ length_line word ∷ close_line ∷ empty_line ∷ []

abbrev all_bytes : List ℕ → List ℕ → List ℕ → List ℕ
all_bytes port word more =
    first_line ++ (codes "Host: 127.0.0.1:" ++ (port ++ 13 ∷ 10 ∷ (codes "Content-Length: " ++ (word ++ 13 ∷ 10 ∷ (close_line ++ (empty_line ++ more))))))

lines_here : (port word more : List ℕ) → AreDigits port → AreDigits word → head_lines (lines_of (all_bytes port word more)) ≡ Some (five_lines port word)
lines_here port word more digits are =
    rw (
      line_of_digits port (codes "Content-Length: " ++ (word ++ 13 ∷ 10 ∷ (close_line ++ (empty_line ++ more)))) digits,
      line_of_digits word (close_line ++ (empty_line ++ more)) are,
    ) refl

-- the head that they write
abbrev head_by : List ℕ → Bool → List ℕ → Bool → RequestHead
head_by host is_end raw is_end_too = record {
  blank = [];
  method = codes "POST";
  target = codes "/jobs";
  minor = 1;
  line_end = crlf;
  fields = record { name = codes "Host"; raw = host; end = if is_end then crlf else lf }
      ∷ record { name = codes "Content-Length"; raw = raw; end = if is_end_too then crlf else lf }
      ∷ record { name = codes "Connection"; raw = codes " close"; end = crlf } ∷ [];
  last = crlf;
}

abbrev head_with : List ℕ → List ℕ → RequestHead
head_with port word = head_by (codes " 127.0.0.1:" ++ port) true (32 ∷ word) true

request_here : (port word : List ℕ) → AreDigits port → AreDigits word
    → request_of first_line (host_line port ∷ length_line word ∷ close_line ∷ empty_line ∷ []) ≡ head_with port word
request_here port word digits are =
    ap₂ (λ (host : List ℕ) (is_end : Bool). head_by host is_end (before_first is_newline (32 ∷ (word ++ 13 ∷ 10 ∷ []))) (list_any is_return (word ++ 13 ∷ 10 ∷ [])))
    (text_behind (codes " 127.0.0.1:") port refl digits) (end_of_digits port)
    ∙ ap₂ (head_by (codes " 127.0.0.1:" ++ port) true) (text_behind (codes " ") word refl are) (end_of_digits word)

bytes_same_true : (bytes : List ℕ) → bytes_eq bytes bytes ≡ true
bytes_same_true [] = refl
bytes_same_true (byte ∷ bytes) = rw (eq-eqb byte byte refl) (bytes_same_true bytes)

printed_here : (port word : List ℕ) → print_request (head_with port word) ≡ concat (five_lines port word)
unfolding print_request
printed_here port word = ap (λ (rest : List ℕ). first_line ++ (codes "Host: 127.0.0.1:" ++ rest))
    (append_assoc (port ++ 13 ∷ 10 ∷ []) (codes "Content-Length: " ++ ((word ++ 13 ∷ 10 ∷ []) ++ close_line)) (13 ∷ 10 ∷ [])
    ∙ ap (λ (rest : List ℕ). (port ++ 13 ∷ 10 ∷ []) ++ (codes "Content-Length: " ++ rest)) (append_assoc (word ++ 13 ∷ 10 ∷ []) close_line (13 ∷ 10 ∷ [])))

is_request_here : (port word : List ℕ) → AreDigits port → AreDigits word → is_request (head_with port word) ≡ true
unfolding httparse_on_literals is_utf8 chars lib.Utf8.encode
is_request_here port word digits are = rw (value_of_digits port digits, value_of_digits word are) refl

head_here : (port word : List ℕ) → AreDigits port → AreDigits word → head_of (five_lines port word) ≡ Some (head_with port word)
head_here port word digits are =
    ap (λ (head : RequestHead). head_if head (concat (five_lines port word))) (request_here port word digits are)
    ∙ ap₂ (λ (one two : Bool). cond (one && two) (Some (head_with port word)) None) (is_request_here port word digits are)
    (ap (λ (bytes : List ℕ). bytes_eq bytes (concat (five_lines port word))) (printed_here port word) ∙ bytes_same_true (concat (five_lines port word)))

ascii_digit : (byte : ℕ) → IsDigit byte → is_ascii_digit byte ≡ true
ascii_digit byte is = grind (arith, nat_tests, is.0, is.1)

-- the length of the body
digits_ascii : (word : List ℕ) → AreDigits word → all_ascii_digits word ≡ true
digits_ascii [] are = refl
digits_ascii (byte ∷ word) are = rw (ascii_digit byte are.0) (digits_ascii word are.1)

length_here : (n : ℕ) → n ≤ 1048576 → length_of (decimal n) ≡ Ok n
length_here n few =
    let small : n < 2 ^ 64 = omega (arith, few) in
    let short = length-decimal-le 7 n (omega arith) (omega (arith, few)) small in
    let some = decimal_nonempty n small in
    let value = (decimal_is_IsNumeral n small).1 in
    let one : nat_le 1 (length (decimal n)) ≡ true = le-leb 1 (length (decimal n)) some in
    let two : nat_le (length (decimal n)) 19 ≡ true = le-leb (length (decimal n)) 19 (omega (arith, short)) in
    let three : nat_le n 1048576 ≡ true = le-leb n 1048576 few in
    rw (one, two, digits_ascii (decimal n) (decimal_digits n small), value, three) refl

-- the head as the service sees it
abbrev seen : ℕ → ℕ → HeadData
seen size n = record { before = 0; size = size; body = n; method = codes "POST"; target = codes "/jobs"; close = true }

fields_here : (host : List ℕ) (n size : ℕ) → n ≤ 1048576
    → sight_fields 0 size (codes "POST") (codes "/jobs") 1 ((codes "Host", host) ∷ (codes "Content-Length", decimal n) ∷ (codes "Connection", codes "close") ∷ [])
    ≡ Headed (seen size n)
fields_here host n size few = ap (λ found. sight_body found 0 size (codes "POST") (codes "/jobs") true) (length_here n few)

sight_here : (port n : ℕ) → port < 2 ^ 64 → n ≤ 1048576
    → sight_lines 0 (five_lines (decimal port) (decimal n)) ≡ Headed (seen (length (concat (five_lines (decimal port) (decimal n)))) n)
unfolding trim_ows
sight_here port n small few =
    let are = decimal_digits n (omega (arith, few)) in
    let size = length (concat (five_lines (decimal port) (decimal n))) in
    ap (sight_head 0 (length (concat (five_lines (decimal port) (decimal n))))) (head_here (decimal port) (decimal n) (decimal_digits port small) are)
    ∙ (ap (λ (text : List ℕ). sight_fields 0 (length (concat (five_lines (decimal port) (decimal n)))) (codes "POST") (codes "/jobs") 1
    ((codes "Host", trim_ows (codes " 127.0.0.1:" ++ decimal port)) ∷ (codes "Content-Length", text) ∷ (codes "Connection", codes "close") ∷ []))
    (trimmed (decimal n) are)
    ∙ fields_here (trim_ows (codes " 127.0.0.1:" ++ decimal port)) n (length (concat (five_lines (decimal port) (decimal n)))) few)

-- the bytes
taken_over : (one other : List ℕ) (n : ℕ) → length one ≤ n → take n (one ++ other) ≡ one ++ take (n - length one) other
taken_over [] other n fits = ap (λ (count : ℕ). take count other) (omega arith)
taken_over (byte ∷ one) other zero fits = absurd (omega (arith, fits))
taken_over (byte ∷ one) other (suc n) fits =
    ap (λ (rest : List ℕ). byte ∷ rest) (taken_over one other n (omega (arith, fits))
    ∙ ap (λ (count : ℕ). one ++ take count other) (omega arith))

in_lines : (port word more : List ℕ) → concat (five_lines port word) ++ more ≡ all_bytes port word more
in_lines port word more =
    let tail : List ℕ = close_line ++ (empty_line ++ []) in
    ap (λ (rest : List ℕ). first_line ++ (codes "Host: 127.0.0.1:" ++ rest))
    (append_assoc (port ++ 13 ∷ 10 ∷ []) (codes "Content-Length: " ++ ((word ++ 13 ∷ 10 ∷ []) ++ (close_line ++ (empty_line ++ [])))) more
    ∙ (append_assoc port (13 ∷ 10 ∷ []) (codes "Content-Length: " ++ (((word ++ 13 ∷ 10 ∷ []) ++ (close_line ++ (empty_line ++ []))) ++ more))
    ∙ ap (λ (rest : List ℕ). port ++ 13 ∷ 10 ∷ (codes "Content-Length: " ++ rest))
    (append_assoc (word ++ 13 ∷ 10 ∷ []) (close_line ++ (empty_line ++ [])) more ∙ append_assoc word (13 ∷ 10 ∷ []) ((close_line ++ (empty_line ++ [])) ++ more))))

bytes_shape : (a port b word c document : List ℕ) → ((((a ++ port) ++ b) ++ word) ++ c) ++ document ≡ a ++ (port ++ (b ++ (word ++ (c ++ document))))
bytes_shape a port b word c document = simp append_assoc

in_bytes : (port : ℕ) (document : List ℕ) → submission_bytes port document ≡ all_bytes (decimal port) (decimal (length document)) document
in_bytes port document =
    bytes_shape (codes "POST /jobs HTTP/1.1\r\nHost: 127.0.0.1:") (decimal port) (codes "\r\nContent-Length: ") (decimal (length document))
    (codes "\r\nConnection: close\r\n\r\n") document

-- what the service sees of these bytes
seen_here : (port n : ℕ) (more : List ℕ) → port ≤ 65535 → n ≤ 1048576
    → sight_of (all_bytes (decimal port) (decimal n) more) ≡ Headed (seen (length (concat (five_lines (decimal port) (decimal n)))) n)
seen_here port n more near few =
    let small : port < 2 ^ 64 = omega (arith, near) in
    let are = decimal_digits n (omega (arith, few)) in
    let short = length-decimal-le 7 n (omega arith) (omega (arith, few)) (omega (arith, few)) in
    let short_port = length-decimal-le 7 port (omega arith) (omega (arith, near)) small in
    let long : length (concat (five_lines (decimal port) (decimal n))) ≤ 16384 = own_length (decimal port) (decimal n) short_port short in
    let left : List ℕ = take (16384 - length (concat (five_lines (decimal port) (decimal n)))) more in
    ap sight_in (ap (take 16384) (sym (in_lines (decimal port) (decimal n) more)) ∙ (taken_over (concat (five_lines (decimal port) (decimal n))) more 16384 long
    ∙ in_lines (decimal port) (decimal n) (take (16384 - length (concat (five_lines (decimal port) (decimal n)))) more)))
    ∙ (ap (sight_by 0 (length (all_bytes (decimal port) (decimal n) (take (16384 - length (concat (five_lines (decimal port) (decimal n)))) more))))
    (lines_here (decimal port) (decimal n) (take (16384 - length (concat (five_lines (decimal port) (decimal n)))) more) (decimal_digits port small) are)
    ∙ sight_here port n small few)
  where
    own_length : (port word : List ℕ) → length port ≤ 7 → length word ≤ 7 → length (concat (five_lines port word)) ≤ 16384
    own_length port word short_port short =
        let tail : List ℕ = codes "Content-Length: " ++ ((word ++ 13 ∷ 10 ∷ []) ++ (close_line ++ (empty_line ++ []))) in
        let inner = length-append (word ++ 13 ∷ 10 ∷ []) (close_line ++ (empty_line ++ [])) in
        let outer = length-append word (13 ∷ 10 ∷ []) in
        let host = length-append (port ++ 13 ∷ 10 ∷ []) (codes "Content-Length: " ++ ((word ++ 13 ∷ 10 ∷ []) ++ (close_line ++ (empty_line ++ [])))) in
        let first = length-append port (13 ∷ 10 ∷ []) in
        omega (arith, inner, outer, host, first, short_port, short)

take_whole : (bytes : List ℕ) → take (length bytes) bytes ≡ bytes
take_whole [] = refl
take_whole (byte ∷ bytes) = ap (λ (rest : List ℕ). byte ∷ rest) (take_whole bytes)

dropped_whole : (bytes : List ℕ) → drop (length bytes) bytes ≡ []
dropped_whole [] = refl
dropped_whole (byte ∷ bytes) = dropped_whole bytes

dropped_over : (own document : List ℕ) → drop (0 + length own + length document) (own ++ document) ≡ []
dropped_over own document =
    let sum : 0 + length own + length document ≡ length (own ++ document) = (let joined = length-append own document in omega (arith, joined)) in
    ap (λ (count : ℕ). drop count (own ++ document)) sum ∙ dropped_whole (own ++ document)

dropped_own : (own document : List ℕ) → drop (0 + length own) (own ++ document) ≡ document
dropped_own own document = drop_at own document (0 + length own) (omega arith)

fits_whole : (own document : List ℕ) → nat_le (0 + length own + length document) (length (own ++ document)) ≡ true
fits_whole own document =
    let joined = length-append own document in
    le-leb (0 + length own + length document) (length (own ++ document)) (omega (arith, joined))

-- a request that stands whole in bytes
asked_whole : (own document : List ℕ) → next_by (Headed (seen (length own) (length document))) (own ++ document) ≡ Asks (submission_of document) []
asked_whole own document =
    ap (λ (is : Bool). cond is (asks (seen (length own) (length document)) (own ++ document)) EndsInside) (fits_whole own document)
    ∙ ap₂ (λ (body rest : List ℕ). Asks (record { method = codes "POST"; path = codes "/jobs"; query = None; body = body; close = true }) rest)
    (ap (take (length document)) (dropped_own own document) ∙ take_whole document)
    (dropped_over own document)

-- the bytes of a submission are read as that submission, and nothing is behind it
pub submission_is_read : (port : ℕ) (document : List ℕ) → port ≤ 65535 → length document ≤ 1048576
    → next_of (submission_bytes port document) ≡ Asks (submission_of document) []
submission_is_read port document near few =
    let own : List ℕ = concat (five_lines (decimal port) (decimal (length document))) in
    let same = in_bytes port document ∙ sym (in_lines (decimal port) (decimal (length document)) document) in
    ap next_of same
    ∙ (ap (λ sight. next_by sight (concat (five_lines (decimal port) (decimal (length document))) ++ document))
    (ap sight_of (in_lines (decimal port) (decimal (length document)) document) ∙ seen_here port (length document) document near few)
    ∙ asked_whole (concat (five_lines (decimal port) (decimal (length document)))) document)

-- ---- parts of a submission

-- a part of a submission asks for nothing
pub part_is_open : (port : ℕ) (document part more : List ℕ) → port ≤ 65535 → length document ≤ 1048576 → submission_bytes port document ≡ part ++ more → more ≢ []
    → IsShort part
part_is_open port document part more near few parts some =
    open_before (next_of part) more (next_of (part ++ more)) (submission_of document) (next_more part more)
    (ap next_of (sym parts) ∙ submission_is_read port document near few) some
