-- The bytes of the request for an entry are read as that request, for each number and on each port.
use Rattle.std.proofs.Common.{◌≡◌, ◌≢◌, ℕ, zero, suc, ◌+◌, ◌^◌, ◌<◌, ◌≤◌, Bool, true, false, cond, List, [], ◌∷◌, ◌++◌, length, take, drop, Some, None, codes, refl, ap, ap₂, sym, ◌∙◌, arith, append_assoc, le-leb, eq-eqb, length-append, true≢false, lt-ltb}
use Rattle.std.specs.Prelude.{decimal, ◌&&◌, ◌||◌, not, nat_lt, bytes_eq, if◌then◌else◌}
use Rattle.std.specs.List.{concat, list_any, list_all, before_first, after_first, position_or_len}
use Rattle.std.specs.Str.{is_utf8}
use Rattle.std.proofs.lemmas.Fmt.{IsAscii-decimal, length-decimal-le}
use Rattle.std.proofs.lemmas.Str.{IsUtf8-append, IsUtf8-from_ascii, is_utf8-from_IsUtf8}
use Rattle.std.proofs.lemmas.Bool.Decides.{nat_tests}
use Rattle.std.proofs.lemmas.List.{drop_at}
use Rattle.json.proofs.Printed.Utf8.{IsUtf8-are_ascii}
use Rattle.httparse.specs.Pieces.{is_newline}
use Rattle.httparse.specs.Grammar.{is_value_byte, is_uri_byte, trim_ows, RequestHead, crlf, lf, print_request}
use Rattle.httparse.proofs.OnLiterals.{httparse_on_literals}
use Rattle.fts_wire.specs.RequestData.{HeadData, is_question, path_of, query_of}
use Rattle.fts_wire.specs.Head.{lines_of, head_lines, minor_of, request_of, head_if, head_of, is_return, is_space, is_request}
use Rattle.fts_wire.specs.Look.{Headed, sight_head, sight_lines, sight_by, sight_in, sight_of}
use Rattle.fts_wire.specs.Requests.{next_of, next_by, asks, IsShort, EndsInside, Asks}
use Rattle.fts_wire.proofs.Stable.{next_more}
use Rattle.fts_client.proofs.DigitBytes.{IsDigit, AreDigits, decimal_digits, not_10, each_digit}
use Rattle.fts_client.proofs.OpenRequests.{host_line, close_line, empty_line, open_before}
use Rattle.fts_standby.specs.Asking.{request_bytes}
use Rattle.fts_standby_laws.specs.Serving.{request_for}

-- ---- bytes before one that ends them

-- none of these bytes passes a test
abbrev none_passes : (ℕ → Bool) → List ℕ → Bool
none_passes test bytes = list_all (λ x. not (test x)) bytes

none_ahead : (test : ℕ → Bool) (byte : ℕ) (bytes : List ℕ) → none_passes test (byte ∷ bytes) ≡ true → (test byte ≡ false) × (none_passes test bytes ≡ true)
none_ahead test byte bytes is = by_test (test byte) refl is
  where
    by_test : (answer : Bool) → test byte ≡ answer → (not answer && none_passes test bytes) ≡ true → (test byte ≡ false) × (none_passes test bytes ≡ true)
    by_test true at is = absurd (true≢false (sym is))
    by_test false at is = (at, is)

-- where the first one that passes stands behind them
place_behind : (test : ℕ → Bool) (front : List ℕ) (stop : ℕ) (more : List ℕ) → none_passes test front ≡ true → test stop ≡ true
    → position_or_len test (front ++ stop ∷ more) ≡ length front
place_behind test [] stop more none is = rw is refl
place_behind test (byte ∷ front) stop more none is =
    let ahead = none_ahead test byte front none in
    let behind = place_behind test front stop more ahead.1 is in
    rw (ahead.0) (let next : 1 + position_or_len test (front ++ stop ∷ more) ≡ suc (length front) = omega (arith, behind) in next)

place_none : (test : ℕ → Bool) (front : List ℕ) → none_passes test front ≡ true → position_or_len test front ≡ length front
place_none test [] none = refl
place_none test (byte ∷ front) none =
    let ahead = none_ahead test byte front none in
    let behind = place_none test front ahead.1 in
    rw (ahead.0) (let next : 1 + position_or_len test front ≡ suc (length front) = omega (arith, behind) in next)

take_own : (front more : List ℕ) → take (length front) (front ++ more) ≡ front
take_own [] more = refl
take_own (byte ∷ front) more = ap (λ (rest : List ℕ). byte ∷ rest) (take_own front more)

before_behind : (test : ℕ → Bool) (front : List ℕ) (stop : ℕ) (more : List ℕ) → none_passes test front ≡ true → test stop ≡ true
    → before_first test (front ++ stop ∷ more) ≡ front
before_behind test front stop more none is =
    ap (λ (count : ℕ). take count (front ++ stop ∷ more)) (place_behind test front stop more none is) ∙ take_own front (stop ∷ more)

after_behind : (test : ℕ → Bool) (front : List ℕ) (stop : ℕ) (more : List ℕ) → none_passes test front ≡ true → test stop ≡ true
    → after_first test (front ++ stop ∷ more) ≡ more
after_behind test front stop more none is =
    ap (λ (count : ℕ). drop (count + 1) (front ++ stop ∷ more)) (place_behind test front stop more none is) ∙ drop_next front stop more
  where
    drop_next : (front : List ℕ) (stop : ℕ) (more : List ℕ) → drop (length front + 1) (front ++ stop ∷ more) ≡ more
    drop_next front stop more =
        ap (λ (bytes : List ℕ). drop (length front + 1) bytes) (sym (append_assoc front (stop ∷ []) more))
        ∙ drop_at (front ++ stop ∷ []) more (length front + 1) (let joined = length-append front (stop ∷ []) in omega (arith, joined))

-- a test that passes behind some bytes
any_behind : (test : ℕ → Bool) (front more : List ℕ) → list_any test more ≡ true → list_any test (front ++ more) ≡ true
any_behind test [] more is = is
any_behind test (byte ∷ front) more is = by_test (test byte) (any_behind test front more is)
  where
    by_test : (answer : Bool) → list_any test (front ++ more) ≡ true → (answer || list_any test (front ++ more)) ≡ true
    by_test true behind = refl
    by_test false behind = behind

-- ---- digits among them

-- a test that passes no digit passes none of a word of digits
no_digit : (test : ℕ → Bool) → ((byte : ℕ) → IsDigit byte → test byte ≡ false) → (word : List ℕ) → AreDigits word → none_passes test word ≡ true
no_digit test each [] are = refl
no_digit test each (byte ∷ word) are = rw (each byte are.0) (no_digit test each word are.1)

not_newline : (byte : ℕ) → IsDigit byte → is_newline byte ≡ false
not_newline byte is = grind (arith, nat_tests, is.0)

not_blank : (byte : ℕ) → IsDigit byte → is_space byte ≡ false
not_blank byte is = grind (arith, nat_tests, is.0)

not_question : (byte : ℕ) → IsDigit byte → is_question byte ≡ false
not_question byte is = grind (arith, nat_tests, is.1)

value_byte : (byte : ℕ) → IsDigit byte → is_value_byte byte ≡ true
value_byte byte is = grind (arith, nat_tests, is.0, is.1)

uri_byte : (byte : ℕ) → IsDigit byte → is_uri_byte byte ≡ true
uri_byte byte is = grind (arith, nat_tests, is.0, is.1)

-- ---- the lines of the head

abbrev target_of : List ℕ → List ℕ
target_of word = codes "/journal/" ++ word

abbrev first_line : List ℕ → List ℕ
first_line word = codes "GET /journal/" ++ (word ++ codes " HTTP/1.1\r\n")

abbrev four_lines : List ℕ → List ℕ → List (List ℕ)
four_lines word port = first_line word ∷ host_line port ∷ close_line ∷ empty_line ∷ []

abbrev all_bytes : List ℕ → List ℕ → List ℕ
all_bytes word port = codes "GET /journal/" ++ (word ++ (codes " HTTP/1.1\r\nHost: 127.0.0.1:" ++ (port ++ 13 ∷ 10 ∷ (close_line ++ empty_line))))

-- digits before a line belong to it
onto_word : (word more first : List ℕ) (lines : List (List ℕ)) → lines_of more ≡ first ∷ lines → AreDigits word → lines_of (word ++ more) ≡ (word ++ first) ∷ lines
onto_word [] more first lines is are = is
onto_word (byte ∷ word) more first lines is are = rw (onto_word word more first lines is are.1, not_10 byte are.0) refl

port_lines : (port : List ℕ) → AreDigits port
    → lines_of (port ++ 13 ∷ 10 ∷ (close_line ++ empty_line)) ≡ (port ++ 13 ∷ 10 ∷ []) ∷ close_line ∷ empty_line ∷ []
port_lines port digits = onto_word port (13 ∷ 10 ∷ (close_line ++ empty_line)) (13 ∷ 10 ∷ []) (close_line ∷ empty_line ∷ []) refl digits

word_lines : (word port : List ℕ) → AreDigits word → AreDigits port
    → lines_of (word ++ (codes " HTTP/1.1\r\nHost: 127.0.0.1:" ++ (port ++ 13 ∷ 10 ∷ (close_line ++ empty_line))))
    ≡ (word ++ codes " HTTP/1.1\r\n") ∷ host_line port ∷ close_line ∷ empty_line ∷ []
word_lines word port are digits =
    onto_word word (codes " HTTP/1.1\r\nHost: 127.0.0.1:" ++ (port ++ 13 ∷ 10 ∷ (close_line ++ empty_line))) (codes " HTTP/1.1\r\n")
    (host_line port ∷ close_line ∷ empty_line ∷ []) (rw (port_lines port digits) refl) are

lines_here : (word port : List ℕ) → AreDigits word → AreDigits port → head_lines (lines_of (all_bytes word port)) ≡ Some (four_lines word port)
lines_here word port are digits = rw (word_lines word port are digits) refl

-- ---- the head that they write

abbrev head_by : List ℕ → Bool → List ℕ → Bool → RequestHead
head_by target is_end host is_end_too = record {
  blank = [];
  method = codes "GET";
  target = target;
  minor = 1;
  line_end = if is_end then crlf else lf;
  fields = record { name = codes "Host"; raw = host; end = if is_end_too then crlf else lf } ∷ record { name = codes "Connection"; raw = codes " close"; end = crlf } ∷ [];
  last = crlf;
}

abbrev head_with : List ℕ → List ℕ → RequestHead
head_with word port = head_by (target_of word) true (codes " 127.0.0.1:" ++ port) true

target_here : (word : List ℕ) → AreDigits word → before_first is_space (target_of word ++ codes " HTTP/1.1\r\n") ≡ target_of word
target_here word are = before_behind is_space (target_of word) 32 (codes "HTTP/1.1\r\n") (no_digit is_space not_blank word are) refl

version_here : (word : List ℕ) → AreDigits word → after_first is_space (target_of word ++ codes " HTTP/1.1\r\n") ≡ codes "HTTP/1.1\r\n"
version_here word are = after_behind is_space (target_of word) 32 (codes "HTTP/1.1\r\n") (no_digit is_space not_blank word are) refl

host_here : (port : List ℕ) → AreDigits port → before_first is_newline (codes " 127.0.0.1:" ++ (port ++ 13 ∷ 10 ∷ [])) ≡ codes " 127.0.0.1:" ++ port
host_here port digits = before_behind is_newline (codes " 127.0.0.1:" ++ port) 13 (10 ∷ []) (no_digit is_newline not_newline port digits) refl

request_here : (word port : List ℕ) → AreDigits word → AreDigits port
    → request_of (first_line word) (host_line port ∷ close_line ∷ empty_line ∷ []) ≡ head_with word port
request_here word port are digits =
    ap₂ (λ (target rest : List ℕ). record (head_by target (list_any is_return (word ++ codes " HTTP/1.1\r\n"))
    (before_first is_newline (codes " 127.0.0.1:" ++ (port ++ 13 ∷ 10 ∷ []))) (list_any is_return (port ++ 13 ∷ 10 ∷ []))) { minor = minor_of rest })
    (target_here word are) (version_here word are)
    ∙ (ap (λ (is_end : Bool). head_by (target_of word) is_end (before_first is_newline (codes " 127.0.0.1:" ++ (port ++ 13 ∷ 10 ∷ []))) (list_any is_return (port ++ 13 ∷ 10 ∷ [])))
    (any_behind is_return word (codes " HTTP/1.1\r\n") refl)
    ∙ ap₂ (head_by (target_of word) true) (host_here port digits) (any_behind is_return port (13 ∷ 10 ∷ []) refl))

bytes_same_true : (bytes : List ℕ) → bytes_eq bytes bytes ≡ true
bytes_same_true [] = refl
bytes_same_true (byte ∷ bytes) = rw (eq-eqb byte byte refl) (bytes_same_true bytes)

printed_here : (word port : List ℕ) → print_request (head_with word port) ≡ concat (four_lines word port)
unfolding print_request
printed_here word port =
    ap (λ (line : List ℕ). codes "GET /journal/" ++ (line ++ (codes "Host: 127.0.0.1:" ++ (((port ++ 13 ∷ 10 ∷ []) ++ close_line) ++ empty_line))))
    (append_assoc word (codes " HTTP/1.1") (13 ∷ 10 ∷ []))
    ∙ ap (λ (lines : List ℕ). codes "GET /journal/" ++ ((word ++ codes " HTTP/1.1\r\n") ++ (codes "Host: 127.0.0.1:" ++ lines)))
    (append_assoc (port ++ 13 ∷ 10 ∷ []) close_line empty_line)

target_utf8 : (n : ℕ) → n < 2 ^ 64 → is_utf8 (target_of (decimal n)) ≡ true
target_utf8 n small = is_utf8-from_IsUtf8 (target_of (decimal n))
    (IsUtf8-append (codes "/journal/") (decimal n) (IsUtf8-are_ascii (codes "/journal/") refl) (IsUtf8-from_ascii (decimal n) (IsAscii-decimal n small)))

is_request_here : (n : ℕ) (port : List ℕ) → n < 2 ^ 64 → AreDigits port → is_request (head_with (decimal n) port) ≡ true
unfolding httparse_on_literals
is_request_here n port small digits =
    rw (lt-ltb 0 (length (target_of (decimal n))) (omega arith), each_digit is_uri_byte uri_byte (decimal n) (decimal_digits n small), target_utf8 n small, each_digit is_value_byte value_byte port digits) refl

head_here : (n : ℕ) (port : List ℕ) → n < 2 ^ 64 → AreDigits port → head_of (four_lines (decimal n) port) ≡ Some (head_with (decimal n) port)
head_here n port small digits =
    ap (λ (head : RequestHead). head_if head (concat (four_lines (decimal n) port))) (request_here (decimal n) port (decimal_digits n small) digits)
    ∙ ap₂ (λ (one two : Bool). cond (one && two) (Some (head_with (decimal n) port)) None) (is_request_here n port small digits)
    (ap (λ (bytes : List ℕ). bytes_eq bytes (concat (four_lines (decimal n) port))) (printed_here (decimal n) port)
    ∙ bytes_same_true (concat (four_lines (decimal n) port)))

-- ---- the request

abbrev seen : ℕ → List ℕ → HeadData
seen size word = record { before = 0; size = size; body = 0; method = codes "GET"; target = target_of word; close = true }

sight_here : (n : ℕ) (port : List ℕ) → n < 2 ^ 64 → AreDigits port
    → sight_lines 0 (four_lines (decimal n) port) ≡ Headed (seen (length (concat (four_lines (decimal n) port))) (decimal n))
unfolding trim_ows
sight_here n port small digits = ap (sight_head 0 (length (concat (four_lines (decimal n) port)))) (head_here n port small digits)

take_fits : (bytes : List ℕ) (n : ℕ) → length bytes ≤ n → take n bytes ≡ bytes
take_fits [] zero fits = refl
take_fits [] (suc n) fits = refl
take_fits (byte ∷ bytes) zero fits = absurd (omega (arith, fits))
take_fits (byte ∷ bytes) (suc n) fits = ap (λ (rest : List ℕ). byte ∷ rest) (take_fits bytes n (omega (arith, fits)))

take_none : (bytes : List ℕ) → take 0 bytes ≡ []
take_none [] = refl
take_none (byte ∷ bytes) = refl

dropped_whole : (bytes : List ℕ) → drop (length bytes) bytes ≡ []
dropped_whole [] = refl
dropped_whole (byte ∷ bytes) = dropped_whole bytes

in_lines : (word port : List ℕ) → concat (four_lines word port) ≡ all_bytes word port
in_lines word port = simp append_assoc

in_bytes : (port number : ℕ) → request_bytes port number ≡ all_bytes (decimal number) (decimal port)
in_bytes port number = shape (codes "GET /journal/") (decimal number) (codes " HTTP/1.1\r\nHost: 127.0.0.1:") (decimal port) (codes "\r\nConnection: close\r\n\r\n")
  where
    shape : (a word b port c : List ℕ) → (((a ++ word) ++ b) ++ port) ++ c ≡ a ++ (word ++ (b ++ (port ++ c)))
    shape a word b port c = simp append_assoc

short_bytes : (word port : List ℕ) → length word ≤ 10 → length port ≤ 10 → length (all_bytes word port) ≤ 16384
short_bytes word port short short_port =
    let one = length-append word (codes " HTTP/1.1\r\nHost: 127.0.0.1:" ++ (port ++ 13 ∷ 10 ∷ (close_line ++ empty_line))) in
    let two = length-append port (13 ∷ 10 ∷ (close_line ++ empty_line)) in
    omega (arith, one, two, short, short_port)

seen_here : (n port : ℕ) → n ≤ 4294967295 → port ≤ 65535
    → sight_of (all_bytes (decimal n) (decimal port)) ≡ Headed (seen (length (concat (four_lines (decimal n) (decimal port)))) (decimal n))
seen_here n port few near =
    let small : n < 2 ^ 64 = omega (arith, few) in
    let small_port : port < 2 ^ 64 = omega (arith, near) in
    let short = length-decimal-le 10 n (omega arith) (omega (arith, few)) small in
    let short_port = length-decimal-le 10 port (omega arith) (omega (arith, near)) small_port in
    let digits = decimal_digits port small_port in
    ap sight_in (take_fits (all_bytes (decimal n) (decimal port)) 16384 (short_bytes (decimal n) (decimal port) short short_port))
    ∙ (ap (sight_by 0 (length (all_bytes (decimal n) (decimal port)))) (lines_here (decimal n) (decimal port) (decimal_digits n small) digits)
    ∙ sight_here n (decimal port) small digits)

path_here : (word : List ℕ) → AreDigits word → path_of (target_of word) ≡ target_of word
path_here word are =
    ap (λ (count : ℕ). take count (target_of word)) (place_none is_question (target_of word) (no_digit is_question not_question word are))
    ∙ take_fits (target_of word) (length (target_of word)) (omega arith)

query_here : (word : List ℕ) → AreDigits word → query_of (target_of word) ≡ None
query_here word are =
    let whole = place_none is_question (target_of word) (no_digit is_question not_question word are) in
    ap (λ (is : Bool). if is then Some (after_first is_question (target_of word)) else None)
    (let same : nat_lt (position_or_len is_question (target_of word)) (length (target_of word)) ≡ false = grind (arith, nat_tests, whole) in same)

-- a request that stands whole in bytes
asked_whole : (n : ℕ) (own : List ℕ) → n < 2 ^ 64 → next_by (Headed (seen (length own) (decimal n))) own ≡ Asks (request_for n) []
asked_whole n own small =
    let are = decimal_digits n small in
    let size : 0 + length own + 0 ≡ length own = omega arith in
    ap (λ (is : Bool). cond is (asks (seen (length own) (decimal n)) own) EndsInside) (le-leb (0 + length own + 0) (length own) (omega arith))
    ∙ (ap₂ (λ (body rest : List ℕ). Asks (record { method = codes "GET"; path = path_of (target_of (decimal n)); query = query_of (target_of (decimal n)); body = body; close = true }) rest)
    (take_none (drop (0 + length own) own)) (ap (λ (count : ℕ). drop count own) size ∙ dropped_whole own)
    ∙ ap₂ (λ path query. Asks (record { method = codes "GET"; path = path; query = query; body = []; close = true }) []) (path_here (decimal n) are) (query_here (decimal n) are))

-- the bytes of a request are read as that request, and nothing is behind it
pub request_is_read : (port number : ℕ) → port ≤ 65535 → number ≤ 4294967295 → next_of (request_bytes port number) ≡ Asks (request_for number) []
request_is_read port number near few =
    let same = in_bytes port number ∙ sym (in_lines (decimal number) (decimal port)) in
    ap next_of same
    ∙ (ap (λ sight. next_by sight (concat (four_lines (decimal number) (decimal port))))
    (ap sight_of (in_lines (decimal number) (decimal port)) ∙ seen_here number port few near)
    ∙ asked_whole number (concat (four_lines (decimal number) (decimal port))) (omega (arith, few)))

-- ---- parts of a request

-- a part of a request asks for nothing
pub part_is_open : (port number : ℕ) (part more : List ℕ) → port ≤ 65535 → number ≤ 4294967295 → request_bytes port number ≡ part ++ more → more ≢ [] → IsShort part
part_is_open port number part more near few parts some =
    open_before (next_of part) more (next_of (part ++ more)) (request_for number) (next_more part more)
    (ap next_of (sym parts) ∙ request_is_read port number near few) some
