-- The head of a request: the lines up to the first empty one, read by the grammar of `httparse` (HTTP/1.1, RFC 9112, sections 2 to 5).
use Rattle.std.specs.Prelude.{ℕ, Bool, not, ◌&&◌, ◌||◌, nat_lt, ◌==◌, if◌then◌else◌, List, [], ◌∷◌, length, map, take, filter, codes, bytes_eq, Option, Some, None, option_map}
use Rattle.std.specs.List.{concat, list_any, list_all, before_first, after_first}
use Rattle.std.specs.Str.{is_utf8}
use Rattle.httparse.specs.Pieces.{is_newline}
use Rattle.httparse.specs.Grammar.{LineEnd, crlf, lf, is_token, is_uri_byte, is_value_byte, Field, RequestHead, print_request}

-- a byte in front of the first of these lines, where there is one
abbrev pub onto_first_line : ℕ → List (List ℕ) → List (List ℕ)
onto_first_line b [] = []
onto_first_line b (line ∷ lines) = (b ∷ line) ∷ lines

-- a byte in front of lines: a line feed is a line by itself, and another byte belongs to the first of them
abbrev pub onto_lines : ℕ → List (List ℕ) → List (List ℕ)
onto_lines b lines = if b == 10 then (b ∷ []) ∷ lines else onto_first_line b lines

-- the lines of bytes that have ended, each with its line feed
abbrev pub lines_of : List ℕ → List (List ℕ)
lines_of [] = []
lines_of (b ∷ bs) = onto_lines b (lines_of bs)

-- an empty line: a line feed, with one carriage return before it or none
abbrev pub is_empty_line : List ℕ → Bool
is_empty_line line = bytes_eq line (10 ∷ []) || bytes_eq line (13 ∷ 10 ∷ [])

-- the lines of a head: those up to the first empty one, where there is one
abbrev pub head_lines : List (List ℕ) → Option (List (List ℕ))
head_lines [] = None
head_lines (line ∷ lines) = if is_empty_line line then Some (line ∷ []) else option_map (λ more. line ∷ more) (head_lines lines)

abbrev pub is_space : ℕ → Bool
is_space b = b == 32

abbrev pub is_colon : ℕ → Bool
is_colon b = b == 58

abbrev pub is_return : ℕ → Bool
is_return b = b == 13

-- what stands on a line before its end, and that end
abbrev pub text_of : List ℕ → List ℕ
text_of line = before_first is_newline line

abbrev pub end_of : List ℕ → LineEnd
end_of line = if list_any is_return line then crlf else lf

-- the field that a line writes: its name up to the first colon, and what stands behind that
abbrev pub field_of : List ℕ → Field
field_of line = record { name = before_first is_colon line; raw = text_of (after_first is_colon line); end = end_of line }

-- HTTP/1.1 or HTTP/1.0
abbrev pub minor_of : List ℕ → ℕ
minor_of version = if bytes_eq (take 8 version) (codes "HTTP/1.1") then 1 else 0

-- the head that a first line, field lines and an empty line write: method, space, target, space, version, and the fields
abbrev pub request_of : List ℕ → List (List ℕ) → RequestHead
request_of first others = record {
  blank = [];
  method = before_first is_space first;
  target = before_first is_space (after_first is_space first);
  minor = minor_of (after_first is_space (after_first is_space first));
  line_end = end_of first;
  fields = map field_of (filter (λ line. not (is_empty_line line)) others);
  last = end_of (concat (filter is_empty_line others));
}

abbrev pub is_field : Field → Bool
is_field f = is_token f.name && list_all is_value_byte f.raw

-- each part is of its class, and the target is UTF-8
abbrev pub is_request : RequestHead → Bool
is_request h = is_token h.method && (nat_lt 0 (length h.target) && (list_all is_uri_byte h.target && (is_utf8 h.target && list_all is_field h.fields)))

abbrev pub head_if : RequestHead → List ℕ → Option RequestHead
head_if h bytes = if is_request h && bytes_eq (print_request h) bytes then Some h else None

-- the head of which these lines are the bytes, whole, where there is one
abbrev pub head_of : List (List ℕ) → Option RequestHead
head_of [] = None
head_of (first ∷ others) = head_if (request_of first others) (concat (first ∷ others))
