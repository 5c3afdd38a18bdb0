-- What bytes are the beginning of: less than a head, no request, or a whole head with the length of its body.
-- CR and LF before a head are passed over, and count to its length (HTTP/1.1, RFC 9112, sections 2 and 6).
use Rattle.std.specs.Prelude.{◌≡◌, ℕ, ◌+◌, ◌≤◌, Bool, true, false, nat_lt, ◌==◌, if◌then◌else◌, List, length, take, drop, map, codes, Option, Some, None, Result, Ok, Err, IsUtf8}
use Rattle.std.specs.List.{concat, prefix_len}
use Rattle.httparse.specs.Pieces.{is_newline}
use Rattle.httparse.specs.Grammar.{RequestHead}
use Rattle.httparse.specs.Spans.{span_bytes, name_and_value, IsWithin}
use Rattle.fts_wire.specs.Head.{lines_of, head_lines, head_of}
use Rattle.fts_wire.specs.Fields.{NameValue, is_chunked, names_origin, values_of, body_length, says_close}
use Rattle.fts_wire.specs.RequestData.{HeadData}
use Rattle.fts_wire.specs.declared.fault.WireFault.{WireFault}
use Rattle.fts_wire.specs.declared.fault.WireFault.TheVariants.{BadHead, HeadTooLarge, Chunked, ForeignOrigin}
use Rattle.fts_wire.specs.declared.look.Head.{Head}
use Rattle.fts_wire.specs.declared.look.Look.{Look}
use Rattle.fts_wire.specs.declared.look.Look.TheVariants.{Short as LookShort, Refused as LookRefused, Found}

-- less than a head; bytes that are refused; a whole head
pub data Sight : Type 0 where
  Short : Sight
  Refused : WireFault → Sight
  Headed : HeadData → Sight

-- how many bytes of CR and LF stand before a head
abbrev pub blanks : List ℕ → ℕ
blanks bytes = prefix_len is_newline bytes

-- a head whose body has this length, or its fault
abbrev pub sight_body : Result ℕ WireFault → ℕ → ℕ → List ℕ → List ℕ → Bool → Sight
sight_body (Err fault) before size method target close = Refused fault
sight_body (Ok body) before size method target close =
    Headed (record { before = before; size = size; body = body; method = method; target = target; close = close })

-- a head that is whole in its framing is refused where it names an origin: a page of some site had a browser send it
abbrev pub sight_from : Bool → Sight → Sight
sight_from true Short = Short
sight_from true (Refused fault) = Refused fault
sight_from true (Headed head) = Refused ForeignOrigin
sight_from false sight = sight

-- a head with these parts: first its coding, then its length, and then where it comes from
abbrev pub sight_fields : ℕ → ℕ → List ℕ → List ℕ → ℕ → List NameValue → Sight
sight_fields before size method target minor fields =
    if is_chunked fields then Refused Chunked
    else sight_from (names_origin fields)
    (sight_body (body_length (values_of (codes "content-length") fields)) before size method target (says_close minor fields))

-- a head by the grammar, or none
abbrev pub sight_head : ℕ → ℕ → Option RequestHead → Sight
sight_head before size None = Refused BadHead
sight_head before size (Some h) = sight_fields before size h.method h.target h.minor (map name_and_value h.fields)

-- the lines of a head, of which at most 64 stand between the first and the empty one
abbrev pub sight_lines : ℕ → List (List ℕ) → Sight
sight_lines before lines = if nat_lt 66 (length lines) then Refused HeadTooLarge else sight_head before (length (concat lines)) (head_of lines)

-- the lines of a head behind so many bytes, or none yet in as many bytes as a head may have
abbrev pub sight_by : ℕ → ℕ → Option (List (List ℕ)) → Sight
sight_by before size None = if size == 16384 then Refused HeadTooLarge else Short
sight_by before size (Some lines) = sight_lines before lines

-- the bytes that a head may have
abbrev pub sight_in : List ℕ → Sight
sight_in bytes = sight_by (blanks bytes) (length bytes) (head_lines (lines_of (drop (blanks bytes) bytes)))

abbrev pub sight_of : List ℕ → Sight
sight_of bytes = sight_in (take 16384 bytes)

-- the bytes of a head that stands in bytes
abbrev pub head_bytes : List ℕ → Head → List ℕ
head_bytes bytes head = take head.size (drop head.before bytes)

-- a head by its own bytes, and by those in which it stands
abbrev pub head_in : List ℕ → Head → HeadData
head_in own head = record {
  before = head.before;
  size = head.size;
  body = head.body;
  method = span_bytes own head.method;
  target = span_bytes own head.target;
  close = head.close;
}

abbrev pub head_at : List ℕ → Head → HeadData
head_at bytes head = head_in (head_bytes bytes head) head

-- method and target are texts in a head's own bytes
pub record IsSpanned (own : List ℕ) (head : Head) : Type 0 where
  pub method : IsWithin (length own) head.method
  pub target : IsWithin (length own) head.target
  pub method_text : IsUtf8 (span_bytes own head.method)
  pub target_text : IsUtf8 (span_bytes own head.target)

-- a head that stands in bytes
pub record StandsAt (bytes : List ℕ) (head : Head) : Type 0 where
  pub sight : sight_of bytes ≡ Headed (head_at bytes head)
  pub within : head.before + head.size ≤ length bytes
  pub spans : IsSpanned (head_bytes bytes head) head

-- what a look says of bytes
abbrev pub Sees : List ℕ → Look → Type 0
Sees bytes LookShort = sight_of bytes ≡ Short
Sees bytes (LookRefused fault) = sight_of bytes ≡ Refused fault
Sees bytes (Found head) = StandsAt bytes head

-- what a look at a head's own bytes, behind so many others, says of what is to be seen
pub record IsFoundIn (own : List ℕ) (before : ℕ) (sight : Sight) (head : Head) : Type 0 where
  pub sight_is : sight ≡ Headed (head_in own head)
  pub before_is : head.before ≡ before
  pub size_is : head.size ≡ length own
  pub spans : IsSpanned own head

abbrev pub SeesIn : List ℕ → ℕ → Sight → Look → Type 0
SeesIn own before sight LookShort = sight ≡ Short
SeesIn own before sight (LookRefused fault) = sight ≡ Refused fault
SeesIn own before sight (Found head) = IsFoundIn own before sight head
