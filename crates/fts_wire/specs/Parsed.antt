-- What parsing a head's own bytes gives.
use Rattle.std.specs.Prelude.{◌≡◌, ℕ, ◌≤◌, List, length, take, map, All, Option, Some, None, IsUtf8}
use Rattle.std.specs.List.{concat}
use Rattle.httparse.specs.Pieces.{Stops, is_newline}
use Rattle.httparse.specs.Grammar.{RequestHead}
use Rattle.httparse.specs.Spans.{span_bytes, header_bytes, name_and_value, IsWithin, IsHeaderWithin}
use Rattle.httparse.specs.declared.spans.HeaderSpan.{HeaderSpan}
use Rattle.httparse.specs.declared.spans.RequestSpans.{RequestSpans}
use Rattle.fts_wire.specs.Head.{lines_of, head_of}

-- lines that begin with another byte than CR and LF, of which at most 64 stand between the first and the last
pub record BeginsHead (own : List ℕ) : Type 0 where
  pub first : Stops is_newline own
  pub lines : concat (lines_of own) ≡ own
  pub few : length (lines_of own) ≤ 66

-- the places of a head's parts
pub record ArePartsOf (own : List ℕ) (headers : List HeaderSpan) (spans : RequestSpans) : Type 0 where
  pub head : RequestHead
  pub reads : head_of (lines_of own) ≡ Some head
  pub method : span_bytes own spans.method ≡ head.method
  pub target : span_bytes own spans.path ≡ head.target
  pub version : spans.version ≡ head.minor
  pub fields : map (header_bytes own) (take spans.headers headers) ≡ map name_and_value head.fields
  pub method_in : IsWithin (length own) spans.method
  pub target_in : IsWithin (length own) spans.path
  pub count : spans.headers ≤ length headers
  pub fields_in : All (IsHeaderWithin (length own)) (take spans.headers headers)
  pub method_text : IsUtf8 (span_bytes own spans.method)
  pub target_text : IsUtf8 (span_bytes own spans.path)

-- the parts of a head, or none exactly where the bytes are no head
abbrev pub IsParsed : List ℕ → List HeaderSpan → Option RequestSpans → Type 0
IsParsed own headers None = head_of (lines_of own) ≡ None
IsParsed own headers (Some spans) = ArePartsOf own headers spans
