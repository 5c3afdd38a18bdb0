-- Bytes that are less than a request are few, and a request is no longer than a buffer.
use Rattle.std.proofs.Common.{◌≡◌, ℕ, ◌+◌, min, ◌<◌, ◌≤◌, Bool, true, false, cond, List, [], ◌∷◌, length, take, drop, map, Option, Some, None, Result, Ok, Err, refl, ap, arith, subst, sym, length-drop, length-take, length-append, ⊎_elim}
use Rattle.std.specs.Prelude.{◌==◌, nat_lt, nat_le, codes, is_some}
use Rattle.std.specs.List.{concat}
use Rattle.std.specs.Str.Parse.{digits_value}
use Rattle.std.proofs.lemmas.Bool.{cond_both, leb-true, leb-false, cases_lt, eq-eqb, false≢true}
use Rattle.std.proofs.lemmas.List.{length-take-le}
use Rattle.std.proofs.lemmas.List.Folds.{concat-append}
use Rattle.std.proofs.lemmas.List.Sums.{prefix_len-le-length}
use Rattle.httparse.specs.Grammar.{RequestHead}
use Rattle.httparse.specs.Pieces.{is_newline}
use Rattle.httparse.specs.Spans.{name_and_value}
use Rattle.fts_wire.specs.Head.{lines_of, head_lines, head_of}
use Rattle.fts_wire.specs.Faults.{status_of}
use Rattle.fts_wire.specs.Fields.{NameValue, is_length, length_of, body_length, values_of, is_chunked, names_origin, says_close}
use Rattle.fts_wire.specs.RequestData.{HeadData}
use Rattle.fts_wire.specs.Look.{Sight, Short, Refused, Headed, blanks, sight_body, sight_from, sight_fields, sight_head, sight_lines, sight_by, sight_in, sight_of}
use Rattle.fts_wire.specs.Requests.{next_by, IsShort, is_open, request_size, asks, EndsInside}
use Rattle.fts_wire.specs.declared.fault.WireFault.{WireFault}
use Rattle.fts_wire.specs.declared.fault.WireFault.TheVariants.{BadLength, BodyTooLarge, Chunked, HeadTooLarge}
use Rattle.fts_wire.proofs.Feeds.{lines_front, head_is}

-- a fault that has a response
abbrev pub IsAnswered : WireFault → Type 0
IsAnswered fault = is_some (status_of fault) ≡ true

-- what is seen in n bytes says of n; what is refused has a response
abbrev pub Fits : ℕ → Sight → Type 0
Fits n Short = Unit {0}
Fits n (Refused fault) = IsAnswered fault
Fits n (Headed head) = (head.before + head.size ≤ n) × (head.body ≤ 1048576)

abbrev BodyFits : Result ℕ WireFault → Type 0
BodyFits (Ok body) = body ≤ 1048576
BodyFits (Err fault) = IsAnswered fault

length_fits : (value : List ℕ) → BodyFits (length_of value)
length_fits value =
    let n = digits_value 10 value in
    cond_both (is_length value) (cond (nat_le n 1048576) (Ok n) (Err BodyTooLarge)) (Err BadLength) BodyFits
    (λ _. cond_both (nat_le n 1048576) (Ok n) (Err BodyTooLarge) BodyFits (λ e. leb-true n 1048576 e) (λ _. refl)) (λ _. refl)

body_fits : (values : List (List ℕ)) → BodyFits (body_length values)
body_fits [] = omega arith
body_fits (value ∷ []) = length_fits value
body_fits (value ∷ second ∷ more) = refl

sight_body_fits : (r : Result ℕ WireFault) (n before size : ℕ) (method target : List ℕ) (close : Bool) → BodyFits r → before + size ≤ n
    → Fits n (sight_body r before size method target close)
sight_body_fits (Ok body) n before size method target close small within = (within, small)
sight_body_fits (Err fault) n before size method target close small within = small

-- a sight fits where it is refused for its origin, too
from_fits : (n : ℕ) (origin : Bool) (sight : Sight) → Fits n sight → Fits n (sight_from origin sight)
from_fits n true Short fits = tt
from_fits n true (Refused fault) fits = fits
from_fits n true (Headed head) fits = refl
from_fits n false sight fits = fits

fields_fit : (n before size : ℕ) (method target : List ℕ) (minor : ℕ) (fields : List NameValue) → before + size ≤ n
    → Fits n (sight_fields before size method target minor fields)
fields_fit n before size method target minor fields within =
    let values = values_of (codes "content-length") fields in
    let sight = sight_body (body_length values) before size method target (says_close minor fields) in
    cond_both (is_chunked fields) (Refused Chunked) (sight_from (names_origin fields) sight) (Fits n) (λ _. refl)
    (λ _. from_fits n (names_origin fields) sight (sight_body_fits (body_length values) n before size method target (says_close minor fields) (body_fits values) within))

head_fits : (o : Option RequestHead) (n before size : ℕ) → before + size ≤ n → Fits n (sight_head before size o)
head_fits None n before size within = refl
head_fits (Some h) n before size within = fields_fit n before size h.method h.target h.minor (map name_and_value h.fields) within

lines_fit : (n before : ℕ) (lines : List (List ℕ)) → before + length (concat lines) ≤ n → Fits n (sight_lines before lines)
lines_fit n before lines within = cond_both (nat_lt 66 (length lines)) (Refused HeadTooLarge) (sight_head before (length (concat lines))
    (head_of lines)) (Fits n) (λ _. refl)
    (λ _. head_fits (head_of lines) n before (length (concat lines)) within)

-- a head's lines are no longer than the bytes
lines_within : (bytes : List ℕ) (lines : List (List ℕ)) → head_lines (lines_of bytes) ≡ Some lines → length (concat lines) ≤ length bytes
lines_within bytes lines e =
    let h = head_is (lines_of bytes) lines e in
    let front = lines_front bytes in
    omega (
      arith,
      ap length front.1,
      length-append (concat (lines_of bytes)) front.0,
      ap (λ ls. length (concat ls)) h.parts,
      ap length (concat-append lines h.rest),
      length-append (concat lines) (concat h.rest),
    )

in_fits : (bytes : List ℕ) → Fits (length bytes) (sight_in bytes)
in_fits bytes = by (head_lines (lines_of (drop (blanks bytes) bytes))) refl
  where
    by : (o : Option (List (List ℕ))) → head_lines (lines_of (drop (blanks bytes) bytes)) ≡ o → Fits (length bytes) (sight_by (blanks bytes) (length bytes) o)
    by None e = cond_both (length bytes == 16384) (Refused HeadTooLarge) Short (Fits (length bytes)) (λ _. refl) (λ _. tt)
    by (Some lines) e =
        lines_fit (length bytes) (blanks bytes) lines
        (omega (arith, lines_within (drop (blanks bytes) bytes) lines e, length-drop (blanks bytes) bytes, prefix_len-le-length is_newline bytes))

-- what is refused has a response
pub refused_answered : (bytes : List ℕ) (fault : WireFault) → sight_of bytes ≡ Refused fault → IsAnswered fault
refused_answered bytes fault e = subst (Fits (length (take 16384 bytes))) e (in_fits (take 16384 bytes))

-- the head that is seen in bytes stands in them, within its limit, and its body is within its own
pub head_few : (bytes : List ℕ) (head : HeadData) → sight_of bytes ≡ Headed head → (head.before + head.size ≤ min 16384 (length bytes)) × (head.body ≤ 1048576)
head_few bytes head e = subst (λ n. (head.before + head.size ≤ n) × (head.body ≤ 1048576)) (length-take 16384 bytes)
    (subst (Fits (length (take 16384 bytes))) e (in_fits (take 16384 bytes)))

abbrev pub IsShortSight : Sight → Type 0
IsShortSight Short = Unit {0}
IsShortSight (Refused fault) = ⊥
IsShortSight (Headed head) = ⊥

body_not_short : (r : Result ℕ WireFault) (before size : ℕ) (method target : List ℕ) (close : Bool)
    → IsShortSight (sight_body r before size method target close) → ⊥
body_not_short (Ok body) before size method target close s = s
body_not_short (Err fault) before size method target close s = s

from_not_short : (origin : Bool) (sight : Sight) → (IsShortSight sight → ⊥) → IsShortSight (sight_from origin sight) → ⊥
from_not_short true Short long s = long s
from_not_short true (Refused fault) long s = s
from_not_short true (Headed head) long s = s
from_not_short false sight long s = long s

fields_not_short : (before size : ℕ) (method target : List ℕ) (minor : ℕ) (fields : List NameValue)
    → IsShortSight (sight_fields before size method target minor fields) → ⊥
fields_not_short before size method target minor fields =
    let values = values_of (codes "content-length") fields in
    let sight = sight_body (body_length values) before size method target (says_close minor fields) in
    cond_both (is_chunked fields) (Refused Chunked) (sight_from (names_origin fields) sight)
    (λ s. IsShortSight s → ⊥) (λ _ s. s)
    (λ _. from_not_short (names_origin fields) sight (body_not_short (body_length values) before size method target (says_close minor fields)))

head_not_short : (o : Option RequestHead) (before size : ℕ) → IsShortSight (sight_head before size o) → ⊥
head_not_short None before size s = s
head_not_short (Some h) before size s = fields_not_short before size h.method h.target h.minor (map name_and_value h.fields) s

-- lines of a head are no less than a head
pub lines_not_short : (before : ℕ) (lines : List (List ℕ)) → IsShortSight (sight_lines before lines) → ⊥
lines_not_short before lines =
    cond_both (nat_lt 66 (length lines)) (Refused HeadTooLarge) (sight_head before (length (concat lines)) (head_of lines)) (λ s. IsShortSight s → ⊥) (λ _ s. s)
    (λ _. head_not_short (head_of lines) before (length (concat lines)))

-- bytes in which no head has ended are few
pub short_few : (bytes : List ℕ) → sight_of bytes ≡ Short → length bytes < 16384
short_few bytes e = ⊎_elim (λ h. h) (λ full. absurd (no_short full)) (cases_lt (length bytes) 16384)
  where
    by : (o : Option (List (List ℕ))) (before size : ℕ) → size ≡ 16384 → IsShortSight (sight_by before size o) → ⊥
    by None before size full s = subst (λ t. IsShortSight (cond t (Refused HeadTooLarge) Short)) (eq-eqb size 16384 full) s
    by (Some lines) before size full s = lines_not_short before lines s

    no_short : 16384 ≤ length bytes → ⊥
    no_short full =
        let w = take 16384 bytes in
        by (head_lines (lines_of (drop (blanks w) w))) (blanks w) (length w) (length-take-le 16384 bytes full) (subst IsShortSight (sym e) tt)

-- what is less than a request leaves room for a piece
pub short_bound : (bytes : List ℕ) → IsShort bytes → length bytes < 1064960
short_bound bytes less = by (sight_of bytes) refl
  where
    by : (s : Sight) → sight_of bytes ≡ s → length bytes < 1064960
    by Short e = omega (arith, short_few bytes e)
    by (Refused fault) e = absurd (false≢true (subst (λ s. is_open (next_by s bytes) ≡ true) e less))
    by (Headed head) e =
        let few = head_few bytes head e in
        behind (nat_le (request_size head) (length bytes)) refl few.0 few.1 (subst (λ s. is_open (next_by s bytes) ≡ true) e less)
      where
        behind : (t : Bool) → nat_le (request_size head) (length bytes) ≡ t → head.before + head.size ≤ min 16384 (length bytes) → head.body ≤ 1048576
            → is_open (cond t (asks head bytes) EndsInside) ≡ true → length bytes < 1064960
        behind true t near small less = absurd (false≢true less)
        behind false t near small less = omega (arith, leb-false (request_size head) (length bytes) t, near, small)
