-- What a server reads of a head's fields: how long the body is, and whether the connection ends behind the request.
use Rattle.std.specs.Prelude.{ℕ, Bool, ◌&&◌, ◌||◌, nat_le, ◌==◌, if◌then◌else◌, List, [], ◌∷◌, length, map, filter, codes, Result, Ok, Err}
use Rattle.std.specs.List.{list_any}
use Rattle.std.specs.Str.{str_eq_ignore_ascii_case, all_ascii_digits}
use Rattle.std.specs.Str.Parse.{digits_value}
use Rattle.fts_wire.specs.declared.fault.WireFault.{WireFault}
use Rattle.fts_wire.specs.declared.fault.WireFault.TheVariants.{BadLength, BodyTooLarge}

-- a field: its name, and its value without the white space around it
abbrev pub NameValue : Type 0
NameValue = List ℕ × List ℕ

-- the field has this name, without case
abbrev pub is_named : List ℕ → NameValue → Bool
is_named name field = str_eq_ignore_ascii_case field.0 name

-- the values of the fields of this name
abbrev pub values_of : List ℕ → List NameValue → List (List ℕ)
values_of name fields = map (λ field. field.1) (filter (is_named name) fields)

-- a length is 1 to 19 digits
abbrev pub is_length : List ℕ → Bool
is_length value = nat_le 1 (length value) && (nat_le (length value) 19 && all_ascii_digits value)

-- the length of a body, within the limit
abbrev pub length_of : List ℕ → Result ℕ WireFault
length_of value =
    if is_length value then (if nat_le (digits_value 10 value) 1048576 then Ok (digits_value 10 value) else Err BodyTooLarge) else Err BadLength

-- the length of a body by the values of `Content-Length`: none is an empty body, and one alone counts
abbrev pub body_length : List (List ℕ) → Result ℕ WireFault
body_length [] = Ok 0
body_length (value ∷ []) = length_of value
body_length (value ∷ second ∷ more) = Err BadLength

-- a field of this name
abbrev pub has_field : List ℕ → List NameValue → Bool
has_field name fields = list_any (is_named name) fields

-- a field `Transfer-Encoding`
abbrev pub is_chunked : List NameValue → Bool
is_chunked fields = has_field (codes "transfer-encoding") fields

-- a field `Origin`, which browsers send for the pages of sites (RFC 6454, section 7)
abbrev pub names_origin : List NameValue → Bool
names_origin fields = has_field (codes "origin") fields

abbrev pub is_close : List ℕ → Bool
is_close value = str_eq_ignore_ascii_case value (codes "close")

-- the connection ends: a field `Connection` whose value is `close`, without case, or version 1.0
abbrev pub says_close : ℕ → List NameValue → Bool
says_close minor fields = minor == 0 || list_any is_close (values_of (codes "connection") fields)
