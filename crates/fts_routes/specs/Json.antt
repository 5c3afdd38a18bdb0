-- JSON values as bodies show them, and their text: compact, with the keys of an object in byte order (RFC 8259).
use Rattle.std.specs.Prelude.{ℕ, List, [], ◌∷◌, map}
use Rattle.std.specs.Int.{to_be_bytes, w128}
use Rattle.serde_json.specs.Data.{Data, Members, unsigned, number, array, object, no_members, member}
use Rattle.serde_json.specs.View.{items_of}
use Rattle.serde_json.specs.Written.{compact_text}
use Rattle.uuid.specs.Text.{hyphenated_text, lower}
use Rattle.hex.specs.Hex.{encode_lower}

-- the members of an object, whose keys are in byte order
abbrev pub members_of : List (List ℕ × Data) → Members
members_of [] = no_members
members_of (pair ∷ pairs) = member pair.0 pair.1 (members_of pairs)

-- an array of what a list's items show
abbrev pub array_of : {A : Type 0} → (A → Data) → List A → Data
array_of shown items = array (items_of (map shown items))

-- an object of these members
abbrev pub object_of : List (List ℕ × Data) → Data
object_of pairs = object (members_of pairs)

-- a count, an id or a limit
abbrev pub whole_number : ℕ → Data
whole_number n = number (unsigned n)

-- an id as a UUID in lower case (RFC 9562)
abbrev pub id_text : ℕ → List ℕ
id_text id = hyphenated_text lower (to_be_bytes w128 id)

-- a digest in lower hexadecimal digits
abbrev pub digest_text : List ℕ → List ℕ
digest_text digest = encode_lower digest

-- the body that shows a value
abbrev pub body_of : Data → List ℕ
body_of value = compact_text value
