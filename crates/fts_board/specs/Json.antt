-- JSON values as replies show them, and their text: compact, with the keys of an object in byte order (RFC 8259).
use Rattle.std.specs.Prelude.{ℕ, List, [], ◌∷◌, map}
use Rattle.serde_json.specs.Data.{Data, Members, unsigned, number, array, object, no_members, member}
use Rattle.serde_json.specs.View.{items_of}
use Rattle.serde_json.specs.Written.{compact_text}

-- the members of an object, whose keys are in byte order
abbrev pub members_of : List (List ℕ × Data) → Members
members_of [] = no_members
members_of (pair ∷ pairs) = member pair.0 pair.1 (members_of pairs)

-- an array of what a list's items show
abbrev pub array_of : {A : Type 0} → (A → Data) → List A → Data
array_of shown items = array (items_of (map shown items))

-- an object of these members
abbrev pub object_of : List (List ℕ × Data) → Data
object_of pairs = object (members_of pairs)

-- a count, a moment, an id or a limit
abbrev pub whole_number : ℕ → Data
whole_number n = number (unsigned n)

-- the text of a value
abbrev pub text_of : Data → List ℕ
text_of value = compact_text value
