-- Fields at a place of bytes: the value, and the place behind it.
use Rattle.std.specs.Prelude.{ℕ, ◌-◌, nat_le, if◌then◌else◌, Option, Some, None, List, length, drop}
use Rattle.fts_record.specs.Fields.{number_of, text_of}

-- what was found, with the place behind it in so many bytes
abbrev pub placed : {A : Type 0} → ℕ → Option (A × List ℕ) → Option (A × ℕ)
placed size None = None
placed size (Some found) = Some (found.0, size - length found.1)

-- the number whose first byte is at a place
abbrev pub number_placed : List ℕ → ℕ → Option (ℕ × ℕ)
number_placed bytes at = if nat_le at (length bytes) then placed (length bytes) (number_of (drop at bytes)) else None

-- the text whose length's first byte is at a place
abbrev pub text_placed : List ℕ → ℕ → Option (List ℕ × ℕ)
text_placed bytes at = if nat_le at (length bytes) then placed (length bytes) (text_of (drop at bytes)) else None
