-- How a text of any bytes stands in a line, between quotes, so that it ends neither the line nor itself, and is read back as it was.
use Rattle.std.specs.Prelude.{◌≡◌, ℕ, ◌+◌, ◌-◌, ◌*◌, ◌/◌, ◌%◌, ◌==◌, ◌||◌, nat_lt, Bool, true, not, if◌then◌else◌, List, [], ◌∷◌, ◌++◌, Option, Some, None, option_map, codes}
use Rattle.std.specs.List.{flat_map, list_all}

-- a byte that a reader of lines or a terminal may act on
abbrev pub is_control : ℕ → Bool
is_control byte = nat_lt byte 32 || (byte == 127)

-- a digit in lower case to the base 16
abbrev pub hex_digit : ℕ → ℕ
hex_digit digit = if nat_lt digit 10 then 48 + digit else 87 + digit

-- a byte of a text: a quote and a backslash stand behind a backslash, a control as \x and its two digits, any other as itself
abbrev pub escaped_byte : ℕ → List ℕ
escaped_byte byte =
    if byte == 34 then 92 ∷ 34 ∷ []
    else (if byte == 92 then 92 ∷ 92 ∷ []
    else (if is_control byte then 92 ∷ 120 ∷ hex_digit (byte / 16) ∷ hex_digit (byte % 16) ∷ []
    else byte ∷ []))

-- the bytes of a text
abbrev pub escaped : List ℕ → List ℕ
escaped text = flat_map escaped_byte text

-- a text between quotes
unfoldable pub quoted : List ℕ → List ℕ
quoted text = codes "\"" ++ escaped text ++ codes "\""

-- whether a byte is none of those below 32
abbrev pub is_shown : ℕ → Bool
is_shown byte = not (nat_lt byte 32)

-- one line: bytes that are none of those below 32, and a line feed behind them
abbrev pub IsLine : List ℕ → Type 0
IsLine line = (text : List ℕ) × (line ≡ text ++ codes "\n") × (list_all is_shown text ≡ true)

-- where a reader of a quoted text is: between two bytes, behind a backslash, behind \x, or behind its first digit
pub data Reading : Type 0 where
  Plain : Reading
  Escape : Reading
  High : Reading
  Low : ℕ → Reading

-- what a digit to the base 16 stands for
abbrev pub digit_value : ℕ → ℕ
digit_value digit = if nat_lt digit 58 then digit - 48 else digit - 87

-- a text that was read, and what stands behind it, with a byte in front of the text
abbrev pub with_byte : ℕ → Option (List ℕ × List ℕ) → Option (List ℕ × List ℕ)
with_byte byte read = option_map (λ pair. (byte ∷ pair.0, pair.1)) read

-- the text up to the quote that ends it, and what stands behind that quote
abbrev pub unquoted_in : Reading → List ℕ → Option (List ℕ × List ℕ)
unquoted_in reading [] = None
unquoted_in Plain (byte ∷ rest) =
    if byte == 34 then Some ([], rest)
    else (if byte == 92 then unquoted_in Escape rest else with_byte byte (unquoted_in Plain rest))
unquoted_in Escape (byte ∷ rest) = if byte == 120 then unquoted_in High rest else with_byte byte (unquoted_in Plain rest)
unquoted_in High (byte ∷ rest) = unquoted_in (Low (digit_value byte)) rest
unquoted_in (Low high) (byte ∷ rest) = with_byte (16 * high + digit_value byte) (unquoted_in Plain rest)

-- a text between quotes, and what stands behind it; nothing where none begins here, or it has no end
abbrev pub unquoted : List ℕ → Option (List ℕ × List ℕ)
unquoted [] = None
unquoted (byte ∷ rest) = if byte == 34 then unquoted_in Plain rest else None
