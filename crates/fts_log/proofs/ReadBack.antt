-- A quoted text is read back as it was.
use Rattle.std.proofs.Common.{◌≡◌, ℕ, ◌+◌, ◌*◌, ◌/◌, ◌%◌, Bool, true, false, List, [], ◌∷◌, ◌++◌, refl, ap, sym, ◌∙◌, append_assoc, eqb-true, arith, tests, codes}
use Rattle.std.specs.Prelude.{◌==◌, if◌then◌else◌, Some}
use Rattle.fts_log.specs.Quoting.{is_control, hex_digit, escaped_byte, escaped, quoted, Plain, digit_value, with_byte, unquoted_in, unquoted}

-- a digit stands for its value
value-hex_digit : (digit : ℕ) → digit_value (hex_digit digit) ≡ digit
value-hex_digit digit = grind (arith, tests)

-- a control that is read by its two digits
control_back : (byte : ℕ) (rest : List ℕ)
    → unquoted_in Plain (92 ∷ 120 ∷ hex_digit (byte / 16) ∷ hex_digit (byte % 16) ∷ rest) ≡ with_byte byte (unquoted_in Plain rest)
control_back byte rest =
    let value : 16 * digit_value (hex_digit (byte / 16)) + digit_value (hex_digit (byte % 16)) ≡ byte =
    rw (value-hex_digit (byte / 16)) (rw (value-hex_digit (byte % 16)) (omega arith)) in
    ap (λ (b : ℕ). with_byte b (unquoted_in Plain rest)) value

-- a byte that stands for itself
plain_back : (byte : ℕ) (rest : List ℕ) → (byte == 34) ≡ false → (byte == 92) ≡ false
    → unquoted_in Plain (byte ∷ rest) ≡ with_byte byte (unquoted_in Plain rest)
plain_back byte rest no_quote no_slash = rw no_quote (rw no_slash refl)

-- a byte that is no quote and no backslash
other_back : (byte : ℕ) (rest : List ℕ) (control : Bool) → (byte == 34) ≡ false → (byte == 92) ≡ false
    → unquoted_in Plain ((if control then 92 ∷ 120 ∷ hex_digit (byte / 16) ∷ hex_digit (byte % 16) ∷ [] else byte ∷ []) ++ rest)
    ≡ with_byte byte (unquoted_in Plain rest)
other_back byte rest true no_quote no_slash = control_back byte rest
other_back byte rest false no_quote no_slash = plain_back byte rest no_quote no_slash

-- a backslash, or a byte that is none and no quote
slash_back : (byte : ℕ) (rest : List ℕ) (slash : Bool) → (byte == 34) ≡ false → (byte == 92) ≡ slash
    → unquoted_in Plain ((if slash then 92 ∷ 92 ∷ []
    else (if is_control byte then 92 ∷ 120 ∷ hex_digit (byte / 16) ∷ hex_digit (byte % 16) ∷ [] else byte ∷ [])) ++ rest)
    ≡ with_byte byte (unquoted_in Plain rest)
slash_back byte rest true no_quote is =
    let same : 92 ≡ byte = sym (eqb-true byte 92 is) in
    ap (λ (b : ℕ). with_byte b (unquoted_in Plain rest)) same
slash_back byte rest false no_quote is = other_back byte rest (is_control byte) no_quote is

-- a quote, or a byte that is none
quote_back : (byte : ℕ) (rest : List ℕ) (quote : Bool) → (byte == 34) ≡ quote
    → unquoted_in Plain ((if quote then 92 ∷ 34 ∷ []
    else (if byte == 92 then 92 ∷ 92 ∷ []
    else (if is_control byte then 92 ∷ 120 ∷ hex_digit (byte / 16) ∷ hex_digit (byte % 16) ∷ [] else byte ∷ []))) ++ rest)
    ≡ with_byte byte (unquoted_in Plain rest)
quote_back byte rest true is =
    let same : 34 ≡ byte = sym (eqb-true byte 34 is) in
    ap (λ (b : ℕ). with_byte b (unquoted_in Plain rest)) same
quote_back byte rest false is = slash_back byte rest (byte == 92) is refl

-- a byte of a quoted text
byte_back : (byte : ℕ) (rest : List ℕ) → unquoted_in Plain (escaped_byte byte ++ rest) ≡ with_byte byte (unquoted_in Plain rest)
byte_back byte rest = quote_back byte rest (byte == 34) refl

-- the bytes of a quoted text, the quote behind them, and what stands behind that
escaped_back : (text rest : List ℕ) → unquoted_in Plain (escaped text ++ 34 ∷ rest) ≡ Some (text, rest)
escaped_back [] rest = refl
escaped_back (byte ∷ text) rest =
    ap (unquoted_in Plain) (append_assoc (escaped_byte byte) (escaped text) (34 ∷ rest))
    ∙ byte_back byte (escaped text ++ 34 ∷ rest)
    ∙ ap (with_byte byte) (escaped_back text rest)

-- a quoted text
pub unquoted-quoted : (text rest : List ℕ) → unquoted (quoted text ++ rest) ≡ Some (text, rest)
unfolding quoted
unquoted-quoted text rest = ap (unquoted_in Plain) (append_assoc (escaped text) (codes "\"") rest) ∙ escaped_back text rest
