-- Bytes that are decimal digits: those of each number are, and no digit ends a line.
use Rattle.std.proofs.Common.{◌≡◌, ℕ, ◌+◌, ◌%◌, ◌^◌, ◌<◌, ◌≤◌, Bool, true, false, List, [], ◌∷◌, ◌++◌, refl, arith}
use Rattle.std.specs.Prelude.{decimal, ◌==◌}
use Rattle.std.specs.List.{list_all}
use Rattle.std.proofs.lemmas.Fmt.{decimal_by_steps}
use Rattle.std.proofs.lemmas.Bool.Decides.{nat_tests}

-- a decimal digit, and each byte is one
abbrev pub IsDigit : ℕ → Type 0
IsDigit byte = (48 ≤ byte) × (byte ≤ 57)

abbrev pub AreDigits : List ℕ → Type 0
AreDigits [] = Unit {0}
AreDigits (byte ∷ bytes) = IsDigit byte × AreDigits bytes

digits-push : (bytes : List ℕ) (byte : ℕ) → AreDigits bytes → IsDigit byte → AreDigits (bytes ++ byte ∷ [])
digits-push [] byte are is = (is, tt)
digits-push (first ∷ bytes) byte are is = (are.0, digits-push bytes byte are.1 is)

pub decimal_digits : (n : ℕ) → n < 2 ^ 64 → AreDigits (decimal n)
decimal_digits n small = decimal_by_steps (λ _ bytes. AreDigits bytes) (λ digit few. ((omega arith, omega (arith, few)), tt))
    (λ number bytes more are. digits-push bytes (48 + number % 10) are (omega arith, omega arith)) n small

pub not_10 : (byte : ℕ) → IsDigit byte → (byte == 10) ≡ false
not_10 byte is = grind (arith, nat_tests, is.0)

-- a test that each digit passes is passed by each byte of a word of them
pub each_digit : (test : ℕ → Bool) → ((byte : ℕ) → IsDigit byte → test byte ≡ true) → (word : List ℕ) → AreDigits word → list_all test word ≡ true
each_digit test each [] are = refl
each_digit test each (byte ∷ word) are = rw (each byte are.0) (each_digit test each word are.1)
