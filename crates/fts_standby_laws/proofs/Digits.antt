-- Decimal digits, and lists of them.
use Rattle.std.proofs.Common.{◌≡◌, ℕ, ◌^◌, ◌<◌, ◌≤◌, true, false, List, [], ◌∷◌, length, refl, arith, le-leb, decimal, Some}
use Rattle.std.specs.Prelude.{◌==◌, nat_le}
use Rattle.std.specs.List.{list_all, slice_split}
use Rattle.std.proofs.lemmas.Fmt.{decimal_is_IsNumeral, length-decimal-le, decimal_nonempty}
use Rattle.std.proofs.lemmas.Bool.Decides.{nat_tests}
use Rattle.fts_tables.specs.Names.{is_digit}
use Rattle.fts_routes.specs.Routes.{entry_number}
use Rattle.fts_client.proofs.DigitBytes.{IsDigit, AreDigits, decimal_digits}

-- digits have no slash, and are one part of a path
no_slash : (byte : ℕ) → IsDigit byte → (byte == 0x2f) ≡ false
no_slash byte is = grind (arith, nat_tests, is.0)

pub one_part : (word : List ℕ) → AreDigits word → slice_split (λ (byte : ℕ). byte == 0x2f) word ≡ word ∷ []
one_part [] are = refl
one_part (byte ∷ word) are = rw (no_slash byte are.0, one_part word are.1) refl

a_digit : (byte : ℕ) → IsDigit byte → is_digit byte ≡ true
a_digit byte is = grind (arith, nat_tests, is.0, is.1)

all_digits : (word : List ℕ) → AreDigits word → list_all is_digit word ≡ true
all_digits [] are = refl
all_digits (byte ∷ word) are = rw (a_digit byte are.0) (all_digits word are.1)

-- the number of an entry is spelled as it is
pub number_spelled : (n : ℕ) → n ≤ 4294967295 → entry_number (decimal n) ≡ Some n
number_spelled n few =
    let small : n < 2 ^ 64 = omega (arith, few) in
    let short = length-decimal-le 10 n (omega arith) (omega (arith, few)) small in
    let some = decimal_nonempty n small in
    let one : nat_le 1 (length (decimal n)) ≡ true = le-leb 1 (length (decimal n)) some in
    let two : nat_le (length (decimal n)) 10 ≡ true = le-leb (length (decimal n)) 10 short in
    rw (one, two, all_digits (decimal n) (decimal_digits n small), (decimal_is_IsNumeral n small).1) refl
