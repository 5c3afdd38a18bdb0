-- The digits of a length, as far as they have come.
use Rattle.std.proofs.Common.{◌≡◌, ℕ, ◌+◌, ◌/◌, ◌%◌, ◌^◌, ◌<◌, ◌≤◌, ◌⊎◌, inl, inr, true, false, List, [], ◌∷◌, ◌++◌, length, take, drop, get_or, slice_index, refl, ap, sym, ◌∙◌, subst, arith, append_assoc, append-nil, length-append, le-leb, leb-true, true≢false}
use Rattle.std.specs.Prelude.{decimal, nat_le}
use Rattle.std.specs.Char.{is_ascii_digit}
use Rattle.std.specs.Str.{all_ascii_digits}
use Rattle.std.specs.Str.Parse.{digits_value}
use Rattle.std.proofs.lemmas.Bool.{and_from, and_parts, cases_lt}
use Rattle.std.proofs.lemmas.List.{take-append-drop, drop_more, drop_all}
use Rattle.std.proofs.lemmas.Fmt.{decimal_is_IsNumeral, decimal_by_steps, decimal_digit, decimal_step}
use Rattle.fts_wire.specs.AnswerLook.{LeadsNumber, LeadsTooMany}
use Rattle.fts_wire.proofs.ReadResponses.{none_behind}

-- ---- digits

abbrev IsDigit : ℕ → Type 0
IsDigit byte = (48 ≤ byte) × (byte ≤ 57)

abbrev AreDigits : List ℕ → Type 0
AreDigits [] = Unit {0}
AreDigits (byte ∷ bytes) = IsDigit byte × AreDigits bytes

are_digits : (bytes : List ℕ) → all_ascii_digits bytes ≡ true → AreDigits bytes
are_digits [] is = tt
are_digits (byte ∷ bytes) is =
    let parts = and_parts (is_ascii_digit byte) (all_ascii_digits bytes) is in
    let two = and_parts (nat_le 48 byte) (nat_le byte 57) parts.0 in
    ((leb-true 48 byte two.0, leb-true byte 57 two.1), are_digits bytes parts.1)

no_digit : (byte : ℕ) → is_ascii_digit byte ≡ false → IsDigit byte → ⊥
no_digit byte none is =
    true≢false (sym (and_from (nat_le 48 byte) (nat_le byte 57) (le-leb 48 byte is.0) (le-leb byte 57 is.1)) ∙ none)

return_is_none : IsDigit 13 → ⊥
return_is_none is = absurd (omega (arith, is.0))

digits-push : (bytes : List ℕ) (byte : ℕ) → AreDigits bytes → IsDigit byte → AreDigits (bytes ++ byte ∷ [])
digits-push [] byte are is = (is, tt)
digits-push (first ∷ bytes) byte are is = (are.0, digits-push bytes byte are.1 is)

decimal_digits : (n : ℕ) → n < 2 ^ 64 → AreDigits (decimal n)
decimal_digits n small = decimal_by_steps (λ _ bytes. AreDigits bytes) (λ digit few. ((omega arith, omega (arith, few)), tt))
    (λ number bytes more are. digits-push bytes (48 + number % 10) are (omega arith, omega arith)) n small

same_head : (one other : ℕ) (bytes more : List ℕ) → one ∷ bytes ≡ other ∷ more → one ≡ other
same_head one other bytes more is = ap (λ list. slice_index list 0) is

-- digits up to a byte that is none
up_to_other : (one other : List ℕ) (x y : ℕ) (more rest : List ℕ) → AreDigits one → AreDigits other → (IsDigit x → ⊥) → (IsDigit y → ⊥)
    → one ++ x ∷ more ≡ other ++ y ∷ rest → one ≡ other
up_to_other [] [] x y more rest are too out out_too is = refl
up_to_other [] (byte ∷ other) x y more rest are too out out_too is =
    absurd (out (subst IsDigit (sym (same_head x byte more (other ++ y ∷ rest) is)) too.0))
up_to_other (byte ∷ one) [] x y more rest are too out out_too is = absurd (out_too (subst IsDigit (same_head byte y (one ++ x ∷ more) rest is) are.0))
up_to_other (byte ∷ one) (next ∷ other) x y more rest are too out out_too is =
    ap (λ (first : ℕ). first ∷ one) (same_head byte next (one ++ x ∷ more) (other ++ y ∷ rest) is)
    ∙ ap (λ list. next ∷ list) (up_to_other one other x y more rest are.1 too.1 out out_too (ap (drop 1) is))

-- digits that stand before a byte that is none are a part of those before it
digits_within : (one word : List ℕ) (y : ℕ) (behind more : List ℕ) → AreDigits one → (IsDigit y → ⊥) → one ++ behind ≡ word ++ y ∷ more
    → (rest : List ℕ) × (word ≡ one ++ rest)
digits_within [] word y behind more are out is = (word, refl)
digits_within (byte ∷ one) [] y behind more are out is = absurd (out (subst IsDigit (same_head byte y (one ++ behind) more is) are.0))
digits_within (byte ∷ one) (next ∷ word) y behind more are out is =
    let within = digits_within one word y behind more are.1 out (ap (drop 1) is) in
    (within.0, ap (λ (first : ℕ). first ∷ word) (sym (same_head byte next (one ++ behind) (word ++ y ∷ more) is)) ∙ ap (λ list. byte ∷ list) within.1)

-- ---- a part of a number's digits

cut_last : (one rest word : List ℕ) (byte : ℕ) → one ++ rest ≡ word ++ byte ∷ [] → (rest ≡ []) ⊎ ((more : List ℕ) × (word ≡ one ++ more))
cut_last [] rest word byte is = inr (word, refl)
cut_last (first ∷ one) rest [] byte is = inl (none_behind one rest (ap (drop 1) is))
cut_last (first ∷ one) rest (next ∷ word) byte is = by_rest (cut_last one rest word byte (ap (drop 1) is))
  where
    by_rest : (rest ≡ []) ⊎ ((more : List ℕ) × (word ≡ one ++ more)) → (rest ≡ []) ⊎ ((more : List ℕ) × (next ∷ word ≡ first ∷ (one ++ more)))
    by_rest (inl none) = inl none
    by_rest (inr more) = inr (
      more.0,
      ap (λ (x : ℕ). x ∷ word) (sym (same_head first next (one ++ rest) (word ++ byte ∷ []) is)) ∙ ap (λ list. first ∷ list) more.1,
    )

-- each part at the front of a number's digits, that isn't empty, is the digits of a number that is no greater
abbrev IsNumberUpTo : ℕ → List ℕ → Type 0
IsNumberUpTo n one = (m : ℕ) × (one ≡ decimal m) × (m ≤ n)

abbrev HasNumbers : ℕ → List ℕ → Type 0
HasNumbers n word = n < 2 ^ 64 → (word ≡ decimal n) × ((one rest : List ℕ) → word ≡ one ++ rest → 0 < length one → IsNumberUpTo n one)

all_of_it : (n : ℕ) (one rest word : List ℕ) → word ≡ decimal n → word ≡ one ++ rest → rest ≡ [] → IsNumberUpTo n one
all_of_it n one rest word same is none = (n, sym (append-nil one) ∙ (ap (λ list. one ++ list) (sym none) ∙ (sym is ∙ same)), omega arith)

one_digit : (n : ℕ) → n < 10 → HasNumbers n ((48 + n) ∷ [])
one_digit n few = λ small. (sym (decimal_digit n few), λ one rest is some. by_rest one rest is some (cut_last one rest [] (48 + n) (sym is)))
  where
    by_rest : (one rest : List ℕ) → (48 + n) ∷ [] ≡ one ++ rest → 0 < length one → (rest ≡ []) ⊎ ((more : List ℕ) × ([] ≡ one ++ more)) → IsNumberUpTo n one
    by_rest one rest is some (inl none) = all_of_it n one rest ((48 + n) ∷ []) (sym (decimal_digit n few)) is none
    by_rest one rest is some (inr more) = absurd (omega (arith, some, ap length more.1, length-append one more.0))

digit_more : (n : ℕ) (word : List ℕ) → 10 ≤ n → HasNumbers (n / 10) word → HasNumbers n (word ++ (48 + n % 10) ∷ [])
digit_more n word ten before = λ small.
    let less : n / 10 < 2 ^ 64 = omega (arith, small) in
    let has = before less in
    let same : word ++ (48 + n % 10) ∷ [] ≡ decimal n = ap (λ list. list ++ (48 + n % 10) ∷ []) has.0 ∙ sym (decimal_step n ten small) in
    (same, λ one rest is some. by_rest one rest same is (λ more within. has.1 one more within some) (cut_last one rest word (48 + n % 10) (sym is)))
  where
    by_rest : (one rest : List ℕ) → word ++ (48 + n % 10) ∷ [] ≡ decimal n → word ++ (48 + n % 10) ∷ [] ≡ one ++ rest
        → ((more : List ℕ) → word ≡ one ++ more → IsNumberUpTo (n / 10) one)
        → (rest ≡ []) ⊎ ((more : List ℕ) × (word ≡ one ++ more)) → IsNumberUpTo n one
    by_rest one rest same is has (inl none) = all_of_it n one rest (word ++ (48 + n % 10) ∷ []) same is none
    by_rest one rest same is has (inr more) = let number = has more.0 more.1 in (number.0, number.1, omega (arith, number.2))

front_of_number : (n : ℕ) (one rest : List ℕ) → n < 2 ^ 64 → decimal n ≡ one ++ rest → 0 < length one → (one ≡ decimal (digits_value 10 one)) × (digits_value 10 one ≤ n)
front_of_number n one rest small is some =
    let has = decimal_by_steps HasNumbers one_digit digit_more n small small in
    let number = has.1 one rest is some in
    let below : number.0 < 2 ^ 64 = omega (arith, number.2, small) in
    let value : digits_value 10 one ≡ number.0 = ap (digits_value 10) number.1 ∙ (decimal_is_IsNumeral number.0 below).1 in
    (number.1 ∙ ap decimal (sym value), omega (arith, value, number.2))

-- ---- what the digits at hand say of the number that is to come

below_64 : (n : ℕ) → n ≤ 8389632 → n < 2 ^ 64
below_64 n few = omega (arith, few)

-- the number, where a byte behind it is there, or one whose digits begin with those at hand
pub led_number : (bytes behind more : List ℕ) (total n : ℕ) → total ≤ 8389632 → LeadsNumber bytes n → bytes ++ behind ≡ decimal total ++ 13 ∷ more
    → (n ≡ total) ⊎ ((rest : List ℕ) × (decimal n ≡ bytes ++ rest))
led_number bytes behind more total n few leads is =
    by_count (cases_lt leads.count (length bytes))
  where
    small : total < 2 ^ 64
    small = below_64 total few

    cut : take leads.count bytes ++ drop leads.count bytes ≡ bytes
    cut = take-append-drop leads.count bytes

    by_word : (one : List ℕ) → one ≡ bytes → AreDigits one → n ≡ digits_value 10 one → (n ≡ total) ⊎ ((rest : List ℕ) × (decimal n ≡ bytes ++ rest))
    by_word [] same are value = inr (decimal n, ap (λ list. list ++ decimal n) same)
    by_word (byte ∷ one) same are value =
        let within = digits_within (byte ∷ one) (decimal total) 13 behind more are return_is_none (ap (λ list. list ++ behind) same ∙ is) in
        let front = front_of_number total (byte ∷ one) within.0 small within.1 (omega arith) in
        inr ([], ap decimal value ∙ (sym front.0 ∙ (same ∙ sym (append-nil bytes))))

    by_count : (leads.count < length bytes) ⊎ (length bytes ≤ leads.count) → (n ≡ total) ⊎ ((rest : List ℕ) × (decimal n ≡ bytes ++ rest))
    by_count (inl less) =
        let here : drop leads.count bytes ≡ get_or bytes leads.count 0 ∷ drop (leads.count + 1) bytes = drop_more bytes leads.count 0 less in
        let whole : take leads.count bytes ++ get_or bytes leads.count 0 ∷ (drop (leads.count + 1) bytes ++ behind) ≡ decimal total ++ 13 ∷ more =
        sym (append_assoc (take leads.count bytes) (get_or bytes leads.count 0 ∷ drop (leads.count + 1) bytes) behind)
        ∙ (ap (λ list. (take leads.count bytes ++ list) ++ behind) (sym here) ∙ (ap (λ list. list ++ behind) cut ∙ is)) in
        let same : take leads.count bytes ≡ decimal total =
        up_to_other (take leads.count bytes) (decimal total) (get_or bytes leads.count 0) 13 (drop (leads.count + 1) bytes ++ behind) more
        (are_digits (take leads.count bytes) leads.leads.digits) (decimal_digits total small)
        (no_digit (get_or bytes leads.count 0) (leads.ends less)) return_is_none whole in
        inl (leads.number_is ∙ (ap (digits_value 10) same ∙ (decimal_is_IsNumeral total small).1))
    by_count (inr all) =
        let none : drop leads.count bytes ≡ [] = drop_all leads.count bytes all in
        let same : take leads.count bytes ≡ bytes = sym (append-nil (take leads.count bytes)) ∙ (ap (λ list. take leads.count bytes ++ list) (sym none) ∙ cut) in
        by_word (take leads.count bytes) same (are_digits (take leads.count bytes) leads.leads.digits) leads.number_is

-- digits past the limit begin no length that is within it
pub led_too_many : (bytes behind more : List ℕ) (total : ℕ) → total ≤ 8389632 → LeadsTooMany bytes → bytes ++ behind ≡ decimal total ++ 13 ∷ more → ⊥
led_too_many bytes behind more total few leads is = by_word (take leads.count bytes) (drop leads.count bytes) (take-append-drop leads.count bytes)
    (are_digits (take leads.count bytes) leads.leads.digits) leads.many
  where
    by_word : (one rest : List ℕ) → one ++ rest ≡ bytes → AreDigits one → 8389632 < digits_value 10 one → ⊥
    by_word [] rest same are many = absurd (omega (arith, many))
    by_word (byte ∷ one) rest same are many =
        let all : (byte ∷ one) ++ (rest ++ behind) ≡ decimal total ++ 13 ∷ more =
        sym (append_assoc (byte ∷ one) rest behind) ∙ (ap (λ list. list ++ behind) same ∙ is) in
        let within = digits_within (byte ∷ one) (decimal total) 13 (rest ++ behind) more are return_is_none all in
        let front = front_of_number total (byte ∷ one) within.0 (below_64 total few) within.1 (omega arith) in
        absurd (omega (arith, front.1, many, few))
