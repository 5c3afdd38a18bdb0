-- The key of a link's pair: no name has a blank, so two keys are one exactly where both names are.
use Rattle.std.proofs.Common.{◌≡◌, ℕ, Bool, true, false, ◌&&◌, not, ◌==◌, nat_eq, nat_le, List, [], ◌∷◌, ◌++◌, drop, length, codes, refl, ap, sym, ◌∙◌, inl, inr, arith}
use Rattle.std.proofs.lemmas.Bool.{cases_Bool, and_parts, and_from, false≢true}
use Rattle.std.proofs.lemmas.Bool.Decides.{nat_tests}
use Rattle.std.specs.Prelude.{bytes_eq}
use Rattle.std.specs.List.{list_all, starts_with}
use Rattle.fts_tables.specs.Names.{is_lower, is_scheme_byte, is_name_byte, is_host, is_behind_scheme, is_scheme_rest, is_endpoint_name}
use Rattle.fts_tables.specs.SettingsData.{is_same_pair}
use Rattle.fts_tables.specs.declared.settings.LinkRule.{LinkRule}
use Rattle.fts_config.specs.Distinct.{pair_key}

-- a byte that is no blank
abbrev is_ink : ℕ → Bool
is_ink byte = not (byte == 0x20)

-- what a test that refuses the blank takes is none
ink : (p : ℕ → Bool) (byte : ℕ) → p 0x20 ≡ false → p byte ≡ true → is_ink byte ≡ true
ink p byte refused taken =
    elim (cases_Bool (byte == 0x20)) [
      | inl blank ↦ let same : byte ≡ 0x20 = grind (arith, nat_tests) in absurd (false≢true (sym refused ∙ ap p (sym same) ∙ taken))
      | inr other ↦ rw other refl
    ]

-- so with lists
all_ink : (p : ℕ → Bool) (bytes : List ℕ) → p 0x20 ≡ false → list_all p bytes ≡ true → list_all is_ink bytes ≡ true
all_ink p [] refused taken = refl
all_ink p (byte ∷ bytes) refused taken =
    let parts = and_parts (p byte) (list_all p bytes) taken in
    and_from (is_ink byte) (list_all is_ink bytes) (ink p byte refused parts.0) (all_ink p bytes refused parts.1)

-- a host has no blank
host_ink : (bytes : List ℕ) → is_host bytes ≡ true → list_all is_ink bytes ≡ true
host_ink [] named = refl
host_ink (byte ∷ bytes) named = all_ink is_name_byte (byte ∷ bytes) refl named

-- what stands behind a scheme has none
behind_ink : (bytes : List ℕ) → is_behind_scheme bytes ≡ true → list_all is_ink bytes ≡ true
behind_ink [] named = absurd (false≢true named)
behind_ink (a ∷ []) named =
    let parts = and_parts (starts_with nat_eq (a ∷ []) (codes "://")) (is_host (drop 3 (a ∷ []))) named in
    absurd (false≢true (and_parts (58 == a) false parts.0).1)
behind_ink (a ∷ b ∷ []) named =
    let parts = and_parts (starts_with nat_eq (a ∷ b ∷ []) (codes "://")) (is_host (drop 3 (a ∷ b ∷ []))) named in
    let first = and_parts (58 == a) ((47 == b) && false) parts.0 in
    absurd (false≢true (and_parts (47 == b) false first.1).1)
behind_ink (a ∷ b ∷ c ∷ bytes) named =
    let parts = and_parts (starts_with nat_eq (a ∷ b ∷ c ∷ bytes) (codes "://")) (is_host bytes) named in
    let first = and_parts (58 == a) ((47 == b) && ((47 == c) && true)) parts.0 in
    let second = and_parts (47 == b) ((47 == c) && true) first.1 in
    let third = and_parts (47 == c) true second.1 in
    and_from (is_ink a) _ (ink (λ byte. 58 == byte) a refl first.0)
    (and_from (is_ink b) _ (ink (λ byte. 47 == byte) b refl second.0)
    (and_from (is_ink c) _ (ink (λ byte. 47 == byte) c refl third.0) (host_ink bytes parts.1)))

-- the rest of a scheme, and what stands behind it
rest_ink : (bytes : List ℕ) → is_scheme_rest bytes ≡ true → list_all is_ink bytes ≡ true
rest_ink [] named = refl
rest_ink (byte ∷ bytes) named =
    elim (cases_Bool (is_scheme_byte byte)) [
      | inl scheme ↦ and_from (is_ink byte) (list_all is_ink bytes) (ink is_scheme_byte byte refl scheme) (rest_ink bytes (rw scheme at named))
      | inr other ↦ behind_ink (byte ∷ bytes) (rw other at named)
    ]

-- a name has no blank
name_ink : (bytes : List ℕ) → is_endpoint_name bytes ≡ true → list_all is_ink bytes ≡ true
name_ink [] named = refl
name_ink (byte ∷ bytes) named =
    let parts = and_parts (nat_le (length (byte ∷ bytes)) 1024) (is_lower byte && is_scheme_rest bytes) named in
    let spelled = and_parts (is_lower byte) (is_scheme_rest bytes) parts.1 in
    and_from (is_ink byte) (list_all is_ink bytes) (ink is_lower byte refl spelled.0) (rest_ink bytes spelled.1)

-- a byte that is none is not the blank, from either side
not_blank : (byte : ℕ) → is_ink byte ≡ true → (byte == 0x20) ≡ false
not_blank byte is = grind (arith, nat_tests)

blank_not : (byte : ℕ) → is_ink byte ≡ true → (0x20 == byte) ≡ false
blank_not byte is = grind (arith, nat_tests)

-- two tests, and a third
all_three : (x y z : Bool) → ((x && y) && z) ≡ (x && (y && z))
all_three true y z = refl
all_three false y z = refl

-- two texts without blanks, each with a blank and another behind it
joined : (a b c d : List ℕ) → list_all is_ink a ≡ true → list_all is_ink c ≡ true
    → (bytes_eq a c && bytes_eq b d) ≡ bytes_eq (a ++ 0x20 ∷ b) (c ++ 0x20 ∷ d)
joined [] b [] d none none_too = refl
joined [] b (y ∷ c) d none none_too = rw (blank_not y (and_parts (is_ink y) (list_all is_ink c) none_too).0) refl
joined (x ∷ a) b [] d none none_too = rw (not_blank x (and_parts (is_ink x) (list_all is_ink a) none).0) refl
joined (x ∷ a) b (y ∷ c) d none none_too =
    let first = and_parts (is_ink x) (list_all is_ink a) none in
    let second = and_parts (is_ink y) (list_all is_ink c) none_too in
    all_three (x == y) (bytes_eq a c) (bytes_eq b d) ∙ ap (λ rest. (x == y) && rest) (joined a b c d first.1 second.1)

-- two links join one pair exactly where their keys are one
pub same_pair_by_key : (one other : LinkRule) → is_endpoint_name one.source ≡ true → is_endpoint_name other.source ≡ true → is_same_pair one other
    ≡ bytes_eq (pair_key one) (pair_key other)
same_pair_by_key one other named named_too = joined one.source one.dest other.source other.dest (name_ink one.source named) (name_ink other.source named_too)
