-- The scheme of a URL begins the name of an endpoint.
use Rattle.std.proofs.Common.{◌≡◌, ℕ, ◌≤◌, true, List, [], ◌∷◌, ◌++◌, length, refl, ◌∙◌, ⊎_elim, arith}
use Rattle.std.specs.Prelude.{codes, map}
use Rattle.std.specs.List.{list_all, prefix_len}
use Rattle.std.specs.Char.{to_ascii_lowercase, is_ascii_alphabetic}
use Rattle.std.proofs.lemmas.Bool.{cond-true, cases_Bool, and_parts, and_from, le-leb}
use Rattle.std.proofs.lemmas.Bool.Decides.{nat_tests}
use Rattle.url.specs.Scheme.{scheme_len, IsScheme}
use Rattle.url.specs.Scheme as url
use Rattle.fts_tables.specs.declared.limits.TheConstants.{MAX_NAME_BYTES}
use Rattle.fts_tables.specs.Names.{is_lower, is_scheme_byte, is_scheme_rest, is_behind_scheme, is_host, IsEndpointName}

-- where as many bytes pass as there are, all do
all_pass : (test : ℕ → _) (bytes : List ℕ) → prefix_len test bytes ≡ length bytes → list_all test bytes ≡ true
all_pass test [] whole = refl
all_pass test (byte ∷ bytes) whole =
    ⊎_elim (λ passes. and_from _ _ passes (all_pass test bytes (grind arith)))
    (λ fails. absurd (grind arith))
    (cases_Bool (test byte))

-- a letter that is its own lower case is a lower-case letter
lower_letter : (byte : ℕ) → is_ascii_alphabetic byte ≡ true → to_ascii_lowercase byte ≡ byte → is_lower byte ≡ true
lower_letter byte letter lower = grind (arith, nat_tests)

-- a byte of a scheme that is its own lower case is one of an endpoint's scheme
lower_byte : (byte : ℕ) → url.is_scheme_byte byte ≡ true → to_ascii_lowercase byte ≡ byte → is_scheme_byte byte ≡ true
lower_byte byte passes lower = grind (arith, nat_tests)

-- the same of all bytes
lower_bytes : (bytes : List ℕ) → list_all url.is_scheme_byte bytes ≡ true → map to_ascii_lowercase bytes ≡ bytes → list_all is_scheme_byte bytes ≡ true
lower_bytes [] pass lower = refl
lower_bytes (byte ∷ bytes) pass lower =
    let parts = and_parts (url.is_scheme_byte byte) (list_all url.is_scheme_byte bytes) pass in
    let first : to_ascii_lowercase byte ≡ byte = grind (arith, lower) in
    let others : map to_ascii_lowercase bytes ≡ bytes = grind (arith, lower) in
    and_from _ _ (lower_byte byte parts.0 first) (lower_bytes bytes parts.1 others)

-- behind bytes of a scheme comes what is behind them
rest_of_scheme : (bytes rest : List ℕ) → list_all is_scheme_byte bytes ≡ true → is_scheme_rest (bytes ++ (codes "://" ++ rest))
    ≡ is_behind_scheme (codes "://" ++ rest)
rest_of_scheme [] rest pass = refl
rest_of_scheme (byte ∷ bytes) rest pass =
    let parts = and_parts (is_scheme_byte byte) (list_all is_scheme_byte bytes) pass in
    cond-true _ _ _ parts.0 ∙ rest_of_scheme bytes rest parts.1

-- a scheme, "://" and a host are the name of an endpoint
pub named_scheme : (scheme rest : List ℕ) → IsScheme scheme → length (scheme ++ (codes "://" ++ rest)) ≤ MAX_NAME_BYTES → is_host rest ≡ true
    → IsEndpointName (scheme ++ (codes "://" ++ rest))
unfolding scheme_len
named_scheme [] rest valid fits host = absurd (omega (arith, valid.nonempty))
named_scheme (byte ∷ bytes) rest valid fits host =
    let letter : is_ascii_alphabetic byte ≡ true = ⊎_elim (λ yes. yes) (λ no. let none = rw no at valid.whole in absurd (omega arith))
    (cases_Bool (is_ascii_alphabetic byte)) in
    let whole : prefix_len url.is_scheme_byte (byte ∷ bytes) ≡ length (byte ∷ bytes) = rw letter at valid.whole in
    let pass : list_all is_scheme_byte (byte ∷ bytes) ≡ true = lower_bytes (byte ∷ bytes) (all_pass url.is_scheme_byte (byte ∷ bytes) whole) valid.lower in
    let others : list_all is_scheme_byte bytes ≡ true = (and_parts (is_scheme_byte byte) (list_all is_scheme_byte bytes) pass).1 in
    let first : to_ascii_lowercase byte ≡ byte = grind (arith, valid.lower) in
    and_from _ _ (le-leb _ _ fits) (and_from _ _ (lower_letter byte letter first) (rest_of_scheme bytes rest others ∙ host))
