-- Texts that are cut at their first colon.
use Rattle.std.proofs.Common.{◌≡◌, ℕ, suc, ◌+◌, ◌<◌, ◌||◌, Bool, true, false, cond, List, [], ◌∷◌, length, Option, Some, None, Bor, refl, arith, lit<}
use Rattle.std.specs.Prelude.{◌==◌, not}
use Rattle.std.specs.List.{list_any, position_or_len}
use Rattle.std.proofs.lemmas.Str.Pattern.{split_once_first, IsSplitOnceResult}
use Rattle.fts_jobdoc.specs.Checksums.{is_colon, checksum_by, checksum_in}
use Rattle.fts_jobdoc.specs.declared.checksum.Checksum.TheVariants.{Malformed}

-- where an item passes, the first that does stands before the end
pub list_any-found : {X : Type 0} (test : X → Bool) (xs : List X) → position_or_len test xs < length xs → list_any test xs ≡ true
list_any-found test [] found = absurd (omega arith)
list_any-found test (x ∷ xs) found =
    elim (test x) as (λ b. cond (not b) (1 + position_or_len test xs) 0 < suc (length xs) → (b || list_any test xs) ≡ true) [
      | true ↦ λ _. refl
      | false ↦ λ later. list_any-found test xs (omega arith)
    ] found

-- where none passes, it is the length
pub list_any-missing : {X : Type 0} (test : X → Bool) (xs : List X) → position_or_len test xs ≡ length xs → list_any test xs ≡ false
list_any-missing test [] missing = refl
list_any-missing test (x ∷ xs) missing =
    elim (test x) as (λ b. cond (not b) (1 + position_or_len test xs) 0 ≡ suc (length xs) → (b || list_any test xs) ≡ false) [
      | true ↦ λ early. absurd (omega arith)
      | false ↦ λ later. list_any-missing test xs (omega arith)
    ] missing

-- a text that was cut at its first colon
pub checksum_in-cut : (text : List ℕ) (cut : Option (Bor (List ℕ) × Bor (List ℕ))) (front rest : Bor (List ℕ)) → (length text == 0) ≡ false
    → cut ≡ Some (front, rest) → IsSplitOnceResult 58 text cut → checksum_in text ≡ checksum_by front.now rest.now
unfolding checksum_in
checksum_in-cut text cut front rest full e is =
    let parts = split_once_first 58 text (Some (front, rest)) (rw e at is) (lit< tt) in
    rw (full, list_any-found is_colon text parts.0, parts.1, parts.2) refl

-- a text that has none
pub checksum_in-whole : (text : List ℕ) → (length text == 0) ≡ false → IsSplitOnceResult 58 text None → checksum_in text ≡ Malformed
unfolding checksum_in
checksum_in-whole text full is = rw (full, list_any-missing is_colon text (split_once_first 58 text None is (lit< tt))) refl
