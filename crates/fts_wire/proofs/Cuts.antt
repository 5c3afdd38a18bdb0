-- A list cut at the first byte of a kind.
use Rattle.std.proofs.Common.{◌≡◌, ℕ, ◌+◌, Bool, true, false, List, ◌∷◌, ◌++◌, length, take, drop, get_or, refl, ap, sym, ◌∙◌, arith, subst, length-append}
use Rattle.std.specs.Prelude.{◌==◌, All}
use Rattle.std.specs.List.{position_or_len, before_first, after_first}
use Rattle.std.proofs.lemmas.Bool.{false≢true, ne_eqb, or_from}
use Rattle.std.proofs.lemmas.List.{get_or_append_left, get_or_at, take_at}
use Rattle.std.proofs.lemmas.List.Sums.{position_or_len_is}
use Rattle.std.proofs.Math.Seq.{drop-append-add}
use Rattle.httparse.specs.Grammar.{AllPass}
use Rattle.httparse.specs.Pieces.{is_newline}

-- no byte of the list passes
abbrev pub NoneOf : (ℕ → Bool) → List ℕ → Type 0
NoneOf p xs = All (λ b. p b ≡ false) xs

pub position_at : (p : ℕ → Bool) (xs : List ℕ) (y : ℕ) (ys : List ℕ) → NoneOf p xs → p y ≡ true → position_or_len p (xs ++ y ∷ ys) ≡ length xs
position_at p xs y ys none stop =
    position_or_len_is p (xs ++ y ∷ ys) (length xs) 0 (omega (arith, length-append xs (y ∷ ys)))
    (λ k h. subst (λ b. p b ≡ false) (sym (get_or_append_left xs (y ∷ ys) 0 k h)) (none k 0 h))
    (λ h. subst (λ b. p b ≡ true) (sym (get_or_at xs y ys 0 (length xs) refl)) stop)

pub before_at : (p : ℕ → Bool) (xs : List ℕ) (y : ℕ) (ys : List ℕ) → NoneOf p xs → p y ≡ true → before_first p (xs ++ y ∷ ys) ≡ xs
before_at p xs y ys none stop = ap (λ n. take n (xs ++ y ∷ ys)) (position_at p xs y ys none stop) ∙ take_at xs (y ∷ ys) (length xs) refl

pub after_at : (p : ℕ → Bool) (xs : List ℕ) (y : ℕ) (ys : List ℕ) → NoneOf p xs → p y ≡ true → after_first p (xs ++ y ∷ ys) ≡ ys
after_at p xs y ys none stop = ap (λ n. drop (n + 1) (xs ++ y ∷ ys)) (position_at p xs y ys none stop) ∙ drop-append-add xs (y ∷ ys) 1

-- bytes of a class that leaves out a byte
pub avoids : (test : ℕ → Bool) (c : ℕ) (xs : List ℕ) → test c ≡ false → AllPass test xs → NoneOf (λ b. b == c) xs
avoids test c xs out all k d h = ne_eqb (get_or xs k d) c (λ e. false≢true (sym out ∙ sym (ap test e) ∙ all k d h))

-- or that leaves out CR and LF
pub avoids_newline : (test : ℕ → Bool) (xs : List ℕ) → test 13 ≡ false → test 10 ≡ false → AllPass test xs → NoneOf is_newline xs
avoids_newline test xs cr lf all k d h = or_from (get_or xs k d == 13) (get_or xs k d == 10) (avoids test 13 xs cr all k d h) (avoids test 10 xs lf all k d h)
