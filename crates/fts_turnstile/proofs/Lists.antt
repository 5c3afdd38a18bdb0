-- Places and beginnings of lists, and numbers among others.
use Rattle.std.proofs.Common.{◌≡◌, ◌⊎◌, ℕ, zero, suc, ◌<◌, ◌≤◌, List, [], ◌∷◌, ◌++◌, length, refl, sym, ap, ◌∙◌, inl, inr, ⊎_elim, arith, length-append, append_assoc, append-nil}
use mathlib.Core.Option.{some, some-ne-none, some-injective}
use lib.ListN.{get_elem?}
use Rattle.fts_turnstile.specs.History.{Begins, Among, NoneTwice}

module _ {A : Type 0} where
  -- a place with an element is within the list
  pub at_below : (l : List A) (i : ℕ) (a : A) → get_elem? l i ≡ some a → i < length l
  at_below [] i a e = absurd (some-ne-none a (sym e))
  at_below (x ∷ xs) zero a e = omega arith
  at_below (x ∷ xs) (suc i) a e = let r = at_below xs i a e in omega arith

  -- an element of a list that is one longer is one of the list, or the new one
  pub at_pushed : (l : List A) (a b : A) (j : ℕ) → get_elem? (l ++ a ∷ []) j ≡ some b → (get_elem? l j ≡ some b) ⊎ ((j ≡ length l) × (a ≡ b))
  at_pushed [] a b zero e = inr (refl, some-injective a b e)
  at_pushed [] a b (suc j) e = absurd (some-ne-none b (sym e))
  at_pushed (x ∷ xs) a b zero e = inl e
  at_pushed (x ∷ xs) a b (suc j) e = ⊎_elim inl (λ t. inr (ap suc t.0, t.1)) (at_pushed xs a b j e)

  -- one place has one element
  pub at_one : (l : List A) (i : ℕ) (a b : A) → get_elem? l i ≡ some a → get_elem? l i ≡ some b → a ≡ b
  at_one l i a b e f = some-injective a b (sym e ∙ f)

  -- a list begins with itself
  pub begins_self : (l : List A) → Begins l l
  begins_self l = ([], sym (append-nil l))

  -- a beginning stays one when others follow
  pub begins_more : (l m n : List A) → Begins l m → Begins l (m ++ n)
  begins_more l m n b = (b.0 ++ n, ap (λ x. x ++ n) b.1 ∙ append_assoc l b.0 n)

  -- a beginning is no longer than the list
  pub begins_length : (l m : List A) → Begins l m → length l ≤ length m
  begins_length l m b = omega (arith, ap length b.1, length-append l b.0)

  -- of two beginnings of one list the shorter begins the longer
  pub begins_shorter : (l m n : List A) → Begins l n → Begins m n → length l ≤ length m → Begins l m
  begins_shorter [] m n b c h = (m, refl)
  begins_shorter (x ∷ xs) [] n b c h = absurd (omega arith)
  begins_shorter (x ∷ xs) (y ∷ ys) [] b c h = absurd (cc (b.1))
  begins_shorter (x ∷ xs) (y ∷ ys) (z ∷ zs) b c h =
      let p : z ∷ zs ≡ x ∷ (xs ++ b.0) = b.1 in
      let q : z ∷ zs ≡ y ∷ (ys ++ c.0) = c.1 in
      let pt : zs ≡ xs ++ b.0 = cc in
      let qt : zs ≡ ys ++ c.0 = cc in
      let same : y ≡ x = cc in
      let r = begins_shorter xs ys zs (b.0, pt) (c.0, qt) (omega arith) in
      (r.0, (λ i. same i ∷ r.1 i))

  -- an element stays where it is when others follow
  pub at_front : (l m : List A) (i : ℕ) (t : A) → get_elem? l i ≡ some t → get_elem? (l ++ m) i ≡ some t
  at_front [] m i t e = absurd (some-ne-none t (sym e))
  at_front (x ∷ xs) m zero t e = e
  at_front (x ∷ xs) m (suc i) t e = at_front xs m i t e

-- a number of two lists put together is among the one or the other
pub among-append : (n : ℕ) (ms ns : List ℕ) → Among n (ms ++ ns) → Among n ms ⊎ Among n ns
among-append n [] ns a = inr a
among-append n (m ∷ ms) ns a = ⊎_elim (λ e. inl (inl e)) (λ t. ⊎_elim (λ x. inl (inr x)) inr (among-append n ms ns t)) a

-- a number stays among these when others follow
pub among_left : (n : ℕ) (ms ns : List ℕ) → Among n ms → Among n (ms ++ ns)
among_left n [] ns a = absurd a
among_left n (m ∷ ms) ns a = ⊎_elim inl (λ t. inr (among_left n ms ns t)) a

-- and when others come before
pub among_right : (n : ℕ) (ms ns : List ℕ) → Among n ns → Among n (ms ++ ns)
among_right n [] ns a = a
among_right n (m ∷ ms) ns a = inr (among_right n ms ns a)

-- a beginning of numbers of which none stands twice
pub none_twice_left : (ms ns : List ℕ) → NoneTwice (ms ++ ns) → NoneTwice ms
none_twice_left [] ns once = tt
none_twice_left (m ∷ ms) ns once = ((λ a. once.0 (among_left m ms ns a)), none_twice_left ms ns once.1)

-- two such lists with no number in common, put together
pub none_twice-append : (ms ns : List ℕ) → NoneTwice ms → NoneTwice ns → ((n : ℕ) → Among n ms → Among n ns → ⊥) → NoneTwice (ms ++ ns)
none_twice-append [] ns once again apart = again
none_twice-append (m ∷ ms) ns once again apart = (
  (λ a. ⊎_elim (λ x. once.0 x) (λ x. apart m (inl refl) x) (among-append m ms ns a)),
  none_twice-append ms ns once.1 again (λ n a b. apart n (inr a) b),
)
