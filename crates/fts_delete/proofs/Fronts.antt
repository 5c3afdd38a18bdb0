-- A field at the first place of bytes: it is what is found at their front, and the bytes from the place behind it on are those behind it.
use Rattle.std.proofs.Common.{◌≡◌, refl, ap, sym, ◌∙◌, ℕ, ◌+◌, ◌-◌, ◌≤◌, Bool, List, [], length, take, drop, Option, Some, None, nat_le, if◌then◌else◌, arith}
use Rattle.std.proofs.lemmas.Bool.{le-leb}
use Rattle.std.proofs.lemmas.List.{drop_at, take_at, length-append, length-drop, append-nil}
use Rattle.fts_record.specs.Laws.{AreBytes}
use Rattle.fts_record.specs.Placed.{placed}
use Rattle.fts_record.proofs.Found.{Finds}

-- what stands at the first place
first_place : {A : Type 0} (value_of : List ℕ → Option (A × List ℕ)) (bytes : List ℕ)
    → (if nat_le 0 (length bytes) then placed (length bytes) (value_of (drop 0 bytes)) else None) ≡ placed (length bytes) (value_of bytes)
first_place value_of bytes = rw (le-leb 0 (length bytes) (omega arith)) refl

-- what was placed was found
placed_some : {A : Type 0} (size : ℕ) (o : Option (A × List ℕ)) (value : A) (at : ℕ) → placed size o ≡ Some (value, at)
    → (rest : List ℕ) × (o ≡ Some (value, rest)) × (at ≡ size - length rest)
placed_some size None value at e = absurd cc
placed_some {A = A} size (Some found) value at e =
    let pair : A × ℕ = (found.0, size - length found.1) in
    let same : pair ≡ (value, at) = cc in
    (found.1, ap (λ (v : A). found_pair v) (ap (λ (p : A × ℕ). p.0) same), sym (ap (λ (p : A × ℕ). p.1) same))
  where
    found_pair : A → Option (A × List ℕ)
    found_pair v = Some (v, found.1)

-- what wasn't, wasn't
placed_none : {A : Type 0} (size : ℕ) (o : Option (A × List ℕ)) → placed size o ≡ None → o ≡ None
placed_none size None e = refl
placed_none size (Some found) e = absurd cc

-- the bytes from a place to their end
rest_at : (at : ℕ) (bytes : List ℕ) → take (length bytes - at) (drop at bytes) ≡ drop at bytes
rest_at at bytes =
    let size : length (drop at bytes) ≡ length bytes - at = omega (arith, length-drop at bytes) in
    ap (take (length bytes - at)) (sym (append-nil (drop at bytes))) ∙ take_at (drop at bytes) [] (length bytes - at) size

module _ {A : Type 0} (value_of : List ℕ → Option (A × List ℕ)) (spell : A → List ℕ) (fits : A → Bool) (finds : Finds value_of spell fits)
    (bytes : List ℕ) where
  -- where a field is there
  pub found_front : (value : A) (at : ℕ) → AreBytes bytes
      → (if nat_le 0 (length bytes) then placed (length bytes) (value_of (drop 0 bytes)) else None) ≡ Some (value, at)
      → (at ≤ length bytes) × (value_of bytes ≡ Some (value, drop at bytes))
  found_front value at are e =
      let p = placed_some (length bytes) (value_of bytes) value at (sym (first_place value_of bytes) ∙ e) in
      let t = finds.takes bytes (value, p.0) are p.1 in
      let long : length bytes ≡ length (spell value) + length p.0 = ap length t.parts ∙ length-append (spell value) p.0 in
      let far : length (spell value) ≡ at = omega (arith, p.2, long) in
      let rest : drop at bytes ≡ p.0 = ap (drop at) t.parts ∙ drop_at (spell value) p.0 at far in
      (omega (arith, long, far), p.1 ∙ ap (λ (r : List ℕ). some_pair value r) (sym rest))
    where
      some_pair : A → List ℕ → Option (A × List ℕ)
      some_pair v r = Some (v, r)

  -- where none is
  pub none_front : (if nat_le 0 (length bytes) then placed (length bytes) (value_of (drop 0 bytes)) else None) ≡ None → value_of bytes ≡ None
  none_front e = placed_none (length bytes) (value_of bytes) (sym (first_place value_of bytes) ∙ e)

  -- what was found, with the bytes behind it
  pub found_is : (value : A) (at : ℕ) → AreBytes bytes
      → (if nat_le 0 (length bytes) then placed (length bytes) (value_of (drop 0 bytes)) else None) ≡ Some (value, at)
      → Some (value, take (length bytes - at) (drop at bytes)) ≡ value_of bytes
  found_is value at are e = ap (λ (r : List ℕ). pair_of value r) (rest_at at bytes) ∙ sym (found_front value at are e).1
    where
      pair_of : A → List ℕ → Option (A × List ℕ)
      pair_of v r = Some (v, r)
