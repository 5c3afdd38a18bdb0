-- Lists of views: sums over them, and what each or any two of them keep when one or two change.
use Rattle.std.proofs.Common.{◌≡◌, ◌≢◌, ◌⊎◌, ℕ, zero, suc, ◌+◌, ◌≤◌, List, [], ◌∷◌, ◌++◌, length, set, refl, sym, ap, ◌∙◌, subst, ⊎_elim, arith}
use mathlib.Core.Option.{some, some-ne-none, some-injective}
use mathlib.Core.Logic.{dite}
use native.Mathlib.Decide.{dec_le, ℕ_discrete}
use lib.ListN.{get_elem?}
use Rattle.atomic_table.proofs.Lists.{at_set, at_longer, at_last, set_here, set_else}
use Rattle.fts_turnstile.specs.declared.view.View.{View}
use Rattle.fts_turnstile.specs.History.{Among}
use Rattle.fts_turnstile.specs.Views.{all_numbers}
use Rattle.fts_turnstile.specs.Rule.{total, AllOwned, NoTwo}
use Rattle.fts_turnstile.proofs.Lists.{at_pushed, at_below}

module _ {I : Type 0} where
  -- the sum once a view has changed
  pub total_set : (f : View I → ℕ) (views : List (View I)) (j : ℕ) (v w : View I) → get_elem? views j ≡ some v
      → total f (set views j w) + f v ≡ total f views + f w
  total_set f [] j v w e = absurd (some-ne-none v (sym e))
  total_set f (x ∷ xs) zero v w e = let is : f x ≡ f v = ap f (some-injective x v e) in omega arith
  total_set f (x ∷ xs) (suc j) v w e = let rest = total_set f xs j v w e in omega arith

  -- the sum with a view more
  pub total_push : (f : View I → ℕ) (views : List (View I)) (v : View I) → total f (views ++ v ∷ []) ≡ total f views + f v
  total_push f [] v = omega arith
  total_push f (x ∷ xs) v = let rest = total_push f xs v in omega arith

  -- of two sums the one whose parts are no greater
  pub total_le : (f g : View I → ℕ) (views : List (View I)) → ((j : ℕ) (v : View I) → get_elem? views j ≡ some v → f v ≤ g v) → total f views ≤ total g views
  total_le f g [] le = omega arith
  total_le f g (x ∷ xs) le = let head = le zero x refl in let rest = total_le f g xs (λ j v e. le (suc j) v e) in omega arith

  -- what holds of each view, once one has changed
  pub each_set : (P : View I → Type 0) (views : List (View I)) (id : ℕ) (w : View I) → P w → ((j : ℕ) (u : View I) → j ≢ id → get_elem? views j ≡ some u → P u)
      → (j : ℕ) (u : View I) → get_elem? (set views id w) j ≡ some u → P u
  each_set P views id w mine others j u e =
      ⊎_elim (λ (x : (j ≡ id) × (w ≡ u)). subst P x.1 mine) (λ (x : (j ≢ id) × (get_elem? views j ≡ some u)). others j u x.0 x.1) (at_set views id j w u e)

  -- what holds of each view, with one more
  pub each_push : (P : View I → Type 0) (views : List (View I)) (w : View I) → P w → ((j : ℕ) (u : View I) → get_elem? views j ≡ some u → P u)
      → (j : ℕ) (u : View I) → get_elem? (views ++ w ∷ []) j ≡ some u → P u
  each_push P views w mine others j u e =
      ⊎_elim (λ (x : get_elem? views j ≡ some u). others j u x) (λ (x : (j ≡ length views) × (w ≡ u)). subst P x.1 mine) (at_pushed views w u j e)

  -- each number still belongs to a pass, once a view has changed and kept its numbers
  pub owned_set : (given : ℕ) (views : List (View I)) (id : ℕ) (v w : View I) → get_elem? views id ≡ some v → (v.lives ≡ 1 → w.lives ≡ 1)
      → ((n : ℕ) → Among n (all_numbers v) → Among n (all_numbers w)) → AllOwned given views → AllOwned given (set views id w)
  owned_set given views id v w at lives more owned n le = go (owned n le)
    where
      go : (j : ℕ) × (u : View I) × (get_elem? views j ≡ some u) × (u.lives ≡ 1) × Among n (all_numbers u)
          → (j : ℕ) × (u : View I) × (get_elem? (set views id w) j ≡ some u) × (u.lives ≡ 1) × Among n (all_numbers u)
      go o = dite (ℕ_discrete o.0 id)
          (λ same.
          let is : o.1 ≡ v = some-injective o.1 v (sym o.2 ∙ (subst (λ j. get_elem? views j ≡ some v) (sym same) at)) in (
            id,
            w,
            set_here views id w (at_below views id v at),
            lives (subst (λ (u : View I). u.lives ≡ 1) is o.3),
            more n (subst (λ (u : View I). Among n (all_numbers u)) is o.4),
          ))
          (λ other. (o.0, o.1, set_else views id o.0 w other ∙ o.2, o.3, o.4))

  -- and with a new pass that has the next number
  pub owned_push : (given : ℕ) (views : List (View I)) (w : View I) → w.lives ≡ 1 → Among (given + 1) (all_numbers w) → AllOwned given views
      → AllOwned (given + 1) (views ++ w ∷ [])
  owned_push given views w lives has owned n le = dite (dec_le n given)
      (λ small. let o = owned n small in (o.0, o.1, at_longer views (w ∷ []) o.0 o.1 o.2, o.3, o.4))
      (λ big. let is : given + 1 ≡ n = omega arith in
      (length views, w, at_last views w (length views) refl, lives, subst (λ k. Among k (all_numbers w)) is has))

  -- and with a view more that owns none
  pub owned_more : (given : ℕ) (views : List (View I)) (w : View I) → AllOwned given views → AllOwned given (views ++ w ∷ [])
  owned_more given views w owned n le = let o = owned n le in (o.0, o.1, at_longer views (w ∷ []) o.0 o.1 o.2, o.3, o.4)

  -- and once a view has taken in the numbers of another
  pub owned_join : (given : ℕ) (views : List (View I)) (a b : ℕ) (v w x y : View I) → get_elem? views a ≡ some v → ¬ (b ≡ a) → get_elem? views b ≡ some w
      → (v.lives ≡ 1 → x.lives ≡ 1) → (w.lives ≡ 1 → x.lives ≡ 1)
      → ((n : ℕ) → Among n (all_numbers v) → Among n (all_numbers x)) → (w.lives ≡ 1 → (n : ℕ) → Among n (all_numbers w) → Among n (all_numbers x))
      → AllOwned given views → AllOwned given (set (set views a x) b y)
  owned_join given views a b v w x y at apart there v_lives w_lives v_more w_more owned n le = go (owned n le)
    where
      here : get_elem? (set (set views a x) b y) a ≡ some x
      here = set_else (set views a x) b a y (λ e. apart (sym e)) ∙ set_here views a x (at_below views a v at)

      go : (j : ℕ) × (u : View I) × (get_elem? views j ≡ some u) × (u.lives ≡ 1) × Among n (all_numbers u)
          → (j : ℕ) × (u : View I) × (get_elem? (set (set views a x) b y) j ≡ some u) × (u.lives ≡ 1) × Among n (all_numbers u)
      go o = dite (ℕ_discrete o.0 a)
          (λ same.
          let is : o.1 ≡ v = some-injective o.1 v (sym o.2 ∙ (subst (λ j. get_elem? views j ≡ some v) (sym same) at)) in
          (a, x, here, v_lives (subst (λ (u : View I). u.lives ≡ 1) is o.3), v_more n (subst (λ (u : View I). Among n (all_numbers u)) is o.4)))
          (λ not_a. dite (ℕ_discrete o.0 b)
          (λ same.
          let is : o.1 ≡ w = some-injective o.1 w (sym o.2 ∙ (subst (λ j. get_elem? views j ≡ some w) (sym same) there)) in
          let live : w.lives ≡ 1 = subst (λ (u : View I). u.lives ≡ 1) is o.3 in
          (a, x, here, w_lives live, w_more live n (subst (λ (u : View I). Among n (all_numbers u)) is o.4)))
          (λ not_b. (o.0, o.1, set_else (set views a x) b o.0 y not_b ∙ (set_else views a o.0 x not_a ∙ o.2), o.3, o.4)))

  module _ (R : View I → View I → Type 0) (turned : (v w : View I) → R v w → R w v) where
    -- no two views are so, once one has changed that then is so with no other
    pub apart_set : (views : List (View I)) (id : ℕ) (w : View I) → NoTwo R views → ((j : ℕ) (u : View I) → j ≢ id → get_elem? views j ≡ some u → ¬ R w u)
        → NoTwo R (set views id w)
    apart_set views id w old new i j x y ei ej r = ⊎_elim
        (λ (a : (i ≡ id) × (w ≡ x)). ⊎_elim
        (λ (b : (j ≡ id) × (w ≡ y)). a.0 ∙ sym b.0)
        (λ (b : (j ≢ id) × (get_elem? views j ≡ some y)). absurd (new j y b.0 b.1 (subst (λ z. R z y) (sym a.1) r)))
        (at_set views id j w y ej))
        (λ (a : (i ≢ id) × (get_elem? views i ≡ some x)). ⊎_elim
        (λ (b : (j ≡ id) × (w ≡ y)). absurd (new i x a.0 a.1 (subst (λ z. R z x) (sym b.1) (turned x y r))))
        (λ (b : (j ≢ id) × (get_elem? views j ≡ some y)). old i j x y a.1 b.1 r)
        (at_set views id j w y ej))
        (at_set views id i w x ei)

    -- the same of a view that is so with no more than it was
    pub apart_less : (views : List (View I)) (id : ℕ) (v w : View I) → get_elem? views id ≡ some v → NoTwo R views → ((u : View I) → R w u → R v u)
        → NoTwo R (set views id w)
    apart_less views id v w at old less = apart_set views id w old (λ j u other e r. other (sym (old id j v u at e (less u r))))

    -- and with a view more that is so with none
    pub apart_push : (views : List (View I)) (w : View I) → NoTwo R views → ((j : ℕ) (u : View I) → get_elem? views j ≡ some u → ¬ R w u)
        → NoTwo R (views ++ w ∷ [])
    apart_push views w old new i j x y ei ej r = ⊎_elim
        (λ (a : get_elem? views i ≡ some x). ⊎_elim
        (λ (b : get_elem? views j ≡ some y). old i j x y a b r)
        (λ (b : (j ≡ length views) × (w ≡ y)). absurd (new i x a (subst (λ z. R z x) (sym b.1) (turned x y r))))
        (at_pushed views w y j ej))
        (λ (a : (i ≡ length views) × (w ≡ x)). ⊎_elim
        (λ (b : get_elem? views j ≡ some y). absurd (new j y b (subst (λ z. R z y) (sym a.1) r)))
        (λ (b : (j ≡ length views) × (w ≡ y)). a.0 ∙ sym b.0)
        (at_pushed views w y j ej))
        (at_pushed views w x i ei)

    -- and once one view has taken in another, which is then so with none
    pub apart_join : (views : List (View I)) (a b : ℕ) (v w x y : View I) → get_elem? views a ≡ some v → get_elem? views b ≡ some w → NoTwo R views
        → ((u : View I) → R x u → R v u ⊎ R w u) → ((u : View I) → ¬ R y u) → NoTwo R (set (set views a x) b y)
    apart_join views a b v w x y at there old takes spent i j p q ei ej r = ⊎_elim
        (λ (g : (i ≡ b) × (y ≡ p)). absurd (spent q (subst (λ z. R z q) (sym g.1) r)))
        (λ (g : (i ≢ b) × (get_elem? (set views a x) i ≡ some p)). ⊎_elim
        (λ (h : (j ≡ b) × (y ≡ q)). absurd (spent p (subst (λ z. R z p) (sym h.1) (turned p q r))))
        (λ (h : (j ≢ b) × (get_elem? (set views a x) j ≡ some q)). ⊎_elim
        (λ (k : (i ≡ a) × (x ≡ p)). ⊎_elim
        (λ (l : (j ≡ a) × (x ≡ q)). k.0 ∙ sym l.0)
        (λ (l : (j ≢ a) × (get_elem? views j ≡ some q)). absurd (clash j q l.0 h.0 l.1 (subst (λ z. R z q) (sym k.1) r)))
        (at_set views a j x q h.1))
        (λ (k : (i ≢ a) × (get_elem? views i ≡ some p)). ⊎_elim
        (λ (l : (j ≡ a) × (x ≡ q)). absurd (clash i p k.0 g.0 k.1 (subst (λ z. R z p) (sym l.1) (turned p q r))))
        (λ (l : (j ≢ a) × (get_elem? views j ≡ some q)). old i j p q k.1 l.1 r)
        (at_set views a j x q h.1))
        (at_set views a i x p g.1))
        (at_set (set views a x) b j y q ej))
        (at_set (set views a x) b i y p ei)
      where
        -- whoever is so with the view that took in was so with one of the two
        clash : (k : ℕ) (u : View I) → k ≢ a → k ≢ b → get_elem? views k ≡ some u → R x u → ⊥
        clash k u na nb e s = ⊎_elim (λ t. na (sym (old a k v u at e t))) (λ t. nb (sym (old b k w u there e t))) (takes u s)
