-- What callers may take from a turn and from the end.
use Rattle.std.proofs.Common.{◌≡◌, ℕ, List, [], ◌∷◌, ◌++◌, Bool, true, false, cond, ◌==◌, ◌||◌, filter, refl, sym, ap, ◌∙◌, append-nil}
use Rattle.std.proofs.lemmas.List.{append_cancel_left}
use Rattle.std.proofs.lemmas.List.Elements.{filter-append}
use Rattle.fts_turnstile.specs.declared.turn.LoggedTurn.{LoggedTurn}
use Rattle.fts_turnstile.specs.History.{is_among, items_of, items_by, OnlyOthersSince, AllName, AllNamed}
use Rattle.fts_turnstile.specs.Passes.{PassView, own_items, numbers_of, TookTurn}
use Rattle.fts_turnstile.proofs.Histories.{items_by-others}

-- a pass with the same numbers, which has seen more turns of others, has the same own items
pub own_kept : {I : Type 0} → (p q : PassView I) → numbers_of q ≡ numbers_of p → OnlyOthersSince (numbers_of p) p.seen q.seen → own_items q ≡ own_items p
own_kept p q same later = ap (λ ns. items_by ns q.seen) same ∙ items_by-others (numbers_of p) p.seen q.seen later

module _ {T I : Type 0} (items : T → List I) (names : I → ℕ) (shows : T → List ℕ) (work : T → T → Type 0) (old new : PassView I) where
  -- where it is known what the turn added, the own items grew by that
  pub own_by : (t : TookTurn items names shows work old new) (xs : List I) → items t.after ≡ items t.before ++ xs → own_items new ≡ own_items old ++ xs
  own_by t xs e = t.own_is ∙ ap (λ l. own_items old ++ l) (append_cancel_left (items t.before) t.added xs (sym t.appended ∙ e))

  -- where it added nothing, the own items are as they were
  pub own_same : (t : TookTurn items names shows work old new) → items t.after ≡ items t.before → own_items new ≡ own_items old
  own_same t e = own_by t [] (e ∙ sym (append-nil (items t.before))) ∙ append-nil (own_items old)

-- items that name one number: all pass the test for it, and none that for another
all_named : {I : Type 0} (names : I → ℕ) (n m : ℕ) (xs : List I) → AllName names m xs → filter (λ x. names x == n) xs ≡ cond (m == n) xs []
all_named {I} names n m [] named = by_case (m == n)
  where
    by_case : (b : Bool) → ◌≡◌ {A = List I} [] (cond b [] [])
    by_case true = refl
    by_case false = refl
all_named names n m (x ∷ xs) named =
    ap (λ k. cond (k == n) (x ∷ filter (λ y. names y == n) xs) (filter (λ y. names y == n) xs)) named.0
    ∙ ap (λ l. cond (m == n) (x ∷ l) l) (all_named names n m xs named.1)
    ∙ by_case (m == n)
  where
    by_case : (b : Bool) → cond b (x ∷ cond b xs []) (cond b xs []) ≡ cond b (x ∷ xs) []
    by_case true = refl
    by_case false = refl

-- where each item names its turn, the items that name a number are those of its turns
pub named_law : {I : Type 0} (names : I → ℕ) (turns : List (LoggedTurn I)) (n : ℕ) → AllNamed names turns
    → filter (λ x. names x == n) (items_of turns) ≡ items_by (n ∷ []) turns
named_law {I} names [] n named = refl
named_law {I} names (t ∷ ts) n named =
    filter-append (λ x. names x == n) t.items (items_of ts)
    ∙ (λ i. all_named names n t.number t.items named.0 i ++ named_law names ts n named.1 i)
    ∙ by_case (t.number == n)
  where
    others : List (LoggedTurn I)
    others = filter (λ u. is_among u.number (n ∷ [])) ts

    by_case : (b : Bool) → cond b t.items [] ++ items_of others ≡ items_of (cond (b || false) (t ∷ others) others)
    by_case true = refl
    by_case false = refl
