-- What a whole turn tells, from what its parts tell.
use Rattle.std.proofs.Common.{◌≡◌, ℕ, ◌+◌, List, [], ◌∷◌, ◌++◌, Option, Some, None, sym, ap, ◌∙◌, subst, append_assoc}
use Rattle.atomic_table.specs.Table.{Me}
use Rattle.atomic_table.specs.Seated.{TableId}
use Rattle.fts_turnstile.specs.declared.turn.LoggedTurn.{LoggedTurn}
use Rattle.fts_turnstile.specs.declared.view.View.{View}
use Rattle.fts_turnstile.specs.History.{Begins, turn_of, items_of, items_by, shown_after, NoneBy, OnlyOthersSince, AllName, AllNamed}
use Rattle.fts_turnstile.specs.Views.{own_numbers, new_view, view_with_ticket, view_with_number, served_view}
use Rattle.fts_turnstile.specs.Steps.{Entered, MayLeave, Left}
use Rattle.fts_turnstile.specs.Passes.{PassView, pass_of, seen_list, Appends, TookTurn}
use Rattle.fts_turnstile.proofs.Histories.{items_of-append, items_by-none, items_by-pushed}

module _ {T I : Type 0} (items : T → List I) (names : I → ℕ) (shows : T → List ℕ) where
  -- one slot holds one value
  held_one : (x y : T) → ◌≡◌ {A = List (ℕ × Option T)} ((0, Some x) ∷ []) ((0, Some y) ∷ []) → x ≡ y
  held_one x y e = cc (ap (λ l. first l) e)
    where
      first : List (ℕ × Option T) → Option T
      first [] = None
      first (z ∷ zs) = z.1

  -- the value and the view, once it is served
  abbrev Came : View I → Me (Option T) (View I) → T → Type 0
  Came v m x = (n : ℕ) × (turns : List (LoggedTurn I)) × (m ≡ (served_view (view_with_ticket v n) turns, (0, None) ∷ []))
      × OnlyOthersSince (own_numbers v) v.seen turns × AllNamed names turns × (items x ≡ v.opening ++ items_of turns)
      × (shows x ≡ shown_after v.opening_shows turns)

  -- what entering tells, by the value that came out
  came : (v : View I) (m : Me (Option T) (View I)) (x : T) → Entered items names shows v m x → Came v m x
  came v m x e =
      let s = e.2 in
      let same : s.1 ≡ x = held_one s.1 x (sym s.3 ∙ e.4) in
      (e.0, s.0, e.3 ∙ ap (λ k. (k, (0, None) ∷ [])) s.2, s.4, s.5, ap items (sym same) ∙ s.6, ap shows (sym same) ∙ s.7)

  -- the value's list begins with what the pass had seen
  pub begins_seen : (t : TableId) (v : View I) (m : Me (Option T) (View I)) (x : T) → Entered items names shows v m x
      → Begins (seen_list (pass_of t v)) (items x)
  begins_seen t v m x e = go (came v m x e)
    where
      go : Came v m x → Begins (seen_list (pass_of t v)) (items x)
      go d = (
        items_of d.3.0,
        d.5 ∙ ap (λ l. v.opening ++ items_of l) d.3.1 ∙ ap (λ l. v.opening ++ l) (items_of-append v.seen d.3.0)
            ∙ sym (append_assoc v.opening (items_of v.seen) (items_of d.3.0)),
      )

  -- a value to which the work appended may go back
  pub may_leave : (v : View I) (m : Me (Option T) (View I)) (x y : T) → Entered items names shows v m x → Appends items names v.number x y
      → MayLeave items names m.0 y
  may_leave v m x y e a = go (came v m x e)
    where
      go : Came v m x → MayLeave items names m.0 y
      go d = (
        a.added,
        a.appended ∙ ap (λ l. l ++ a.added) d.5 ∙ sym (ap (λ (z : Me (Option T) (View I)). (z.0.opening ++ items_of z.0.seen) ++ a.added) d.2),
        subst (λ (z : Me (Option T) (View I)). AllName names z.0.number a.added) (sym d.2) a.named,
      )

  -- a whole turn, from what its first part, the work and its last part tell
  pub took : (work : T → T → Type 0) (t u : TableId) (v : View I) (m : Me (Option T) (View I)) (w : View I) (x y : T) (p : PassView I) → pass_of t v ≡ p
      → Entered items names shows v m x → Left items names shows m.0 y w → work x y
      → TookTurn items names shows work p (pass_of u w)
  took work t u v m w x y p same e l did = subst (λ q. TookTurn items names shows work q (pass_of u w)) same (go (came v m x e))
    where
      go : Came v m x → TookTurn items names shows work (pass_of t v) (pass_of u w)
      go d =
          let rest = d.3.0 in
          let is : d.1 ≡ v.seen ++ rest = d.3.1 in
          let at : m.0 ≡ served_view (view_with_ticket v d.0) d.1 = ap (λ z. z.0) d.2 in
          let new_seen : w.seen ≡ (v.seen ++ rest) ++ turn_of v.number l.0 (shows y) ∷ [] =
          ap (λ z. z.seen) l.3 ∙ (λ i. (at i).seen ++ turn_of (at i).number l.0 (shows y) ∷ []) ∙ ap (λ z. z ++ turn_of v.number l.0 (shows y) ∷ []) is in
          let keeps : own_numbers w ≡ own_numbers v = ap own_numbers l.3 ∙ ap own_numbers at in
          record {
            between = rest;
            before = x;
            after = y;
            added = l.0;
            others = d.3.2;
            grew = (rest ++ turn_of v.number l.0 (shows y) ∷ [], new_seen ∙ append_assoc v.seen rest (turn_of v.number l.0 (shows y) ∷ []));
            met = begins_seen t v m x e;
            all_named = subst (AllNamed names) is d.4;
            seen = new_seen;
            began = d.5 ∙ ap (λ z. v.opening ++ items_of z) is;
            showed = d.6 ∙ ap (shown_after v.opening_shows) is;
            appended = l.1 ∙ (λ i. ((at i).opening ++ items_of (at i).seen) ++ l.0) ∙ ap (λ z. z ++ l.0) (sym d.5);
            named = subst (λ (z : View I). AllName names z.number l.0) at l.2;
            own_is = (λ i. items_by (keeps i) (new_seen i)) ∙ items_by-pushed v.number v.joined v.seen rest l.0 (shows y) d.3.2;
            did = did;
          }

-- a new pass has no items of its own
pub fresh_own : {I : Type 0} → (v w r : View I) → w ≡ view_with_number v → r ≡ new_view w → NoneBy ((v.given + 1) ∷ []) v.seen
    → items_by (r.number ∷ r.joined) r.seen ≡ []
fresh_own v w r e f none_of = ap (λ z. items_by (z.number ∷ z.joined) z.seen) (f ∙ ap new_view e) ∙ items_by-none ((v.given + 1) ∷ []) v.seen none_of
