-- The rule holds of a new table, and what it says of a table that is closed.
use Rattle.std.proofs.Common.{◌≡◌, ℕ, zero, suc, ◌≤◌, List, [], ◌∷◌, ◌++◌, Option, Some, None, refl, sym, ap, ◌∙◌, subst, inl, ⊎_elim, arith, append-nil}
use mathlib.Core.Option.{some, some-ne-none, some-injective}
use lib.ListN.{get_elem?}
use Rattle.atomic_table.specs.Table.{State, Seen, Final, opening as first_state}
use Rattle.atomic_table.specs.Seated.{TableId}
use Rattle.fts_turnstile.specs.declared.turn.LoggedTurn.{LoggedTurn}
use Rattle.fts_turnstile.specs.declared.view.View.{View}
use Rattle.fts_turnstile.specs.History.{Among, items_of, shown_after, AllNamed, AllGiven}
use Rattle.fts_turnstile.specs.Views.{first_view, own_numbers, Rests}
use Rattle.fts_turnstile.specs.Rule.{IsInOrder, IsHome, IsAway, IsOrderly}
use Rattle.fts_turnstile.specs.Passes.{PassView, pass_of, HasAll, seen_list}
use Rattle.fts_turnstile.proofs.Lists.{at_one, among_left}
use Rattle.fts_turnstile.proofs.Histories.{all_seen, all_given}

module _ {T I : Type 0} (items : T → List I) (names : I → ℕ) (shows : T → List ℕ) (opening : List I) (opening_shows : List ℕ) where
  -- the rule of this lock
  abbrev Rule : State (Option T) (View I) → Type 0
  Rule = IsOrderly items names shows opening opening_shows

  -- what is so of each view of this lock
  abbrev Ok : List (LoggedTurn I) → ℕ → ℕ → ℕ → View I → Type 0
  Ok = IsInOrder opening opening_shows

  -- the rule holds of a new table
  pub starts : (x : T) → items x ≡ opening → shows x ≡ opening_shows
      → Rule (record { words = 0 ∷ 0 ∷ 1 ∷ []; homes = some (Some x) ∷ []; views = first_view opening opening_shows ∷ [] })
  starts x xs ms = record {
    counts = record {
      turns = [];
      tickets = 0;
      given = 0;
      hand = 0;
      few = (omega arith, omega arith);
      named = tt;
      takers = λ i t e. absurd (some-ne-none t (sym e));
    };
    words = refl;
    waiting = omega arith;
    living = omega arith;
    each = only (λ _ v. Ok [] 0 0 0 v) (record {
      seen = ([], refl);
      told = ([], refl);
      lives = omega arith;
      waits = omega arith;
      ticket = λ z. absurd (omega arith);
      served = λ z. absurd (omega arith);
      pass = λ _. record {
        opening_is = refl;
        shows_is = refl;
        own = λ i t e. absurd (some-ne-none t (sym e));
        told_own = λ i t e. absurd (some-ne-none t (sym e));
        once = ((λ x. x), tt);
        given_all = λ n y. ⊎_elim (λ (is : n ≡ 0). omega arith) absurd y;
        draws = λ _. (refl, refl);
      };
    });
    owned = λ n le. let is : 0 ≡ n = omega arith in (0, first_view opening opening_shows, refl, refl, inl (sym is));
    apart = λ i j v w ei ej _. only (λ k _. k ≡ j) (only (λ k _. 0 ≡ k) refl j w ej) i v ei;
    in_line = λ i j v w ei ej _. only (λ k _. k ≡ j) (only (λ k _. 0 ≡ k) refl j w ej) i v ei;
    value = inl (x, refl, xs ∙ sym (append-nil opening), ms, only (λ _ v. ¬ (v.served ≡ 1)) (λ z. absurd (omega arith)));
  }
    where
      -- the one view of a new table
      only : (P : ℕ → View I → Type 0) → P 0 (first_view opening opening_shows) → (j : ℕ) (v : View I)
          → get_elem? (first_view opening opening_shows ∷ []) j ≡ some v → P j v
      only P p zero v e = subst (P 0) (some-injective _ _ e) p
      only P p (suc j) v e = absurd (some-ne-none v (sym e))

  -- at the end, pass 0 with all numbers has seen all turns, and the value is at home
  pub closes : (id : ℕ) (v : View I) (s : State (Option T) (View I)) → Seen Rule id v s → v.lives ≡ 1 → v.number ≡ 0 → v.served ≡ 0
      → ((n : ℕ) → n ≤ v.given → Among n (own_numbers v))
      → (x : T) × (get_elem? s.homes 0 ≡ some (some (Some x))) × (items x ≡ v.opening ++ items_of v.seen) × (shows x ≡ shown_after v.opening_shows v.seen)
      × AllNamed names v.seen × AllGiven v.given v.seen
  closes id v s seen lives first not_served has_all =
      let r = seen.0 in
      let here = seen.1 in
      let f = r.each id v here in
      let k = f.pass lives in
      let given : v.given ≡ r.given = (k.draws first).0 in
      let all : r.turns ≡ v.seen =
      all_seen v.seen f.seen.0 r.turns f.seen.1 (λ i t e h. let b = r.takers i t e in k.own i t e h (has_all t.number (omega arith))) in
      ⊎_elim
      (λ (h : IsHome items names shows opening opening_shows s r.turns). (
        h.0,
        (λ i. get_elem? (h.1 i) 0),
        h.2 ∙ (λ i. sym k.opening_is i ++ items_of (all i)),
        h.3 ∙ (λ i. shown_after (sym k.shows_is i) (all i)),
        subst (AllNamed names) all r.named,
        subst (AllGiven v.given) all (subst (λ n. AllGiven n r.turns) (sym given) (all_given r.given r.turns r.takers)),
      ))
      (λ (a : IsAway items names shows opening opening_shows s).
      let u : View I = a.1.1 in
      let g = r.each a.1.0 u a.1.2 in
      let waits : u.waits ≡ 1 = (g.served a.1.3).0 in
      let le = g.waits in
      let le' = g.lives in
      let u_lives : u.lives ≡ 1 = omega arith in
      let small = (g.pass u_lives).given_all u.number (inl refl) in
      let mine = among_left u.number (own_numbers v) v.told_numbers (has_all u.number (omega arith)) in
      let j = r.apart id a.1.0 v u here a.1.2 (lives, u_lives, (u.number, mine, inl refl)) in
      let is : u ≡ v = at_one s.views id u v (subst (λ z. get_elem? s.views z ≡ some u) (sym j) a.1.2) here in
      let on : v.served ≡ 1 = subst (λ (z : View I). z.served ≡ 1) is a.1.3 in
      absurd (omega arith))
      r.value

module _ {T I : Type 0} (items : T → List I) (names : I → ℕ) (shows : T → List ℕ) where
  -- the table that is made
  pub starts_as : (slots : List (Option T)) (x y : T) → slots ≡ Some y ∷ [] → x ≡ y
      → IsOrderly items names shows (items x) (shows x) (first_state (0 ∷ 0 ∷ 1 ∷ []) slots (first_view (items x) (shows x)))
  starts_as slots x y is same =
      subst (λ l. IsOrderly items names shows (items x) (shows x) (first_state (0 ∷ 0 ∷ 1 ∷ []) l (first_view (items x) (shows x)))) (sym is)
      (starts items names shows (items x) (shows x) y (ap items (sym same)) (ap shows (sym same)))

  -- what the value at the end is to the pass that closed
  abbrev Says : PassView I → T → Type 0
  Says p x = (items x ≡ seen_list p) × (shows x ≡ shown_after p.opening_shows p.seen) × AllNamed names p.seen × AllGiven p.given p.seen

  -- the slot has such a value
  abbrev Ended : List (Option T) → PassView I → Type 0
  Ended slots p = (x : T) × (get_elem? slots 0 ≡ some (Some x)) × Says p x

  -- the table that is closed
  pub closes_as : (opening : List I) (opening_shows : List ℕ) (id : ℕ) (v : View I) (words : List ℕ) (slots : List (Option T)) (p : PassView I) (t : TableId)
      → Final (Seen (IsOrderly items names shows opening opening_shows) id v) words slots → pass_of t v ≡ p → Rests v → p.number ≡ 0 → HasAll p
      → Ended slots p
  closes_as opening opening_shows id v words slots p t f is r first all =
      let c = closes items names shows opening opening_shows id v f.0 f.1 r.0 (ap (λ q. q.number) is ∙ first) r.5 (subst HasAll (sym is) all) in (
        c.0,
        f.4 0 (Some c.0) c.1,
        (
          c.2 ∙ ap seen_list is,
          c.3 ∙ ap (λ q. shown_after q.opening_shows q.seen) is,
          subst (λ q. AllNamed names q.seen) is c.4,
          subst (λ q. AllGiven q.given q.seen) is c.5,
        ),
      )

  -- the slot of a closed table is never empty
  pub never_none : (slots : List (Option T)) (p : PassView I) (r : Option T) → Ended slots p → get_elem? slots 0 ≡ some r → r ≡ None → ⊥
  never_none slots p r d e away = let is : r ≡ Some d.0 = some-injective r (Some d.0) (sym e ∙ d.1) in cc (sym away ∙ is)

  -- what is taken from the slot is that value
  pub ended_with : (slots : List (Option T)) (p : PassView I) (r : Option T) (x : T) → Ended slots p → get_elem? slots 0 ≡ some r → r ≡ Some x → Says p x
  ended_with slots p r x d e some_x =
      let is : r ≡ Some d.0 = some-injective r (Some d.0) (sym e ∙ d.1) in
      let same : d.0 ≡ x = cc (sym is ∙ some_x) in
      subst (Says p) same d.2
