-- The steps of a turn keep the rule: take a ticket, look at the turn, pass it on.
use Rattle.std.proofs.Common.{◌≡◌, ◌≢◌, ℕ, ◌+◌, ◌%◌, ◌≤◌, List, [], ◌∷◌, ◌++◌, length, set, Option, Some, None, slice_index, refl, sym, ap, ◌∙◌, subst, inl, inr, ⊎_elim, arith, length-append, append_assoc}
use Rattle.std.proofs.Math.Nat.{mod-add-mod}
use mathlib.Core.Option.{some, none}
use mathlib.Core.Logic.{dite}
use native.Mathlib.Decide.{ℕ_discrete}
use lib.ListN.{get_elem?}
use Rattle.atomic_table.specs.Table.{State, step, keeps, takes, gives, put_back, rest, Allows}
use Rattle.atomic_table.proofs.Lists.{set_here, set_again, one_turn}
use Rattle.fts_turnstile.specs.declared.turn.LoggedTurn.{LoggedTurn}
use Rattle.fts_turnstile.specs.declared.view.View.{View}
use Rattle.fts_turnstile.specs.History.{Begins, Among, turn_of, items_of, shown_after, AllName}
use Rattle.fts_turnstile.specs.Views.{own_numbers, all_numbers, view_with_ticket, served_view, view_after_turn}
use Rattle.fts_turnstile.specs.Rule.{ShareNumber, ShareTicket, IsInOrder, IsHome, IsAway, IsOrderly}
use Rattle.fts_turnstile.specs.Steps.{TookTicket, LookedAtTurn, PassedTurn}
use Rattle.fts_turnstile.proofs.Words.{Seat, at}
use Rattle.fts_turnstile.proofs.Lists.{at_below, at_pushed, at_one, begins_self, begins_more, among_left, among_right}
use Rattle.fts_turnstile.proofs.Histories.{others_since, items_of-push, shown_after-push, named-push}
use Rattle.fts_turnstile.proofs.ViewLists.{total_set, each_set, owned_set, apart_set, apart_less}
use Rattle.fts_turnstile.proofs.RuleParts.{share_turned, ticket_turned, few_wait, more_tickets, idle, still_pass, stays, still}

module _ {T I : Type 0} (items : T → List I) (names : I → ℕ) (shows : T → List ℕ) (opening : List I) (opening_shows : List ℕ) where
  -- the rule of this lock
  abbrev Rule : State (Option T) (View I) → Type 0
  Rule = IsOrderly items names shows opening opening_shows

  -- what is so of each view of this lock
  abbrev Ok : List (LoggedTurn I) → ℕ → ℕ → ℕ → View I → Type 0
  Ok = IsInOrder opening opening_shows

  -- a ticket is taken
  pub takes_ticket : (slots id : ℕ) (m : Seat T I) → m.0.lives ≡ 1 → m.0.waits ≡ 0 → m.0.served ≡ 0
      → Allows Rule slots id m 1 (λ n. (n + 1) % 18446744073709551616) (TookTicket (step slots 1 1 0 none) m)
  takes_ticket slots id m lives waits not_served s r _ here _ =
      let v : View I = m.0 in
      let n : ℕ = r.tickets in
      let w : View I = view_with_ticket v n in
      let f = r.each id v here in
      let t = total_set (λ (u : View I). u.waits) s.views id v w here in
      let l = total_set (λ (u : View I). u.lives) s.views id v w here in
      let wait = r.waiting in
      let live = r.living in
      let ws : List ℕ = set s.words 1 ((slice_index s.words 1 + 1) % 18446744073709551616) in
      let words : ws ≡ (length r.turns % 18446744073709551616) ∷ ((n + 1) % 18446744073709551616) ∷ (r.given + 1 + r.hand) ∷ [] =
      (λ i. set (r.words i) 1 ((slice_index (r.words i) 1 + 1) % 18446744073709551616))
      ∙ ap (λ k. (length r.turns % 18446744073709551616) ∷ k ∷ (r.given + 1 + r.hand) ∷ []) (mod-add-mod n 18446744073709551616 1) in (
        w,
        keeps,
        tt,
        stays items names shows opening opening_shows s r (n + 1) (record { words = ws; homes = s.homes; views = set s.views id w }) words
            (omega arith)
            (omega arith)
            (each_set (Ok r.turns (n + 1) r.given r.hand) s.views id w
            (record {
              seen = f.seen;
              told = f.told;
              lives = f.lives;
              waits = omega arith;
              ticket = λ _. (omega arith, omega arith);
              served = λ e. absurd (omega arith);
              pass = λ e. let k = f.pass e in
                  still_pass opening opening_shows r.turns r.turns r.given r.hand v v.seen v.told 1 n v.served k k.own k.told_own;
            })
            (λ j u _ e. more_tickets opening opening_shows r.turns n (n + 1) r.given r.hand u (omega arith) (r.each j u e)))
            (owned_set r.given s.views id v w here (λ e. e) (λ n x. x) r.owned)
            (apart_less ShareNumber share_turned s.views id v w here r.apart (λ u x. x))
            (apart_set ShareTicket ticket_turned s.views id w r.in_line
            (λ j u _ e x. let t = (r.each j u e).ticket x.1 in let same : n ≡ u.ticket = x.2 in absurd (omega arith)))
            (still items names shows opening opening_shows s r.turns id v w ws here (λ e. absurd (omega arith)) (λ e. absurd (omega arith)) r.value),
        (n, (λ i. slice_index (r.words i) 1), refl, refl),
      )

  -- the turn is looked at: the pass that finds its ticket finds the value at home, since two tickets never share a remainder while they wait
  pub looks : (slots id : ℕ) (m : Seat T I) → m.0.lives ≡ 1 → m.0.waits ≡ 1 → m.0.served ≡ 0 → m.1 ≡ []
      → Allows Rule slots id m 0 (λ n. n) (LookedAtTurn items names shows (step slots 0 0 0 none) m)
  looks slots id m lives waits not_served empty s r _ here _ =
      let v : View I = m.0 in
      let f = r.each id v here in
      let k = f.pass lives in
      let t = f.ticket waits in
      let most = few_wait items names shows opening opening_shows s r in
      let few = r.few.0 in
      let found : slice_index s.words 0 ≡ length r.turns % 18446744073709551616 = λ i. slice_index (r.words i) 0 in
      let ws : List ℕ = set s.words 0 (slice_index s.words 0) in
      let words : ws ≡ (length r.turns % 18446744073709551616) ∷ (r.tickets % 18446744073709551616) ∷ (r.given + 1 + r.hand) ∷ [] =
      λ i. set (r.words i) 0 (slice_index (r.words i) 0) in
      let same_words : ws ≡ s.words = words ∙ sym r.words in
      dite (ℕ_discrete (slice_index s.words 0) (v.ticket % 18446744073709551616))
      (λ e.
      let mine : length r.turns ≡ v.ticket = one_turn (length r.turns) v.ticket 18446744073709551616 t.0 (omega arith) (sym found ∙ e) in
      ⊎_elim
      (λ (h : IsHome items names shows opening opening_shows s r.turns).
      let w : View I = served_view v r.turns in
      let a = total_set (λ (u : View I). u.waits) s.views id v w here in
      let l = total_set (λ (u : View I). u.lives) s.views id v w here in
      let wait = r.waiting in
      let live = r.living in (
        w,
        takes 0 (Some h.0),
        (λ i. get_elem? (h.1 i) 0),
        stays items names shows opening opening_shows s r r.tickets _ words
            (omega arith)
            (omega arith)
            (each_set (Ok r.turns r.tickets r.given r.hand) s.views id w
            (record {
              seen = begins_self r.turns;
              told = f.told;
              lives = f.lives;
              waits = f.waits;
              ticket = f.ticket;
              served = λ _. (waits, sym mine, refl);
              pass = λ _. still_pass opening opening_shows r.turns r.turns r.given r.hand v r.turns v.told v.waits v.ticket 1 k
                  (λ i u e' h'. let b = at_below r.turns i u e' in absurd (omega arith)) k.told_own;
            })
            (λ j u _ e'. r.each j u e'))
            (owned_set r.given s.views id v w here (λ e. e) (λ n x. x) r.owned)
            (apart_less ShareNumber share_turned s.views id v w here r.apart (λ u x. x))
            (apart_less ShareTicket ticket_turned s.views id v w here r.in_line (λ u x. x))
            (inr ((λ i. set (h.1 i) 0 none), (id, w, set_here s.views id w (at_below s.views id v here), refl))),
        (
          (λ _. (
            r.turns,
            h.0,
            refl,
            ap (λ c. (0, Some h.0) ∷ c) empty,
            others_since (own_numbers v) v.seen r.turns r.turns f.seen (begins_self r.turns) k.own,
            r.named,
            h.2 ∙ ap (λ l. l ++ items_of r.turns) (sym k.opening_is),
            h.3 ∙ ap (λ l. shown_after l r.turns) (sym k.shows_is),
          )),
          (λ not. absurd (not e)),
        ),
      ))
      (λ (a : IsAway items names shows opening opening_shows s).
      let u : View I = a.1.1 in
      let g = (r.each a.1.0 u a.1.2).served a.1.3 in
      let j : id ≡ a.1.0 = r.in_line id a.1.0 v u here a.1.2 (waits, g.0, (sym mine ∙ sym g.1)) in
      let is : u ≡ v = at_one s.views id u v (subst (λ z. get_elem? s.views z ≡ some u) (sym j) a.1.2) here in
      let on : v.served ≡ 1 = subst (λ (z : View I). z.served ≡ 1) is a.1.3 in
      absurd (omega arith))
      r.value)
      (λ ne. (
        v,
        keeps,
        tt,
        subst Rule (λ i. record { words = sym same_words i; homes = s.homes; views = sym (set_again s.views id v here) i }) r,
        ((λ e. absurd (ne e)), (λ _. refl)),
      ))

  -- the turn is passed on, with the value that is put back and what was added to it
  pub passes : (slots id : ℕ) (m : Seat T I) (y : T) (added : List I) → m.0.lives ≡ 1 → m.0.served ≡ 1 → m.0.told_numbers ≡ [] → m.1 ≡ (0, Some y) ∷ []
      → items y ≡ (m.0.opening ++ items_of m.0.seen) ++ added → AllName names m.0.number added
      → Allows Rule slots id m 0 (λ n. (n + 1) % 18446744073709551616) (PassedTurn items names shows (step slots 0 1 0 none) m)
  passes slots id m y added lives is_served none_told holds adds name s r _ here _ =
      let v : View I = m.0 in
      let f = r.each id v here in
      let k = f.pass lives in
      let g = f.served is_served in
      let t : LoggedTurn I = turn_of v.number added (shows y) in
      let w : View I = view_after_turn v t in
      let turns : List (LoggedTurn I) = r.turns ++ t ∷ [] in
      let long : length turns ≡ length r.turns + 1 = omega (arith, length-append r.turns (t ∷ [])) in
      let a = total_set (λ (u : View I). u.waits) s.views id v w here in
      let l = total_set (λ (u : View I). u.lives) s.views id v w here in
      let wait = r.waiting in
      let live = r.living in
      let waits : v.waits ≡ 1 = g.0 in
      let ticket : v.ticket ≡ length r.turns = g.1 in
      let ws : List ℕ = set s.words 0 ((slice_index s.words 0 + 1) % 18446744073709551616) in
      let words : ws ≡ (length turns % 18446744073709551616) ∷ (r.tickets % 18446744073709551616) ∷ (r.given + 1 + r.hand) ∷ [] =
      (λ i. set (r.words i) 0 ((slice_index (r.words i) 0 + 1) % 18446744073709551616))
      ∙ ap (λ n. n ∷ (r.tickets % 18446744073709551616) ∷ (r.given + 1 + r.hand) ∷ [])
      (mod-add-mod (length r.turns) 18446744073709551616 1 ∙ ap (λ n. n % 18446744073709551616) (sym long)) in
      let away : IsAway items names shows opening opening_shows s =
      ⊎_elim (λ (h : IsHome items names shows opening opening_shows s r.turns). absurd (h.4 id v here is_served)) (λ a'. a') r.value in
      let other : (j : ℕ) (u : View I) → j ≢ id → at s j u → ¬ (u.waits ≡ 1 × u.ticket ≡ length r.turns) =
      λ j u apart e x. apart (sym (r.in_line id j v u here e (waits, x.0, ticket ∙ sym x.1))) in (
        w,
        gives,
        tt,
        record {
          counts = record {
            turns = turns;
            tickets = r.tickets;
            given = r.given;
            hand = r.hand;
            few = r.few;
            named = named-push names r.turns t r.named name;
            takers = λ i u e. ⊎_elim (λ x. r.takers i u x)
                (λ (x : (i ≡ length r.turns) × (t ≡ u)). subst (λ (z : LoggedTurn I). z.number ≤ r.given) x.1 (k.given_all v.number (inl refl)))
                (at_pushed r.turns t u i e);
          };
          words = words;
          waiting = omega arith;
          living = omega arith;
          each = each_set (Ok turns r.tickets r.given r.hand) s.views id w
              (idle opening opening_shows turns r.tickets r.given r.hand w
              (subst (λ l'. Begins (v.seen ++ t ∷ []) (l' ++ t ∷ [])) g.2 (begins_self (v.seen ++ t ∷ []))) (begins_more v.told r.turns (t ∷ []) f.told)
              f.lives refl refl
              (λ _. still_pass opening opening_shows r.turns turns r.given r.hand v (v.seen ++ t ∷ []) v.told 0 v.ticket 0 k
              (λ i u e h.
              let b = at_below turns i u e in
              let q = length-append v.seen (t ∷ []) in
              let p : length v.seen ≡ length r.turns = ap length g.2 in
              absurd (omega arith))
              (λ i u e h x. subst (Among u.number) none_told x)))
              (λ j u apart e. let o = r.each j u e in record {
                seen = begins_more u.seen r.turns (t ∷ []) o.seen;
                told = begins_more u.told r.turns (t ∷ []) o.told;
                lives = o.lives;
                waits = o.waits;
                ticket = λ z. let q = o.ticket z in let d : ¬ (u.ticket ≡ length r.turns) = λ z'. other j u apart e (z, z') in (omega arith, q.1);
                served = λ z. let q = o.served z in absurd (other j u apart e (q.0, q.1));
                pass = λ z. let q = o.pass z in
                    let mine : ¬ Among v.number (all_numbers u) = λ x. apart (sym (r.apart id j v u here e (lives, z, (v.number, inl refl, x)))) in record {
                      opening_is = q.opening_is;
                      shows_is = q.shows_is;
                      own = λ i u' e' h. ⊎_elim (λ x. q.own i u' x h)
                          (λ (x : (i ≡ length r.turns) × (t ≡ u')). subst (λ (z' : LoggedTurn I). ¬ Among z'.number (own_numbers u)) x.1
                          (λ b. mine (among_left v.number (own_numbers u) u.told_numbers b)))
                          (at_pushed r.turns t u' i e');
                      told_own = λ i u' e' h. ⊎_elim (λ x. q.told_own i u' x h)
                          (λ (x : (i ≡ length r.turns) × (t ≡ u')). subst (λ (z' : LoggedTurn I). ¬ Among z'.number u.told_numbers) x.1
                          (λ b. mine (among_right v.number (own_numbers u) u.told_numbers b)))
                          (at_pushed r.turns t u' i e');
                      once = q.once;
                      given_all = q.given_all;
                      draws = q.draws;
                    };
              });
          owned = owned_set r.given s.views id v w here (λ e. e) (λ n x. x) r.owned;
          apart = apart_less ShareNumber share_turned s.views id v w here r.apart (λ u x. x);
          in_line = apart_set ShareTicket ticket_turned s.views id w r.in_line (λ j u _ e x. let z : 0 ≡ 1 = x.0 in absurd (omega arith));
          value = inl (
            y,
            (λ i. put_back (away.0 i) (holds i)),
            adds ∙ (λ i. (k.opening_is i ++ items_of (g.2 i)) ++ added) ∙ append_assoc opening (items_of r.turns) added
                ∙ ap (λ l'. opening ++ l') (sym (items_of-push r.turns t)),
            sym (shown_after-push opening_shows r.turns t),
            each_set (λ u. ¬ (u.served ≡ 1)) s.views id w (λ z. absurd (omega arith))
                (λ j u apart e z. let q = (r.each j u e).served z in other j u apart e (q.0, q.1)),
          );
        },
        (y, added, holds, adds, name, refl, ap rest holds),
      )

  -- the same, of a seat whose slot was just written
  pub passes_as : (slots id : ℕ) (v : View I) (c : List (ℕ × Option T)) (m : Seat T I) (y : T) (added : List I) → m ≡ (v, (0, Some y) ∷ rest c) → v.lives ≡ 1
      → v.served ≡ 1 → v.told_numbers ≡ [] → c ≡ (0, None) ∷ []
      → items y ≡ (v.opening ++ items_of v.seen) ++ added → AllName names v.number added
      → Allows Rule slots id m 0 (λ n. (n + 1) % 18446744073709551616) (PassedTurn items names shows (step slots 0 1 0 none) m)
  passes_as slots id v c m y added is lives on none_told holds adds name =
      subst (λ (z : Seat T I). Allows Rule slots id z 0 (λ n. (n + 1) % 18446744073709551616) (PassedTurn items names shows (step slots 0 1 0 none) z)) (sym is)
      (passes slots id (v, (0, Some y) ∷ rest c) y added lives on none_told (ap (λ z. (0, Some y) ∷ rest z) holds) adds name)
