-- The steps of a split keep the rule: draw a number, give it to a new seat.
use Rattle.std.proofs.Common.{◌≡◌, ℕ, ◌+◌, ◌%◌, ◌<◌, List, [], ◌∷◌, length, set, Option, slice_index, refl, sym, ap, ◌∙◌, subst, inl, ⊎_elim, arith}
use mathlib.Core.Option.{some, none}
use lib.ListN.{get_elem?}
use Rattle.atomic_table.specs.Table.{State, step, keeps, Allows, Splits}
use Rattle.fts_turnstile.specs.declared.turn.LoggedTurn.{LoggedTurn}
use Rattle.fts_turnstile.specs.declared.view.View.{View}
use Rattle.fts_turnstile.specs.Views.{new_view, view_after_giving, view_with_number}
use Rattle.fts_turnstile.specs.Rule.{ShareNumber, ShareTicket, IsInOrder, IsOrderly}
use Rattle.fts_turnstile.specs.Steps.{DrewNumber}
use Rattle.fts_turnstile.proofs.Words.{Seat}
use Rattle.fts_turnstile.proofs.Lists.{at_front}
use Rattle.fts_turnstile.proofs.Histories.{none_all}
use Rattle.fts_turnstile.proofs.ViewLists.{total_set, total_push, each_set, each_push, owned_set, owned_push, apart_less, apart_push}
use Rattle.fts_turnstile.proofs.RuleParts.{share_turned, ticket_turned, idle, recounted, still, still_pushed, not_first}

module _ {T I : Type 0} (items : T → List I) (names : I → ℕ) (shows : T → List ℕ) (opening : List I) (opening_shows : List ℕ) where
  -- the rule of this lock
  abbrev Rule : State (Option T) (View I) → Type 0
  Rule = IsOrderly items names shows opening opening_shows

  -- what is so of each view of this lock
  abbrev Ok : List (LoggedTurn I) → ℕ → ℕ → ℕ → View I → Type 0
  Ok = IsInOrder opening opening_shows

  -- pass 0 draws a number
  pub draws : (slots id : ℕ) (m : Seat T I) → m.0.lives ≡ 1 → m.0.number ≡ 0 → m.0.hand ≡ 0 → m.0.served ≡ 0 → m.0.given < 4294967295
      → Allows Rule slots id m 2 (λ n. (n + 1) % 18446744073709551616) (DrewNumber (step slots 2 1 0 none) m)
  draws slots id m lives first empty not_served room s r _ here _ =
      let v : View I = m.0 in
      let f = r.each id v here in
      let k = f.pass lives in
      let d = k.draws first in
      let d0 = d.0 in
      let d1 = d.1 in
      let w : View I = view_with_number v in
      let a = total_set (λ (u : View I). u.waits) s.views id v w here in
      let l = total_set (λ (u : View I). u.lives) s.views id v w here in
      let wait = r.waiting in
      let live = r.living in
      let next : (r.given + 1 + r.hand + 1) % 18446744073709551616 ≡ r.given + 1 + 1 = omega arith in
      let ws : List ℕ = set s.words 2 ((slice_index s.words 2 + 1) % 18446744073709551616) in
      let words : ws ≡ (length r.turns % 18446744073709551616) ∷ (r.tickets % 18446744073709551616) ∷ (r.given + 1 + 1) ∷ [] =
      (λ i. set (r.words i) 2 ((slice_index (r.words i) 2 + 1) % 18446744073709551616))
      ∙ ap (λ n. (length r.turns % 18446744073709551616) ∷ (r.tickets % 18446744073709551616) ∷ n ∷ []) next in
      let found : slice_index s.words 2 ≡ r.given + 1 + r.hand = λ i. slice_index (r.words i) 2 in (
        w,
        keeps,
        tt,
        record {
          counts = record {
            turns = r.turns;
            tickets = r.tickets;
            given = r.given;
            hand = 1;
            few = (omega arith, omega arith);
            named = r.named;
            takers = r.takers;
          };
          words = words;
          waiting = omega arith;
          living = omega arith;
          each = each_set (Ok r.turns r.tickets r.given 1) s.views id w
              (recounted opening opening_shows r.turns r.tickets r.given r.hand r.given 1 v.given 1 v (omega arith) f (λ _ _. (d.0, refl)))
              (λ j u apart e. recounted opening opening_shows r.turns r.tickets r.given r.hand r.given 1 u.given u.hand u (omega arith) (r.each j u e)
              (λ x z. absurd (not_first items names shows opening opening_shows s r id v here lives first j u apart e x z)));
          owned = owned_set r.given s.views id v w here (λ e. e) (λ n x. x) r.owned;
          apart = apart_less ShareNumber share_turned s.views id v w here r.apart (λ u x. x);
          in_line = apart_less ShareTicket ticket_turned s.views id v w here r.in_line (λ u x. x);
          value = still items names shows opening opening_shows s r.turns id v w ws here (λ e. absurd (omega arith)) (λ e. absurd (omega arith)) r.value;
        },
        (
          omega arith,
          refl,
          refl,
          none_all ((v.given + 1) ∷ []) v.seen
              (λ u t e x. ⊎_elim
              (λ (is : t.number ≡ v.given + 1).
              let b = r.takers u t (subst (λ z. get_elem? z u ≡ some t) (sym f.seen.1) (at_front v.seen f.seen.0 u t e)) in
              absurd (omega arith))
              (λ z. z)
              x),
        ),
      )

  -- the number that was drawn is given to a new seat
  pub splits : (id : ℕ) (v : View I) → v.lives ≡ 1 → v.number ≡ 0 → v.hand ≡ 1 → v.served ≡ 0 → Splits Rule id v (view_after_giving v) (new_view v)
  splits id v lives first full not_served s r here =
      let f = r.each id v here in
      let k = f.pass lives in
      let d = k.draws first in
      let d0 = d.0 in
      let d1 = d.1 in
      let few = r.few.0 in
      let w : View I = view_after_giving v in
      let new : View I = new_view v in
      let views : List (View I) = set s.views id w in
      let a = total_set (λ (u : View I). u.waits) s.views id v w here in
      let l = total_set (λ (u : View I). u.lives) s.views id v w here in
      let wait = r.waiting in
      let live = r.living in
      let fits : (j : ℕ) (u : View I) → get_elem? views j ≡ some u → Ok r.turns r.tickets (r.given + 1) 0 u =
      each_set (Ok r.turns r.tickets (r.given + 1) 0) s.views id w
      (recounted opening opening_shows r.turns r.tickets r.given r.hand (r.given + 1) 0 (v.given + 1) 0 v (omega arith) f
      (λ _ _. (ap (λ n. n + 1) d.0, refl)))
      (λ j u apart e. recounted opening opening_shows r.turns r.tickets r.given r.hand (r.given + 1) 0 u.given u.hand u (omega arith) (r.each j u e)
      (λ x z. absurd (not_first items names shows opening opening_shows s r id v here lives first j u apart e x z))) in
      let nobody : (j : ℕ) (u : View I) → get_elem? views j ≡ some u → ¬ ShareNumber new u = each_set (λ u. ¬ ShareNumber new u) s.views id w
      (λ x. ⊎_elim (λ (is : x.2.0 ≡ v.given + 1). let b = k.given_all x.2.0 x.2.2 in absurd (omega arith)) (λ z. z) x.2.1)
      (λ j u _ e x. ⊎_elim (λ (is : x.2.0 ≡ v.given + 1). let b = ((r.each j u e).pass x.1).given_all x.2.0 x.2.2 in absurd (omega arith)) (λ z. z) x.2.1) in
      record {
        counts = record {
          turns = r.turns;
          tickets = r.tickets;
          given = r.given + 1;
          hand = 0;
          few = (omega arith, omega arith);
          named = r.named;
          takers = λ i t e. let b = r.takers i t e in omega arith;
        };
        words = r.words ∙ ap (λ n. (length r.turns % 18446744073709551616) ∷ (r.tickets % 18446744073709551616) ∷ n ∷ [])
            (let e : r.given + 1 + r.hand ≡ r.given + 1 + 1 + 0 = omega arith in e);
        waiting = let p = total_push (λ (u : View I). u.waits) views new in omega arith;
        living = let p = total_push (λ (u : View I). u.lives) views new in omega arith;
        each = each_push (Ok r.turns r.tickets (r.given + 1) 0) views new
            (idle opening opening_shows r.turns r.tickets (r.given + 1) 0 new f.seen (r.turns, refl) (omega arith) refl refl
            (λ _. record {
              opening_is = k.opening_is;
              shows_is = k.shows_is;
              own = λ i t e _ x. ⊎_elim (λ (is : t.number ≡ v.given + 1). let b = r.takers i t e in absurd (omega arith)) (λ z. z) x;
              told_own = λ i t e _ x. x;
              once = ((λ x. x), tt);
              given_all = λ n x. ⊎_elim (λ (is : n ≡ v.given + 1). omega arith) absurd x;
              draws = λ z. absurd (omega arith);
            }))
            fits;
        owned = owned_push r.given views new refl (inl (ap (λ n. n + 1) (sym d0))) (owned_set r.given s.views id v w here (λ e. e) (λ n x. x) r.owned);
        apart = apart_push ShareNumber share_turned views new (apart_less ShareNumber share_turned s.views id v w here r.apart (λ u x. x)) nobody;
        in_line = apart_push ShareTicket ticket_turned views new (apart_less ShareTicket ticket_turned s.views id v w here r.in_line (λ u x. x))
            (λ j u _ x. let z : 0 ≡ 1 = x.0 in absurd (omega arith));
        value = still_pushed items names shows opening opening_shows (record { words = s.words; homes = s.homes; views = views }) r.turns new
            (λ z. absurd (omega arith))
            (still items names shows opening opening_shows s r.turns id v w s.words here (λ e. absurd (omega arith)) (λ e. absurd (omega arith)) r.value);
      }
