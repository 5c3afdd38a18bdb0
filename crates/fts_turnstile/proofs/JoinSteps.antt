-- The steps of join and meet keep the rule: write a note, take in a pass or a note, count as seen what it brought.
use Rattle.std.proofs.Common.{◌≡◌, ◌⊎◌, ℕ, List, [], ◌∷◌, ◌++◌, set, Option, slice_index, refl, sym, ap, ◌∙◌, subst, inl, inr, ⊎_elim, arith, append-nil}
use mathlib.Core.Option.{some, none}
use lib.ListN.{get_elem?}
use Rattle.atomic_table.specs.Table.{State, step, keeps, Allows, Splits, Joins}
use Rattle.atomic_table.proofs.Lists.{set_else, set_again}
use Rattle.fts_turnstile.specs.declared.turn.LoggedTurn.{LoggedTurn}
use Rattle.fts_turnstile.specs.declared.view.View.{View}
use Rattle.fts_turnstile.specs.History.{Among, NoneTwice}
use Rattle.fts_turnstile.specs.Views.{spent_view, note_of, view_with_note, view_with_pass, own_numbers, all_numbers, learned_view}
use Rattle.fts_turnstile.specs.Rule.{ShareNumber, ShareTicket, IsInOrder, IsOrderly}
use Rattle.fts_turnstile.specs.Steps.{Learned}
use Rattle.fts_turnstile.proofs.Words.{Seat, at}
use Rattle.fts_turnstile.proofs.Lists.{among-append, among_left, among_right, none_twice_left, none_twice-append}
use Rattle.fts_turnstile.proofs.Histories.{others_since, longer_begins}
use Rattle.fts_turnstile.proofs.ViewLists.{total_set, total_push, each_set, each_push, owned_set, owned_more, owned_join, apart_less, apart_push, apart_join}
use Rattle.fts_turnstile.proofs.RuleParts.{share_turned, ticket_turned, idle, still_pass, stays, still, still_pushed, told_more}

module _ {T I : Type 0} (items : T → List I) (names : I → ℕ) (shows : T → List ℕ) (opening : List I) (opening_shows : List ℕ) where
  -- the rule of this lock
  abbrev Rule : State (Option T) (View I) → Type 0
  Rule = IsOrderly items names shows opening opening_shows

  -- what is so of each view of this lock
  abbrev Ok : List (LoggedTurn I) → ℕ → ℕ → ℕ → View I → Type 0
  Ok = IsInOrder opening opening_shows

  -- the rule holds with a note beside the views
  noted : (s : State (Option T) (View I)) (r : Rule s) (id : ℕ) (v : View I) → at s id v
      → Rule (record { words = s.words; homes = s.homes; views = s.views ++ note_of v ∷ [] })
  noted s r id v here =
      let f = r.each id v here in
      let wait = r.waiting in
      let live = r.living in
      stays items names shows opening opening_shows s r r.tickets (record { words = s.words; homes = s.homes; views = s.views ++ note_of v ∷ [] }) r.words
      (let p = total_push (λ (u : View I). u.waits) s.views (note_of v) in omega arith)
      (let p = total_push (λ (u : View I). u.lives) s.views (note_of v) in omega arith)
      (each_push (Ok r.turns r.tickets r.given r.hand) s.views (note_of v)
      (idle opening opening_shows r.turns r.tickets r.given r.hand (note_of v) f.seen (r.turns, refl) (omega arith) refl refl (λ z. absurd (omega arith)))
      r.each)
      (owned_more r.given s.views (note_of v) r.owned)
      (apart_push ShareNumber share_turned s.views (note_of v) r.apart (λ j u _ x. let z : 0 ≡ 1 = x.0 in absurd (omega arith)))
      (apart_push ShareTicket ticket_turned s.views (note_of v) r.in_line (λ j u _ x. let z : 0 ≡ 1 = x.0 in absurd (omega arith)))
      (still_pushed items names shows opening opening_shows s r.turns (note_of v) (λ z. absurd (omega arith)) r.value)

  -- a note is written
  pub notes : (id : ℕ) (v : View I) → Splits Rule id v v (note_of v)
  notes id v s r here =
      subst (λ l. Rule (record { words = s.words; homes = s.homes; views = l ++ note_of v ∷ [] })) (sym (set_again s.views id v here)) (noted s r id v here)

  -- one view, changed to both, takes in another, which is spent
  merged : (s : State (Option T) (View I)) (r : Rule s) (id : ℕ) (v both : View I) (other : ℕ) (w : View I) → at s id v → ¬ (other ≡ id) → at s other w
      → both.waits ≡ v.waits → both.ticket ≡ v.ticket → both.lives ≡ v.lives → v.served ≡ 0 → both.served ≡ 0 → w.waits ≡ 0 → w.served ≡ 0
      → Ok r.turns r.tickets r.given r.hand both → ((u : View I) → ShareNumber both u → ShareNumber v u ⊎ ShareNumber w u)
      → (w.lives ≡ 1 → both.lives ≡ 1) → ((n : ℕ) → Among n (all_numbers v) → Among n (all_numbers both))
      → (w.lives ≡ 1 → (n : ℕ) → Among n (all_numbers w) → Among n (all_numbers both))
      → Rule (record { words = s.words; homes = s.homes; views = set (set s.views id both) other spent_view })
  merged s r id v both other w here apart there waits ticket lives not_v not_both w_waits not_w fits shares w_lives v_more w_more =
      let views : List (View I) = set s.views id both in
      let there' : get_elem? views other ≡ some w = set_else s.views id other both apart ∙ there in
      let a = total_set (λ (u : View I). u.waits) s.views id v both here in
      let l = total_set (λ (u : View I). u.lives) s.views id v both here in
      let a' = total_set (λ (u : View I). u.waits) views other w spent_view there' in
      let l' = total_set (λ (u : View I). u.lives) views other w spent_view there' in
      let wait = r.waiting in
      let live = r.living in
      stays items names shows opening opening_shows s r r.tickets (record { words = s.words; homes = s.homes; views = set views other spent_view }) r.words
      (omega arith)
      (omega arith)
      (each_set (Ok r.turns r.tickets r.given r.hand) views other spent_view
      (idle opening opening_shows r.turns r.tickets r.given r.hand spent_view (r.turns, refl) (r.turns, refl) (omega arith) refl refl
      (λ z. absurd (omega arith)))
      (λ j u _ e. each_set (Ok r.turns r.tickets r.given r.hand) s.views id both fits (λ i x _ e'. r.each i x e') j u e))
      (owned_join r.given s.views id other v w both spent_view here apart there (λ e. lives ∙ e) w_lives v_more w_more r.owned)
      (apart_join ShareNumber share_turned s.views id other v w both spent_view here there r.apart shares
      (λ u x. let z : 0 ≡ 1 = x.0 in absurd (omega arith)))
      (apart_join ShareTicket ticket_turned s.views id other v w both spent_view here there r.in_line
      (λ u x. inl (sym waits ∙ x.0, x.1, sym ticket ∙ x.2)) (λ u x. let z : 0 ≡ 1 = x.0 in absurd (omega arith)))
      (still items names shows opening opening_shows
      (record { words = s.words; homes = s.homes; views = views }) r.turns other w spent_view s.words there' (λ e. absurd (omega arith))
      (λ e. absurd (omega arith))
      (still items names shows opening opening_shows s r.turns id v both s.words here (λ e. absurd (omega arith)) (λ e. absurd (omega arith)) r.value))

  -- a pass takes in another
  pub takes_in : (id : ℕ) (v : View I) (other : ℕ) (w : View I) → v.lives ≡ 1 → v.told_numbers ≡ [] → v.served ≡ 0 → w.lives ≡ 1 → w.told_numbers ≡ []
      → w.waits ≡ 0 → w.served ≡ 0
      → Joins Rule id v other w (view_with_pass v w) spent_view
  takes_in id v other w lives none_told not_v w_lives w_none w_waits not_w s r here apart there' =
      let there : at s other w = sym (set_else s.views id other (view_with_pass v w) apart) ∙ there' in
      let f = r.each id v here in
      let k = f.pass lives in
      let g = r.each other w there in
      let q = g.pass w_lives in
      merged s r id v (view_with_pass v w) other w here apart there refl refl refl not_v not_v w_waits not_w
      (told_more opening opening_shows r.turns r.tickets r.given r.hand v w.seen (own_numbers w) f g.seen
      (λ _. record {
        opening_is = k.opening_is;
        shows_is = k.shows_is;
        own = k.own;
        told_own = q.own;
        once = none_twice-append (own_numbers v) (own_numbers w) (none_twice_left (own_numbers v) v.told_numbers k.once)
            (none_twice_left (own_numbers w) w.told_numbers q.once)
            (λ n x y. apart (sym
            (r.apart id other v w here there
            (lives, w_lives, (n, among_left n (own_numbers v) v.told_numbers x, among_left n (own_numbers w) w.told_numbers y)))));
        given_all = λ n x. ⊎_elim (λ y. k.given_all n (among_left n (own_numbers v) v.told_numbers y))
            (λ y. q.given_all n (among_left n (own_numbers w) w.told_numbers y)) (among-append n (own_numbers v) (own_numbers w) x);
        draws = k.draws;
      }))
      (λ u x. ⊎_elim (λ y. inl (lives, x.1, (x.2.0, among_left x.2.0 (own_numbers v) v.told_numbers y, x.2.2)))
      (λ y. inr (w_lives, x.1, (x.2.0, among_left x.2.0 (own_numbers w) w.told_numbers y, x.2.2)))
      (among-append x.2.0 (own_numbers v) (own_numbers w) x.2.1))
      (λ _. lives)
      (λ n x. among_left n (own_numbers v) (own_numbers w)
      (⊎_elim (λ y. y) (λ y. absurd (subst (Among n) none_told y)) (among-append n (own_numbers v) v.told_numbers x)))
      (λ _ n x. among_right n (own_numbers v) (own_numbers w)
      (⊎_elim (λ y. y) (λ y. absurd (subst (Among n) w_none y)) (among-append n (own_numbers w) w.told_numbers x)))

  -- a pass takes in a note
  pub tells : (id : ℕ) (v : View I) (other : ℕ) (w : View I) → v.told_numbers ≡ [] → v.served ≡ 0 → w.lives ≡ 0 → w.waits ≡ 0 → w.served ≡ 0
      → Joins Rule id v other w (view_with_note v w) spent_view
  tells id v other w none_told not_v w_lives w_waits not_w s r here apart there' =
      let there : at s other w = sym (set_else s.views id other (view_with_note v w) apart) ∙ there' in
      let f = r.each id v here in
      let g = r.each other w there in
      merged s r id v (view_with_note v w) other w here apart there refl refl refl not_v not_v w_waits not_w
      (told_more opening opening_shows r.turns r.tickets r.given r.hand v w.seen v.told_numbers f g.seen
      (λ z. let k = f.pass z in
      still_pass opening opening_shows r.turns r.turns r.given r.hand v v.seen w.seen v.waits v.ticket v.served k k.own
      (λ i t e h x. subst (Among t.number) none_told x)))
      (λ u x. inl x)
      (λ e. absurd (omega arith))
      (λ n x. x)
      (λ e. absurd (omega arith))

  -- the same, of a note that was just made
  pub tells_as : (id : ℕ) (v : View I) (other : ℕ) (w u : View I) → w ≡ note_of u → v.told_numbers ≡ [] → v.served ≡ 0
      → Joins Rule id v other w (view_with_note v w) spent_view
  tells_as id v other w u is none_told not_v = tells id v other w none_told not_v (ap (λ z. z.lives) is) (ap (λ z. z.waits) is) (ap (λ z. z.served) is)

  -- the look after a pass or a note taken in: it counts as seen
  pub learns : (slots id : ℕ) (m : Seat T I) → m.0.lives ≡ 1 → m.0.served ≡ 0 → Allows Rule slots id m 0 (λ n. n) (Learned (step slots 0 0 0 none) m)
  learns slots id m lives not_served s r _ here _ =
      let v : View I = m.0 in
      let w : View I = learned_view v in
      let f = r.each id v here in
      let k = f.pass lives in
      let b = longer_begins v.seen v.told r.turns f.seen f.told in
      let long = b.3 in
      let long' = b.4 in
      let all : (n : ℕ) → Among n (all_numbers w) → Among n (all_numbers v) = λ n x. ⊎_elim (λ y. y) absurd (among-append n (own_numbers w) [] x) in
      let a = total_set (λ (u : View I). u.waits) s.views id v w here in
      let l = total_set (λ (u : View I). u.lives) s.views id v w here in
      let wait = r.waiting in
      let live = r.living in
      let ws : List ℕ = set s.words 0 (slice_index s.words 0) in (
        w,
        keeps,
        tt,
        stays items names shows opening opening_shows s r r.tickets (record { words = ws; homes = s.homes; views = set s.views id w })
            (λ i. set (r.words i) 0 (slice_index (r.words i) 0))
            (omega arith)
            (omega arith)
            (each_set (Ok r.turns r.tickets r.given r.hand) s.views id w
            (record {
              seen = b.2;
              told = (r.turns, refl);
              lives = f.lives;
              waits = f.waits;
              ticket = f.ticket;
              served = λ z. absurd (omega arith);
              pass = λ _. record {
                opening_is = k.opening_is;
                shows_is = k.shows_is;
                own = λ i t e h x. ⊎_elim (λ y. k.own i t e (omega arith) y) (λ y. k.told_own i t e (omega arith) y)
                    (among-append t.number (own_numbers v) v.told_numbers x);
                told_own = λ i t e h x. x;
                once = subst NoneTwice (sym (append-nil (all_numbers v))) k.once;
                given_all = λ n x. k.given_all n (all n x);
                draws = k.draws;
              };
            })
            (λ j u _ e. r.each j u e))
            (owned_set r.given s.views id v w here (λ e. e) (λ n x. among_left n (own_numbers w) [] x) r.owned)
            (apart_less ShareNumber share_turned s.views id v w here r.apart (λ u x. (x.0, x.1, (x.2.0, all x.2.0 x.2.1, x.2.2))))
            (apart_less ShareTicket ticket_turned s.views id v w here r.in_line (λ u x. x))
            (still items names shows opening opening_shows s r.turns id v w ws here (λ e. absurd (omega arith)) (λ e. absurd (omega arith)) r.value),
        (
          refl,
          refl,
          others_since (own_numbers v) v.seen w.seen r.turns b.0 b.2 k.own,
          others_since v.told_numbers v.told w.seen r.turns b.1 b.2 k.told_own,
          k.once,
        ),
      )
