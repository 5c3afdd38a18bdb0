-- What every step needs of the rule: how many wait, who is pass 0, and where the value is when another view changes.
use Rattle.std.proofs.Common.{◌≡◌, ◌≢◌, ◌⊎◌, ℕ, ◌+◌, ◌%◌, ◌≤◌, List, [], ◌∷◌, ◌++◌, length, set, Option, sym, ◌∙◌, subst, inl, inr, ⊎_elim, arith}
use mathlib.Core.Option.{some}
use lib.ListN.{get_elem?}
use Rattle.atomic_table.specs.Table.{State}
use Rattle.atomic_table.proofs.Lists.{set_else, at_longer}
use Rattle.fts_turnstile.specs.declared.turn.LoggedTurn.{LoggedTurn}
use Rattle.fts_turnstile.specs.declared.view.View.{View}
use Rattle.fts_turnstile.specs.History.{Begins, Among}
use Rattle.fts_turnstile.specs.Views.{own_numbers}
use Rattle.fts_turnstile.specs.Rule.{total, ShareNumber, ShareTicket, NoTwo, AllOwned, IsPass, IsInOrder, IsHome, IsAway, IsOrderly}
use Rattle.fts_turnstile.proofs.Words.{at}
use Rattle.fts_turnstile.proofs.Lists.{at_one}
use Rattle.fts_turnstile.proofs.ViewLists.{total_le, each_set, each_push}

module _ {I : Type 0} where
  -- to have a number in common goes both ways
  pub share_turned : (v w : View I) → ShareNumber v w → ShareNumber w v
  share_turned v w s = (s.1, s.0, (s.2.0, s.2.2, s.2.1))

  -- to have one ticket goes both ways
  pub ticket_turned : (v w : View I) → ShareTicket v w → ShareTicket w v
  ticket_turned v w s = (s.1, s.0, sym s.2)

module _ {I : Type 0} (opening : List I) (opening_shows : List ℕ) where
  -- a view is in order where there are more tickets
  pub more_tickets : (turns : List (LoggedTurn I)) (n m given hand : ℕ) (v : View I) → n ≤ m → IsInOrder opening opening_shows turns n given hand v
      → IsInOrder opening opening_shows turns m given hand v
  more_tickets turns n m given hand v le f = record {
    seen = f.seen;
    told = f.told;
    lives = f.lives;
    waits = f.waits;
    ticket = λ w. let t = f.ticket w in (t.0, omega arith);
    served = f.served;
    pass = f.pass;
  }

  -- a view is in order with another count of numbers given and in hand, where no fewer were given and pass 0 says that count
  pub recounted : (turns : List (LoggedTurn I)) (tickets given hand more held count kept : ℕ) (v : View I) → given ≤ more
      → IsInOrder opening opening_shows turns tickets given hand v
      → (v.lives ≡ 1 → v.number ≡ 0 → (count ≡ more) × (kept ≡ held))
      → IsInOrder opening opening_shows turns tickets more held (record v { given = count; hand = kept })
  recounted turns tickets given hand more held count kept v le f draws = record {
    seen = f.seen;
    told = f.told;
    lives = f.lives;
    waits = f.waits;
    ticket = f.ticket;
    served = f.served;
    pass = λ x. let q = f.pass x in record {
      opening_is = q.opening_is;
      shows_is = q.shows_is;
      own = q.own;
      told_own = q.told_own;
      once = q.once;
      given_all = λ n y. let b = q.given_all n y in omega arith;
      draws = draws x;
    };
  }

  -- a view that neither waits nor has the value is in order where what it has seen and was told is
  pub idle : (turns : List (LoggedTurn I)) (tickets given hand : ℕ) (v : View I) → Begins v.seen turns → Begins v.told turns → v.lives ≤ 1 → v.waits ≡ 0
      → v.served ≡ 0 → (v.lives ≡ 1 → IsPass opening opening_shows turns given hand v) → IsInOrder opening opening_shows turns tickets given hand v
  idle turns tickets given hand v seen told lives waits served pass = record {
    seen = seen;
    told = told;
    lives = lives;
    waits = omega arith;
    ticket = λ z. absurd (omega arith);
    served = λ z. absurd (omega arith);
    pass = pass;
  }

  -- a view that takes in what another has seen is in order where its pass is
  pub told_more : (turns : List (LoggedTurn I)) (tickets given hand : ℕ) (v : View I) (told : List (LoggedTurn I)) (numbers : List ℕ)
      → IsInOrder opening opening_shows turns tickets given hand v → Begins told turns
      → (v.lives ≡ 1 → IsPass opening opening_shows turns given hand (record v { told = told; told_numbers = numbers }))
      → IsInOrder opening opening_shows turns tickets given hand (record v { told = told; told_numbers = numbers })
  told_more turns tickets given hand v told numbers f begins pass = record {
    seen = f.seen;
    told = begins;
    lives = f.lives;
    waits = f.waits;
    ticket = f.ticket;
    served = f.served;
    pass = pass;
  }

  -- a pass stays one where it has seen or was told other turns, if no later turn has a number of its own or of those
  pub still_pass : (turns more : List (LoggedTurn I)) (given hand : ℕ) (v : View I) (seen told : List (LoggedTurn I)) (waits ticket served : ℕ)
      → IsPass opening opening_shows turns given hand v
      → ((i : ℕ) (turn : LoggedTurn I) → get_elem? more i ≡ some turn → length seen ≤ i → ¬ Among turn.number (own_numbers v))
      → ((i : ℕ) (turn : LoggedTurn I) → get_elem? more i ≡ some turn → length told ≤ i → ¬ Among turn.number v.told_numbers)
      → IsPass opening opening_shows more given hand (record v { seen = seen; told = told; waits = waits; ticket = ticket; served = served })
  still_pass turns more given hand v seen told waits ticket served k own told_own = record {
    opening_is = k.opening_is;
    shows_is = k.shows_is;
    own = own;
    told_own = told_own;
    once = k.once;
    given_all = k.given_all;
    draws = k.draws;
  }

module _ {T I : Type 0} (items : T → List I) (names : I → ℕ) (shows : T → List ℕ) (opening : List I) (opening_shows : List ℕ) where
  -- the rule of this lock
  abbrev Rule : State (Option T) (View I) → Type 0
  Rule = IsOrderly items names shows opening opening_shows

  -- what is so of each view of this lock
  abbrev Ok : List (LoggedTurn I) → ℕ → ℕ → ℕ → View I → Type 0
  Ok = IsInOrder opening opening_shows

  -- where the value is
  abbrev Placed : State (Option T) (View I) → List (LoggedTurn I) → Type 0
  Placed s turns = IsHome items names shows opening opening_shows s turns ⊎ IsAway items names shows opening opening_shows s

  -- the rule holds of other words, views and value where the turns and the numbers are those of before
  pub stays : (s : State (Option T) (View I)) (r : Rule s) (tickets : ℕ) (next : State (Option T) (View I))
      → next.words ≡ (length r.turns % 18446744073709551616) ∷ (tickets % 18446744073709551616) ∷ (r.given + 1 + r.hand) ∷ []
      → length r.turns + total (λ view. view.waits) next.views ≡ tickets → total (λ view. view.lives) next.views ≤ r.given + 1
      → ((j : ℕ) (view : View I) → get_elem? next.views j ≡ some view → Ok r.turns tickets r.given r.hand view)
      → AllOwned r.given next.views → NoTwo ShareNumber next.views → NoTwo ShareTicket next.views → Placed next r.turns
      → Rule next
  stays s r tickets next words waiting living each owned apart in_line value = record {
    counts = record (r.counts) { tickets = tickets };
    words = words;
    waiting = waiting;
    living = living;
    each = each;
    owned = owned;
    apart = apart;
    in_line = in_line;
    value = value;
  }

  -- there are no more tickets than pass numbers
  pub few_wait : (s : State (Option T) (View I)) (r : Rule s) → r.tickets ≤ length r.turns + (r.given + 1)
  few_wait s r =
      let a = total_le (λ (v : View I). v.waits) (λ (v : View I). v.lives) s.views (λ j v e. (r.each j v e).waits) in
      let b = r.waiting in
      let c = r.living in
      omega arith

  -- no other pass is pass 0
  pub not_first : (s : State (Option T) (View I)) (r : Rule s) (id : ℕ) (v : View I) → at s id v → v.lives ≡ 1 → v.number ≡ 0 → (j : ℕ) (u : View I) → j ≢ id
      → at s j u → u.lives ≡ 1 → ¬ (u.number ≡ 0)
  not_first s r id v here lives first j u apart e live z = apart (sym (r.apart id j v u here e (lives, live, (0, inl (sym first), inl (sym z)))))

  -- where the value is, once a view that hasn't it has changed
  pub still : (s : State (Option T) (View I)) (turns : List (LoggedTurn I)) (id : ℕ) (v w : View I) (ws : List ℕ) → at s id v → ¬ (v.served ≡ 1) → ¬ (w.served ≡ 1)
      → Placed s turns
      → Placed (record { words = ws; homes = s.homes; views = set s.views id w }) turns
  still s turns id v w ws here not_v not_w value = ⊎_elim
      (λ h. inl (h.0, h.1, h.2, h.3, each_set (λ u. ¬ (u.served ≡ 1)) s.views id w not_w (λ j u _ e. h.4 j u e)))
      (λ a. inr (
        a.0,
        (
          a.1.0,
          a.1.1,
          set_else s.views id a.1.0 w
              (λ same. not_v (subst (λ u. u.served ≡ 1) (at_one s.views id a.1.1 v (subst (λ j. get_elem? s.views j ≡ some a.1.1) same a.1.2) here) a.1.3))
              ∙ a.1.2,
          a.1.3,
        ),
      ))
      value

  -- where the value is, once there is one more view
  pub still_pushed : (s : State (Option T) (View I)) (turns : List (LoggedTurn I)) (w : View I) → ¬ (w.served ≡ 1) → Placed s turns
      → Placed (record { words = s.words; homes = s.homes; views = s.views ++ w ∷ [] }) turns
  still_pushed s turns w not_w value = ⊎_elim
      (λ h. inl (h.0, h.1, h.2, h.3, each_push (λ u. ¬ (u.served ≡ 1)) s.views w not_w h.4))
      (λ a. inr (a.0, (a.1.0, a.1.1, at_longer s.views (w ∷ []) a.1.0 a.1.1 a.1.2, a.1.3)))
      value
