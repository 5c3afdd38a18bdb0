-- Which lanes have turns to come, and how many lanes a lock shows: each lane takes one away in its last turn, and nobody else takes any.
use Rattle.std.proofs.Common.{◌≡◌, ◌≢◌, refl, sym, ap, ◌∙◌, inl, inr, ⊎_elim, ℕ, zero, suc, ◌+◌, ◌-◌, ◌<◌, ◌≤◌, Bool, true, false, cond, List, [], ◌∷◌, ◌++◌, Some, subst, arith, eq-eqb, eqb-true}
use Rattle.std.specs.Prelude.{◌⊎◌, ◌==◌, ◌||◌}
use Rattle.fts_tables.specs.declared.commands.Entry.{Entry}
use Rattle.fts_turnstile.specs.declared.turn.LoggedTurn.{LoggedTurn}
use Rattle.fts_turnstile.specs.History.{shown_after, AllGiven, NoneBy}
use Rattle.fts_shop.specs.Looking.{LeaveLanes}
use Rattle.fts_shop.specs.Shops.{IsShownOf, ShowsOn, doubt_bytes, doubt_shown, faults_shown, lanes_shown, telling_shown}
use Rattle.fts_shop.proofs.Took.{rose_wider}
use Rattle.fts_tables.specs.Counts.{Rose}
use Rattle.fts_serving.specs.Ends.{DoubtBegins}
use Rattle.fts_serving.specs.Finishes.{NoneRises}

-- whether a pass has a turn among these
abbrev pub has_turn : ℕ → List (LoggedTurn Entry) → Bool
has_turn number [] = false
has_turn number (turn ∷ turns) = (turn.number == number) || has_turn number turns

-- how many of the lanes 1, 2 and so on have turns among these
abbrev pub open_lanes : ℕ → List (LoggedTurn Entry) → ℕ
open_lanes zero turns = 0
open_lanes (suc more) turns = cond {A = ℕ} (has_turn (suc more) turns) 1 0 + open_lanes more turns

-- the turns of a lane leave the lanes that are shown, but the last one, which leaves one less; and each goes on from the rest that is shown
abbrev pub LaneTurns : ℕ → List ℕ → List (LoggedTurn Entry) → Type 0
LaneTurns number shown [] = Unit {0}
LaneTurns number shown (turn ∷ turns) =
    (turn.number ≡ number → (lanes_shown turn.shows ≡ cond {A = ℕ} (has_turn number turns) (lanes_shown shown) (lanes_shown shown - 1))
    × ShowsOn number shown turn.shows) × LaneTurns number turn.shows turns

-- so do those of each lane, and the others leave the lanes
pub record Rules (lanes all : ℕ) (shown : List ℕ) (turns : List (LoggedTurn Entry)) : Type 0 where
  pub lane : (n : ℕ) → 1 ≤ n → n ≤ lanes → LaneTurns n shown turns
  pub other : (n : ℕ) → lanes < n → n ≤ all → LeaveLanes n shown turns
  pub given : AllGiven all turns
  pub none : NoneBy (0 ∷ []) turns

-- the rules hold behind the first turn
pub rules_behind : (lanes all : ℕ) (shown : List ℕ) (turn : LoggedTurn Entry) (turns : List (LoggedTurn Entry)) → Rules lanes all shown (turn ∷ turns)
    → Rules lanes all turn.shows turns
rules_behind lanes all shown turn turns rules = record {
  lane = λ n low high. (rules.lane n low high).1;
  other = λ n low high. (rules.other n low high).1;
  given = rules.given.1;
  none = rules.none.1;
}

-- no test has two answers
no_test : (test : Bool) → test ≡ true → test ≡ false → ⊥
no_test test holds fails = let clash : true ≡ false = sym holds ∙ fails in absurd cc

-- another number's turn is passed over
other_turn : (number : ℕ) (turn : LoggedTurn Entry) (turns : List (LoggedTurn Entry)) → turn.number ≢ number → has_turn number (turn ∷ turns) ≡ has_turn number turns
other_turn number turn turns other = by (turn.number == number) refl
  where
    by : (same : Bool) → (turn.number == number) ≡ same → (same || has_turn number turns) ≡ has_turn number turns
    by true is = absurd (other (eqb-true turn.number number is))
    by false is = refl

-- its own turn is there
pub own_turn : (number : ℕ) (turn : LoggedTurn Entry) (turns : List (LoggedTurn Entry)) → turn.number ≡ number → has_turn number (turn ∷ turns) ≡ true
own_turn number turn turns is = ap (λ b. b || has_turn number turns) (eq-eqb turn.number number is)

-- a turn of none of the lanes leaves as many of them open
open_other : (lanes : ℕ) (turn : LoggedTurn Entry) (turns : List (LoggedTurn Entry)) → lanes < turn.number → open_lanes lanes (turn ∷ turns) ≡ open_lanes lanes turns
open_other zero turn turns above = refl
open_other (suc more) turn turns above =
    let one = ap (λ b. cond {A = ℕ} b 1 0) (other_turn (suc more) turn turns (λ is. omega (arith, is, above))) in
    omega (arith, one, open_other more turn turns (omega (arith, above)))

-- whether the turn was the lane's last one
abbrev one_if_last : Bool → ℕ
one_if_last has = cond {A = ℕ} has 0 1

-- a turn of a lane leaves one open less, where it was the lane's last
open_own : (lanes : ℕ) (turn : LoggedTurn Entry) (turns : List (LoggedTurn Entry)) → 1 ≤ turn.number → turn.number ≤ lanes
    → open_lanes lanes (turn ∷ turns) ≡ one_if_last (has_turn turn.number turns) + open_lanes lanes turns
open_own zero turn turns low high = absurd (omega (arith, low, high))
open_own (suc more) turn turns low high = by (turn.number == suc more) refl (λ upto. open_own more turn turns low upto)
  where
    here : turn.number ≡ suc more → (has : Bool) → has_turn turn.number turns ≡ has
        → open_lanes (suc more) (turn ∷ turns) ≡ one_if_last has + open_lanes (suc more) turns
    here is true has_is =
        let own = ap (λ b. cond {A = ℕ} b 1 0) (own_turn (suc more) turn turns is) in
        let rest = ap (λ b. cond {A = ℕ} b 1 0) (sym (ap (λ n. has_turn n turns) is) ∙ has_is) in
        omega (arith, own, rest, open_other more turn turns (omega (arith, is)))
    here is false has_is =
        let own = ap (λ b. cond {A = ℕ} b 1 0) (own_turn (suc more) turn turns is) in
        let rest = ap (λ b. cond {A = ℕ} b 1 0) (sym (ap (λ n. has_turn n turns) is) ∙ has_is) in
        omega (arith, own, rest, open_other more turn turns (omega (arith, is)))

    by : (same : Bool) → (turn.number == suc more) ≡ same
        → (turn.number ≤ more → open_lanes more (turn ∷ turns) ≡ one_if_last (has_turn turn.number turns) + open_lanes more turns)
        → open_lanes (suc more) (turn ∷ turns) ≡ one_if_last (has_turn turn.number turns) + open_lanes (suc more) turns
    by true is behind = here (eqb-true turn.number (suc more) is) (has_turn turn.number turns) refl
    by false is behind =
        let unlike : turn.number ≢ suc more = λ e. no_test (turn.number == suc more) (eq-eqb turn.number (suc more) e) is in
        let one = ap (λ b. cond {A = ℕ} b 1 0) (other_turn (suc more) turn turns unlike) in
        omega (arith, one, behind (omega (arith, high, unlike)))

-- a number is another one at most, or above it
up_to : (n m : ℕ) → (n ≤ m) ⊎ (m < n)
up_to zero m = inl (omega arith)
up_to (suc n) zero = inr (omega arith)
up_to (suc n) (suc m) = ⊎_elim (λ le. inl (omega (arith, le))) (λ lt. inr (omega (arith, lt))) (up_to n m)

not_zero : (n : ℕ) → n ≢ 0 → 1 ≤ n
not_zero zero unlike = absurd (unlike refl)
not_zero (suc n) unlike = omega arith

-- what turns of any numbers do: whether the disk tells its contents stays, its count never falls, and an entry comes into doubt only where it rose
pub record ShowsLater (before after : List ℕ) : Type 0 where
  pub tells : telling_shown after ≡ telling_shown before
  pub counts : faults_shown before ≤ faults_shown after
  pub doubt : (doubt_shown after ≡ []) ⊎ ((doubt_shown after ≡ doubt_shown before) ⊎ Rose (faults_shown before) (faults_shown after))

-- what is shown goes on from what is shown, and then again
shows_more : {number : ℕ} (one two three : List ℕ) → ShowsOn number one two → ShowsLater two three → ShowsLater one three
shows_more one two three first second = record {
  tells = second.tells ∙ first.tells;
  counts = omega (arith, first.counts, second.counts);
  doubt = ⊎_elim
      (λ none. inl none)
      (λ some. ⊎_elim
      (λ still. ⊎_elim
      (λ none. inl (still ∙ none))
      (λ was. inr (⊎_elim (λ same. inl (still ∙ same)) (λ own. inr (rose_wider _ _ _ _ (omega arith) second.counts own.1)) was))
      first.doubt)
      (λ rose. inr (inr (rose_wider _ _ _ _ first.counts (omega arith) rose)))
      some)
      second.doubt;
}

-- so does each turn
turn_shows : (lanes all : ℕ) (shown : List ℕ) (turn : LoggedTurn Entry) (turns : List (LoggedTurn Entry)) → Rules lanes all shown (turn ∷ turns)
    → ShowsOn turn.number shown turn.shows
turn_shows lanes all shown turn turns rules = ⊎_elim
    (λ high. ((rules.lane turn.number (not_zero turn.number (λ e. rules.none.0 (inl e))) high).0 refl).1)
    (λ above. ((rules.other turn.number above rules.given.0).0 refl).1)
    (up_to turn.number lanes)

-- and so do all turns
pub shows_through : (lanes all : ℕ) (shown : List ℕ) (turns : List (LoggedTurn Entry)) → Rules lanes all shown turns
    → ShowsLater shown (shown_after shown turns)
shows_through lanes all shown [] rules = record { tells = refl; counts = omega arith; doubt = inr (inl refl) }
shows_through lanes all shown (turn ∷ turns) rules = shows_more shown turn.shows (shown_after turn.shows turns) (turn_shows lanes all shown turn turns rules)
    (shows_through lanes all turn.shows turns (rules_behind lanes all shown turn turns rules))

-- an entry in doubt behind all turns was in doubt before them, or came into doubt in a turn of its writer
pub doubt_begins : (lanes all : ℕ) (shown : List ℕ) (turns : List (LoggedTurn Entry)) → Rules lanes all shown turns → (entry : Entry)
    → doubt_shown (shown_after shown turns) ≡ doubt_bytes (Some entry)
    → (doubt_shown shown ≡ doubt_bytes (Some entry)) ⊎ DoubtBegins shown turns entry
doubt_begins lanes all shown [] rules entry is = inl is
doubt_begins lanes all shown (turn ∷ turns) rules entry is =
    ⊎_elim here (λ begins. inr (record {
      before = turn ∷ begins.before;
      turn = begins.turn;
      later = begins.later;
      is = ap (λ rest. turn ∷ rest) begins.is;
      shows = begins.shows;
      own = begins.own;
      rose = begins.rose;
    })) (doubt_begins lanes all turn.shows turns (rules_behind lanes all shown turn turns rules) entry is)
  where
    here : doubt_shown turn.shows ≡ doubt_bytes (Some entry) → (doubt_shown shown ≡ doubt_bytes (Some entry)) ⊎ DoubtBegins shown (turn ∷ turns) entry
    here at = ⊎_elim
        (λ none. let clash : [] ≡ doubt_bytes (Some entry) = sym none ∙ at in absurd cc)
        (λ some. ⊎_elim
        (λ same. inl (sym same ∙ at))
        (λ own. inr (record {
          before = [];
          turn = turn;
          later = turns;
          is = refl;
          shows = at;
          own = subst (IsShownOf turn.number) at own.0;
          rose = own.1;
        }))
        some)
        (turn_shows lanes all shown turn turns rules).doubt

-- where the count doesn't rise from before the first turn to behind the last, it rises in none
pub none_rises_in : (lanes all : ℕ) (shown : List ℕ) (turns : List (LoggedTurn Entry)) (base top : ℕ) → Rules lanes all shown turns → base ≤ faults_shown shown
    → faults_shown (shown_after shown turns) ≤ top → (Rose base top → ⊥) → NoneRises shown turns
none_rises_in lanes all shown [] base top rules low high stays = tt
none_rises_in lanes all shown (turn ∷ turns) base top rules low high stays =
    let behind = rules_behind lanes all shown turn turns rules in
    let here = turn_shows lanes all shown turn turns rules in
    let later = shows_through lanes all turn.shows turns behind in (
      (λ rose. stays (⊎_elim (λ less. inl (omega (arith, less, low, later.counts, high))) (λ most. inr (omega (arith, most, later.counts, high))) rose)),
      none_rises_in lanes all turn.shows turns base top behind (omega (arith, low, here.counts)) high stays,
    )

-- the lanes that are shown are those with turns to come: one turn on
open_turn : (lanes all : ℕ) (shown : List ℕ) (turn : LoggedTurn Entry) (turns : List (LoggedTurn Entry)) → Rules lanes all shown (turn ∷ turns)
    → lanes_shown shown ≡ open_lanes lanes (turn ∷ turns) → lanes_shown turn.shows ≡ open_lanes lanes turns
open_turn lanes all shown turn turns rules is = ⊎_elim at_lane at_other (up_to turn.number lanes)
  where
    low : 1 ≤ turn.number
    low = not_zero turn.number (λ e. rules.none.0 (inl e))

    at_lane : turn.number ≤ lanes → lanes_shown turn.shows ≡ open_lanes lanes turns
    at_lane high = by (has_turn turn.number turns) ((rules.lane turn.number low high).0 refl).0 (open_own lanes turn turns low high)
      where
        by : (has : Bool) → lanes_shown turn.shows ≡ cond {A = ℕ} has (lanes_shown shown) (lanes_shown shown - 1)
            → open_lanes lanes (turn ∷ turns) ≡ one_if_last has + open_lanes lanes turns → lanes_shown turn.shows ≡ open_lanes lanes turns
        by true shows opens = omega (arith, shows, opens, is)
        by false shows opens = omega (arith, shows, opens, is)

    at_other : lanes < turn.number → lanes_shown turn.shows ≡ open_lanes lanes turns
    at_other high = ((rules.other turn.number high rules.given.0).0 refl).0 ∙ is ∙ open_other lanes turn turns high

-- and behind any beginning of the turns
pub open_behind : (lanes all : ℕ) (shown : List ℕ) (before after : List (LoggedTurn Entry)) → Rules lanes all shown (before ++ after)
    → lanes_shown shown ≡ open_lanes lanes (before ++ after) → lanes_shown (shown_after shown before) ≡ open_lanes lanes after
open_behind lanes all shown [] after rules is = is
open_behind lanes all shown (turn ∷ before) after rules is =
    open_behind lanes all turn.shows before after (rules_behind lanes all shown turn (before ++ after) rules)
    (open_turn lanes all shown turn (before ++ after) rules is)

-- where each lane has a turn to come, all are open
pub open_all : (lanes : ℕ) (turns : List (LoggedTurn Entry)) → ((n : ℕ) → 1 ≤ n → n ≤ lanes → has_turn n turns ≡ true) → lanes ≡ open_lanes lanes turns
open_all zero turns has = refl
open_all (suc more) turns has =
    let one = ap (λ b. cond {A = ℕ} b 1 0) (has (suc more) (omega arith) (omega arith)) in
    omega (arith, one, open_all more turns (λ n low high. has n low (omega (arith, high))))

-- where none is open, no lane has a turn to come
pub none_open : (lanes : ℕ) (turns : List (LoggedTurn Entry)) → open_lanes lanes turns ≡ 0 → (n : ℕ) → 1 ≤ n → n ≤ lanes → has_turn n turns ≡ false
none_open zero turns none n low high = absurd (omega (arith, low, high))
none_open (suc more) turns none n low high =
    by_head (has_turn (suc more) turns) refl none (n == suc more) refl (λ sum upto. none_open more turns sum n low upto)
  where
    by_head : (has : Bool) → has_turn (suc more) turns ≡ has → cond {A = ℕ} has 1 0 + open_lanes more turns ≡ 0 → (same : Bool) → (n == suc more) ≡ same
        → (open_lanes more turns ≡ 0 → n ≤ more → has_turn n turns ≡ false) → has_turn n turns ≡ false
    by_head true is sum same at behind = absurd (omega (arith, sum))
    by_head false is sum true at behind = ap (λ m. has_turn m turns) (eqb-true n (suc more) at) ∙ is
    by_head false is sum false at behind =
        let unlike : n ≢ suc more = λ e. no_test (n == suc more) (eq-eqb n (suc more) e) at in
        behind (omega (arith, sum)) (omega (arith, high, unlike))

-- a turn that stands among these is there
pub there : (number : ℕ) (before : List (LoggedTurn Entry)) (turn : LoggedTurn Entry) (after : List (LoggedTurn Entry)) → turn.number ≡ number
    → has_turn number (before ++ turn ∷ after) ≡ true
there number [] turn after is = own_turn number turn after is
there number (first ∷ before) turn after is = by (first.number == number) (there number before turn after is)
  where
    by : (same : Bool) → has_turn number (before ++ turn ∷ after) ≡ true → (same || has_turn number (before ++ turn ∷ after)) ≡ true
    by true behind = refl
    by false behind = behind

-- none stands among turns of others
pub none_there : (number : ℕ) (turns : List (LoggedTurn Entry)) → NoneBy (number ∷ []) turns → has_turn number turns ≡ false
none_there number [] none = refl
none_there number (turn ∷ turns) none = other_turn number turn turns (λ e. none.0 (inl e)) ∙ none_there number turns none.1

-- what stands behind a turn is there
pub there_behind : (number : ℕ) (turn : LoggedTurn Entry) (later : List (LoggedTurn Entry)) → has_turn number later ≡ true → has_turn number (turn ∷ later) ≡ true
there_behind number turn later behind = by (turn.number == number)
  where
    by : (same : Bool) → (same || has_turn number later) ≡ true
    by true = refl
    by false = behind
