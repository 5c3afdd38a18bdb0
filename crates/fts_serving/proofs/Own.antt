-- One turn more of a pass: what it adds, and how it leaves the lanes, behind turns of others.
use Rattle.std.proofs.Common.{◌≡◌, ◌⊎◌, ◌≢◌, refl, sym, ap, ◌∙◌, subst, inl, inr, ℕ, List, [], ◌∷◌, ◌++◌}
use Rattle.fts_tables.specs.declared.commands.Entry.{Entry}
use Rattle.fts_turnstile.specs.declared.turn.LoggedTurn.{LoggedTurn}
use Rattle.fts_turnstile.specs.History.{AllName, AllNamed, NoneBy, items_of, shown_after}
use Rattle.fts_turnstile.specs.Passes.{PassView}
use Rattle.fts_shop.specs.Looking.{LeaveLanes, NoneOf}
use Rattle.fts_shop.specs.Looked.{items_on}
use Rattle.fts_shop.specs.Shops.{KeepsLanes, TakesTurn, writer_of}
use Rattle.fts_ledger.specs.Reports.{AddsAsked}
use Rattle.fts_serving.proofs.Asked.{AllAsked}

-- what is shown behind turns behind turns
pub shown_on : (shown : List ℕ) (before after : List (LoggedTurn Entry)) → shown_after shown (before ++ after) ≡ shown_after (shown_after shown before) after
shown_on shown [] after = refl
shown_on shown (turn ∷ before) after = shown_on turn.shows before after

-- turns that leave the lanes, one behind the other
pub leave_on : (number : ℕ) (shown : List ℕ) (before after : List (LoggedTurn Entry)) → LeaveLanes number shown before
    → LeaveLanes number (shown_after shown before) after → LeaveLanes number shown (before ++ after)
leave_on number shown [] after one two = two
leave_on number shown (turn ∷ before) after one two = (one.0, leave_on number turn.shows before after one.1 two)

-- turns of others do
pub leave_none : (number : ℕ) (shown : List ℕ) (turns : List (LoggedTurn Entry)) → NoneBy (number ∷ []) turns → LeaveLanes number shown turns
leave_none number shown [] none = tt
leave_none number shown (turn ∷ turns) none = ((λ is. absurd (none.0 (inl is))), leave_none number turn.shows turns none.1)

-- client's commands of two lists
pub asked_on : (writer : ℕ) (one two : List Entry) → AddsAsked writer one → AddsAsked writer two → AddsAsked writer (one ++ two)
asked_on writer [] two a b = b
asked_on writer (entry ∷ one) two a b = (a.0, asked_on writer one two a.1 b)

pub asked_all : (writer : ℕ) (entries : List Entry) → AllAsked entries → AddsAsked writer entries
asked_all writer [] asked = tt
asked_all writer (entry ∷ entries) asked = ((λ is. asked.0), asked_all writer entries asked.1)

pub asked_none : (writer : ℕ) (entries : List Entry) → NoneOf writer entries → AddsAsked writer entries
asked_none writer [] none = tt
asked_none writer (entry ∷ entries) none = ((λ is. absurd (none.0 is)), asked_none writer entries none.1)

-- fewer numbers
pub none_by_one : (number : ℕ) (joined : List ℕ) (turns : List (LoggedTurn Entry)) → NoneBy (number ∷ joined) turns → NoneBy (number ∷ []) turns
none_by_one number joined [] none = tt
none_by_one number joined (turn ∷ turns) none = (λ among. by among, none_by_one number joined turns none.1)
  where
    by : (turn.number ≡ number) ⊎ ⊥ → ⊥
    by (inl is) = none.0 (inl is)
    by (inr never) = absurd never

-- entries of turns of others are of others
none_name : (number writer : ℕ) (entries : List Entry) → AllName writer_of writer entries → writer ≢ number → NoneOf number entries
none_name number writer [] named other = tt
none_name number writer (entry ∷ entries) named other = ((λ is. other (sym named.0 ∙ is)), none_name number writer entries named.1 other)

none_of_on : (number : ℕ) (one two : List Entry) → NoneOf number one → NoneOf number two → NoneOf number (one ++ two)
none_of_on number [] two a b = b
none_of_on number (entry ∷ one) two a b = (a.0, none_of_on number one two a.1 b)

pub none_items : (number : ℕ) (turns : List (LoggedTurn Entry)) → NoneBy (number ∷ []) turns → AllNamed writer_of turns → NoneOf number (items_of turns)
none_items number [] none named = tt
none_items number (turn ∷ turns) none named =
    none_of_on number turn.items (items_of turns)
    (none_name number turn.number turn.items named.0 (λ is. none.0 (inl is)))
    (none_items number turns none.1 named.1)

-- names of the first of two lists
pub named_front : (one two : List (LoggedTurn Entry)) → AllNamed writer_of (one ++ two) → AllNamed writer_of one
named_front [] two named = tt
named_front (turn ∷ one) two named = (named.0, named_front one two named.1)

pub named_back : (one two : List (LoggedTurn Entry)) → AllNamed writer_of (one ++ two) → AllNamed writer_of two
named_back [] two named = named
named_back (turn ∷ one) two named = named_back one two named.1

module _ {old new : PassView Entry} (taken : TakesTurn old new) where
  -- the others' turns in between add nothing of the pass
  between_none : NoneOf old.number (items_of taken.between)
  between_none = none_items old.number taken.between (none_by_one old.number old.joined taken.between taken.others)
      (named_back old.seen taken.between (named_front (old.seen ++ taken.between) (taken.turn ∷ []) (subst (AllNamed writer_of) taken.seen taken.named)))

  -- the turn adds client's commands, or none, as the pass did before
  pub turn_asked : AddsAsked old.number (items_of old.seen) → AllAsked taken.turn.items → AddsAsked old.number (items_of new.seen)
  turn_asked before asked =
      let all : items_of new.seen ≡ (items_of old.seen ++ items_of taken.between) ++ (taken.turn.items ++ []) =
      ap items_of taken.seen ∙ items_on (old.seen ++ taken.between) (taken.turn ∷ [])
      ∙ ap (λ l. l ++ (taken.turn.items ++ [])) (items_on old.seen taken.between) in
      subst (AddsAsked old.number) (sym all)
      (asked_on old.number (items_of old.seen ++ items_of taken.between) (taken.turn.items ++ [])
      (asked_on old.number (items_of old.seen) (items_of taken.between) before (asked_none old.number (items_of taken.between) between_none))
      (asked_on old.number taken.turn.items [] (asked_all old.number taken.turn.items asked) tt))

  -- it leaves the lanes up to the turn
  pub before_leaves : LeaveLanes old.number old.opening_shows old.seen → LeaveLanes old.number old.opening_shows (old.seen ++ taken.between)
  before_leaves before = leave_on old.number old.opening_shows old.seen taken.between before
      (leave_none old.number (shown_after old.opening_shows old.seen) taken.between (none_by_one old.number old.joined taken.between taken.others))

  -- and in the turn, where it keeps the lanes
  pub turn_leaves : LeaveLanes old.number old.opening_shows old.seen → KeepsLanes taken → LeaveLanes old.number old.opening_shows new.seen
  turn_leaves before keeps = subst (LeaveLanes old.number old.opening_shows) (sym taken.seen)
      (leave_on old.number old.opening_shows (old.seen ++ taken.between) (taken.turn ∷ []) (before_leaves before) ((λ is. (keeps, taken.on)), tt))
