-- What the rule sees of one holder of a seat, and what each kind of step makes of it.
-- A pass has a number and lives. A note, which tells one pass what another has seen, has no number and does not, nor does what a join leaves.
use Rattle.std.specs.Prelude.{◌≡◌, ℕ, ◌+◌, ◌%◌, List, [], ◌∷◌, ◌++◌}
use Rattle.fts_turnstile.specs.declared.turn.LoggedTurn.{LoggedTurn}
use Rattle.fts_turnstile.specs.declared.view.View.{View}
use Rattle.fts_turnstile.specs.History.{longer_of}

module _ {I : Type 0} where
  -- its own number and those joined into it
  abbrev pub own_numbers : View I → List ℕ
  own_numbers view = view.number ∷ view.joined

  -- these and those that a join has just brought
  abbrev pub all_numbers : View I → List ℕ
  all_numbers view = own_numbers view ++ view.told_numbers

  -- between calls a pass has no ticket, no value and nothing in hand
  abbrev pub Rests : View I → Type 0
  Rests view = (view.lives ≡ 1) × (view.told ≡ []) × (view.told_numbers ≡ []) × (view.hand ≡ 0) × (view.waits ≡ 0) × (view.served ≡ 0)

  -- a pass that has a ticket, of which the word gave the remainder, and not the value
  abbrev pub IsWaiting : View I → ℕ → Type 0
  IsWaiting view ticket = (view.lives ≡ 1) × (view.waits ≡ 1) × (view.served ≡ 0) × (ticket ≡ view.ticket % 18446744073709551616)

  -- a pass that has the value
  abbrev pub IsServed : View I → Type 0
  IsServed view = (view.lives ≡ 1) × (view.served ≡ 1) × (view.told_numbers ≡ [])

  -- the view of a pass that has added nothing, with what it has seen and its number
  abbrev pub fresh_view : List I → List ℕ → List (LoggedTurn I) → ℕ → View I
  fresh_view opening opening_shows seen number = record {
    opening = opening;
    opening_shows = opening_shows;
    seen = seen;
    told = [];
    told_numbers = [];
    lives = 1;
    number = number;
    joined = [];
    given = 0;
    hand = 0;
    waits = 0;
    ticket = 0;
    served = 0;
  }

  -- the first view of a lock that is made over a value with this list, which shows this
  abbrev pub first_view : List I → List ℕ → View I
  first_view opening opening_shows = fresh_view opening opening_shows [] 0

  -- what a join leaves of the view that it took in
  abbrev pub spent_view : View I
  spent_view = record (first_view [] []) { lives = 0 }

  -- a note of what the pass has seen
  abbrev pub note_of : View I → View I
  note_of view = record (fresh_view view.opening view.opening_shows view.seen 0) { lives = 0 }

  -- the pass has drawn a ticket
  abbrev pub view_with_ticket : View I → ℕ → View I
  view_with_ticket view ticket = record view { waits = 1; ticket = ticket }

  -- the pass has the value, and has seen all turns so far
  abbrev pub served_view : View I → List (LoggedTurn I) → View I
  served_view view turns = record view { seen = turns; served = 1 }

  -- the pass took a turn, and gave the value and the ticket back
  abbrev pub view_after_turn : View I → LoggedTurn I → View I
  view_after_turn view turn = record view { seen = view.seen ++ turn ∷ []; waits = 0; served = 0 }

  -- pass 0 has drawn a number, which no seat has yet
  abbrev pub view_with_number : View I → View I
  view_with_number view = record view { hand = 1 }

  -- pass 0 has given the number that it drew
  abbrev pub view_after_giving : View I → View I
  view_after_giving view = record view { given = view.given + 1; hand = 0 }

  -- the pass that has it: it has seen what pass 0 has
  abbrev pub new_view : View I → View I
  new_view view = fresh_view view.opening view.opening_shows view.seen (view.given + 1)

  -- the pass has taken in another, of which nothing counts as seen yet
  abbrev pub view_with_pass : View I → View I → View I
  view_with_pass view other = record view { told = other.seen; told_numbers = other.number ∷ other.joined }

  -- the pass has taken in a note, of which nothing counts as seen yet
  abbrev pub view_with_note : View I → View I → View I
  view_with_note view note = record view { told = note.seen }

  -- what was taken in counts as seen
  abbrev pub learned_view : View I → View I
  learned_view view = record view { seen = longer_of view.seen view.told; told = []; told_numbers = []; joined = view.joined ++ view.told_numbers }

  -- the first has seen what the second has
  abbrev pub view_told : View I → View I → View I
  view_told view other = record view { seen = longer_of view.seen other.seen }
