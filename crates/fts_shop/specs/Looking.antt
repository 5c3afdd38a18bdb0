-- Looks at whether a file is still wanted, each in a turn of the pass of its own, while the file is copied outside every turn.
use Rattle.std.specs.Prelude.{◌≡◌, ◌≢◌, ℕ, ◌+◌, ◌≤◌, ◌<◌, ◌==◌, ◌&&◌, Bool, true, false, if◌then◌else◌, List, [], ◌∷◌, ◌++◌}
use Rattle.fts_tables.specs.History.{tables_of}
use Rattle.fts_tables.specs.declared.commands.Entry.{Entry}
use Rattle.fts_turnstile.specs.declared.turn.LoggedTurn.{LoggedTurn}
use Rattle.fts_turnstile.specs.History.{items_of, shown_after}
use Rattle.fts_turnstile.specs.Passes.{PassView, IsSame, own_items, seen_list}
use Rattle.fts_shop.specs.Shops.{doubt_shown, lanes_shown, ShowsOn}
use Rattle.fts_shop.specs.Within.{is_cancel_asked}

-- a list without an item
abbrev pub is_empty : List Entry → Bool
is_empty [] = true
is_empty (entry ∷ entries) = false

-- how many turns have this number and added nothing
abbrev pub looks_in : ℕ → List (LoggedTurn Entry) → ℕ
looks_in number [] = 0
looks_in number (turn ∷ turns) = (if (turn.number == number) && is_empty turn.items then 1 else 0) + looks_in number turns

-- of a file no cancel was asked before any turn with this number, from a list on
abbrev pub Unasked : ℕ → ℕ → List Entry → List (LoggedTurn Entry) → Type 0
Unasked number file entries [] = Unit {0}
Unasked number file entries (turn ∷ turns) =
    (turn.number ≡ number → is_cancel_asked (tables_of entries) file ≡ false) × Unasked number file (entries ++ turn.items) turns

-- the turns with this number leave the lanes as the turn before them showed them, and go on from the rest that it showed
abbrev pub LeaveLanes : ℕ → List ℕ → List (LoggedTurn Entry) → Type 0
LeaveLanes number shown [] = Unit {0}
LeaveLanes number shown (turn ∷ turns) =
    (turn.number ≡ number → (lanes_shown turn.shows ≡ lanes_shown shown) × ShowsOn number shown turn.shows) × LeaveLanes number turn.shows turns

-- the turns with this number leave the entry in doubt as the turn before them showed it
abbrev pub LeaveDoubt : ℕ → List ℕ → List (LoggedTurn Entry) → Type 0
LeaveDoubt number shown [] = Unit {0}
LeaveDoubt number shown (turn ∷ turns) = (turn.number ≡ number → doubt_shown turn.shows ≡ doubt_shown shown) × LeaveDoubt number turn.shows turns

-- none of the entries is of this writer
abbrev pub NoneOf : ℕ → List Entry → Type 0
NoneOf writer [] = Unit {0}
NoneOf writer (entry ∷ entries) = (entry.writer ≢ writer) × NoneOf writer entries

-- What is known of a watch later: its pass took turns that added nothing, at least as many as the askings rose. Where the noes didn't rise, no
-- cancel was asked before any of them; where they rose, it was asked in what the pass has then seen.
pub record IsWatched (file : ℕ) (old new : PassView Entry) (askings askings_now noes noes_now : ℕ) : Type 0 where
  pub same : IsSame old new
  pub only_looks : own_items new ≡ own_items old
  pub since : List (LoggedTurn Entry)
  pub seen : new.seen ≡ old.seen ++ since
  pub others : NoneOf old.number (items_of since)
  pub lanes : LeaveLanes old.number (shown_after old.opening_shows old.seen) since
  pub doubt : LeaveDoubt old.number (shown_after old.opening_shows old.seen) since
  pub looks : askings_now ≤ askings + looks_in old.number since
  pub no_fewer : noes ≤ noes_now
  -- a count at the end of its type stays
  pub unasked : noes_now ≡ noes → noes < 18446744073709551615 → Unasked old.number file (seen_list old) since
  pub asked : noes < noes_now → is_cancel_asked (tables_of (seen_list new)) file ≡ true
