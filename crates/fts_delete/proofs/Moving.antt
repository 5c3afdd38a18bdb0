-- Rows move on: no event changes a row that waits no more.
use Rattle.std.proofs.Common.{◌≡◌, refl, sym, ◌∙◌, ap, subst, ℕ, ◌+◌, ◌≤◌, ◌==◌, ◌&&◌, Bool, true, false, nat_le, if◌then◌else◌, Some, None, List, [], ◌∷◌, ◌++◌, length, arith}
use Rattle.std.specs.List.{list_any}
use Rattle.fts_delete.specs.declared.rows.DeleteRow.{DeleteRow}
use Rattle.fts_delete.specs.declared.events.Event.{Event}
use Rattle.fts_delete.specs.declared.events.Event.TheVariants.{Ask, Gone, Missed}
use Rattle.fts_delete.specs.Rows.{most_rows, asked_rows, is_waiting, waits_as, gone_row, missed_row, with_row, rows_after}
use Rattle.fts_delete.specs.Laws.{MovesOn, AllMoveOn, RowsMoveOn}
use Rattle.fts_delete.proofs.Beginnings.{none_some, some_is, kept_from}

-- false is not true
OnlyTrue : Bool → Type 0
OnlyTrue true = Unit {0}
OnlyTrue false = ⊥

pub not_true : false ≡ true → ⊥
unfolding OnlyTrue
not_true e = subst OnlyTrue (sym e) tt

pub second_of : (a b : Bool) → (a && b) ≡ true → b ≡ true
second_of true b e = e
second_of false b e = absurd (not_true e)

stays : (row : DeleteRow) → MovesOn row row
stays row = record { id = refl; place = refl; missed = omega arith; settled = λ waits. refl }

-- a row that waits may become anything that keeps its id and place, and is missed no less often
waits_on : (row new : DeleteRow) → new.id ≡ row.id → new.place ≡ row.place → row.missed ≤ new.missed → is_waiting row.state ≡ true → MovesOn row new
waits_on row new id place missed waits = record { id = id; place = place; missed = missed; settled = λ settled. absurd (not_true (sym settled ∙ waits)) }

goes : (row : DeleteRow) → is_waiting row.state ≡ true → MovesOn row (gone_row row)
goes row waits = waits_on row (gone_row row) refl refl (omega arith) waits

misses : (row : DeleteRow) → is_waiting row.state ≡ true → MovesOn row (missed_row row)
misses row waits = waits_on row (missed_row row) refl refl (omega arith) waits

both : (a b c : DeleteRow) → MovesOn a b → MovesOn b c → MovesOn a c
both a b c one two = record {
  id = two.id ∙ one.id;
  place = two.place ∙ one.place;
  missed = omega (arith, one.missed, two.missed);
  settled = λ settled. let same : b ≡ a = one.settled settled in two.settled (ap (λ r. is_waiting r.state) same ∙ settled) ∙ same;
}

all_both : (a b c : List DeleteRow) → AllMoveOn a b → AllMoveOn b c → AllMoveOn a c
all_both [] b c one two = tt
all_both (x ∷ a) [] c one two = absurd one
all_both (x ∷ a) (y ∷ b) [] one two = absurd two
all_both (x ∷ a) (y ∷ b) (z ∷ c) one two = (both x y z one.0 two.0, all_both a b c one.1 two.1)

all_stay : (rows more : List DeleteRow) → AllMoveOn rows (rows ++ more)
all_stay [] more = tt
all_stay (row ∷ rows) more = (stays row, all_stay rows more)

-- one row by the test whether it is meant
one_moves : (row : DeleteRow) (change : DeleteRow → DeleteRow) (b : Bool) → (b ≡ true → MovesOn row (change row)) → MovesOn row (if b then change row else row)
one_moves row change true moves = moves refl
one_moves row change false moves = stays row

rows_move : (id : ℕ) (change : DeleteRow → DeleteRow) (rows : List DeleteRow) → ((row : DeleteRow) → is_waiting row.state ≡ true → MovesOn row (change row)) → AllMoveOn rows (with_row id change rows)
rows_move id change [] moves = tt
rows_move id change (row ∷ rows) moves =
    (one_moves row change (waits_as id row) (λ meant. moves row (second_of (row.id == id) (is_waiting row.state) meant)), rows_move id change rows moves)

when_some : (b : Bool) (rows these new : List DeleteRow) → AllMoveOn rows these → (if b then Some these else None) ≡ Some new → AllMoveOn rows new
when_some true rows these new moves e = subst (λ l. AllMoveOn rows l) (some_is these new e) moves
when_some false rows these new moves e = absurd (none_some new e)

event_moves : (rows : List DeleteRow) (event : Event) (new : List DeleteRow) → rows_after rows event ≡ Some new → AllMoveOn rows new
event_moves rows (Ask places) new e =
    let more = asked_rows (length rows + 1) places in
    when_some (nat_le (length rows + length places) most_rows) rows (rows ++ more) new (all_stay rows more) e
event_moves rows (Gone id) new e = when_some (list_any (waits_as id) rows) rows (with_row id gone_row rows) new (rows_move id gone_row rows goes) e
event_moves rows (Missed id) new e = when_some (list_any (waits_as id) rows) rows (with_row id missed_row rows) new (rows_move id missed_row rows misses) e

all_same : (rows : List DeleteRow) → AllMoveOn rows rows
all_same [] = tt
all_same (row ∷ rows) = (stays row, all_same rows)

pub rows_move_on : RowsMoveOn
rows_move_on start events new e =
    kept_from (λ rows. AllMoveOn start rows) (λ rows event next moved is. all_both start rows next moved (event_moves rows event next is)) (Some start) events new
    (λ rows is. subst (λ l. AllMoveOn start l) (some_is start rows is) (all_same start)) e
