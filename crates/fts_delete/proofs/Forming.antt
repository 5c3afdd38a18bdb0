-- Rows of legal lists are numbered from 1 on, and fail exactly by their third miss.
use Rattle.std.proofs.Common.{◌≡◌, refl, sym, ◌∙◌, subst, ℕ, ◌+◌, ◌≤◌, ◌==◌, Bool, true, false, nat_le, nat_lt, if◌then◌else◌, Some, None, List, [], ◌∷◌, ◌++◌, length, arith}
use Rattle.std.specs.List.{list_any}
use Rattle.std.proofs.lemmas.Bool.{ltb-true, ltb-false, leb-true}
use Rattle.std.proofs.lemmas.List.{length-append}
use Rattle.fts_tables.specs.declared.places.Place.{Place}
use Rattle.fts_delete.specs.declared.rows.DeleteRow.{DeleteRow}
use Rattle.fts_delete.specs.declared.rows.DeleteState.{DeleteState}
use Rattle.fts_delete.specs.declared.rows.DeleteState.TheVariants.{Waiting, Finished, Failed}
use Rattle.fts_delete.specs.declared.events.Event.{Event}
use Rattle.fts_delete.specs.declared.events.Event.TheVariants.{Ask, Gone, Missed}
use Rattle.fts_delete.specs.Rows.{most_rows, asked_rows, is_waiting, waits_as, gone_row, missed_row, with_row, rows_after, AreRowsOf}
use Rattle.fts_delete.specs.Laws.{AreNumbered, IsCounted, AreCounted, AreFormed, LegalRowsAreFormed}
use Rattle.fts_delete.proofs.Beginnings.{none_some, some_is, kept_from}
use Rattle.fts_delete.proofs.Moving.{not_true, second_of}

pub numbered_at : (n m : ℕ) (rows : List DeleteRow) → n ≡ m → AreNumbered n rows → AreNumbered m rows
numbered_at n m rows same numbered = subst (λ k. AreNumbered k rows) same numbered

numbered_append : (n : ℕ) (rows more : List DeleteRow) → AreNumbered n rows → AreNumbered (n + length rows) more → AreNumbered n (rows ++ more)
numbered_append n [] more numbered behind = numbered_at (n + 0) n more (omega arith) behind
numbered_append n (row ∷ rows) more numbered behind =
    (numbered.0, numbered_append (n + 1) rows more numbered.1 (numbered_at (n + length (row ∷ rows)) (n + 1 + length rows) more (omega arith) behind))

asked_numbered : (id : ℕ) (places : List Place) → AreNumbered id (asked_rows id places)
asked_numbered id [] = tt
asked_numbered id (place ∷ places) = (refl, asked_numbered (id + 1) places)

counted_append : (rows more : List DeleteRow) → AreCounted rows → AreCounted more → AreCounted (rows ++ more)
counted_append [] more counted behind = behind
counted_append (row ∷ rows) more counted behind = (counted.0, counted_append rows more counted.1 behind)

asked_counted : (id : ℕ) (places : List Place) → AreCounted (asked_rows id places)
asked_counted id [] = tt
asked_counted id (place ∷ places) = (omega arith, asked_counted (id + 1) places)

-- a row that waits was missed twice at most
pub waiting_counted : (state : DeleteState) (missed : ℕ) → is_waiting state ≡ true → IsCounted state missed → missed ≤ 2
waiting_counted Waiting missed waits counted = counted
waiting_counted Finished missed waits counted = counted
waiting_counted Failed missed waits counted = absurd (not_true waits)

gone_counted : (row : DeleteRow) → is_waiting row.state ≡ true → IsCounted row.state row.missed → IsCounted (gone_row row).state (gone_row row).missed
gone_counted row waits counted = waiting_counted row.state row.missed waits counted

-- one miss more, by the test whether it is the third
by_third : (missed : ℕ) (b : Bool) → b ≡ nat_lt missed 2 → missed ≤ 2 → IsCounted (if b then Waiting else Failed) (missed + 1)
by_third missed true is most = omega (arith, ltb-true missed 2 (sym is))
by_third missed false is most = omega (arith, ltb-false missed 2 (sym is), most)

missed_counted : (row : DeleteRow) → is_waiting row.state ≡ true → IsCounted row.state row.missed → IsCounted (missed_row row).state (missed_row row).missed
missed_counted row waits counted = by_third row.missed (nat_lt row.missed 2) refl (waiting_counted row.state row.missed waits counted)

one_counted : (row : DeleteRow) (change : DeleteRow → DeleteRow) (b : Bool) → (b ≡ true → IsCounted (change row).state (change row).missed) → IsCounted row.state row.missed
    → IsCounted (if b then change row else row).state (if b then change row else row).missed
one_counted row change true counts counted = counts refl
one_counted row change false counts counted = counted

rows_counted : (id : ℕ) (change : DeleteRow → DeleteRow) (rows : List DeleteRow)
    → ((row : DeleteRow) → is_waiting row.state ≡ true → IsCounted row.state row.missed → IsCounted (change row).state (change row).missed)
    → AreCounted rows → AreCounted (with_row id change rows)
rows_counted id change [] counts counted = tt
rows_counted id change (row ∷ rows) counts counted = (
  one_counted row change (waits_as id row) (λ meant. counts row (second_of (row.id == id) (is_waiting row.state) meant) counted.0) counted.0,
  rows_counted id change rows counts counted.1,
)

one_named : (row : DeleteRow) (change : DeleteRow → DeleteRow) (n : ℕ) (b : Bool) → (change row).id ≡ row.id → row.id ≡ n → (if b then change row else row).id ≡ n
one_named row change n true same is = same ∙ is
one_named row change n false same is = is

rows_numbered : (id n : ℕ) (change : DeleteRow → DeleteRow) (rows : List DeleteRow) → ((row : DeleteRow) → (change row).id ≡ row.id) → AreNumbered n rows → AreNumbered n (with_row id change rows)
rows_numbered id n change [] same numbered = tt
rows_numbered id n change (row ∷ rows) same numbered =
    (one_named row change n (waits_as id row) (same row) numbered.0, rows_numbered id (n + 1) change rows same numbered.1)

when_some : (b : Bool) (these new : List DeleteRow) → AreFormed these → (if b then Some these else None) ≡ Some new → AreFormed new
when_some true these new formed e = subst AreFormed (some_is these new e) formed
when_some false these new formed e = absurd (none_some new e)

event_forms : (rows : List DeleteRow) (event : Event) (new : List DeleteRow) → AreFormed rows → rows_after rows event ≡ Some new → AreFormed new
event_forms rows (Ask places) new formed e =
    let more = asked_rows (length rows + 1) places in
    when_some (nat_le (length rows + length places) most_rows) (rows ++ more) new (record {
      numbered = numbered_append 1 rows more formed.numbered (numbered_at (length rows + 1) (1 + length rows) more (omega arith) (asked_numbered (length rows + 1) places));
      counted = counted_append rows more formed.counted (asked_counted (length rows + 1) places);
    }) e
event_forms rows (Gone id) new formed e = when_some (list_any (waits_as id) rows) (with_row id gone_row rows) new (record {
  numbered = rows_numbered id 1 gone_row rows (λ row. refl) formed.numbered;
  counted = rows_counted id gone_row rows gone_counted formed.counted;
}) e
event_forms rows (Missed id) new formed e = when_some (list_any (waits_as id) rows) (with_row id missed_row rows) new (record {
  numbered = rows_numbered id 1 missed_row rows (λ row. refl) formed.numbered;
  counted = rows_counted id missed_row rows missed_counted formed.counted;
}) e

pub legal_rows_are_formed : LegalRowsAreFormed
legal_rows_are_formed events new e =
    kept_from AreFormed event_forms (Some []) events new (λ rows is. subst AreFormed (some_is [] rows is) (record { numbered = tt; counted = tt })) e

-- rows are few
few_some : (b : Bool) (these new : List DeleteRow) → (b ≡ true → length these ≤ most_rows) → (if b then Some these else None) ≡ Some new → length new ≤ most_rows
few_some true these new few e = subst (λ l. length l ≤ most_rows) (some_is these new e) (few refl)
few_some false these new few e = absurd (none_some new e)

length_with : (id : ℕ) (change : DeleteRow → DeleteRow) (rows : List DeleteRow) → length (with_row id change rows) ≡ length rows
length_with id change [] = refl
length_with id change (row ∷ rows) = omega (arith, length_with id change rows)

length_asked : (id : ℕ) (places : List Place) → length (asked_rows id places) ≡ length places
length_asked id [] = refl
length_asked id (place ∷ places) = omega (arith, length_asked (id + 1) places)

event_few : (rows : List DeleteRow) (event : Event) (new : List DeleteRow) → length rows ≤ most_rows → rows_after rows event ≡ Some new → length new ≤ most_rows
event_few rows (Ask places) new few e = few_some (nat_le (length rows + length places) most_rows) (rows ++ asked_rows (length rows + 1) places) new
    (λ is. omega (arith, length-append rows (asked_rows (length rows + 1) places), length_asked (length rows + 1) places, leb-true (length rows + length places) most_rows is)) e
event_few rows (Gone id) new few e = few_some (list_any (waits_as id) rows) (with_row id gone_row rows) new (λ is. omega (arith, few, length_with id gone_row rows)) e
event_few rows (Missed id) new few e = few_some (list_any (waits_as id) rows) (with_row id missed_row rows) new (λ is. omega (arith, few, length_with id missed_row rows)) e

-- a legal list makes no more rows than there may be
pub legal_rows_are_few : (events : List Event) (rows : List DeleteRow) → AreRowsOf rows events → length rows ≤ most_rows
legal_rows_are_few events new e =
    kept_from (λ rows. length rows ≤ most_rows) event_few (Some []) events new (λ rows is. subst (λ l. length l ≤ most_rows) (some_is [] rows is) (omega arith)) e
