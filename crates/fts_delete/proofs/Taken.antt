-- Rows that are numbered from 1 on: the row of an id stands at the place before it, and an event changes it there.
use Rattle.std.proofs.Common.{◌≡◌, refl, sym, ◌∙◌, ap, ℕ, zero, suc, ◌+◌, ◌-◌, ◌<◌, ◌≤◌, ◌==◌, ◌&&◌, ◌||◌, Bool, true, false, nat_le, if◌then◌else◌, Option, Some, None, is_some, IsSome, List, [], ◌∷◌, ◌++◌, length, get_or, set, arith, append_assoc}
use Rattle.std.specs.Prelude.{slice_get}
use Rattle.std.specs.List.{list_any}
use Rattle.std.proofs.lemmas.Bool.{leb-true}
use Rattle.fts_tables.specs.declared.places.Place.{Place}
use Rattle.fts_delete.specs.declared.events.Event.TheVariants.{Ask}
use Rattle.fts_delete.specs.declared.rows.DeleteRow.{DeleteRow}
use Rattle.fts_delete.specs.Rows.{asked_row, asked_rows, is_waiting, waits_as, with_row, changed, rows_after, most_rows}
use Rattle.fts_delete.specs.Laws.{AreNumbered, IsCounted, AreCounted, AreFormed}
use Rattle.fts_delete.proofs.Passing.{not_meant, meant, unchanged, same_above}
use Rattle.fts_delete.proofs.Forming.{waiting_counted}

-- whether the row that is found waits
unfoldable pub waits_at : Option DeleteRow → Bool
waits_at None = false
waits_at (Some row) = is_waiting row.state

-- rows behind an id hold none of that id
any_above : (id n : ℕ) (rows : List DeleteRow) → id < n → AreNumbered n rows → list_any (waits_as id) rows ≡ false
any_above id n [] high numbered = refl
any_above id n (row ∷ rows) high numbered =
    ap (λ b. b || list_any (waits_as id) rows) (not_meant id row (λ same. omega (arith, same, numbered.0, high)))
    ∙ any_above id (n + 1) rows (omega (arith, high)) numbered.1

-- the first row is meant where it waits
first_meant : (row : DeleteRow) (b : Bool) → is_waiting row.state ≡ b → waits_as row.id row ≡ b
first_meant row true is = meant row is
first_meant row false is = by (row.id == row.id)
  where
    by : (c : Bool) → (c && is_waiting row.state) ≡ false
    by true = is
    by false = refl

-- nothing behind changes what is false
or_false : (b c : Bool) → c ≡ false → (b || c) ≡ b
or_false true c is = refl
or_false false c is = is

-- a row of an id waits exactly where that at its place does
pub any_is : (n k : ℕ) (rows : List DeleteRow) → AreNumbered n rows → list_any (waits_as (n + k)) rows ≡ waits_at (slice_get rows k)
unfolding waits_at
any_is n k [] numbered = refl
any_is n zero (row ∷ rows) numbered =
    let here : n + 0 ≡ row.id = omega (arith, numbered.0) in
    or_false (waits_as (n + 0) row) (list_any (waits_as (n + 0)) rows) (any_above (n + 0) (n + 1) rows (omega arith) numbered.1)
    ∙ ap (λ id. waits_as id row) here ∙ first_meant row (is_waiting row.state) refl
any_is n (suc k) (row ∷ rows) numbered =
    let there : n + suc k ≡ (n + 1) + k = omega arith in
    ap (λ b. b || list_any (waits_as (n + suc k)) rows) (not_meant (n + suc k) row (λ same. omega (arith, same, numbered.0)))
    ∙ ap (λ id. list_any (waits_as id) rows) there
    ∙ any_is (n + 1) k rows numbered.1

-- the row at the place of its id is changed alone
with_there : (n k : ℕ) (rows : List DeleteRow) (change : DeleteRow → DeleteRow) (default next : DeleteRow) → AreNumbered n rows → k < length rows
    → is_waiting (get_or rows k default).state ≡ true → next ≡ change (get_or rows k default) → with_row (n + k) change rows ≡ set rows k next
with_there n k [] change default next numbered inside waits is = absurd (omega arith)
with_there n zero (row ∷ rows) change default next numbered inside waits is =
    let here : n + 0 ≡ row.id = omega (arith, numbered.0) in
    let first : (if waits_as (n + 0) row then change row else row) ≡ next =
    ap (λ b. if b then change row else row) (ap (λ id. waits_as id row) here ∙ meant row waits) ∙ sym is in
    (λ i. first i ∷ same_above (n + 0) (n + 1) change rows (omega arith) numbered.1 i)
with_there n (suc k) (row ∷ rows) change default next numbered inside waits is =
    let there : n + suc k ≡ (n + 1) + k = omega arith in
    (λ i. unchanged change row (waits_as (n + suc k) row) (not_meant (n + suc k) row (λ same. omega (arith, same, numbered.0))) i
    ∷ (ap (λ id. with_row id change rows) there ∙ with_there (n + 1) k rows change default next numbered.1 (omega arith) waits is) i)

-- whether something comes of a choice
pub some_if : {A : Type 0} (b : Bool) (x : A) → is_some (if b then Some x else None) ≡ b
some_if true x = refl
some_if false x = refl

-- what comes of a choice that comes to something
if_some : {A : Type 0} (b : Bool) (x : A) → IsSome (if b then Some x else None) → b ≡ true
if_some true x some = refl
if_some false x some = absurd cc

-- whether a row of this id waits, by its place
pub waits_by : (id : ℕ) (change : DeleteRow → DeleteRow) (rows : List DeleteRow) → AreNumbered 1 rows → 1 ≤ id
    → is_some (changed id change rows) ≡ waits_at (slice_get rows (id - 1))
waits_by id change rows numbered some =
    let same : id ≡ 1 + (id - 1) = omega (arith, some) in
    some_if (list_any (waits_as id) rows) (with_row id change rows) ∙ ap (λ n. list_any (waits_as n) rows) same ∙ any_is 1 (id - 1) rows numbered

-- no row has the id 0
pub waits_never : (change : DeleteRow → DeleteRow) (rows : List DeleteRow) → AreNumbered 1 rows → is_some (changed 0 change rows) ≡ false
waits_never change rows numbered = some_if (list_any (waits_as 0) rows) (with_row 0 change rows) ∙ any_above 0 1 rows (omega arith) numbered

-- a row that waits is found
waiting_found : (found : Option DeleteRow) → waits_at found ≡ true → (row : DeleteRow) × (found ≡ Some row) × (is_waiting row.state ≡ true)
unfolding waits_at
waiting_found None e = absurd cc
waiting_found (Some row) e = (row, refl, e)

-- what is found at a place is there
get_there : (rows : List DeleteRow) (k : ℕ) (row default : DeleteRow) → slice_get rows k ≡ Some row → (k < length rows) × (get_or rows k default ≡ row)
get_there [] k row default e = absurd cc
get_there (first ∷ rows) zero row default e = (omega arith, cc)
get_there (first ∷ rows) (suc k) row default e = let there = get_there rows k row default e in (omega (arith, there.0), there.1)

-- what is there is found
pub got : (rows : List DeleteRow) (k : ℕ) (default : DeleteRow) → k < length rows → slice_get rows k ≡ Some (get_or rows k default)
got [] k default inside = absurd (omega arith)
got (first ∷ rows) zero default inside = refl
got (first ∷ rows) (suc k) default inside = got rows k default (omega arith)

-- the row that was read at a place
pub found_row : (rows : List DeleteRow) (k : ℕ) (row : DeleteRow) → k < length rows → row ≡ get_or rows k row → slice_get rows k ≡ Some row
found_row rows k row inside is = got rows k row inside ∙ ap (λ (r : DeleteRow). some_row r) (sym is)
  where
    some_row : DeleteRow → Option DeleteRow
    some_row r = Some r

-- behind the last row there is none
pub none_there : (rows : List DeleteRow) (k : ℕ) → length rows ≤ k → slice_get rows k ≡ None
none_there [] k past = refl
none_there (first ∷ rows) zero past = absurd (omega arith)
none_there (first ∷ rows) (suc k) past = none_there rows k (omega arith)

-- whether the row of an id waits, by what is at its place
module _ (id : ℕ) (change : DeleteRow → DeleteRow) (rows : List DeleteRow) (numbered : AreNumbered 1 rows) (some : 1 ≤ id) where
  pub waits_there : (row : DeleteRow) (waits : Bool) → id - 1 < length rows → row ≡ get_or rows (id - 1) row → waits ≡ is_waiting row.state
      → waits ≡ is_some (changed id change rows)
  unfolding waits_at
  waits_there row waits inside is same = same ∙ sym (waits_by id change rows numbered some ∙ ap waits_at (found_row rows (id - 1) row inside is))

  pub waits_nowhere : length rows ≤ id - 1 → false ≡ is_some (changed id change rows)
  unfolding waits_at
  waits_nowhere past = sym (waits_by id change rows numbered some ∙ ap waits_at (none_there rows (id - 1) past))

-- what is there
pub some_there : {A : Type 0} (o : Option A) → is_some o ≡ true → (x : A) × (o ≡ Some x)
some_there None is = absurd cc
some_there (Some x) is = (x, refl)

-- the id of the row at a place
id_at : (n k : ℕ) (rows : List DeleteRow) (row : DeleteRow) → AreNumbered n rows → slice_get rows k ≡ Some row → row.id ≡ n + k
id_at n k [] row numbered found = absurd cc
id_at n zero (first ∷ rows) row numbered found = let same : first ≡ row = cc in omega (arith, ap (λ (r : DeleteRow). r.id) same, numbered.0)
id_at n (suc k) (first ∷ rows) row numbered found = omega (arith, id_at (n + 1) k rows row numbered.1 found)

-- a row that waits may be changed by its id
pub may_change : (k : ℕ) (change : DeleteRow → DeleteRow) (rows : List DeleteRow) (row : DeleteRow) → AreNumbered 1 rows → slice_get rows k ≡ Some row
    → is_waiting row.state ≡ true → is_some (changed row.id change rows) ≡ true
unfolding waits_at
may_change k change rows row numbered found waits =
    let id : row.id ≡ 1 + k = id_at 1 k rows row numbered found in
    let here : row.id - 1 ≡ k = omega (arith, id) in
    waits_by row.id change rows numbered (omega (arith, id)) ∙ ap (λ p. waits_at (slice_get rows p)) here ∙ ap waits_at found ∙ waits

-- an id of which a row waits: it is at least 1, and its row stands at the place before it
pub record StandsAt (rows : List DeleteRow) (id : ℕ) : Type 0 where
  pub some : 1 ≤ id
  pub inside : id - 1 < length rows
  pub waits : (default : DeleteRow) → is_waiting (get_or rows (id - 1) default).state ≡ true

pub stands_at : (id : ℕ) (change : DeleteRow → DeleteRow) (rows : List DeleteRow) → AreNumbered 1 rows → IsSome (changed id change rows) → StandsAt rows id
stands_at zero change rows numbered legal =
    let any = if_some (list_any (waits_as 0) rows) (with_row 0 change rows) legal in
    let no : false ≡ true = sym (any_above 0 1 rows (omega arith) numbered) ∙ any in absurd cc
stands_at (suc k) change rows numbered legal =
    let any = if_some (list_any (waits_as (suc k)) rows) (with_row (suc k) change rows) legal in
    let same : suc k ≡ 1 + k = omega arith in
    let here : suc k - 1 ≡ k = omega arith in
    let found = waiting_found (slice_get rows k) (sym (any_is 1 k rows numbered) ∙ sym (ap (λ n. list_any (waits_as n) rows) same) ∙ any) in
    record {
      some = omega arith;
      inside = let there = get_there rows k found.0 found.0 found.1 in omega (arith, there.0);
      waits = λ default. ap (λ p. is_waiting (get_or rows p default).state) here
          ∙ ap (λ (r : DeleteRow). is_waiting r.state) (get_there rows k found.0 default found.1).1 ∙ found.2;
    }

-- the row of an id, changed at its place
pub changed_there : (id : ℕ) (change : DeleteRow → DeleteRow) (rows : List DeleteRow) (default next : DeleteRow) → AreNumbered 1 rows
    → IsSome (changed id change rows) → next ≡ change (get_or rows (id - 1) default) → changed id change rows ≡ Some (set rows (id - 1) next)
changed_there id change rows default next numbered legal is =
    let at = stands_at id change rows numbered legal in
    let any = if_some (list_any (waits_as id) rows) (with_row id change rows) legal in
    let same : id ≡ 1 + (id - 1) = omega (arith, at.some) in
    ap (λ b. if b then Some (with_row id change rows) else None) any
    ∙ ap (λ n. Some (with_row n change rows)) same
    ∙ ap (λ (l : List DeleteRow). some_rows l) (with_there 1 (id - 1) rows change default next numbered at.inside (at.waits default) is)
  where
    some_rows : List DeleteRow → Option (List DeleteRow)
    some_rows l = Some l

-- it was missed twice at most
counted_at : (rows : List DeleteRow) (k : ℕ) (default : DeleteRow) → AreCounted rows → k < length rows
    → IsCounted (get_or rows k default).state (get_or rows k default).missed
counted_at [] k default counted inside = absurd (omega arith)
counted_at (row ∷ rows) zero default counted inside = counted.0
counted_at (row ∷ rows) (suc k) default counted inside = counted_at rows k default counted.1 (omega arith)

pub missed_few : (id : ℕ) (change : DeleteRow → DeleteRow) (rows : List DeleteRow) (default : DeleteRow) → AreFormed rows → IsSome (changed id change rows)
    → (get_or rows (id - 1) default).missed ≤ 2
missed_few id change rows default formed legal =
    let at = stands_at id change rows formed.numbered legal in
    waiting_counted (get_or rows (id - 1) default).state (get_or rows (id - 1) default).missed (at.waits default)
    (counted_at rows (id - 1) default formed.counted at.inside)

-- rows that are asked for, with one place more
pub asked-push : (id : ℕ) (places : List Place) (place : Place) → asked_rows id (places ++ place ∷ []) ≡ asked_rows id places ++ asked_row (id + length places) place ∷ []
asked-push id [] place = let same : id ≡ id + 0 = omega arith in ap (λ n. asked_row n place ∷ []) same
asked-push id (first ∷ places) place =
    let e : id + 1 + length places ≡ id + length (first ∷ places) = omega arith in
    ap (λ (rows : List DeleteRow). asked_row id first ∷ rows)
    (asked-push (id + 1) places place ∙ ap (λ n. asked_rows (id + 1) places ++ asked_row n place ∷ []) e)

-- a turn of the loop that adds them
pub add_step : (was rows : List DeleteRow) (done : List Place) (id k : ℕ) (place : Place) → rows ≡ was ++ asked_rows id done → k ≡ id + length done
    → rows ++ asked_row k place ∷ [] ≡ was ++ asked_rows id (done ++ place ∷ [])
add_step was rows done id k place e n =
    ap (λ (xs : List DeleteRow). xs ++ asked_row k place ∷ []) e
    ∙ append_assoc was (asked_rows id done) (asked_row k place ∷ [])
    ∙ ap (λ m. was ++ (asked_rows id done ++ asked_row m place ∷ [])) n
    ∙ ap (λ (xs : List DeleteRow). was ++ xs) (sym (asked-push id done place))

-- rows of places that are legal
pub asked_legal : (rows : List DeleteRow) (places : List Place) → IsSome (rows_after rows (Ask places)) → length rows + length places ≤ most_rows
asked_legal rows places legal = few (if_some (nat_le (length rows + length places) most_rows) _ legal)
  where
    few : nat_le (length rows + length places) most_rows ≡ true → length rows + length places ≤ most_rows
    few is = leb-true (length rows + length places) most_rows is

pub asked_taken : (rows : List DeleteRow) (places : List Place) → IsSome (rows_after rows (Ask places))
    → rows_after rows (Ask places) ≡ Some (rows ++ asked_rows (length rows + 1) places)
asked_taken rows places legal = ap (λ b. if b then Some (rows ++ asked_rows (length rows + 1) places) else None)
    (if_some (nat_le (length rows + length places) most_rows) _ legal)
