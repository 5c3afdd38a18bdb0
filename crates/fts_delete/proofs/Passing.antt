-- A pass over numbered rows is legal, and names each row that waits once.
use Rattle.std.proofs.Common.{◌≡◌, ◌≢◌, ◌⊎◌, inl, inr, refl, sym, ◌∙◌, ap, subst, ℕ, ◌+◌, ◌<◌, ◌==◌, ◌&&◌, ◌||◌, Bool, true, false, if◌then◌else◌, Some, None, List, [], ◌∷◌, ◌++◌, length, map, arith, append_assoc}
use Rattle.std.specs.List.{list_any}
use Rattle.std.proofs.lemmas.Bool.Decides.{eqb_tells}
use Rattle.fts_delete.specs.declared.rows.DeleteRow.{DeleteRow}
use Rattle.fts_delete.specs.declared.visits.Visit.{Visit}
use Rattle.fts_delete.specs.declared.events.Event.TheVariants.{Gone, Missed}
use Rattle.fts_delete.specs.Rows.{is_waiting, waits_as, gone_row, missed_row, with_row, changed, rows_after, rows_from}
use Rattle.fts_delete.specs.Visits.{saw_none}
use Rattle.fts_delete.specs.Passes.{waiting_of, row_after, event_next, events_of, rows_next, rows_passed, named_by}
use Rattle.fts_delete.specs.Laws.{AreNumbered, ids_of, PassIsLegal, PassNamesEachOnce}

-- another id
pub not_this : (a b : ℕ) → a ≢ b → (a == b) ≡ false
not_this a b other = by_cases (eqb_tells a b)
  where
    by_cases : ((a == b) ≡ true) × (a ≡ b) ⊎ ((a == b) ≡ false) × (a ≢ b) → (a == b) ≡ false
    by_cases (inl same) = absurd (other same.1)
    by_cases (inr differs) = differs.0

pub this_one : (a : ℕ) → (a == a) ≡ true
this_one a = by_cases (eqb_tells a a)
  where
    by_cases : ((a == a) ≡ true) × (a ≡ a) ⊎ ((a == a) ≡ false) × (a ≢ a) → (a == a) ≡ true
    by_cases (inl same) = same.0
    by_cases (inr differs) = absurd (differs.1 refl)

-- rows whose ids are below this one
AreBelow : ℕ → List DeleteRow → Type 0
AreBelow n [] = Unit {0}
AreBelow n (row ∷ rows) = (row.id < n) × AreBelow n rows

below_more : (n : ℕ) (rows : List DeleteRow) → AreBelow n rows → AreBelow (n + 1) rows
unfolding AreBelow
below_more n [] low = tt
below_more n (row ∷ rows) low = (omega (arith, low.0), below_more n rows low.1)

below_with : (n : ℕ) (rows : List DeleteRow) (row : DeleteRow) → AreBelow n rows → row.id ≡ n → AreBelow (n + 1) (rows ++ row ∷ [])
unfolding AreBelow
below_with n [] row low is = (omega (arith, is), tt)
below_with n (first ∷ rows) row low is = (omega (arith, low.0), below_with n rows row low.1 is)

-- a row of another id isn't meant
pub not_meant : (id : ℕ) (row : DeleteRow) → row.id ≢ id → waits_as id row ≡ false
not_meant id row other = ap (λ b. b && is_waiting row.state) (not_this row.id id other)

pub unchanged : (change : DeleteRow → DeleteRow) (row : DeleteRow) (b : Bool) → b ≡ false → (if b then change row else row) ≡ row
unchanged change row b is = ap (λ c. if c then change row else row) is

same_below : (id : ℕ) (change : DeleteRow → DeleteRow) (rows : List DeleteRow) → AreBelow id rows → with_row id change rows ≡ rows
unfolding AreBelow
same_below id change [] low = refl
same_below id change (row ∷ rows) low = λ i. unchanged change row (waits_as id row) (not_meant id row (λ same. omega (arith, same, low.0))) i ∷ same_below id change rows low.1 i

pub same_above : (id n : ℕ) (change : DeleteRow → DeleteRow) (rows : List DeleteRow) → id < n → AreNumbered n rows → with_row id change rows ≡ rows
same_above id n change [] high numbered = refl
same_above id n change (row ∷ rows) high numbered =
    λ i. unchanged change row (waits_as id row) (not_meant id row (λ same. omega (arith, same, numbered.0, high))) i ∷ same_above id (n + 1) change rows (omega (arith, high)) numbered.1 i

-- the row itself is meant
pub meant : (row : DeleteRow) → is_waiting row.state ≡ true → waits_as row.id row ≡ true
meant row waits = λ i. this_one row.id i && waits i

any_found : (id : ℕ) (done : List DeleteRow) (row : DeleteRow) (rest : List DeleteRow) → waits_as id row ≡ true → list_any (waits_as id) (done ++ row ∷ rest) ≡ true
any_found id [] row rest is = ap (λ b. b || list_any (waits_as id) rest) is
any_found id (first ∷ done) row rest is = by_first (waits_as id first) (any_found id done row rest is)
  where
    by_first : (b : Bool) → list_any (waits_as id) (done ++ row ∷ rest) ≡ true → (b || list_any (waits_as id) (done ++ row ∷ rest)) ≡ true
    by_first true e = refl
    by_first false e = e

map_append : {A B : Type 0} (f : A → B) (xs ys : List A) → map f (xs ++ ys) ≡ map f xs ++ map f ys
map_append f [] ys = refl
map_append f (x ∷ xs) ys = ap (λ l. f x ∷ l) (map_append f xs ys)

-- the row behind those of lesser ids and before those of greater ones is changed alone
changed_here : (change : DeleteRow → DeleteRow) (done : List DeleteRow) (row : DeleteRow) (rest : List DeleteRow) (n : ℕ) → AreBelow n done → row.id ≡ n → AreNumbered (n + 1) rest
    → is_waiting row.state ≡ true → changed row.id change (done ++ row ∷ rest) ≡ Some (done ++ change row ∷ rest)
changed_here change done row rest n low is numbered waits =
    let here : (if waits_as row.id row then change row else row) ≡ change row = ap (λ b. if b then change row else row) (meant row waits) in
    let rows : with_row row.id change (done ++ row ∷ rest) ≡ done ++ change row ∷ rest =
    map_append (λ r. if waits_as row.id r then change r else r) done (row ∷ rest)
    ∙ (λ i. same_below row.id change done (subst (λ k. AreBelow k done) (sym is) low) i ++ here i ∷ same_above row.id (n + 1) change rest (omega (arith, is)) numbered i) in
    ap (λ b. if b then Some (with_row row.id change (done ++ row ∷ rest)) else None) (any_found row.id done row rest (meant row waits))
    ∙ ap Some rows

after_visit : (visit : Visit) (saw : Bool) (done : List DeleteRow) (row : DeleteRow) (rest : List DeleteRow) (n : ℕ) → AreBelow n done → row.id ≡ n → AreNumbered (n + 1) rest
    → is_waiting row.state ≡ true → rows_after (done ++ row ∷ rest) (if saw then Gone row.id else Missed row.id) ≡ Some (done ++ (if saw then gone_row row else missed_row row) ∷ rest)
after_visit visit true done row rest n low is numbered waits = changed_here gone_row done row rest n low is numbered waits
after_visit visit false done row rest n low is numbered waits = changed_here missed_row done row rest n low is numbered waits

-- without visits all rows stay
none_next : (b : Bool) (row : DeleteRow) (rows : List DeleteRow) → rows_passed rows [] ≡ rows → rows_next b row [] (rows_passed rows) ≡ row ∷ rows
none_next true row rows e = ap (λ l. row ∷ l) e
none_next false row rows e = ap (λ l. row ∷ l) e

pub none_passed : (rows : List DeleteRow) → rows_passed rows [] ≡ rows
none_passed [] = refl
none_passed (row ∷ rows) = none_next (is_waiting row.state) row rows (none_passed rows)

visited_id : (saw : Bool) (row : DeleteRow) → (if saw then gone_row row else missed_row row).id ≡ row.id
visited_id true row = refl
visited_id false row = refl

-- a pass over these rows, behind rows of lesser ids
Passes : List DeleteRow → Type 0
Passes rest = (done : List DeleteRow) (visits : List Visit) (n : ℕ) → AreBelow n done → AreNumbered n rest
    → rows_from (Some (done ++ rest)) (events_of rest visits) ≡ Some (done ++ rows_passed rest visits)

pass_row : (row : DeleteRow) (rest : List DeleteRow) → Passes rest → (done : List DeleteRow) (visits : List Visit) (n : ℕ) (b : Bool) → b ≡ is_waiting row.state → AreBelow n done → AreNumbered n (row ∷ rest)
    → rows_from (Some (done ++ row ∷ rest)) (event_next b row visits (events_of rest)) ≡ Some (done ++ rows_next b row visits (rows_passed rest))
unfolding Passes
pass_row row rest later done [] n true is low numbered = ap (λ l. Some (done ++ row ∷ l)) (sym (none_passed rest))
pass_row row rest later done (visit ∷ visits) n true is low numbered =
    let next = row_after row visit in
    let more = done ++ next ∷ [] in
    let named : next.id ≡ n = visited_id (saw_none visit) row ∙ numbered.0 in
    ap (λ came. rows_from came (events_of rest visits)) (after_visit visit (saw_none visit) done row rest n low numbered.0 numbered.1 (sym is) ∙ ap Some (sym (append_assoc done (next ∷ []) rest)))
    ∙ later more visits (n + 1) (below_with n done next low named) numbered.1
    ∙ ap Some (append_assoc done (next ∷ []) (rows_passed rest visits))
pass_row row rest later done visits n false is low numbered =
    let more = done ++ row ∷ [] in
    ap (λ l. rows_from (Some l) (events_of rest visits)) (sym (append_assoc done (row ∷ []) rest))
    ∙ later more visits (n + 1) (below_with n done row low numbered.0) numbered.1
    ∙ ap Some (append_assoc done (row ∷ []) (rows_passed rest visits))

pass_from : (rest : List DeleteRow) → Passes rest
unfolding Passes
pass_from [] = λ done visits n low numbered. refl
pass_from (row ∷ rest) = λ done visits n low numbered. pass_row row rest (pass_from rest) done visits n (is_waiting row.state) refl low numbered

pub pass_is_legal : PassIsLegal
unfolding AreBelow Passes
pass_is_legal rows visits numbered = pass_from rows [] visits 1 tt numbered

-- a visit's event names its row
names_one : (saw : Bool) (id : ℕ) → named_by (if saw then Gone id else Missed id) ≡ id ∷ []
names_one true id = refl
names_one false id = refl

names_row : (b : Bool) (row : DeleteRow) (rows : List DeleteRow) (visits : List Visit)
    → ((more : List Visit) → length more ≡ length (waiting_of rows) → ids_of (events_of rows more) ≡ map (λ r. r.id) (waiting_of rows))
    → length visits ≡ length (if b then row ∷ waiting_of rows else waiting_of rows)
    → ids_of (event_next b row visits (events_of rows)) ≡ map (λ r. r.id) (if b then row ∷ waiting_of rows else waiting_of rows)
names_row true row rows [] later e = absurd (omega (arith, e))
names_row true row rows (visit ∷ visits) later e =
    λ i. names_one (saw_none visit) row.id i ++ later visits (omega (arith, e)) i
names_row false row rows visits later e = later visits e

pub pass_names_each_once : PassNamesEachOnce
pass_names_each_once [] visits e = refl
pass_names_each_once (row ∷ rows) visits e = names_row (is_waiting row.state) row rows visits (pass_names_each_once rows) e
