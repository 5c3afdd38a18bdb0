-- Rows and jobs by their numbers: what is found by its number stands at the place before it, and the other way round.
use Rattle.std.proofs.Common.{◌≡◌, refl, ap, ◌∙◌, subst, inl, inr, ⊎_elim, ℕ, zero, suc, ◌+◌, ◌-◌, ◌<◌, ◌≤◌, Bool, true, false, cond, List, [], ◌∷◌, ◌++◌, map, Some, arith, eq-eqb}
use Rattle.std.specs.Prelude.{◌==◌, ◌&&◌, ◌⊎◌, find, replicate, slice_get, count_by}
use Rattle.std.proofs.lemmas.Bool.{eqb-true, ne_eqb}
use Rattle.std.proofs.lemmas.List.Sums.{sum_by-cons}
use Rattle.fts_tables.specs.Tables.{Tables, AreNumberedFrom, AreWellFormed, is_active, owners, job_at, row_at}
use Rattle.fts_tables.specs.declared.rows.FileRow.{FileRow}
use Rattle.fts_tables.specs.declared.rows.JobRow.{JobRow}

module _ {Item : Type 0} (number_of : Item → ℕ) where
  -- what stands at a place has the number that comes there, and is found by it
  pub found_at : (start : ℕ) (items : List Item) (place : ℕ) (item : Item) → AreNumberedFrom number_of start items → slice_get items place ≡ Some item
      → find (λ other. number_of other == (start + place)) items ≡ Some item
  found_at start [] place item numbered at = absurd cc
  found_at start (first ∷ items) zero item numbered at =
      let same : (number_of first == (start + zero)) ≡ true = eq-eqb (number_of first) (start + zero) (omega (arith, numbered.0)) in
      ap (λ answer. cond answer (Some first) (find (λ other. number_of other == (start + zero)) items)) same ∙ at
  found_at start (first ∷ items) (suc place) item numbered at =
      let other : (number_of first == (start + suc place)) ≡ false = ne_eqb (number_of first) (start + suc place) (λ is. omega (arith, numbered.0)) in
      let on : (suc start + place) ≡ (start + suc place) = omega arith in
      ap (λ answer. cond answer (Some first) (find (λ other. number_of other == (start + suc place)) items)) other
      ∙ subst (λ n. find (λ other. number_of other == n) items ≡ Some item) on (found_at (suc start) items place item numbered.1 at)

-- a number is among these
pub IsIn : ℕ → List ℕ → Type 0
IsIn number [] = ⊥
IsIn number (first ∷ others) = (first ≡ number) ⊎ IsIn number others

-- in two lists it is in one of them
in_either : (number : ℕ) (first second : List ℕ) → IsIn number (first ++ second) → IsIn number first ⊎ IsIn number second
unfolding IsIn
in_either number [] second there = inr there
in_either number (head ∷ first) second (inl is) = inl (inl is)
in_either number (head ∷ first) second (inr behind) = ⊎_elim (λ one. inl (inr one)) (λ other. inr other) (in_either number first second behind)

-- and in copies of a number it is that number
in_copies : (number copies of : ℕ) → IsIn number (replicate copies of) → of ≡ number
unfolding IsIn
in_copies number zero of there = absurd there
in_copies number (suc copies) of (inl is) = is
in_copies number (suc copies) of (inr behind) = in_copies number copies of behind

-- what is found by an id has it
pub row_at-id : (rows : List FileRow) (id : ℕ) (row : FileRow) → row_at rows id ≡ Some row → row.id ≡ id
row_at-id [] id row at = absurd cc
row_at-id (first ∷ rows) id row at = by_head (row_at-id rows id row) (first.id == id) refl at
  where
    by_head : (row_at rows id ≡ Some row → row.id ≡ id) → (answer : Bool) → (first.id == id) ≡ answer
        → cond answer (Some first) (row_at rows id) ≡ Some row → row.id ≡ id
    by_head behind true is at_head =
        let here : row ≡ first = cc in
        ap (λ (other : FileRow). other.id) here ∙ eqb-true first.id id is
    by_head behind false is at_behind = behind at_behind

-- the job of a row that is found is among the owners of the rows
in_owners : (rows : List FileRow) (id : ℕ) (row : FileRow) → row_at rows id ≡ Some row → IsIn row.job (map (λ (other : FileRow). other.job) rows)
unfolding IsIn
in_owners [] id row at = absurd cc
in_owners (first ∷ rows) id row at = by_head (in_owners rows id row) (first.id == id) at
  where
    by_head : (row_at rows id ≡ Some row → IsIn row.job (map (λ (other : FileRow). other.job) rows)) → (answer : Bool)
        → cond answer (Some first) (row_at rows id) ≡ Some row → (first.job ≡ row.job) ⊎ IsIn row.job (map (λ (other : FileRow). other.job) rows)
    by_head behind true at_head = let here : first ≡ row = cc in inl (ap (λ (other : FileRow). other.job) here)
    by_head behind false at_behind = inr (behind at_behind)

-- an owner stands among the jobs
pub record HasJob (start : ℕ) (jobs : List JobRow) (number : ℕ) : Type 0 where
  pub place : ℕ
  pub job : JobRow
  pub at : slice_get jobs place ≡ Some job
  pub number_is : start + place ≡ number

owner_stands : (start : ℕ) (jobs : List JobRow) (number : ℕ) → AreNumberedFrom (λ (job : JobRow). job.number) start jobs → IsIn number (owners jobs)
    → HasJob start jobs number
unfolding IsIn
owner_stands start [] number numbered there = absurd there
owner_stands start (job ∷ jobs) number numbered there =
    ⊎_elim
    (λ here. record { place = 0; job = job; at = refl; number_is = omega (arith, numbered.0, in_copies number job.count job.number here) })
    (λ behind.
    let found = owner_stands (suc start) jobs number numbered.1 behind in
    record { place = suc found.place; job = found.job; at = found.at; number_is = omega (arith, found.number_is) })
    (in_either number (replicate job.count job.number) (owners jobs) there)

-- the job of a row stands at the place before its number, and is found by it
pub record StandsWithJob (tables : Tables) (row : FileRow) : Type 0 where
  pub job : JobRow
  pub from_one : 1 ≤ row.job
  pub at : slice_get tables.jobs (row.job - 1) ≡ Some job
  pub found : job_at tables.jobs row.job ≡ Some job

pub job_stands : (tables : Tables) (id : ℕ) (row : FileRow) → AreWellFormed tables → row_at tables.rows id ≡ Some row → StandsWithJob tables row
job_stands tables id row formed at =
    let there = owner_stands 1 tables.jobs row.job formed.jobs (subst (λ all. IsIn row.job all) formed.follow.owners (in_owners tables.rows id row at)) in
    let place_is : there.place ≡ row.job - 1 = omega (arith, there.number_is) in
    record {
      job = there.job;
      from_one = omega (arith, there.number_is);
      at = subst (λ place. slice_get tables.jobs place ≡ Some there.job) place_is there.at;
      found = subst (λ number. job_at tables.jobs number ≡ Some there.job) there.number_is
          (found_at (λ (job : JobRow). job.number) 1 tables.jobs there.place there.job formed.jobs there.at);
    }

-- whether a row is ACTIVE and has this id
abbrev pub is_active_of : ℕ → FileRow → Bool
is_active_of id row = is_active row.state && (row.id == id)

-- one more, or not
counted_head : (id : ℕ) (row : FileRow) (rows : List FileRow) (same : Bool) → (row.id == id) ≡ same → same ≡ false
    → count_by (is_active_of id) (row ∷ rows) ≡ count_by (is_active_of id) rows
counted_head id row rows same is unlike =
    sum_by-cons (λ (other : FileRow). cond (is_active_of id other) 1 0) row rows ∙ by_state (is_active row.state) (row.id == id) (is ∙ unlike)
  where
    by_state : (active here : Bool) → here ≡ false → cond (active && here) 1 0 + count_by (is_active_of id) rows ≡ count_by (is_active_of id) rows
    by_state true true unlike = absurd cc
    by_state true false unlike = omega arith
    by_state false here unlike = omega arith

-- no row behind has a lesser id
none_behind : (start : ℕ) (rows : List FileRow) (id : ℕ) → AreNumberedFrom (λ (row : FileRow). row.id) start rows → id < start
    → count_by (is_active_of id) rows ≡ 0
none_behind start [] id numbered lt = refl
none_behind start (row ∷ rows) id numbered lt =
    let below : id < suc start = omega arith in
    counted_head id row rows (row.id == id) refl (ne_eqb row.id id (λ is. omega (arith, numbered.0)))
    ∙ none_behind (suc start) rows id numbered.1 below

-- the row that is found by an id, and is ACTIVE
pub record IsActiveAt (rows : List FileRow) (id : ℕ) : Type 0 where
  pub row : FileRow
  pub at : row_at rows id ≡ Some row
  pub active : is_active row.state ≡ true

-- a row of an id that is ACTIVE is the one that is found by it
pub active_found : (start : ℕ) (rows : List FileRow) (id : ℕ) → AreNumberedFrom (λ (row : FileRow). row.id) start rows
    → 1 ≤ count_by (is_active_of id) rows → IsActiveAt rows id
active_found start [] id numbered some = absurd (omega arith)
active_found start (row ∷ rows) id numbered some =
    by_head (λ behind. active_found (suc start) rows id numbered.1 behind) (row.id == id) refl (is_active row.state) refl
  where
    by_head : (1 ≤ count_by (is_active_of id) rows → IsActiveAt rows id) → (answer : Bool) → (row.id == id) ≡ answer
        → (active : Bool) → is_active row.state ≡ active → IsActiveAt (row ∷ rows) id
    by_head behind true is true active = record { row = row; at = ap (λ a. cond a (Some row) (row_at rows id)) is; active = active }
    by_head behind true is false active =
        let lt : id < suc start = omega (arith, numbered.0, eqb-true row.id id is) in
        let none = none_behind (suc start) rows id numbered.1 lt in
        let head = sum_by-cons (λ (other : FileRow). cond (is_active_of id other) 1 0) row rows in
        let unlike : cond {A = ℕ} (is_active_of id row) 1 0 ≡ 0 = ap (λ a. cond {A = ℕ} (a && (row.id == id)) 1 0) active in
        absurd (omega (arith, head, unlike, none, some))
    by_head behind false is active was =
        let found = behind (subst (λ n. 1 ≤ n) (counted_head id row rows (row.id == id) refl is) some) in
        record { row = found.row; at = ap (λ a. cond a (Some row) (row_at rows id)) is ∙ found.at; active = found.active }
