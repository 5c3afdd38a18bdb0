-- Rows that are numbered: which of them a test counts that passes one file alone, and what those in front of a row leave for it.
use Rattle.std.proofs.Common.{◌≡◌, ℕ, zero, suc, ◌+◌, ◌<◌, ◌≤◌, Bool, true, false, cond, List, [], ◌∷◌, length, take, Option, Some, None, refl, ap, arith, length-take-le}
use Rattle.std.specs.Prelude.{◌&&◌, ◌==◌, nat_le, count_by, slice_get, is_some, IfSome}
use Rattle.std.proofs.lemmas.Bool.{and_parts, eqb-true, false_from_ne_true, le-leb}
use Rattle.std.proofs.lemmas.List.Sums.{count_by-le-length, sum_by-le-sum_by}
use Rattle.std.proofs.lemmas.Option.{same_Some, slice_get_within}
use Rattle.fts_tables.specs.Tables.{AreNumberedFrom, is_submitted}
use Rattle.fts_tables.specs.Dues.{Due}
use Rattle.fts_tables.specs.declared.rows.FileRow.{FileRow}
use Rattle.fts_index.specs.DueLists.{DueList}
use Rattle.fts_index.specs.RowDues.{comes_in, MayAdd}
use Rattle.fts_index.proofs.CountedDues.{count_all}
use Rattle.fts_index.proofs.TableLists.{count_by-cons}

-- the number of the row at a place
pub number_at : (first : ℕ) (rows : List FileRow) (place : ℕ) (row : FileRow) → AreNumberedFrom (λ (some : FileRow). some.id) first rows
    → slice_get rows place ≡ Some row → row.id ≡ first + place
number_at first [] place row numbered at = cc
number_at first (other ∷ rows) zero row numbered at =
    omega (arith, ap (λ (some : FileRow). some.id) (same_Some other row at), numbered.0)
number_at first (other ∷ rows) (suc place) row numbered at = omega (arith, number_at (suc first) rows place row numbered.1 at)

-- the rows in front of a place are numbered as before
pub numbered_take : (first : ℕ) (rows : List FileRow) (place : ℕ) → AreNumberedFrom (λ (some : FileRow). some.id) first rows
    → AreNumberedFrom (λ (some : FileRow). some.id) first (take place rows)
numbered_take first rows zero numbered = tt
numbered_take first [] (suc place) numbered = tt
numbered_take first (row ∷ rows) (suc place) numbered = (numbered.0, numbered_take (suc first) rows place numbered.1)

-- a test that passes numbers from one on alone counts no row with a lesser one
pub none_past : (passes : FileRow → Bool) (bound first : ℕ) (rows : List FileRow) → AreNumberedFrom (λ (some : FileRow). some.id) first rows
    → ((row : FileRow) → passes row ≡ true → bound ≤ row.id) → first + length rows ≤ bound → count_by passes rows ≡ 0
none_past passes bound first [] numbered only past = refl
none_past passes bound first (row ∷ rows) numbered only past =
    let not_here : passes row ≡ false = false_from_ne_true (passes row) (λ is. omega (arith, only row is, numbered.0, past)) in
    let none : ◌≡◌ {A = ℕ} (cond (passes row) 1 0) 0 = ap (λ answer. cond answer 1 0) not_here in
    omega (arith, count_by-cons passes row rows, none, none_past passes bound (suc first) rows numbered.1 only (omega (arith, past)))

-- a test that passes numbers up to one alone counts no row with a greater one
pub none_before : (passes : FileRow → Bool) (bound first : ℕ) (rows : List FileRow) → AreNumberedFrom (λ (some : FileRow). some.id) first rows
    → ((row : FileRow) → passes row ≡ true → row.id ≤ bound) → bound < first → count_by passes rows ≡ 0
none_before passes bound first [] numbered only before = refl
none_before passes bound first (row ∷ rows) numbered only before =
    let not_here : passes row ≡ false = false_from_ne_true (passes row) (λ is. omega (arith, only row is, numbered.0, before)) in
    let none : ◌≡◌ {A = ℕ} (cond (passes row) 1 0) 0 = ap (λ answer. cond answer 1 0) not_here in
    omega (arith, count_by-cons passes row rows, none, none_before passes bound (suc first) rows numbered.1 only (omega (arith, before)))

-- a row with one number alone counts, where a test passes no other
pub one_alone : (passes : FileRow → Bool) (first : ℕ) (rows : List FileRow) (place : ℕ) (row : FileRow)
    → AreNumberedFrom (λ (some : FileRow). some.id) first rows → ((other : FileRow) → passes other ≡ true → other.id ≡ row.id)
    → slice_get rows place ≡ Some row → count_by passes rows ≡ cond (passes row) 1 0
one_alone passes first [] place row numbered only at = cc
one_alone passes first (other ∷ rows) zero row numbered only at =
    let same = same_Some other row at in
    let one : ◌≡◌ {A = ℕ} (cond (passes other) 1 0) (cond (passes row) 1 0) = ap (λ (some : FileRow). cond (passes some) 1 0) same in
    omega (
      arith,
      count_by-cons passes other rows,
      one,
      none_before passes first (suc first) rows numbered.1
          (λ some is. omega (arith, only some is, ap (λ (some : FileRow). some.id) same, numbered.0)) (omega arith),
    )
one_alone passes first (other ∷ rows) (suc place) row numbered only at =
    let behind = number_at (suc first) rows place row numbered.1 at in
    let not_here : passes other ≡ false = false_from_ne_true (passes other) (λ is. omega (arith, only other is, numbered.0, behind)) in
    let none : ◌≡◌ {A = ℕ} (cond (passes other) 1 0) 0 = ap (λ answer. cond answer 1 0) not_here in
    omega (arith, count_by-cons passes other rows, none, one_alone passes (suc first) rows place row numbered.1 only at)

-- whether a moment is a file's
abbrev pub is_of : ℕ → Due → Bool
is_of file due = due.file == file

-- a row comes in with its own number alone
pub comes_with : (file : ℕ) (moment : Option ℕ) (row : FileRow) → comes_in (is_of file) moment row ≡ true → row.id ≡ file
comes_with file None row is =
    let never : false ≡ true = (and_parts (is_submitted row.state) false is).1 in
    cc
comes_with file (Some from) row is = eqb-true row.id file (and_parts (is_submitted row.state) (row.id == file) is).1

-- rows of which those in front of a place have come in
module _ (rows : List FileRow) (moment : Option ℕ) (list : DueList) (dues : List Due) (place : ℕ) (row : FileRow) (may : MayAdd rows moment list)
    (counts : (test : Due → Bool) → count_by test dues ≡ count_by test list.dues + count_by (comes_in test moment) (take place rows))
    (at : slice_get rows place ≡ Some row) where
  -- the file at the place has no moment yet
  pub absent_next : count_by (is_of row.id) dues ≡ 0
  absent_next =
      let number = number_at may.first rows place row may.numbered at in
      let front = numbered_take may.first rows place may.numbered in
      let few = length-take-le place rows (omega (arith, slice_get_within rows place row at)) in
      let none_there : count_by (is_of row.id) list.dues ≤ count_by (λ (due : Due). nat_le may.first due.file) list.dues =
      sum_by-le-sum_by (λ (due : Due). cond (is_of row.id due) 1 0) (λ (due : Due). cond (nat_le may.first due.file) 1 0) list.dues
      (λ due. by_file due number (due.file == row.id) refl) in
      omega (
        arith,
        counts (is_of row.id),
        none_there,
        may.behind,
        none_past (comes_in (is_of row.id) moment) row.id may.first (take place rows) front
            (λ some is. omega (arith, comes_with row.id moment some is)) (omega (arith, few, number)),
      )
    where
      by_file : (due : Due) → row.id ≡ may.first + place → (answer : Bool) → (due.file == row.id) ≡ answer
          → cond answer 1 0 ≤ cond (nat_le may.first due.file) 1 0
      by_file due number false is = omega arith
      by_file due number true is =
          let here : ◌≡◌ {A = ℕ} (cond (nat_le may.first due.file) 1 0) 1 =
          ap (λ answer. cond answer 1 0) (le-leb may.first due.file (omega (arith, eqb-true due.file row.id is, number))) in
          omega (arith, here)

  -- and there is room for it, where the list had room for all
  pub room_next : (room : ℕ) → room ≡ list.room → length list.dues ≤ list.files → IfSome moment (λ from. length dues < room)
  room_next room same few = by_moment moment refl
    where
      by_moment : (some : Option ℕ) → moment ≡ some → IfSome some (λ from. length dues < room)
      by_moment None is = tt
      by_moment (Some from) is =
          let inside = may.room (ap is_some is) in
          omega (
            arith,
            counts (λ due. true),
            count_all dues,
            count_all list.dues,
            count_by-le-length (comes_in (λ due. true) moment) (take place rows),
            length-take-le place rows (omega (arith, slice_get_within rows place row at)),
            slice_get_within rows place row at,
            few,
            same,
            inside,
          )

-- a row without a moment doesn't come in
never_in : (test : Due → Bool) (moment : Option ℕ) (row : FileRow) → is_some moment ≡ false → comes_in test moment row ≡ false
never_in test None row none = by_state (is_submitted row.state)
  where
    by_state : (answer : Bool) → (answer && false) ≡ false
    by_state true = refl
    by_state false = refl
never_in test (Some from) row none = cc

-- and of such rows none does
pub none_come : (test : Due → Bool) (moment : Option ℕ) (rows : List FileRow) → is_some moment ≡ false → count_by (comes_in test moment) rows ≡ 0
none_come test moment [] none = refl
none_come test moment (row ∷ rows) none =
    let not_here : ◌≡◌ {A = ℕ} (cond (comes_in test moment row) 1 0) 0 = ap (λ answer. cond answer 1 0) (never_in test moment row none) in
    omega (arith, count_by-cons (comes_in test moment) row rows, not_here, none_come test moment rows none)
