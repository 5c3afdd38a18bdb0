-- In a list that is numbered from 1 an item stands at the place before its number, and is found by it.
use Rattle.std.proofs.Common.{◌≡◌, ℕ, zero, suc, ◌+◌, ◌<◌, ◌≤◌, Bool, true, false, cond, List, [], ◌∷◌, length, get_or, Option, Some, None, Bor, refl, sym, ◌∙◌, ap, arith}
use Rattle.std.specs.Prelude.{◌==◌, find, slice_get, option_map, IfSome}
use Rattle.std.proofs.lemmas.Bool.{eqb-true, eqb-false}
use Rattle.std.proofs.lemmas.Option.{same_Some, none-some, slice_get-get_or}
use Rattle.fts_tables.specs.Tables.{AreNumberedFrom, number_of_id, job_at}
use Rattle.fts_tables.specs.declared.rows.JobRow.{JobRow}

module _ {Item : Type 0} (number_of : Item → ℕ) where
  -- a number below the first is found nowhere
  pub found-below : (start : ℕ) (items : List Item) (number : ℕ) → AreNumberedFrom number_of start items → number < start
      → find (λ item. number_of item == number) items ≡ None
  found-below start [] number numbered below = refl
  found-below start (item ∷ items) number numbered below = by_head (found-below (suc start) items number numbered.1 (omega arith)) (number_of item == number) refl
    where
      by_head : find (λ item. number_of item == number) items ≡ None → (answer : Bool) → (number_of item == number) ≡ answer
          → cond answer (Some item) (find (λ item. number_of item == number) items) ≡ None
      by_head behind true same = absurd (omega (arith, eqb-true (number_of item) number same, numbered.0))
      by_head behind false other = behind

  -- a number is found as far behind the first as it is above it
  pub found-at : (start : ℕ) (items : List Item) (number place : ℕ) → AreNumberedFrom number_of start items → number ≡ start + place
      → find (λ item. number_of item == number) items ≡ slice_get items place
  found-at start [] number zero numbered is = refl
  found-at start [] number (suc place) numbered is = refl
  found-at start (item ∷ items) number zero numbered is = by_head (number_of item == number) refl
    where
      by_head : (answer : Bool) → (number_of item == number) ≡ answer → cond answer (Some item) (find (λ item. number_of item == number) items) ≡ Some item
      by_head true same = refl
      by_head false other = absurd (eqb-false (number_of item) number other (omega (arith, numbered.0)))
  found-at start (item ∷ items) number (suc place) numbered is =
      by_head (found-at (suc start) items number place numbered.1 (omega arith)) (number_of item == number) refl
    where
      by_head : find (λ item. number_of item == number) items ≡ slice_get items place → (answer : Bool) → (number_of item == number) ≡ answer
          → cond answer (Some item) (find (λ item. number_of item == number) items) ≡ slice_get items place
      by_head behind true same = absurd (omega (arith, eqb-true (number_of item) number same, numbered.0))
      by_head behind false other = behind

  -- an item's number is as far above the first as its place
  number-at : (start : ℕ) (items : List Item) (place : ℕ) (other : Item) → AreNumberedFrom number_of start items → place < length items
      → number_of (get_or items place other) ≡ start + place
  number-at start [] place other numbered inside = absurd (omega arith)
  number-at start (item ∷ items) zero other numbered inside = omega (arith, numbered.0)
  number-at start (item ∷ items) (suc place) other numbered inside = omega (arith, number-at (suc start) items place other numbered.1 (omega arith))

  -- an item is found by its own number
  pub own-number : (items : List Item) (place : ℕ) (other : Item) → AreNumberedFrom number_of 1 items → place < length items
      → find (λ item. number_of item == number_of (get_or items place other)) items ≡ Some (get_or items place other)
  own-number items place other numbered inside =
      found-at 1 items (number_of (get_or items place other)) place numbered (number-at 1 items place other numbered inside) ∙ slice_get-get_or items place other inside

  -- what is found by any test has a number from the first on
  pub found-above : (test : Item → Bool) (start : ℕ) (items : List Item) (found : Item) → AreNumberedFrom number_of start items
      → find test items ≡ Some found → start ≤ number_of found
  found-above test start [] found numbered is = absurd (none-some found is)
  found-above test start (item ∷ items) found numbered is = by_head (found-above test (suc start) items found numbered.1) (test item) is
    where
      by_head : (find test items ≡ Some found → suc start ≤ number_of found) → (answer : Bool) → cond answer (Some item) (find test items) ≡ Some found
          → start ≤ number_of found
      by_head behind true same = omega (arith, numbered.0, ap number_of (same_Some item found same))
      by_head behind false later = omega (arith, behind later)

  -- what is found by any test is found by its number
  pub found-again : (test : Item → Bool) (start : ℕ) (items : List Item) (found : Item) → AreNumberedFrom number_of start items
      → find test items ≡ Some found → find (λ item. number_of item == number_of found) items ≡ Some found
  found-again test start [] found numbered is = absurd (none-some found is)
  found-again test start (item ∷ items) found numbered is =
      by_head (found-again test (suc start) items found numbered.1) (found-above test (suc start) items found numbered.1) (test item) is (number_of item == number_of found) refl
    where
      by_head : (find test items ≡ Some found → find (λ item. number_of item == number_of found) items ≡ Some found)
          → (find test items ≡ Some found → suc start ≤ number_of found)
          → (answer : Bool) → cond answer (Some item) (find test items) ≡ Some found → (same : Bool) → (number_of item == number_of found) ≡ same
          → cond same (Some item) (find (λ item. number_of item == number_of found) items) ≡ Some found
      by_head behind above true first true equal = first
      by_head behind above true first false other = absurd (eqb-false (number_of item) (number_of found) other (ap number_of (same_Some item found first)))
      by_head behind above false later true equal = absurd (omega (arith, eqb-true (number_of item) (number_of found) equal, numbered.0, above later))
      by_head behind above false later false other = behind later

  -- what is found by a number is found by its own number
  pub number-again : (items : List Item) (number : ℕ) (result : Option Item) → AreNumberedFrom number_of 1 items
      → result ≡ find (λ item. number_of item == number) items → IfSome result (λ found. find (λ item. number_of item == number_of found) items ≡ Some found)
  number-again items number None numbered is = tt
  number-again items number (Some found) numbered is = found-again (λ item. number_of item == number) 1 items found numbered (sym is)

  -- the same of what is lent
  pub lent-again : (items : List Item) (number : ℕ) (result : Option (Bor Item)) → AreNumberedFrom number_of 1 items
      → option_map (λ (found : Bor Item). found.now) result ≡ find (λ item. number_of item == number) items
      → IfSome result (λ found. find (λ item. number_of item == number_of found.now) items ≡ Some found.now)
  lent-again items number None numbered is = tt
  lent-again items number (Some found) numbered is = found-again (λ item. number_of item == number) 1 items found.now numbered (sym is)

-- the job of the number that an id has is the job of that id
pub named-by_id : (jobs : List JobRow) (id number : ℕ) → AreNumberedFrom (λ (job : JobRow). job.number) 1 jobs → number_of_id jobs id ≡ Some number
    → job_at jobs number ≡ find (λ (job : JobRow). job.id == id) jobs
named-by_id jobs id number numbered is = by_found (find (λ (job : JobRow). job.id == id) jobs) refl is
  where
    by_found : (found : Option JobRow) → find (λ (job : JobRow). job.id == id) jobs ≡ found → option_map (λ (job : JobRow). job.number) found ≡ Some number
        → job_at jobs number ≡ found
    by_found None there none = absurd (none-some number none)
    by_found (Some job) there same =
        ap (job_at jobs) (sym (same_Some job.number number same)) ∙ found-again (λ (job : JobRow). job.number) (λ (job : JobRow). job.id == id) 1 jobs job numbered there
