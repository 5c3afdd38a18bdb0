-- A turn of the loop that gives up the ACTIVE rows.
use Rattle.std.proofs.Common.{◌≡◌, ℕ, zero, suc, ◌+◌, ◌-◌, ◌<◌, ◌≤◌, Bool, List, [], ◌∷◌, Option, ◌++◌, length, map, take, drop, get_or, Some, true, false, cond, refl, ap, inl, inr, subst, sym, ◌∙◌, arith, length-take-le, get_or-drop}
use Rattle.std.specs.Prelude.{count_by, slice_get, if◌then◌else◌}
use Rattle.std.proofs.lemmas.List.{get_or-append_right, length-map}
use Rattle.std.proofs.lemmas.List.Sums.{count_by_more_yes, count_by_more_no, sum_by-cons}
use Rattle.std.proofs.lemmas.List.Edits.{map_over_more}
use Rattle.std.proofs.lemmas.Option.{same_Some, slice_get_cases, slice_get-get_or, get_or_from_slice_get}
use Rattle.fts_tables.specs.Tables.{is_active}
use Rattle.fts_tables.specs.Moves.{submitted, canceled}
use Rattle.fts_tables.specs.Step.{released}
use Rattle.fts_tables.specs.Laws.{FileOfRow, file_of}
use Rattle.fts_tables.specs.declared.places.Place.{Place}
use Rattle.fts_tables.specs.declared.rows.FileRow.{FileRow}
use Rattle.fts_heads.specs.Dests.{dests_of}
use Rattle.fts_desk.specs.Places.{change_at}
use Rattle.fts_claims.specs.declared.parts.ClaimParts.{ClaimParts}
use Rattle.fts_desk.specs.Parts.{count_active, HasRoomToWait}
use Rattle.fts_desk.proofs.ChangedRows.{change_at-set}
use Rattle.fts_desk.proofs.RowsBeside.{room_fewer}

module _ (all rows : List FileRow) (i : ℕ) (d : FileRow) (lt : i < length all) (e : rows ≡ map released (take i all) ++ drop i all) where
  -- the rows from the turn's place on are as they were
  pub untouched : get_or rows i d ≡ get_or all i d
  untouched =
      let n : length (map released (take i all)) ≡ i = length-map (take i all) released ∙ length-take-le i all (omega arith) in
      let z : i + (i - i) ≡ i = omega arith in
      ap (λ xs. get_or xs i d) e ∙ get_or-append_right (map released (take i all)) (drop i all) i i d n (omega arith)
      ∙ get_or-drop i all (i - i) d ∙ ap (λ k. get_or all k d) z

  -- one more was given up
  pub counted : (count : ℕ) → count ≡ count_by (λ r. is_active r.state) (take i all) → is_active (get_or rows i d).state ≡ true
      → count + 1 ≡ count_by (λ r. is_active r.state) (take (i + 1) all)
  counted count c a = ap (λ n. n + 1) c
      ∙ sym (count_by_more_yes (λ (r : FileRow). is_active r.state) all i d lt (ap (λ (r : FileRow). is_active r.state) (sym untouched) ∙ a))

  -- none was given up here
  pub passed_by : (count : ℕ) → count ≡ count_by (λ r. is_active r.state) (take i all) → is_active (get_or rows i d).state ≡ false
      → count ≡ count_by (λ r. is_active r.state) (take (i + 1) all)
  passed_by count c a = c ∙ sym (count_by_more_no (λ (r : FileRow). is_active r.state) all i d lt (ap (λ (r : FileRow). is_active r.state) (sym untouched) ∙ a))

-- a row that was given up is the same file's
pub released_file : (row : FileRow) → file_of (released row) ≡ file_of row
released_file row = by_tests (is_active row.state) row.cancel_asked
  where
    by_tests : (active asked : Bool) → file_of (if active then (if asked then canceled row else submitted row) else row) ≡ file_of row
    by_tests true true = refl
    by_tests true false = refl
    by_tests false asked = refl

-- a restart leaves all destinations
pub dests_released : (rows : List FileRow) → dests_of (map released rows) ≡ dests_of rows
dests_released [] = refl
dests_released (row ∷ rows) =
    ap (λ (dest : Place). dest ∷ dests_of (map released rows)) (ap (λ (file : FileOfRow). file.dest) (released_file row))
    ∙ ap (λ (dests : List Place). row.dest ∷ dests) (dests_released rows)

-- a row that was given up doesn't run
pub released_idle : (row : FileRow) → is_active (released row).state ≡ false
released_idle row = by_active (is_active row.state) refl
  where
    by_asked : (asked : Bool) → is_active (if asked then canceled row else submitted row).state ≡ false
    by_asked true = refl
    by_asked false = refl

    by_active : (active : Bool) → is_active row.state ≡ active
        → is_active (if active then (if row.cancel_asked then canceled row else submitted row) else row).state ≡ false
    by_active true is = by_asked row.cancel_asked
    by_active false is = is

-- one that doesn't run stays as it is
pub released_stays : (row : FileRow) → is_active row.state ≡ false → released row ≡ row
released_stays row idle = ap (λ answer. if answer then (if row.cancel_asked then canceled row else submitted row) else row) idle

-- one ACTIVE row less where the first of some is left out
active_behind : (all : List FileRow) (i : ℕ) (row : FileRow) → slice_get all i ≡ Some row
    → count_active (drop i all) ≡ count_active (drop (i + 1) all) + cond (is_active row.state) 1 0
active_behind [] i row at = cc
active_behind (first ∷ all) zero row at =
    let here : ◌≡◌ {A = ℕ} (cond (is_active first.state) 1 0) (cond (is_active row.state) 1 0) =
    ap (λ (other : FileRow). cond {A = ℕ} (is_active other.state) 1 0) (same_Some first row at) in
    omega (arith, here, sum_by-cons (λ (other : FileRow). cond (is_active other.state) 1 0) first all)
active_behind (first ∷ all) (suc i) row at =
    let next : suc i + 1 ≡ suc (i + 1) = omega arith in
    active_behind all i row at ∙ ap (λ count. count_active (drop count (first ∷ all)) + cond (is_active row.state) 1 0) (sym next)

-- a turn of the loop, at a place
module _ (all rows : List FileRow) (i : ℕ) (lt : i < length all) (inside : i < length rows) (e : rows ≡ map released (take i all) ++ drop i all) where
  -- the row there was given up
  pub turn_done : (after : List FileRow) → after ≡ change_at i released rows → after ≡ map released (take (i + 1) all) ++ drop (i + 1) all
  turn_done after changed = elim (slice_get_cases rows i).1 [
    | inl found ↦ changed ∙ sym (change_at-set rows i released found.0 (released (get_or rows i found.0)) inside refl)
        ∙ map_over_more released all rows i (get_or rows i found.0) lt e (ap (get_or rows i) (sym found.3))
    | inr past ↦ absurd (omega (arith, past.0, inside))
  ]

  -- and counted where it was ACTIVE
  pub turn_counted : (answer : Bool) → ((row : FileRow) → slice_get rows i ≡ Some row → answer ≡ is_active row.state) → (count : ℕ)
      → count ≡ count_by (λ r. is_active r.state) (take i all) → count + cond answer 1 0 ≡ count_by (λ r. is_active r.state) (take (i + 1) all)
  turn_counted answer was count so_far = elim (slice_get_cases rows i).1 [
    | inl found ↦ by_answer answer found.0 (ap (λ (row : FileRow). is_active row.state) (found.3) ∙ sym (was found.0 found.2))
    | inr past ↦ absurd (omega (arith, past.0, inside))
  ]
    where
      by_answer : (answer : Bool) (row : FileRow) → is_active (get_or rows i row).state ≡ answer
          → count + cond answer 1 0 ≡ count_by (λ r. is_active r.state) (take (i + 1) all)
      by_answer true row is = counted all rows i row lt e count so_far is
      by_answer false row is = (let none : count + 0 ≡ count = omega arith in none) ∙ passed_by all rows i row lt e count so_far is

  -- the row there stood so before
  pub turn_stood : (row : FileRow) → slice_get rows i ≡ Some row → slice_get all i ≡ Some row
  turn_stood row at =
      let same = untouched all rows i row lt e in
      slice_get-get_or all i row lt ∙ ap (λ (other : FileRow). Some other) (sym same ∙ get_or_from_slice_get rows i row row at)

  -- there is room for it, where there was for it and all behind it
  pub turn_room : (parts : Option ClaimParts)
      → ((at : ℕ) (row : FileRow) → i ≤ at → slice_get all at ≡ Some row → is_active row.state ≡ true
      → HasRoomToWait (count_active (drop i all)) row parts)
      → (row : FileRow) → slice_get rows i ≡ Some row → is_active row.state ≡ true → HasRoomToWait 1 row parts
  turn_room parts room row at active =
      let stood = turn_stood row at in
      let one : ◌≡◌ {A = ℕ} (cond (is_active row.state) 1 0) 1 = ap (λ answer. cond {A = ℕ} answer 1 0) active in
      room_fewer 1 (count_active (drop i all)) row parts (omega (arith, active_behind all i row stood, one)) (room i row (omega arith) stood active)

  -- and then for those behind it
  pub turn_left : (old new : Option ClaimParts) (answer : Bool) → ((row : FileRow) → slice_get rows i ≡ Some row → answer ≡ is_active row.state)
      → ((count : ℕ) (row : FileRow) → HasRoomToWait (count + cond answer 1 0) row old → HasRoomToWait count row new)
      → ((at : ℕ) (row : FileRow) → i ≤ at → slice_get all at ≡ Some row → is_active row.state ≡ true
      → HasRoomToWait (count_active (drop i all)) row old)
      → (at : ℕ) (row : FileRow) → i + 1 ≤ at → slice_get all at ≡ Some row → is_active row.state ≡ true
      → HasRoomToWait (count_active (drop (i + 1) all)) row new
  turn_left old new answer was left room at row behind there active = elim (slice_get_cases rows i).1 [
    | inl found ↦
        let less = active_behind all i found.0 (turn_stood found.0 found.2)
        ∙ ap (λ answer. count_active (drop (i + 1) all) + cond answer 1 0) (sym (was found.0 found.2)) in
        left (count_active (drop (i + 1) all)) row
        (subst (λ count. HasRoomToWait count row old) less (room at row (omega (arith, behind)) there active))
    | inr past ↦ absurd (omega (arith, past.0, inside))
  ]
