-- Rows that change, in line: a destination gets busy or free, files come and go, and the files of all rows but one leave a place.
use Rattle.std.proofs.Common.{◌≡◌, ◌⊎◌, inl, inr, ℕ, ◌+◌, ◌<◌, ◌≤◌, Bool, true, false, cond, List, [], ◌∷◌, length, take, drop, Some}
use Rattle.std.proofs.Common.{refl, ap, sym, ◌∙◌, subst, arith}
use Rattle.std.specs.Prelude.{not, nat_lt, is_some, filter, count_by, slice_set, slice_index_or}
use Rattle.std.proofs.lemmas.Bool.{lt-ltb, ltb-true, eq-eqb, ne_eqb, cases_eq}
use Rattle.std.proofs.lemmas.List.{get_or-set_same, get_or-set_other, length-set, length-map, length-append, length-take, length-drop}
use Rattle.std.proofs.lemmas.List.Filters.{length-filter_both}
use Rattle.fts_tables.specs.SettingsData.{SettingsData}
use Rattle.fts_tables.specs.Places.{is_same_place}
use Rattle.fts_tables.specs.declared.places.Place.{Place}
use Rattle.fts_tables.specs.declared.rows.FileRow.{FileRow}
use Rattle.fts_tables.specs.declared.rows.JobRow.{JobRow}
use Rattle.fts_queue.specs.declared.waiter.Waiter.{Waiter}
use Rattle.fts_queue.specs.WaitingData.{WaitingData, in_order, with_waiter}
use Rattle.fts_heads.specs.Dests.{dests_of, number_of, AreNumbersOf}
use Rattle.fts_heads.proofs.Apart.{same_number}
use Rattle.fts_line.specs.LineData.{LineData}
use Rattle.fts_claims.specs.BusyData.{BusyData, is_busy}
use Rattle.fts_claims.specs.InLine.{IsInLine, AreInLine}
use Rattle.fts_claims.specs.Ties.{waiter_of, is_waiter, waiters_of}
use Rattle.fts_claims.specs.Changes.{all_but}
use Rattle.fts_claims.specs.declared.parts.ClaimParts.{ClaimParts}
use Rattle.fts_claims.proofs.Lists.{any-counted}
use Rattle.fts_claims.proofs.PlacesInOrder.{place_same}
use Rattle.fts_claims.proofs.Changed.{same_place}

-- places with one more among them
module _ (few many : BusyData) (dest : Place)
    (counted : (test : Place → Bool) → count_by test many.places ≡ count_by test few.places + cond (test dest) 1 0) where
  -- another place is busy among both or among none
  other_busy : (place : Place) → is_same_place dest place ≡ false → is_busy many.places place ≡ is_busy few.places place
  other_busy place apart =
      let test : Place → Bool = λ other. is_same_place other place in
      let same : count_by test many.places ≡ count_by test few.places =
      omega (arith, counted test ∙ ap (λ answer. count_by test few.places + cond answer 1 0) apart) in
      any-counted test many.places ∙ (ap (nat_lt 0) same ∙ sym (any-counted test few.places))

  -- what is busy among the fewer is so among the more
  still_busy : (place : Place) → is_busy few.places place ≡ true → is_busy many.places place ≡ true
  still_busy place is =
      let test : Place → Bool = λ other. is_same_place other place in
      any-counted test many.places
      ∙ lt-ltb 0 (count_by test many.places) (omega (arith, counted test, ltb-true 0 (count_by test few.places) (sym (any-counted test few.places) ∙ is)))

  -- and the one more is
  now_busy : is_busy many.places dest ≡ true
  now_busy =
      let test : Place → Bool = λ other. is_same_place other dest in
      any-counted test many.places
      ∙ lt-ltb 0 (count_by test many.places) (omega (arith, counted test ∙ ap (λ answer. count_by test few.places + cond answer 1 0) (same_place dest)))

  module _ (places : List Place) (line : LineData) (number : ℕ) (found : number_of places dest ≡ Some number) (inside : number < length line.busy) where
    -- the number of another place is another
    apart_from : (place : Place) (other : ℕ) → number_of places place ≡ Some other → (other ≡ number → ⊥) → is_same_place dest place ≡ false
    apart_from place other is apart =
        sym (same_number places dest place number other found is) ∙ ne_eqb number other (λ same. apart (sym same))

    -- that of the place is its own
    own_place : (place : Place) (other : ℕ) → number_of places place ≡ Some other → other ≡ number → dest ≡ place
    own_place place other is same =
        place_same dest place (sym (same_number places dest place number other found is) ∙ eq-eqb number other (sym same))

    -- the flag of the place, once it is set
    flag_set : (flag : Bool) (other : ℕ) → other ≡ number → slice_index_or (slice_set line.busy number flag) other false ≡ flag
    flag_set flag other same =
        ap (λ at. slice_index_or (slice_set line.busy number flag) at false) same ∙ get_or-set_same line.busy number flag false inside

    -- the flags, once that of the place says whether the place is busy now, where others are busy as before
    flags_set : (flag : Bool) (old new : BusyData) → is_busy new.places dest ≡ flag
        → ((place : Place) → is_same_place dest place ≡ false → is_busy old.places place ≡ is_busy new.places place) → IsInLine places line old
        → (place : Place) (other : ℕ) → number_of places place ≡ Some other
        → slice_index_or (slice_set line.busy number flag) other false ≡ is_busy new.places place
    flags_set flag old new here beside lined place other is = by_case (cases_eq other number)
      where
        by_case : (other ≡ number) ⊎ (other ≡ number → ⊥) → slice_index_or (slice_set line.busy number flag) other false ≡ is_busy new.places place
        by_case (inl same) =
            flag_set flag other same ∙ sym (subst (λ some. is_busy new.places some ≡ flag) (own_place place other is same) here)
        by_case (inr apart) =
            get_or-set_other line.busy number other flag false apart
            ∙ (lined.flags place other is ∙ beside place (apart_from place other is apart))

    -- a destination that gets free, of which no row is busy any more
    pub freed : is_busy few.places dest ≡ false → IsInLine places line many
        → IsInLine places (record line { busy = slice_set line.busy number false }) few
    freed gone lined = record {
      numbers = lined.numbers;
      count = length-set line.busy number false ∙ lined.count;
      flags = flags_set false many few gone other_busy lined;
      room = lined.room;
      known = λ place is. lined.known place (still_busy place is);
    }

    -- one that gets busy
    pub taken : IsInLine places line few
        → IsInLine places (record line { busy = slice_set line.busy number true }) many
    taken lined = record {
      numbers = lined.numbers;
      count = length-set line.busy number true ∙ lined.count;
      flags = flags_set true few many now_busy (λ place apart. sym (other_busy place apart)) lined;
      room = lined.room;
      known = λ place is. by_place place is (is_same_place dest place) refl;
    }
      where
        by_place : (place : Place) → is_busy many.places place ≡ true → (answer : Bool) → is_same_place dest place ≡ answer
            → is_some (number_of places place) ≡ true
        by_place place is true same =
            ap (λ some. is_some (number_of places some)) (sym (place_same dest place same)) ∙ ap is_some found
        by_place place is false apart = lined.known place (sym (other_busy place apart) ∙ is)

-- only the files that wait changed: all stays in line
pub same_line : (places : List Place) (old new : ClaimParts) (waiting : WaitingData) → new.line ≡ record old.line { waiting = waiting }
    → new.busy ≡ old.busy → new.dests ≡ old.dests → AreInLine places old → AreInLine places new
same_line places old new waiting line busy dests lined = record {
  line = subst (λ (seen : BusyData). IsInLine places new.line seen) (sym busy)
      (subst (λ (seen : LineData). IsInLine places seen old.busy) (sym line)
      (record {
        numbers = lined.line.numbers;
        count = lined.line.count;
        flags = lined.line.flags;
        room = lined.line.room;
        known = lined.line.known;
      }));
  found = subst (AreNumbersOf places) (sym dests) lined.found;
}

-- all files, kept
all_kept : (waiters : List Waiter) → filter (λ waiter. true) waiters ≡ waiters
all_kept [] = refl
all_kept (waiter ∷ waiters) = ap (λ others. waiter ∷ others) (all_kept waiters)

-- a file that comes in makes one more
pub one_longer : ((passes : Waiter → Bool) (waiter : Waiter) (waiters : List Waiter)
    → length (filter passes (with_waiter waiter waiters)) ≡ cond (passes waiter) 1 0 + length (filter passes waiters))
    → (waiter : Waiter) (waiters : List Waiter) → length (with_waiter waiter waiters) ≡ 1 + length waiters
one_longer counted waiter waiters =
    ap length (sym (all_kept (with_waiter waiter waiters)))
    ∙ (counted (λ other. true) waiter waiters ∙ ap (λ (others : List Waiter). 1 + length others) (all_kept waiters))

-- no more files wait than there are rows
pub few_waiters : ((passes : Waiter → Bool) (waiters : List Waiter) → length (filter passes (in_order waiters)) ≡ length (filter passes waiters))
    → (settings : SettingsData) (jobs : List JobRow) (rows : List FileRow) → length (in_order (waiters_of settings jobs rows)) ≤ length rows
few_waiters counted settings jobs rows =
    omega (
      arith,
      ap length (sym (all_kept (in_order (waiters_of settings jobs rows)))),
      counted (λ other. true) (waiters_of settings jobs rows),
      ap length (all_kept (waiters_of settings jobs rows)),
      length-map (filter (is_waiter settings) rows) (waiter_of settings jobs),
      length-filter_both (is_waiter settings) (λ row. not (is_waiter settings row)) (λ row. refl) rows,
    )

-- so those of all but one leave a place in line
pub place_left : ((passes : Waiter → Bool) (waiters : List Waiter) → length (filter passes (in_order waiters)) ≡ length (filter passes waiters))
    → (settings : SettingsData) (jobs : List JobRow) (rows : List FileRow) (place : ℕ) (waiters : List Waiter) (room : ℕ) → place < length rows
    → waiters ≡ in_order (waiters_of settings jobs (all_but place rows)) → length (dests_of rows) ≤ room → length waiters < room
place_left counted settings jobs rows place waiters room inside are within =
    omega (
      arith,
      ap length are,
      few_waiters counted settings jobs (all_but place rows),
      length-append (take place rows) (drop (place + 1) rows),
      length-take place rows,
      length-drop (place + 1) rows,
      length-map rows (λ (row : FileRow). row.dest),
      inside,
      within,
    )
