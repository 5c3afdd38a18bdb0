-- Jobs that are found one behind the other: what is found first of those that pass comes first, and the others stand behind it.
use Rattle.std.proofs.Common.{◌≡◌, ℕ, zero, suc, ◌+◌, ◌-◌, ◌<◌, ◌≤◌, Bool, true, false, cond, List, [], ◌∷◌, ◌++◌, length, map, take, drop, Option, Some, None, refl, sym, subst, ◌∙◌, ap, arith, append-nil, append_assoc, length-append}
use Rattle.std.specs.Prelude.{◌==◌, nat_lt, if◌then◌else◌, filter, find}
use Rattle.std.proofs.lemmas.Bool.{ne_eqb}
use Rattle.std.proofs.lemmas.Bool.Decides.{nat_tests}
use Rattle.std.proofs.lemmas.List.{map-append, drop-drop}
use Rattle.std.proofs.lemmas.Option.{same_Some, none-some}
use Rattle.fts_tables.specs.Tables.{AreNumberedFrom}
use Rattle.fts_routes.proofs.Listed.{ShownSoFar, nothing-over}
use Rattle.fts_routes.proofs.Numbered.{found-above, found-again}

-- where nothing is found nothing passes
pub none_pass : {Item : Type 0} (test : Item → Bool) (items : List Item) → find test items ≡ None → filter test items ≡ []
none_pass test [] none = refl
none_pass test (item ∷ items) none = by_head (test item) (none_pass test items) none
  where
    by_head : (answer : Bool) → (find test items ≡ None → filter test items ≡ []) → cond answer (Some item) (find test items) ≡ None
        → cond answer (item ∷ filter test items) (filter test items) ≡ []
    by_head true behind some = absurd (none-some item (sym some))
    by_head false behind none = behind none

-- tests that agree let the same pass
pub same_pass : {Item : Type 0} (one other : Item → Bool) → ((item : Item) → one item ≡ other item) → (items : List Item)
    → filter one items ≡ filter other items
same_pass one other agree [] = refl
same_pass one other agree (item ∷ items) =
    ap (λ answer. cond answer (item ∷ filter one items) (filter one items)) (agree item)
    ∙ ap (λ rest. cond (other item) (item ∷ rest) rest) (same_pass one other agree items)

-- and find the same
pub same_found : {Item : Type 0} (one other : Item → Bool) → ((item : Item) → one item ≡ other item) → (items : List Item)
    → find one items ≡ find other items
same_found one other agree [] = refl
same_found one other agree (item ∷ items) =
    ap (λ answer. cond answer (Some item) (find one items)) (agree item)
    ∙ ap (λ rest. cond (other item) (Some item) rest) (same_found one other agree items)

module _ {Item : Type 0} (number_of : Item → ℕ) where
  -- items are numbered on behind some
  numbered-drop : (start behind : ℕ) (items : List Item) → AreNumberedFrom number_of start items → AreNumberedFrom number_of (start + behind) (drop behind items)
  numbered-drop start zero items numbered = from_here (omega arith) numbered
    where
      from_here : {next : ℕ} → start ≡ next → AreNumberedFrom number_of start items → AreNumberedFrom number_of next items
      from_here same is = subst (λ next. AreNumberedFrom number_of next items) same is
  numbered-drop start (suc behind) [] numbered = tt
  numbered-drop start (suc behind) (item ∷ items) numbered =
      subst (λ next. AreNumberedFrom number_of next (drop behind items)) (omega arith) (numbered-drop (suc start) behind items numbered.1)

  -- what has a number behind some is found behind them
  find-drop : (start behind number : ℕ) (items : List Item) → AreNumberedFrom number_of start items → start + behind ≤ number
      → find (λ item. number_of item == number) items ≡ find (λ item. number_of item == number) (drop behind items)
  find-drop start zero number items numbered past = refl
  find-drop start (suc behind) number [] numbered past = refl
  find-drop start (suc behind) number (item ∷ items) numbered past =
      ap (λ answer. cond answer (Some item) (find (λ item. number_of item == number) items))
      (ne_eqb (number_of item) number (λ same. omega (arith, same, numbered.0, past)))
      ∙ find-drop (suc start) behind number items numbered.1 (omega (arith, past))

  -- what is found behind some is the item of its number
  pub sought-own : (test : Item → Bool) (behind : ℕ) (items : List Item) (found : Item) → AreNumberedFrom number_of 1 items
      → find test (drop behind items) ≡ Some found → find (λ item. number_of item == number_of found) items ≡ Some found
  sought-own test behind items found numbered is =
      let later = numbered-drop 1 behind items numbered in
      find-drop 1 behind (number_of found) items numbered (found-above number_of test (1 + behind) (drop behind items) found later is)
      ∙ found-again number_of test (1 + behind) (drop behind items) found later is

  -- what is found comes first of those that pass, and the others stand behind it
  first_passes : (test : Item → Bool) (start rest : ℕ) (items : List Item) (found : Item) → AreNumberedFrom number_of start items
      → find test items ≡ Some found → number_of found ≡ start + rest → filter test items ≡ found ∷ filter test (drop (suc rest) items)
  first_passes test start rest [] found numbered is at = absurd (none-some found is)
  first_passes test start rest (item ∷ items) found numbered is at =
      by_head (test item) (λ next later place. first_passes test (suc start) next items found numbered.1 later place)
      (found-above number_of test (suc start) items found numbered.1) is rest at
    where
      by_head : (answer : Bool)
          → ((next : ℕ) → find test items ≡ Some found → number_of found ≡ suc start + next
          → filter test items ≡ found ∷ filter test (drop (suc next) items))
          → (find test items ≡ Some found → suc start ≤ number_of found) → cond answer (Some item) (find test items) ≡ Some found → (rest : ℕ)
          → number_of found ≡ start + rest → cond answer (item ∷ filter test items) (filter test items) ≡ found ∷ filter test (drop rest items)
      by_head true behind above here zero at = ap (λ head. head ∷ filter test items) (same_Some item found here)
      by_head true behind above here (suc rest) at = absurd (omega (arith, at, ap number_of (same_Some item found here), numbered.0))
      by_head false behind above later zero at = absurd (omega (arith, at, above later))
      by_head false behind above later (suc rest) at = behind rest later (omega (arith, at))

  -- so it is behind some
  passes_behind : (test : Item → Bool) (behind : ℕ) (items : List Item) (found : Item) → AreNumberedFrom number_of 1 items
      → find test (drop behind items) ≡ Some found → filter test (drop behind items) ≡ found ∷ filter test (drop (number_of found) items)
  passes_behind test behind items found numbered is =
      let later = numbered-drop 1 behind items numbered in
      let above = found-above number_of test (1 + behind) (drop behind items) found later is in
      first_passes test (1 + behind) (number_of found - (1 + behind)) (drop behind items) found later is (omega (arith, above))
      ∙ ap (λ rest. found ∷ filter test rest)
      (drop-drop (suc (number_of found - (1 + behind))) behind items ∙ ap (λ place. drop place items) (omega (arith, above)))

  module _ {B V : Type 0} (view : V → B) (shown : Item → B) (test : Item → Bool) where
    -- one that is found is shown next
    pub found-next : (limit : ℕ) (items : List Item) (behind : ℕ) (list : List V) (found : Item) (value : V) → AreNumberedFrom number_of 1 items
        → find test (drop behind items) ≡ Some found → view value ≡ shown found → length list < limit → ShownSoFar view shown test limit items behind list
        → ShownSoFar view shown test limit items (number_of found) (list ++ value ∷ [])
    found-next limit items behind list found value numbered is as_shown below before =
        let cut = passes_behind test behind items found numbered is in
        let room : limit - length list ≡ suc (limit - (length list + 1)) = omega arith in
        let later = rw (cut, room) at before in
        rw (map-append view list (value ∷ []), length-append list (value ∷ []), append_assoc, as_shown) later

-- what was found was sought below the limit
pub record IsFoundBelow {Item : Type 0} (shown limit : ℕ) (sought : Option Item) (found : Item) : Type 0 where
  pub below : shown < limit
  pub there : sought ≡ Some found

pub found_below : {Item : Type 0} (shown limit : ℕ) (sought : Option Item) (found : Item) → Some found ≡ (if nat_lt shown limit then sought else None)
    → IsFoundBelow shown limit sought found
found_below shown limit sought found is = by_test (nat_lt shown limit) refl is
  where
    by_test : (answer : Bool) → nat_lt shown limit ≡ answer → Some found ≡ (if answer then sought else None) → IsFoundBelow shown limit sought found
    by_test true below there = record { below = grind (arith, nat_tests); there = sym there }
    by_test false past none = absurd (none-some found (sym none))

-- where nothing is found below the limit, nothing is left to be shown
pub none_left : {Item : Type 0} (test : Item → Bool) (shown limit : ℕ) (items : List Item) → None ≡ (if nat_lt shown limit then find test items else None)
    → take (limit - shown) (filter test items) ≡ []
none_left {Item} test shown limit items none = by_test (nat_lt shown limit) refl none
  where
    take_none : (count : ℕ) → take {A = Item} count [] ≡ []
    take_none zero = refl
    take_none (suc count) = refl

    by_test : (answer : Bool) → nat_lt shown limit ≡ answer → None ≡ (if answer then find test items else None) → take (limit - shown) (filter test items) ≡ []
    by_test true below there = ap (take (limit - shown)) (none_pass test items (sym there)) ∙ take_none (limit - shown)
    by_test false past there = nothing-over limit shown (filter test items) (grind (arith, nat_tests))
