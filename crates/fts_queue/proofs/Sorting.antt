-- Items in an order that a test gives: where one comes in, what a filter leaves, and which is the first.
use Rattle.std.proofs.Common.{◌≡◌, ℕ, ◌+◌, Bool, true, false, cond, List, [], ◌∷◌, ◌++◌, length, Option, Some, refl, ap, sym, ◌∙◌, arith}
use Rattle.std.specs.Prelude.{not, ◌||◌, ◌==◌, filter, find, fold, if◌then◌else◌}
use Rattle.std.specs.List.{list_any, AllByRecursion}
use Rattle.std.proofs.lemmas.Bool.{or_parts, eqb-false, eq-eqb, ne_eqb}
use Rattle.fts_tables.specs.Choice.{least}
use Rattle.fts_queue.specs.declared.waiter.Waiter.{Waiter}
use Rattle.fts_queue.specs.WaitingData.{put_by, sorted_by, AreSortedBy, is_waiting, AreApart, without_file}

-- an order of files: it passes on, and of two that are not one file exactly one goes first
pub record IsOrder (before : Waiter → Waiter → Bool) : Type 0 where
  pub passes_on : (one other third : Waiter) → before one other ≡ true → before other third ≡ true → before one third ≡ true
  pub decides : (one other : Waiter) → (one.file ≡ other.file → ⊥) → before one other ≡ not (before other one)

-- of two different files, put one after the other, it is all one which comes in first
pub put_twice : (before : Waiter → Waiter → Bool) → IsOrder before → (one other : Waiter) → before one other ≡ not (before other one)
    → (waiters : List Waiter) → put_by before one (put_by before other waiters) ≡ put_by before other (put_by before one waiters)
put_twice before order one other decided [] = by_test (before one other) (before other one) refl refl decided
  where
    by_test : (first second : Bool) → before one other ≡ first → before other one ≡ second → first ≡ not second
        → put_by before one (other ∷ []) ≡ put_by before other (one ∷ [])
    by_test true true is back says = cc
    by_test true false is back says = simp (is, back)
    by_test false true is back says = simp (is, back)
    by_test false false is back says = cc
put_twice before order one other decided (first ∷ rest) =
    by_test (put_twice before order one other decided rest) (before one first) (before other first) (before one other) (before other one)
    refl refl refl refl decided
  where
    by_test : put_by before one (put_by before other rest) ≡ put_by before other (put_by before one rest)
        → (o1 o2 a b : Bool) → before one first ≡ o1 → before other first ≡ o2 → before one other ≡ a → before other one ≡ b → a ≡ not b
        → put_by before one (put_by before other (first ∷ rest)) ≡ put_by before other (put_by before one (first ∷ rest))
    by_test behind true true true false is1 is2 isa isb says = simp (is1, is2, isa, isb)
    by_test behind true true false true is1 is2 isa isb says = simp (is1, is2, isa, isb)
    by_test behind true false true false is1 is2 isa isb says = simp (is1, is2, isb)
    by_test behind true false false true is1 is2 isa isb says =
        let on : before other first ≡ true = order.passes_on other one first isb is1 in cc
    by_test behind false true true false is1 is2 isa isb says =
        let on : before one first ≡ true = order.passes_on one other first isa is2 in cc
    by_test behind false true false true is1 is2 isa isb says = simp (is1, is2, isa)
    by_test behind false false a b is1 is2 isa isb says = simp (is1, is2) (ap (λ later. first ∷ later) behind)
    by_test behind true o2 true true is1 is2 isa isb says = cc
    by_test behind true o2 false false is1 is2 isa isb says = cc
    by_test behind false true true true is1 is2 isa isb says = cc
    by_test behind false true false false is1 is2 isa isb says = cc

-- equal numbers, the other way round
pub other_way : (one other : ℕ) → (one == other) ≡ false → (other == one) ≡ false
other_way one other apart = ne_eqb other one (λ same. eqb-false one other apart (sym same))

-- two files with different numbers
pub decided : (before : Waiter → Waiter → Bool) → IsOrder before → (one other : Waiter) → (one.file == other.file) ≡ false
    → before one other ≡ not (before other one)
decided before order one other apart = order.decides one other (eqb-false one.file other.file apart)

-- what no item of a list passes, none of its middle and none of its ends does
none_parts : {A : Type 0} (passes : A → Bool) (before after : List A) (item : A) → list_any passes (before ++ item ∷ after) ≡ false
    → (passes item ≡ false) × (list_any passes (before ++ after) ≡ false)
none_parts passes [] after item none = or_parts (passes item) (list_any passes after) none
none_parts passes (first ∷ before) after item none =
    let both = or_parts (passes first) (list_any passes (before ++ item ∷ after)) none in
    let behind = none_parts passes before after item both.1 in
    (behind.0, ap (λ test. test || list_any passes (before ++ after)) both.0 ∙ behind.1)

-- a file from among others is none of them
pub apart_middle : (before after : List Waiter) (waiter : Waiter) → AreApart (before ++ waiter ∷ after)
    → (is_waiting waiter.file (before ++ after) ≡ false) × AreApart (before ++ after)
apart_middle [] after waiter apart = apart
apart_middle (first ∷ before) after waiter apart =
    let parts = none_parts (λ other. other.file == first.file) before after waiter apart.0 in
    let behind = apart_middle before after waiter apart.1 in
    (ap (λ test. test || is_waiting waiter.file (before ++ after)) (other_way waiter.file first.file parts.0) ∙ behind.0, (parts.1, behind.1))

-- files that are put into order may be put in from the middle
pub sorted_anywhere : (is_before : Waiter → Waiter → Bool) → IsOrder is_before → (before after : List Waiter) (waiter : Waiter)
    → AreApart (before ++ waiter ∷ after)
    → sorted_by is_before (before ++ waiter ∷ after) ≡ put_by is_before waiter (sorted_by is_before (before ++ after))
sorted_anywhere is_before order [] after waiter apart = refl
sorted_anywhere is_before order (first ∷ before) after waiter apart =
    let parts = none_parts (λ other. other.file == first.file) before after waiter apart.0 in
    ap (put_by is_before first) (sorted_anywhere is_before order before after waiter apart.1)
    ∙ put_twice is_before order first waiter (decided is_before order first waiter (other_way waiter.file first.file parts.0))
    (sorted_by is_before (before ++ after))

-- two tests, the other way round
or_swap : (one other third : Bool) → (one || (other || third)) ≡ (other || (one || third))
or_swap true true third = refl
or_swap true false third = refl
or_swap false true third = refl
or_swap false false third = refl

-- a file more is asked as well
pub any_put : {A : Type 0} (before : A → A → Bool) (passes : A → Bool) (item : A) (items : List A)
    → list_any passes (put_by before item items) ≡ (passes item || list_any passes items)
any_put before passes item [] = refl
any_put before passes item (first ∷ rest) = by_test (before item first) (any_put before passes item rest)
  where
    by_test : (answer : Bool) → list_any passes (put_by before item rest) ≡ (passes item || list_any passes rest)
        → list_any passes (cond answer (item ∷ first ∷ rest) (first ∷ put_by before item rest)) ≡ (passes item || (passes first || list_any passes rest))
    by_test true behind = refl
    by_test false behind = ap (λ test. passes first || test) behind ∙ or_swap (passes first) (passes item) (list_any passes rest)

-- whether one passes is asked of the files, not of their order
pub any_sorted : {A : Type 0} (before : A → A → Bool) (passes : A → Bool) (items : List A)
    → list_any passes (sorted_by before items) ≡ list_any passes items
any_sorted before passes [] = refl
any_sorted before passes (item ∷ items) = any_put before passes item (sorted_by before items)
    ∙ ap (λ test. passes item || test) (any_sorted before passes items)

-- the length of a list with an item in front or without
pub length-cond : {A : Type 0} (answer : Bool) (item : A) (items : List A) → length (cond answer (item ∷ items) items) ≡ cond answer 1 0 + length items
length-cond true item items = omega arith
length-cond false item items = omega arith

-- a file more is counted where it passes
pub count_put : {A : Type 0} (before : A → A → Bool) (passes : A → Bool) (item : A) (items : List A)
    → length (filter passes (put_by before item items)) ≡ cond (passes item) 1 0 + length (filter passes items)
count_put before passes item [] = length-cond (passes item) item []
count_put before passes item (first ∷ rest) = by_test (before item first) (count_put before passes item rest)
  where
    by_test : (answer : Bool) → length (filter passes (put_by before item rest)) ≡ cond (passes item) 1 0 + length (filter passes rest)
        → length (filter passes (cond answer (item ∷ first ∷ rest) (first ∷ put_by before item rest)))
        ≡ cond (passes item) 1 0 + length (cond (passes first) (first ∷ filter passes rest) (filter passes rest))
    by_test true behind = length-cond (passes item) item (cond (passes first) (first ∷ filter passes rest) (filter passes rest))
    by_test false behind =
        omega (arith, behind, length-cond (passes first) first (filter passes (put_by before item rest)), length-cond (passes first) first (filter passes rest))

-- how many pass is asked of the files, not of their order
pub count_sorted : {A : Type 0} (before : A → A → Bool) (passes : A → Bool) (items : List A)
    → length (filter passes (sorted_by before items)) ≡ length (filter passes items)
count_sorted before passes [] = refl
count_sorted before passes (item ∷ items) = count_put before passes item (sorted_by before items)
    ∙ (ap (λ count. cond (passes item) 1 0 + count) (count_sorted before passes items) ∙ sym (length-cond (passes item) item (filter passes items)))

-- what holds of each still holds with one more of which it holds
all_put : (before : Waiter → Waiter → Bool) (P : Waiter → Type 0) (waiter : Waiter) (waiters : List Waiter) → P waiter → AllByRecursion P waiters
    → AllByRecursion P (put_by before waiter waiters)
all_put before P waiter [] here behind = (here, tt)
all_put before P waiter (first ∷ rest) here all = by_test (before waiter first) (all_put before P waiter rest here all.1)
  where
    by_test : (answer : Bool) → AllByRecursion P (put_by before waiter rest)
        → AllByRecursion P (cond answer (waiter ∷ first ∷ rest) (first ∷ put_by before waiter rest))
    by_test true behind = (here, (all.0, all.1))
    by_test false behind = (all.0, behind)

-- what holds of each holds of each that passes
pub all_filter : {A : Type 0} (P : A → Type 0) (passes : A → Bool) (items : List A) → AllByRecursion P items → AllByRecursion P (filter passes items)
all_filter P passes [] all = tt
all_filter P passes (first ∷ rest) all = by_test (passes first) (all_filter P passes rest all.1)
  where
    by_test : (answer : Bool) → AllByRecursion P (filter passes rest) → AllByRecursion P (cond answer (first ∷ filter passes rest) (filter passes rest))
    by_test true behind = (all.0, behind)
    by_test false behind = behind

-- what goes before the first of a sorted list goes before all of it
all_after : (before : Waiter → Waiter → Bool) → IsOrder before → (waiter first : Waiter) (rest : List Waiter) → before waiter first ≡ true
    → AllByRecursion (λ later. before first later ≡ true) rest → AllByRecursion (λ later. before waiter later ≡ true) rest
all_after before order waiter first [] goes all = tt
all_after before order waiter first (next ∷ rest) goes all =
    (order.passes_on waiter first next goes all.0, all_after before order waiter first rest goes all.1)

-- a file that goes before all comes in first
pub put_first : (before : Waiter → Waiter → Bool) (waiter : Waiter) (waiters : List Waiter) → AllByRecursion (λ later. before waiter later ≡ true) waiters
    → put_by before waiter waiters ≡ waiter ∷ waiters
put_first before waiter [] all = refl
put_first before waiter (first ∷ rest) all = ap (λ test. cond test (waiter ∷ first ∷ rest) (first ∷ put_by before waiter rest)) all.0

-- a sorted list stays as it is
pub sorted_stays : (before : Waiter → Waiter → Bool) (waiters : List Waiter) → AreSortedBy before waiters → sorted_by before waiters ≡ waiters
sorted_stays before [] sorted = refl
sorted_stays before (waiter ∷ waiters) sorted = ap (put_by before waiter) (sorted_stays before waiters sorted.1) ∙ put_first before waiter waiters sorted.0

-- a file more keeps a list sorted
pub put_keeps : (before : Waiter → Waiter → Bool) → IsOrder before → (waiter : Waiter) (waiters : List Waiter) → AreSortedBy before waiters
    → is_waiting waiter.file waiters ≡ false → AreSortedBy before (put_by before waiter waiters)
put_keeps before order waiter [] sorted fresh = (tt, tt)
put_keeps before order waiter (first ∷ rest) sorted fresh =
    by_test (before waiter first) refl (put_keeps before order waiter rest sorted.1 parts.1)
  where
    parts : ((first.file == waiter.file) ≡ false) × (is_waiting waiter.file rest ≡ false)
    parts = or_parts (first.file == waiter.file) (is_waiting waiter.file rest) fresh

    by_test : (answer : Bool) → before waiter first ≡ answer → AreSortedBy before (put_by before waiter rest)
        → AreSortedBy before (cond answer (waiter ∷ first ∷ rest) (first ∷ put_by before waiter rest))
    by_test true goes behind = ((goes, all_after before order waiter first rest goes sorted.0), sorted)
    by_test false goes behind =
        let other : before first waiter ≡ true = decided before order first waiter parts.0 ∙ ap not goes in
        (all_put before (λ later. before first later ≡ true) waiter rest other sorted.0, behind)

-- a file more keeps files apart
pub put_apart : (before : Waiter → Waiter → Bool) (waiter : Waiter) (waiters : List Waiter) → AreApart waiters → is_waiting waiter.file waiters ≡ false
    → AreApart (put_by before waiter waiters)
put_apart before waiter [] apart fresh = (refl, tt)
put_apart before waiter (first ∷ rest) apart fresh = by_test (before waiter first) (put_apart before waiter rest apart.1 parts.1)
  where
    parts : ((first.file == waiter.file) ≡ false) × (is_waiting waiter.file rest ≡ false)
    parts = or_parts (first.file == waiter.file) (is_waiting waiter.file rest) fresh

    by_test : (answer : Bool) → AreApart (put_by before waiter rest)
        → AreApart (cond answer (waiter ∷ first ∷ rest) (first ∷ put_by before waiter rest))
    by_test true behind = (fresh, apart)
    by_test false behind = (
      any_put before (λ other. other.file == first.file) waiter rest
          ∙ (ap (λ test. test || is_waiting first.file rest) (other_way first.file waiter.file parts.0) ∙ apart.0),
      behind,
    )

-- files in their order are sorted, and apart as before
pub sorted_keeps : (before : Waiter → Waiter → Bool) → IsOrder before → (waiters : List Waiter) → AreApart waiters
    → AreSortedBy before (sorted_by before waiters) × AreApart (sorted_by before waiters)
sorted_keeps before order [] apart = (tt, tt)
sorted_keeps before order (waiter ∷ waiters) apart =
    let behind = sorted_keeps before order waiters apart.1 in
    let fresh = any_sorted before (λ other. other.file == waiter.file) waiters ∙ apart.0 in
    (put_keeps before order waiter (sorted_by before waiters) behind.0 fresh, put_apart before waiter (sorted_by before waiters) behind.1 fresh)

-- a filter of a sorted list is sorted
pub filter_sorted : (before : Waiter → Waiter → Bool) (passes : Waiter → Bool) (waiters : List Waiter) → AreSortedBy before waiters
    → AreSortedBy before (filter passes waiters)
filter_sorted before passes [] sorted = tt
filter_sorted before passes (first ∷ rest) sorted = by_test (passes first) (filter_sorted before passes rest sorted.1)
  where
    by_test : (answer : Bool) → AreSortedBy before (filter passes rest) → AreSortedBy before (cond answer (first ∷ filter passes rest) (filter passes rest))
    by_test true behind = (all_filter (λ later. before first later ≡ true) passes rest sorted.0, behind)
    by_test false behind = behind

-- what none of a list is, none of a filter of it is
pub none_filter : {A : Type 0} (test passes : A → Bool) (items : List A) → list_any test items ≡ false → list_any test (filter passes items) ≡ false
none_filter test passes [] none = refl
none_filter test passes (first ∷ rest) none = by_test (passes first) (none_filter test passes rest parts.1)
  where
    parts : (test first ≡ false) × (list_any test rest ≡ false)
    parts = or_parts (test first) (list_any test rest) none

    by_test : (answer : Bool) → list_any test (filter passes rest) ≡ false
        → list_any test (cond answer (first ∷ filter passes rest) (filter passes rest)) ≡ false
    by_test true behind = ap (λ one. one || list_any test (filter passes rest)) parts.0 ∙ behind
    by_test false behind = behind

-- a filter keeps files apart
pub filter_apart : (passes : Waiter → Bool) (waiters : List Waiter) → AreApart waiters → AreApart (filter passes waiters)
filter_apart passes [] apart = tt
filter_apart passes (first ∷ rest) apart = by_test (passes first) (filter_apart passes rest apart.1)
  where
    by_test : (answer : Bool) → AreApart (filter passes rest) → AreApart (cond answer (first ∷ filter passes rest) (filter passes rest))
    by_test true behind = (none_filter (λ other. other.file == first.file) passes rest apart.0, behind)
    by_test false behind = behind

-- a filter after a file more, and a file more after the filter
filter_put : (before : Waiter → Waiter → Bool) → IsOrder before → (passes : Waiter → Bool) (waiter : Waiter) (waiters : List Waiter)
    → AreSortedBy before waiters
    → filter passes (put_by before waiter waiters) ≡ cond (passes waiter) (put_by before waiter (filter passes waiters)) (filter passes waiters)
filter_put before order passes waiter [] sorted = refl
filter_put before order passes waiter (first ∷ rest) sorted =
    by_tests (before waiter first) (passes waiter) (passes first) refl refl refl (filter_put before order passes waiter rest sorted.1)
  where
    by_tests : (goes here there : Bool) → before waiter first ≡ goes → passes waiter ≡ here → passes first ≡ there
        → filter passes (put_by before waiter rest) ≡ cond (passes waiter) (put_by before waiter (filter passes rest)) (filter passes rest)
        → filter passes (put_by before waiter (first ∷ rest))
        ≡ cond (passes waiter) (put_by before waiter (filter passes (first ∷ rest))) (filter passes (first ∷ rest))
    by_tests true true true is1 is2 is3 behind = simp (is1, is2, is3)
    by_tests true true false is1 is2 is3 behind =
        simp (is1, is2, is3) (sym (put_first before waiter (filter passes rest)
        (all_filter (λ later. before waiter later ≡ true) passes rest (all_after before order waiter first rest is1 sorted.0))))
    by_tests true false there is1 is2 is3 behind = simp (is1, is2)
    by_tests false true true is1 is2 is3 behind = simp (is1, is2, is3) (ap (λ later. first ∷ later) (behind ∙ simp is2))
    by_tests false true false is1 is2 is3 behind = simp (is1, is2, is3) (behind ∙ simp is2)
    by_tests false false true is1 is2 is3 behind = simp (is1, is2, is3) (ap (λ later. first ∷ later) (behind ∙ simp is2))
    by_tests false false false is1 is2 is3 behind = simp (is1, is2, is3) (behind ∙ simp is2)

-- which pass is asked of the files, not of their order
pub filter_of_sorted : (before : Waiter → Waiter → Bool) → IsOrder before → (passes : Waiter → Bool) (waiters : List Waiter) → AreApart waiters
    → filter passes (sorted_by before waiters) ≡ sorted_by before (filter passes waiters)
filter_of_sorted before order passes [] apart = refl
filter_of_sorted before order passes (waiter ∷ waiters) apart =
    filter_put before order passes waiter (sorted_by before waiters) (sorted_keeps before order waiters apart.1).0
    ∙ by_test (passes waiter) (filter_of_sorted before order passes waiters apart.1)
  where
    by_test : (answer : Bool) → filter passes (sorted_by before waiters) ≡ sorted_by before (filter passes waiters)
        → cond answer (put_by before waiter (filter passes (sorted_by before waiters))) (filter passes (sorted_by before waiters))
        ≡ sorted_by before (cond answer (waiter ∷ filter passes waiters) (filter passes waiters))
    by_test true behind = ap (put_by before waiter) behind
    by_test false behind = behind

-- without a file that isn't there
pub without_stranger : (file : ℕ) (waiters : List Waiter) → is_waiting file waiters ≡ false → without_file file waiters ≡ waiters
without_stranger file [] none = refl
without_stranger file (first ∷ rest) none =
    let parts = or_parts (first.file == file) (is_waiting file rest) none in
    ap (λ test. cond (not test) (first ∷ without_file file rest) (without_file file rest)) parts.0
    ∙ ap (λ later. first ∷ later) (without_stranger file rest parts.1)

-- a file that came in goes out again
pub without_put : (before : Waiter → Waiter → Bool) (waiter : Waiter) (waiters : List Waiter) → is_waiting waiter.file waiters ≡ false
    → without_file waiter.file (put_by before waiter waiters) ≡ waiters
without_put before waiter [] fresh = ap (λ test. cond (not test) (waiter ∷ []) []) (eq-eqb waiter.file waiter.file refl)
without_put before waiter (first ∷ rest) fresh = by_test (before waiter first) (without_put before waiter rest parts.1)
  where
    parts : ((first.file == waiter.file) ≡ false) × (is_waiting waiter.file rest ≡ false)
    parts = or_parts (first.file == waiter.file) (is_waiting waiter.file rest) fresh

    by_test : (answer : Bool) → without_file waiter.file (put_by before waiter rest) ≡ rest
        → without_file waiter.file (cond answer (waiter ∷ first ∷ rest) (first ∷ put_by before waiter rest)) ≡ first ∷ rest
    by_test true behind =
        let whole = without_stranger waiter.file (first ∷ rest) fresh in
        ap (λ test. cond (not test) (waiter ∷ without_file waiter.file (first ∷ rest)) (without_file waiter.file (first ∷ rest)))
        (eq-eqb waiter.file waiter.file refl) ∙ whole
    by_test false behind =
        ap (λ test. cond (not test) (first ∷ without_file waiter.file (put_by before waiter rest)) (without_file waiter.file (put_by before waiter rest))) parts.0
        ∙ ap (λ later. first ∷ later) behind

-- whatever stands first
abbrev pub head : {A : Type 0} → List A → Option A
head items = find (λ item. true) items

-- the first that passes is the first of those that pass
find_is_head : {A : Type 0} (passes : A → Bool) (items : List A) → find passes items ≡ head (filter passes items)
find_is_head passes [] = refl
find_is_head passes (first ∷ rest) = by_test (passes first) (find_is_head passes rest)
  where
    by_test : (answer : Bool) → find passes rest ≡ head (filter passes rest)
        → cond answer (Some first) (find passes rest) ≡ head (cond answer (first ∷ filter passes rest) (filter passes rest))
    by_test true behind = refl
    by_test false behind = behind

-- a file that comes in behind another is not the first
not_first : (before : Waiter → Waiter → Bool) → IsOrder before → (one other : Waiter) → before one other ≡ true → before other one ≡ false
    → (waiters : List Waiter) → head (put_by before other (put_by before one waiters)) ≡ head (put_by before one waiters)
not_first before order one other goes back [] = ap (λ test. head (cond test (other ∷ one ∷ []) (one ∷ other ∷ []))) back
not_first before order one other goes back (first ∷ rest) = by_tests (before one first) (before other first) refl refl
  where
    by_tests : (here there : Bool) → before one first ≡ here → before other first ≡ there
        → head (put_by before other (put_by before one (first ∷ rest))) ≡ head (put_by before one (first ∷ rest))
    by_tests true there is1 is2 = simp (is1, back)
    by_tests false true is1 is2 = let on : before one first ≡ true = order.passes_on one other first goes is2 in cc
    by_tests false false is1 is2 = simp (is1, is2)

-- the better of two
abbrev better : (Waiter → Waiter → Bool) → Waiter → Waiter → Waiter
better before best item = if before item best then item else best

-- the first in order is the least
head_is_least : (before : Waiter → Waiter → Bool) → IsOrder before → (best : Waiter) (waiters : List Waiter) → AreApart (best ∷ waiters)
    → head (sorted_by before (best ∷ waiters)) ≡ Some (fold (better before) best waiters)
head_is_least before order best [] apart = refl
head_is_least before order best (next ∷ rest) apart =
    by_test (head_is_least before order best rest (best_rest.1, apart.1.1)) (head_is_least before order next rest apart.1)
    (before next best) (before best next) refl refl (decided before order next best best_rest.0)
  where
    best_rest : ((next.file == best.file) ≡ false) × (is_waiting best.file rest ≡ false)
    best_rest = or_parts (next.file == best.file) (is_waiting best.file rest) apart.0

    by_test : (head (sorted_by before (best ∷ rest)) ≡ Some (fold (better before) best rest))
        → (head (sorted_by before (next ∷ rest)) ≡ Some (fold (better before) next rest))
        → (a b : Bool) → before next best ≡ a → before best next ≡ b → before next best ≡ not (before best next)
        → head (put_by before best (put_by before next (sorted_by before rest))) ≡ Some (fold (better before) (better before best next) rest)
    by_test of_best of_next true true is back says = cc
    by_test of_best of_next true false is back says =
        not_first before order next best is back (sorted_by before rest)
        ∙ (of_next ∙ ap (λ test. Some (fold (better before) (cond test next best) rest)) (sym is))
    by_test of_best of_next false true is back says =
        ap head (put_twice before order best next (back ∙ ap not (sym is)) (sorted_by before rest))
        ∙ (not_first before order best next back is (sorted_by before rest)
        ∙ (of_best ∙ ap (λ test. Some (fold (better before) (cond test next best) rest)) (sym is)))
    by_test of_best of_next false false is back says = cc

-- the first that passes in order is the least of those that pass
pub first_is_least : (before : Waiter → Waiter → Bool) → IsOrder before → (passes : Waiter → Bool) (waiters : List Waiter) → AreApart waiters
    → find passes (sorted_by before waiters) ≡ least before (filter passes waiters)
first_is_least before order passes waiters apart =
    find_is_head passes (sorted_by before waiters)
    ∙ (ap head (filter_of_sorted before order passes waiters apart) ∙ of_those (filter passes waiters) (filter_apart passes waiters apart))
  where
    of_those : (those : List Waiter) → AreApart those → head (sorted_by before those) ≡ least before those
    of_those [] apart = refl
    of_those (first ∷ rest) apart = head_is_least before order first rest apart
