-- The first of what is there that passes a test: in sorted files, and in files by their destinations and in a set.
use Rattle.std.proofs.Common.{◌≡◌, ℕ, suc, ◌<◌, ◌≤◌, ◌⊎◌, inl, inr, Bool, true, false, List, [], ◌∷◌, length, Option, Some, None, refl, ap, sym, ◌∙◌, arith}
use Rattle.std.specs.Prelude.{not, nat_lt, ◌==◌, ◌||◌, ◌&&◌, find, slice_get, if◌then◌else◌}
use Rattle.std.proofs.lemmas.Bool.{eqb-true, and_parts, and_from, or_cases, or_left, or_right}
use Rattle.std.proofs.lemmas.Bool.Decides.{nat_tests}
use Rattle.ordered.specs.Orders.{AreSortedBy, has_key, first_from}
use Rattle.ordered.specs.ByNumbers.{is_first_by}
use Rattle.fts_heads.specs.declared.ripe_file.RipeFile.{RipeFile}
use Rattle.fts_heads.specs.declared.crowd.Own.{Own}
use Rattle.fts_heads.specs.declared.heads.TheConstants.{MOST_DESTS}
use Rattle.fts_heads.specs.RipeFiles.{goes_by_group, by_group}
use Rattle.fts_heads.specs.Crowd.{is_there, own_file, stand_of, own_at, is_own, is_from, sooner, dest_or_least, with_own, IsLeast}
use Rattle.fts_heads.proofs.Found.{no, is_found, none_found}
use Rattle.fts_heads.proofs.Ranges.{to_false, no_greater_dest, goes_before}
use Rattle.fts_heads.proofs.Owned.{has_own, sorted_own, own_is, own_itself, own_known}

-- what is found in sorted files is the first that passes
pub find_least : (files : List RipeFile) (passes : RipeFile → Bool) → AreSortedBy goes_by_group files
    → IsLeast (λ file. has_key goes_by_group file files) passes (find passes files)
find_least files passes sorted = by_answer (find passes files) refl
  where
    by_answer : (answer : Option RipeFile) → find passes files ≡ answer → IsLeast (λ file. has_key goes_by_group file files) passes answer
    by_answer None is = λ file there. none_found goes_by_group by_group passes files is file there
    by_answer (Some found) is =
        let first = is_found goes_by_group by_group passes files found sorted is in
        (first.there, (first.passing, λ file there passed. first.least file there passed))

-- and the first that passes is found
pub least_found : (files : List RipeFile) (passes : RipeFile → Bool) (answer : Option RipeFile) → AreSortedBy goes_by_group files
    → IsLeast (λ file. has_key goes_by_group file files) passes answer → answer ≡ find passes files
least_found files passes answer sorted least = by_both answer (find passes files) least (find_least files passes sorted)
  where
    by_both : (one other : Option RipeFile) → IsLeast (λ file. has_key goes_by_group file files) passes one
        → IsLeast (λ file. has_key goes_by_group file files) passes other → one ≡ other
    by_both None None one other = refl
    by_both None (Some found) one other = no (sym other.1.0 ∙ one found other.0)
    by_both (Some found) None one other = no (sym one.1.0 ∙ other found one.0)
    by_both (Some found) (Some too) one other =
        ap (λ (file : RipeFile). Some file) (by_group.total found too (other.1.1 found one.0 one.1.0) (one.1.1 too other.0 other.1.0))

-- where as much is there, it is the first as well
pub same_least : (there other : RipeFile → Bool) (passes : RipeFile → Bool) (answer : Option RipeFile) → ((file : RipeFile) → there file ≡ other file)
    → IsLeast there passes answer → IsLeast other passes answer
same_least there other passes None same least = λ file is. least file (same file ∙ is)
same_least there other passes (Some found) same least =
    (sym (same found) ∙ least.0, (least.1.0, λ file is passed. least.1.1 file (same file ∙ is) passed))

-- of two firsts the one that stands first is the first of both
pub both_least : (there other passes : RipeFile → Bool) (one two : Option RipeFile) → IsLeast there passes one → IsLeast other passes two
    → IsLeast (λ file. there file || other file) passes (sooner one two)
both_least there other passes None None first second = λ file is. by_side file (or_cases (there file) (other file) is)
  where
    by_side : (file : RipeFile) → (there file ≡ true) ⊎ (other file ≡ true) → passes file ≡ false
    by_side file (inl here) = first file here
    by_side file (inr here) = second file here
both_least there other passes None (Some found) first second =
    (or_right (there found) (other found) second.0, (second.1.0, λ file is passed. by_side file passed (or_cases (there file) (other file) is)))
  where
    by_side : (file : RipeFile) → passes file ≡ true → (there file ≡ true) ⊎ (other file ≡ true) → goes_by_group file found ≡ false
    by_side file passed (inl here) = no (sym passed ∙ first file here)
    by_side file passed (inr here) = second.1.1 file here passed
both_least there other passes (Some found) None first second =
    (or_left (there found) (other found) first.0, (first.1.0, λ file is passed. by_side file passed (or_cases (there file) (other file) is)))
  where
    by_side : (file : RipeFile) → passes file ≡ true → (there file ≡ true) ⊎ (other file ≡ true) → goes_by_group file found ≡ false
    by_side file passed (inl here) = first.1.1 file here passed
    by_side file passed (inr here) = no (sym passed ∙ second file here)
both_least there other passes (Some found) (Some too) first second = by_test (goes_by_group too found) refl
  where
    by_test : (answer : Bool) → goes_by_group too found ≡ answer
        → IsLeast (λ file. there file || other file) passes (if answer then Some too else Some found)
    by_test true goes =
        (or_right (there too) (other too) second.0, (second.1.0, λ file is passed. by_side file passed (or_cases (there file) (other file) is)))
      where
        by_side : (file : RipeFile) → passes file ≡ true → (there file ≡ true) ⊎ (other file ≡ true) → goes_by_group file too ≡ false
        by_side file passed (inl here) = to_false (goes_by_group file too) (λ before.
            sym (by_group.transitive file too found before goes) ∙ first.1.1 file here passed)
        by_side file passed (inr here) = second.1.1 file here passed
    by_test false stays =
        (or_left (there found) (other found) first.0, (first.1.0, λ file is passed. by_side file passed (or_cases (there file) (other file) is)))
      where
        by_side : (file : RipeFile) → passes file ≡ true → (there file ≡ true) ⊎ (other file ≡ true) → goes_by_group file found ≡ false
        by_side file passed (inl here) = first.1.1 file here passed
        by_side file passed (inr here) = to_false (goes_by_group file found) (λ before. by_order before (goes_by_group found too) refl)
          where
            by_order : goes_by_group file found ≡ true → (answer : Bool) → goes_by_group found too ≡ answer → true ≡ false
            by_order before true behind = sym (by_group.transitive file found too before behind) ∙ second.1.1 file here passed
            by_order before false level =
                sym before ∙ (ap (goes_by_group file) (by_group.total found too level stays) ∙ second.1.1 file here passed)

-- so what is found of both is found of all
pub with_least : (own : List Own) (files : List RipeFile) (passes : RipeFile → Bool) (one other : Option RipeFile) → AreSortedBy goes_by_group files
    → ((file : RipeFile) → is_own own file ≡ true → has_key goes_by_group file files ≡ false) → IsLeast (is_own own) passes one
    → IsLeast (λ file. has_key goes_by_group file files) passes other → sooner one other ≡ find passes (with_own own files)
with_least own files passes one other sorted apart first second =
    least_found (with_own own files) passes (sooner one other) (sorted_own own files sorted apart)
    (same_least (λ file. is_own own file || has_key goes_by_group file files) (λ file. has_key goes_by_group file (with_own own files)) passes
    (sooner one other) (λ file. sym (has_own own files file))
    (both_least (is_own own) (λ file. has_key goes_by_group file files) passes one other first second))

-- a destination's own file is there, and is its only one
pub record IsOwnOf (own : List Own) (dest : ℕ) (found : RipeFile) : Type 0 where
  pub is : is_own own found ≡ true
  pub same : found.dest ≡ dest
  pub file : found.file ≡ suc dest
  pub alone : (other : RipeFile) → is_own own other ≡ true → other.dest ≡ dest → other ≡ found

pub own_found : (own : List Own) (dest : ℕ) (found : RipeFile) → own_at own dest ≡ Some found → IsOwnOf own dest found
own_found own dest found is = by_test (is_there (stand_of own dest)) refl is
  where
    by_test : (answer : Bool) → is_there (stand_of own dest) ≡ answer
        → (if answer then Some (own_file dest (stand_of own dest)) else None) ≡ Some found → IsOwnOf own dest found
    by_test false none is = cc
    by_test true there is =
        let same : own_file dest (stand_of own dest) ≡ found = cc in
        record {
          is = ap (is_own own) (sym same) ∙ own_itself own dest there;
          same = ap (λ (file : RipeFile). file.dest) (sym same);
          file = ap (λ (file : RipeFile). file.file) (sym same);
          alone = λ other here at. sym (own_is own other here) ∙ (ap (λ n. own_file n (stand_of own n)) at ∙ same);
        }

pub own_none : (own : List Own) (dest : ℕ) → own_at own dest ≡ None → (other : RipeFile) → is_own own other ≡ true → other.dest ≡ dest → ⊥
own_none own dest is other here same = absurd (never (by_test (is_there (stand_of own dest)) refl is))
  where
    never : true ≡ false → ⊥
    never is = cc

    rest_of : Own → Bool
    rest_of slot = (slot.queue == other.queue) && ((slot.rank == other.rank) && (other.file == suc other.dest))

    by_test : (answer : Bool) → is_there (stand_of own dest) ≡ answer
        → (if answer then Some (own_file dest (stand_of own dest)) else None) ≡ None → true ≡ false
    by_test true there is = cc
    by_test false none is =
        sym (and_parts (is_there (stand_of own other.dest)) (rest_of (stand_of own other.dest)) here).0 ∙ (ap (λ n. is_there (stand_of own n)) same ∙ none)

-- of two files the one of the greater destination stands first
pub less_behind : (dest other queue other_queue : ℕ) (rest : Bool) → dest < other → is_first_by other dest (is_first_by queue other_queue rest) ≡ false
less_behind dest other queue other_queue rest less = grind (arith, nat_tests)

-- none stands before the first of sorted files
pub head_least : (files : List RipeFile) (found : RipeFile) → AreSortedBy goes_by_group files → slice_get files 0 ≡ Some found
    → (has_key goes_by_group found files ≡ true) × ((other : RipeFile) → has_key goes_by_group other files ≡ true → goes_by_group other found ≡ false)
head_least files found sorted is =
    let first = is_found goes_by_group by_group (λ file. true) files found sorted (found_first files ∙ is) in
    (first.there, λ other there. first.least other there refl)
  where
    found_first : (some : List RipeFile) → find (λ file. true) some ≡ slice_get some 0
    found_first [] = refl
    found_first (first ∷ rest) = refl

-- of a destination, from a file on: what is found from that file on, where it is of the destination
is_both : (n m : ℕ) (goes : Bool) → n ≡ m → goes ≡ false → ((n == m) && not goes) ≡ true
is_both n m goes same is = grind (arith, nat_tests)

not_true : (test : Bool) → not test ≡ true → test ≡ false
not_true true is = cc
not_true false is = refl

pub from_first : (files : List RipeFile) (start found : RipeFile) → AreSortedBy goes_by_group files → first_from goes_by_group start files ≡ Some found
    → found.dest ≡ start.dest → IsLeast (λ file. has_key goes_by_group file files) (is_from start) (Some found)
from_first files start found sorted is same =
    let first = is_found goes_by_group by_group (λ other. not (goes_by_group other start)) files found sorted is in (
      first.there,
      (
        is_both found.dest start.dest (goes_by_group found start) same (not_true (goes_by_group found start) first.passing),
        λ file there passed. first.least file there (and_parts (file.dest == start.dest) (not (goes_by_group file start)) passed).1,
      ),
    )

pub from_other : (files : List RipeFile) (start found : RipeFile) → AreSortedBy goes_by_group files → first_from goes_by_group start files ≡ Some found
    → (found.dest ≡ start.dest → ⊥) → IsLeast (λ file. has_key goes_by_group file files) (is_from start) None
from_other files start found sorted is other = λ file there. to_false (is_from start file) (λ passed.
    let first = is_found goes_by_group by_group (λ some. not (goes_by_group some start)) files found sorted is in
    let parts = and_parts (file.dest == start.dest) (not (goes_by_group file start)) passed in
    let same : file.dest ≡ start.dest = eqb-true file.dest start.dest parts.0 in
    let most : found.dest ≤ start.dest =
    no_greater_dest start.dest start.queue found.dest found.queue _ (not_true (goes_by_group found start) first.passing) in
    sym (goes_before file.dest found.dest file.queue found.queue _ (omega (arith, same, most)) (λ one. absurd (other (sym one ∙ same))))
    ∙ first.least file there parts.1)

pub from_none : (files : List RipeFile) (start : RipeFile) → first_from goes_by_group start files ≡ None
    → IsLeast (λ file. has_key goes_by_group file files) (is_from start) None
from_none files start is = λ file there. to_false (is_from start file) (λ passed.
    sym (and_parts (file.dest == start.dest) (not (goes_by_group file start)) passed).1
    ∙ none_found goes_by_group by_group (λ other. not (goes_by_group other start)) files is file there)

-- tests that agree on what is there have the same first
pub same_passes : (there passes other : RipeFile → Bool) (answer : Option RipeFile) → ((file : RipeFile) → there file ≡ true → passes file ≡ other file)
    → IsLeast there passes answer → IsLeast there other answer
same_passes there passes other None same least = λ file is. sym (same file is) ∙ least file is
same_passes there passes other (Some found) same least =
    (least.0, (sym (same found least.0) ∙ least.1.0, λ file is passed. least.1.1 file is (same file is ∙ passed)))

-- where the destination's own file does not stand behind a file, those that do are of lesser destinations
pub below_least : (own : List Own) (file : RipeFile) (least : ℕ) (answer : Option RipeFile)
    → ((other : RipeFile) → is_own own other ≡ true → other.dest ≡ file.dest → goes_by_group file other ≡ false)
    → IsLeast (is_own own) (λ other. nat_lt other.dest file.dest && not (nat_lt other.dest least)) answer
    → IsLeast (is_own own) (λ other. goes_by_group file other && not (nat_lt other.dest least)) answer
below_least own file least answer none first =
    same_passes (is_own own) (λ other. nat_lt other.dest file.dest && not (nat_lt other.dest least))
    (λ other. goes_by_group file other && not (nat_lt other.dest least)) answer
    (λ other is. ap (λ (test : Bool). test && not (nat_lt other.dest least)) (sym (tests other.dest file.dest _ (λ same. none other is same)))) first
  where
    tests : (other dest : ℕ) (rest : Bool) → (other ≡ dest → is_first_by other dest rest ≡ false) → is_first_by other dest rest ≡ nat_lt other dest
    tests other dest rest level = by_test (other == dest) refl
      where
        by_test : (answer : Bool) → (other == dest) ≡ answer → is_first_by other dest rest ≡ nat_lt other dest
        by_test true same =
            level (eqb-true other dest same) ∙ not_less other dest same
          where
            not_less : (n m : ℕ) → (n == m) ≡ true → false ≡ nat_lt n m
            not_less n m same = grind (arith, nat_tests)
        by_test false apart = grind (arith, nat_tests)

-- of the number that no destination has no file stands by its destination
apart_numbers : (n m : ℕ) → n < m → (n == m) ≡ false
apart_numbers n m less = grind (arith, nat_tests)

same_numbers : (n m : ℕ) → n ≡ m → (n == m) ≡ true
same_numbers n m same = grind (arith, nat_tests)

own_without_dest : (own : List Own) → length own ≤ MOST_DESTS → IsLeast (is_own own) (λ file. file.dest == MOST_DESTS) None
own_without_dest own few = λ file is. apart_numbers file.dest MOST_DESTS (omega (arith, own_known own file is, few))

module _ (own : List Own) (files : List RipeFile) (few : length own ≤ MOST_DESTS) (sorted : AreSortedBy goes_by_group files)
    (apart : (file : RipeFile) → is_own own file ≡ true → has_key goes_by_group file files ≡ false) where
  -- so it is the first of the others that has it, or none does
  pub first_without : (found : RipeFile) → slice_get files 0 ≡ Some found → found.dest ≡ MOST_DESTS
      → Some found ≡ find (λ file. file.dest == MOST_DESTS) (with_own own files)
  first_without found is same =
      let first = head_least files found sorted is in
      with_least own files (λ file. file.dest == MOST_DESTS) None (Some found) sorted apart (own_without_dest own few)
      (first.0, (same_numbers found.dest MOST_DESTS same, λ file there passed. first.1 file there))

  pub none_without : (found : RipeFile) → slice_get files 0 ≡ Some found → found.dest < MOST_DESTS
      → None ≡ find (λ file. file.dest == MOST_DESTS) (with_own own files)
  none_without found is less =
      let first = head_least files found sorted is in
      with_least own files (λ file. file.dest == MOST_DESTS) None None sorted apart (own_without_dest own few)
      (λ file there. to_false (file.dest == MOST_DESTS) (λ same.
      sym (goes_before file.dest found.dest file.queue found.queue _ (omega (arith, eqb-true file.dest MOST_DESTS same, less))
      (λ one. absurd (clash file one same)))
      ∙ first.1 file there))
    where
      clash : (file : RipeFile) → file.dest ≡ found.dest → (file.dest == MOST_DESTS) ≡ true → ⊥
      clash file one same = omega (arith, one, eqb-true file.dest MOST_DESTS same, less)

  pub empty_without : slice_get files 0 ≡ None → None ≡ find (λ file. file.dest == MOST_DESTS) (with_own own files)
  empty_without is =
      with_least own files (λ file. file.dest == MOST_DESTS) None None sorted apart (own_without_dest own few)
      (λ file there. no (sym there ∙ nothing files is file))
    where
      nothing : (some : List RipeFile) → slice_get some 0 ≡ None → (file : RipeFile) → has_key goes_by_group file some ≡ false
      nothing [] is file = refl
      nothing (first ∷ rest) is file = cc

-- where the destination's own file stands before a file, or isn't there, those that don't are of lesser destinations
pub from_least : (own : List Own) (start : RipeFile) (least : ℕ) (answer : Option RipeFile) → IsLeast (is_own own) (is_from start) None
    → IsLeast (is_own own) (λ other. nat_lt other.dest start.dest && not (nat_lt other.dest least)) answer
    → IsLeast (is_own own) (λ other. not (goes_by_group other start) && not (nat_lt other.dest least)) answer
from_least own start least answer none first =
    same_passes (is_own own) (λ other. nat_lt other.dest start.dest && not (nat_lt other.dest least))
    (λ other. not (goes_by_group other start) && not (nat_lt other.dest least)) answer
    (λ other is. ap (λ (test : Bool). test && not (nat_lt other.dest least)) (sym (tests other.dest start.dest _ (none other is)))) first
  where
    tests : (other dest : ℕ) (rest : Bool) → ((other == dest) && not (is_first_by dest other rest)) ≡ false → not (is_first_by dest other rest) ≡ nat_lt other dest
    tests other dest rest level = by_test (other == dest) refl level
      where
        by_test : (answer : Bool) → (other == dest) ≡ answer → (answer && not (is_first_by dest other rest)) ≡ false
            → not (is_first_by dest other rest) ≡ nat_lt other dest
        by_test true same is = is ∙ not_less other dest same
          where
            not_less : (n m : ℕ) → (n == m) ≡ true → false ≡ nat_lt n m
            not_less n m same = grind (arith, nat_tests)
        by_test false apart is = grind (arith, nat_tests)

-- who stands behind one that is there and passes is not the first
more_least : (there more passes : RipeFile → Bool) (answer : Option RipeFile) (one : RipeFile) → there one ≡ true → passes one ≡ true
    → ((file : RipeFile) → more file ≡ true → goes_by_group one file ≡ true) → IsLeast there passes answer
    → IsLeast (λ file. there file || more file) passes answer
more_least there more passes None one here passed behind least = no (sym passed ∙ least one here)
more_least there more passes (Some found) one here passed behind least =
    (or_left (there found) (more found) least.0, (least.1.0, λ file is passes_too. by_side file passes_too (or_cases (there file) (more file) is)))
  where
    by_side : (file : RipeFile) → passes file ≡ true → (there file ≡ true) ⊎ (more file ≡ true) → goes_by_group file found ≡ false
    by_side file passes_too (inl is) = least.1.1 file is passes_too
    by_side file passes_too (inr is) = to_false (goes_by_group file found) (λ before.
        sym (by_group.transitive one file found (behind file is) before) ∙ least.1.1 one here passed)

-- a test on what passes as one on what is there
within_least : (there passes bound : RipeFile → Bool) (answer : Option RipeFile) → IsLeast there (λ file. passes file && bound file) answer
    → IsLeast (λ file. there file && bound file) passes answer
within_least there passes bound None least = λ file is.
    let parts = and_parts (there file) (bound file) is in
    only (passes file) (bound file) parts.1 (least file parts.0)
  where
    only : (one other : Bool) → other ≡ true → (one && other) ≡ false → one ≡ false
    only one other is none = grind (arith, nat_tests)
within_least there passes bound (Some found) least =
    let parts = and_parts (passes found) (bound found) least.1.0 in (
      and_from (there found) (bound found) least.0 parts.1,
      (
        parts.0,
        λ file is passed.
            let here = and_parts (there file) (bound file) is in
            least.1.1 file here.0 (and_from (passes file) (bound file) passed here.1),
      ),
    )

-- whether a file stands by a destination not less than another file's, or by a lesser one
abbrev near : List Own → RipeFile → RipeFile → Bool
near own found file = is_own own file && not (nat_lt file.dest found.dest)

abbrev far : List Own → RipeFile → RipeFile → Bool
far own found file = is_own own file && nat_lt file.dest found.dest

-- own files of destinations less than that of what is found of the others stand behind it: so they need not be looked at
pub bound_least : (own : List Own) (files : List RipeFile) (passes : RipeFile → Bool) (one other : Option RipeFile) → AreSortedBy goes_by_group files
    → ((file : RipeFile) → is_own own file ≡ true → has_key goes_by_group file files ≡ false)
    → IsLeast (is_own own) (λ file. passes file && not (nat_lt file.dest (dest_or_least other))) one
    → IsLeast (λ file. has_key goes_by_group file files) passes other → sooner one other ≡ find passes (with_own own files)
bound_least own files passes one None sorted apart first second =
    with_least own files passes one None sorted apart
    (same_passes (is_own own) (λ file. passes file && not (nat_lt file.dest 0)) passes one (λ file is. all (passes file) file.dest) first) second
  where
    all : (test : Bool) (n : ℕ) → (test && not (nat_lt n 0)) ≡ test
    all test n = grind (arith, nat_tests)
bound_least own files passes one (Some found) sorted apart first second =
    least_found (with_own own files) passes (sooner one (Some found)) (sorted_own own files sorted apart)
    (same_least (λ file. (near own found file || has_key goes_by_group file files) || far own found file) (λ file. has_key goes_by_group file (with_own own files)) passes
    (sooner one (Some found))
    (λ file. all (is_own own file) (nat_lt file.dest found.dest) (has_key goes_by_group file files) ∙ sym (has_own own files file))
    (more_least (λ file. near own found file || has_key goes_by_group file files) (far own found) passes (sooner one (Some found)) found
    (or_right (near own found found) (has_key goes_by_group found files) second.0) second.1.0 behind
    (both_least (near own found) (λ file. has_key goes_by_group file files) passes one (Some found)
    (within_least (is_own own) passes (λ file. not (nat_lt file.dest found.dest)) one first) second)))
  where
    all : (is less have : Bool) → (((is && not less) || have) || (is && less)) ≡ (is || have)
    all is less have = grind (arith, nat_tests)

    behind : (file : RipeFile) → far own found file ≡ true → goes_by_group found file ≡ true
    behind file is =
        let less : file.dest < found.dest = is_less file.dest found.dest (and_parts (is_own own file) (nat_lt file.dest found.dest) is).1 in
        goes_before found.dest file.dest found.queue file.queue _ (omega (arith, less)) (λ same. absurd (clash same less))
      where
        is_less : (n m : ℕ) → nat_lt n m ≡ true → n < m
        is_less n m less = grind (arith, nat_tests)

        clash : found.dest ≡ file.dest → file.dest < found.dest → ⊥
        clash same less = omega (arith, same, less)

-- what does not stand before a file, or stands behind it, is of no greater destination
pub next_bound : (files : List RipeFile) (file : RipeFile) → AreSortedBy goes_by_group files → dest_or_least (find (goes_by_group file) files) ≤ file.dest
next_bound files file sorted = by_answer (find (goes_by_group file) files) refl
  where
    most : (dest other queue other_queue : ℕ) (rest : Bool) → is_first_by other dest (is_first_by queue other_queue rest) ≡ true → other ≤ dest
    most dest other queue other_queue rest goes = grind (arith, nat_tests)

    by_answer : (answer : Option RipeFile) → find (goes_by_group file) files ≡ answer → dest_or_least answer ≤ file.dest
    by_answer None is = omega arith
    by_answer (Some found) is =
        most file.dest found.dest file.queue found.queue _ (is_found goes_by_group by_group (goes_by_group file) files found sorted is).passing

pub from_bound : (files : List RipeFile) (file : RipeFile) → AreSortedBy goes_by_group files → dest_or_least (first_from goes_by_group file files) ≤ file.dest
from_bound files file sorted = by_answer (first_from goes_by_group file files) refl
  where
    by_answer : (answer : Option RipeFile) → first_from goes_by_group file files ≡ answer → dest_or_least answer ≤ file.dest
    by_answer None is = omega arith
    by_answer (Some found) is =
        no_greater_dest file.dest file.queue found.dest found.queue _
        (not_true (goes_by_group found file)
        (is_found goes_by_group by_group (λ other. not (goes_by_group other file)) files found sorted is).passing)
