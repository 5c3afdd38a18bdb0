-- Files by their destinations and in a set: which are there, that they are sorted, and what is there after one more and one less.
use Rattle.std.proofs.Common.{◌≡◌, ℕ, suc, zero, ◌<◌, ◌≤◌, ◌+◌, ◌-◌, ◌⊎◌, inl, inr, Bool, true, false, List, length, max, refl, ap, sym, ◌∙◌, arith}
use Rattle.std.specs.Prelude.{not, nat_lt, ◌==◌, ◌||◌, ◌&&◌, slice_set, if◌then◌else◌}
use Rattle.std.proofs.lemmas.Bool.{eqb-true, and_parts, cases_lt}
use Rattle.std.proofs.lemmas.Bool.Decides.{nat_tests}
use Rattle.std.proofs.lemmas.List.{get_or-set_same, get_or-set_other, get_or_past, length-set}
use Rattle.ordered.specs.Orders.{AreSortedBy, KeySet, has_key, put_by, without, differs}
use Rattle.ordered.specs.ByNumbers.{is_first_by}
use Rattle.ordered.proofs.Lists.{put_sorted, filter_sorted, length-put_by, length-without}
use Rattle.ordered.proofs.Members.{has_put, has_without, one_of}
use Rattle.fts_heads.specs.declared.ripe_file.RipeFile.{RipeFile}
use Rattle.fts_heads.specs.declared.crowd.Own.{Own}
use Rattle.fts_heads.specs.declared.heads.TheConstants.{MOST_QUEUES, MOST_DESTS}
use Rattle.fts_heads.specs.RipeFiles.{goes_by_group, by_group}
use Rattle.fts_heads.specs.Heads.{is_one}
use Rattle.fts_heads.specs.Crowd.{nobody, is_there, own_file, stand_of, is_own_of, is_own, may_own, with_first, with_own, AreCrowd}
use Rattle.fts_heads.proofs.Found.{no, same_keys}
use Rattle.fts_heads.proofs.Ranges.{to_false}

-- of a destination's own file and another of the destination, whether these are one
pub same_numbers : (queue other_queue dest rank other_rank file : ℕ)
    → not (((is_first_by dest dest (is_first_by queue other_queue (is_first_by rank other_rank (nat_lt (suc dest) file)))))
    || (is_first_by dest dest (is_first_by other_queue queue (is_first_by other_rank rank (nat_lt file (suc dest))))))
    ≡ ((queue == other_queue) && ((rank == other_rank) && (file == suc dest)))
same_numbers queue other_queue dest rank other_rank file = grind (arith, nat_tests)

-- whether a destination's own file is another of this destination
own_one : (own : Own) (file : RipeFile) → is_there own ≡ true → is_one (own_file file.dest own) file ≡ is_own_of own file
own_one own file there =
    same_numbers own.queue file.queue file.dest own.rank file.rank file.file
    ∙ ap (λ (test : Bool). test && ((own.queue == file.queue) && ((own.rank == file.rank) && (file.file == suc file.dest)))) (sym there)

-- that of another destination is another
own_other : (dest : ℕ) (own : Own) (file : RipeFile) → (file.dest == dest) ≡ false → is_one (own_file dest own) file ≡ false
own_other dest own file other = to_false (is_one (own_file dest own) file) (λ one.
    sym (same dest) ∙ (ap (λ (some : RipeFile). some.dest == dest) (one_of goes_by_group by_group (own_file dest own) file one) ∙ other))
  where
    same : (n : ℕ) → (n == n) ≡ true
    same n = grind (arith, nat_tests)

-- a destination's own file is its own
pub own_itself : (own : List Own) (dest : ℕ) → is_there (stand_of own dest) ≡ true → is_own own (own_file dest (stand_of own dest)) ≡ true
own_itself own dest there =
    ap (λ (test : Bool). test && same_as (stand_of own dest)) there ∙ all (stand_of own dest).queue (stand_of own dest).rank dest
  where
    same_as : Own → Bool
    same_as some = (some.queue == some.queue) && ((some.rank == some.rank) && (suc dest == suc dest))

    all : (queue rank dest : ℕ) → ((queue == queue) && ((rank == rank) && (suc dest == suc dest))) ≡ true
    all queue rank dest = grind (arith, nat_tests)

-- bits
none_first : (n : ℕ) (own have : Bool) → have ≡ ((nat_lt n 0 && own) || have)
none_first n own have = grind (arith, nat_tests)

one_more : (n dest : ℕ) (own have : Bool) → (n == dest) ≡ true → (own || ((nat_lt n dest && own) || have)) ≡ ((nat_lt n (suc dest) && own) || have)
one_more n dest own have same = grind (arith, nat_tests)

no_more : (n dest : ℕ) (own have : Bool) → (n == dest) ≡ false → (false || ((nat_lt n dest && own) || have)) ≡ ((nat_lt n (suc dest) && own) || have)
no_more n dest own have other = grind (arith, nat_tests)

nobody_more : (n dest : ℕ) (own have : Bool) → ((n == dest) ≡ true → own ≡ false) → ((nat_lt n dest && own) || have) ≡ ((nat_lt n (suc dest) && own) || have)
nobody_more n dest own have none = by_test (n == dest) refl
  where
    by_test : (answer : Bool) → (n == dest) ≡ answer → ((nat_lt n dest && own) || have) ≡ ((nat_lt n (suc dest) && own) || have)
    by_test true is =
        ap (λ (test : Bool). (nat_lt n dest && test) || have) (none is)
        ∙ (bits (nat_lt n dest) (nat_lt n (suc dest)) have ∙ sym (ap (λ (test : Bool). (nat_lt n (suc dest) && test) || have) (none is)))
      where
        bits : (one other have : Bool) → ((one && false) || have) ≡ ((other && false) || have)
        bits one other have = grind (arith, nat_tests)
    by_test false is = no_more n dest own have is

-- which files are there, of those of so many destinations and the others
has_first_own : (own : List Own) (dest : ℕ) (files : List RipeFile) (file : RipeFile)
    → has_key goes_by_group file (with_first dest own files) ≡ ((nat_lt file.dest dest && is_own own file) || has_key goes_by_group file files)
has_first_own own zero files file = none_first file.dest (is_own own file) (has_key goes_by_group file files)
has_first_own own (suc dest) files file = by_test (is_there (stand_of own dest)) refl (has_first_own own dest files file)
  where
    have : Bool
    have = has_key goes_by_group file files

    by_test : (answer : Bool) → is_there (stand_of own dest) ≡ answer
        → has_key goes_by_group file (with_first dest own files) ≡ ((nat_lt file.dest dest && is_own own file) || have)
        → has_key goes_by_group file
        (if answer then put_by goes_by_group (own_file dest (stand_of own dest)) (with_first dest own files) else with_first dest own files)
        ≡ ((nat_lt file.dest (suc dest) && is_own own file) || have)
    by_test true there behind =
        has_put goes_by_group (own_file dest (stand_of own dest)) file (with_first dest own files)
        ∙ (ap (λ (test : Bool). is_one (own_file dest (stand_of own dest)) file || test) behind
        ∙ by_dest (file.dest == dest) refl)
      where
        by_dest : (answer : Bool) → (file.dest == dest) ≡ answer
            → (is_one (own_file dest (stand_of own dest)) file || ((nat_lt file.dest dest && is_own own file) || have))
            ≡ ((nat_lt file.dest (suc dest) && is_own own file) || have)
        by_dest true same =
            ap (λ (test : Bool). test || ((nat_lt file.dest dest && is_own own file) || have)) (it_is (eqb-true file.dest dest same))
            ∙ one_more file.dest dest (is_own own file) have same
          where
            it_is : file.dest ≡ dest → is_one (own_file dest (stand_of own dest)) file ≡ is_own own file
            it_is is =
                ap (λ n. is_one (own_file n (stand_of own n)) file) (sym is)
                ∙ own_one (stand_of own file.dest) file (ap (λ n. is_there (stand_of own n)) is ∙ there)
        by_dest false other =
            ap (λ (test : Bool). test || ((nat_lt file.dest dest && is_own own file) || have)) (own_other dest (stand_of own dest) file other)
            ∙ no_more file.dest dest (is_own own file) have other
    by_test false none behind =
        behind
        ∙ nobody_more file.dest dest (is_own own file) have
        (λ same. ap (λ (test : Bool). test && same_as (stand_of own file.dest)) (ap (λ n. is_there (stand_of own n)) (eqb-true file.dest dest same) ∙ none))
      where
        same_as : Own → Bool
        same_as some = (some.queue == file.queue) && ((some.rank == file.rank) && (file.file == suc file.dest))

-- and of all
pub has_own : (own : List Own) (files : List RipeFile) (file : RipeFile)
    → has_key goes_by_group file (with_own own files) ≡ (is_own own file || has_key goes_by_group file files)
has_own own files file =
    has_first_own own (length own) files file ∙ ap (λ (test : Bool). test || has_key goes_by_group file files) (by_side (cases_lt file.dest (length own)))
  where
    bits : (n many : ℕ) (own : Bool) → n < many → (nat_lt n many && own) ≡ own
    bits n many own less = grind (arith, nat_tests)

    by_side : (file.dest < length own) ⊎ (length own ≤ file.dest) → (nat_lt file.dest (length own) && is_own own file) ≡ is_own own file
    by_side (inl less) = bits file.dest (length own) (is_own own file) less
    by_side (inr past) =
        ap (λ (some : Own). nat_lt file.dest (length own) && is_own_of some file) (get_or_past own file.dest nobody past)
        ∙ (both (nat_lt file.dest (length own)) ∙ sym (ap (λ (some : Own). is_own_of some file) (get_or_past own file.dest nobody past)))
      where
        both : (test : Bool) → (test && false) ≡ false
        both true = refl
        both false = refl

-- they are sorted
sorted_first : (own : List Own) (dest : ℕ) (files : List RipeFile) → AreSortedBy goes_by_group files
    → ((file : RipeFile) → is_own own file ≡ true → has_key goes_by_group file files ≡ false) → AreSortedBy goes_by_group (with_first dest own files)
sorted_first own zero files sorted apart = sorted
sorted_first own (suc dest) files sorted apart = by_test (is_there (stand_of own dest)) refl (sorted_first own dest files sorted apart)
  where
    by_test : (answer : Bool) → is_there (stand_of own dest) ≡ answer → AreSortedBy goes_by_group (with_first dest own files)
        → AreSortedBy goes_by_group
        (if answer then put_by goes_by_group (own_file dest (stand_of own dest)) (with_first dest own files) else with_first dest own files)
    by_test true there behind =
        put_sorted goes_by_group by_group (own_file dest (stand_of own dest)) (with_first dest own files) behind
        (has_first_own own dest files (own_file dest (stand_of own dest))
        ∙ (bits dest (is_own own (own_file dest (stand_of own dest))) (has_key goes_by_group (own_file dest (stand_of own dest)) files)
        ∙ apart (own_file dest (stand_of own dest)) (own_itself own dest there)))
      where
        bits : (n : ℕ) (own have : Bool) → ((nat_lt n n && own) || have) ≡ have
        bits n own have = grind (arith, nat_tests)
    by_test false none behind = behind

pub sorted_own : (own : List Own) (files : List RipeFile) → AreSortedBy goes_by_group files
    → ((file : RipeFile) → is_own own file ≡ true → has_key goes_by_group file files ≡ false) → AreSortedBy goes_by_group (with_own own files)
sorted_own own files sorted apart = sorted_first own (length own) files sorted apart

-- no fewer than the others
pub fewer : (own : List Own) (dest : ℕ) (files : List RipeFile) → length files ≤ length (with_first dest own files)
fewer own zero files = omega arith
fewer own (suc dest) files = by_test (is_there (stand_of own dest)) (fewer own dest files)
  where
    by_test : (answer : Bool) → length files ≤ length (with_first dest own files)
        → length files ≤ length (if answer then put_by goes_by_group (own_file dest (stand_of own dest)) (with_first dest own files) else with_first dest own files)
    by_test true behind = omega (arith, behind, length-put_by goes_by_group (own_file dest (stand_of own dest)) (with_first dest own files))
    by_test false behind = behind

-- what stands by its destination is the file
pub own_is : (own : List Own) (file : RipeFile) → is_own own file ≡ true → own_file file.dest (stand_of own file.dest) ≡ file
own_is own file is =
    let slot = stand_of own file.dest in
    let there =
    (and_parts (is_there slot) ((slot.queue == file.queue) && ((slot.rank == file.rank) && (file.file == suc file.dest))) is).0 in
    one_of goes_by_group by_group (own_file file.dest slot) file (own_one slot file there ∙ is)

-- so that is known
pub own_known : (own : List Own) (file : RipeFile) → is_own own file ≡ true → file.dest < length own
own_known own file is = by_side (cases_lt file.dest (length own))
  where
    by_side : (file.dest < length own) ⊎ (length own ≤ file.dest) → file.dest < length own
    by_side (inl less) = less
    by_side (inr past) = no (sym is ∙ ap (λ (some : Own). is_own_of some file) (get_or_past own file.dest nobody past))

-- another destination's file is another
apart_file : (file other : RipeFile) → (other.dest == file.dest) ≡ false → is_one file other ≡ false
apart_file file other apart = to_false (is_one file other) (λ one.
    sym (same file.dest) ∙ (ap (λ (some : RipeFile). some.dest == file.dest) (one_of goes_by_group by_group file other one) ∙ apart))
  where
    same : (n : ℕ) → (n == n) ≡ true
    same n = grind (arith, nat_tests)

never : (n m : ℕ) → (n == m) ≡ false → n ≡ m → ⊥
never n m other same = absurd (none (sym (ap (λ k. k == m) same ∙ refl_is m) ∙ other))
  where
    refl_is : (m : ℕ) → (m == m) ≡ true
    refl_is m = grind (arith, nat_tests)

    none : true ≡ false → ⊥
    none is = cc

-- what a file says that may come to stand by its destination
record MayOwn (own : List Own) (file : RipeFile) : Type 0 where
  brought : file.file ≡ suc file.dest
  there : is_there (record { queue = file.queue; rank = file.rank }) ≡ true
  known : file.dest < length own
  none : is_there (stand_of own file.dest) ≡ false

may : (own : List Own) (file : RipeFile) → may_own own file ≡ true → MayOwn own file
may own file is =
    let all =
    and_parts ((file.file == suc file.dest) && not (file.queue == MOST_QUEUES))
    (nat_lt file.dest (length own) && not (is_there (stand_of own file.dest))) is in
    let front = and_parts (file.file == suc file.dest) (not (file.queue == MOST_QUEUES)) all.0 in
    let back = and_parts (nat_lt file.dest (length own)) (not (is_there (stand_of own file.dest))) all.1 in
    record {
      brought = eqb-true file.file (suc file.dest) front.0;
      there = front.1;
      known = less file.dest (length own) back.0;
      none = not_true (is_there (stand_of own file.dest)) back.1;
    }
  where
    less : (n m : ℕ) → nat_lt n m ≡ true → n < m
    less n m is = grind (arith, nat_tests)

    not_true : (test : Bool) → not test ≡ true → test ≡ false
    not_true true is = cc
    not_true false is = refl

-- with one more that stands by its destination
own_put : (own : List Own) (file : RipeFile) → MayOwn own file → (other : RipeFile)
    → is_own (slice_set own file.dest (record { queue = file.queue; rank = file.rank })) other ≡ (is_one file other || is_own own other)
own_put own file is other = by_dest (other.dest == file.dest) refl
  where
    own_stand : Own
    own_stand = record { queue = file.queue; rank = file.rank }

    or_false : (test : Bool) → test ≡ (test || false)
    or_false true = refl
    or_false false = refl

    by_dest : (answer : Bool) → (other.dest == file.dest) ≡ answer
        → is_own (slice_set own file.dest own_stand) other ≡ (is_one file other || is_own own other)
    by_dest true same =
        let dest : other.dest ≡ file.dest = eqb-true other.dest file.dest same in
        let slot : stand_of (slice_set own file.dest own_stand) other.dest ≡ own_stand =
        ap (stand_of (slice_set own file.dest own_stand)) dest ∙ get_or-set_same own file.dest own_stand nobody is.known in
        let file_is : own_file other.dest own_stand ≡ file =
        ap (λ n. own_file n own_stand) dest ∙ ap (λ n. record file { file = n }) (sym is.brought) in
        let none : is_own own other ≡ false =
        ap (λ (test : Bool). test && same_as (stand_of own other.dest)) (ap (λ n. is_there (stand_of own n)) dest ∙ is.none) in
        ap (λ (some : Own). is_own_of some other) slot
        ∙ (sym (own_one own_stand other is.there)
        ∙ (ap (λ (some : RipeFile). is_one some other) file_is
        ∙ (or_false (is_one file other)
        ∙ ap (λ (test : Bool). is_one file other || test) (sym none))))
      where
        same_as : Own → Bool
        same_as some = (some.queue == other.queue) && ((some.rank == other.rank) && (other.file == suc other.dest))
    by_dest false apart =
        ap (λ (some : Own). is_own_of some other)
        (get_or-set_other own file.dest other.dest own_stand nobody (never other.dest file.dest apart))
        ∙ ap (λ (test : Bool). test || is_own own other) (sym (apart_file file other apart))

-- and with one less
own_without : (own : List Own) (file : RipeFile) → is_own own file ≡ true → (other : RipeFile)
    → is_own (slice_set own file.dest nobody) other ≡ (is_own own other && differs goes_by_group file other)
own_without own file is other = by_dest (other.dest == file.dest) refl
  where
    gone : (have differ : Bool) → not differ ≡ have → false ≡ (have && differ)
    gone have differ same = grind (arith, nat_tests)

    stays : (have differ : Bool) → not differ ≡ false → have ≡ (have && differ)
    stays have differ apart = grind (arith, nat_tests)

    there : is_there (stand_of own file.dest) ≡ true
    there =
        let slot = stand_of own file.dest in
        (and_parts (is_there slot) ((slot.queue == file.queue) && ((slot.rank == file.rank) && (file.file == suc file.dest))) is).0

    by_dest : (answer : Bool) → (other.dest == file.dest) ≡ answer
        → is_own (slice_set own file.dest nobody) other ≡ (is_own own other && differs goes_by_group file other)
    by_dest true same =
        let dest : other.dest ≡ file.dest = eqb-true other.dest file.dest same in
        let slot : stand_of (slice_set own file.dest nobody) other.dest ≡ nobody =
        ap (stand_of (slice_set own file.dest nobody)) dest ∙ get_or-set_same own file.dest nobody nobody (own_known own file is) in
        let one : is_one file other ≡ is_own own other =
        ap (λ (some : RipeFile). is_one some other) (sym (own_is own file is))
        ∙ (ap (λ n. is_one (own_file n (stand_of own n)) other) (sym dest)
        ∙ own_one (stand_of own other.dest) other (ap (λ n. is_there (stand_of own n)) dest ∙ there)) in
        ap (λ (some : Own). is_own_of some other) slot ∙ gone (is_own own other) (differs goes_by_group file other) one
    by_dest false apart =
        ap (λ (some : Own). is_own_of some other) (get_or-set_other own file.dest other.dest nobody nobody (never other.dest file.dest apart))
        ∙ stays (is_own own other) (differs goes_by_group file other) (apart_file file other apart)

-- what is kept, and which files there are now
pub record IsNow (own : List Own) (many room : ℕ) (rest : KeySet RipeFile) (files : List RipeFile) : Type 0 where
  pub kept : AreCrowd own many room rest
  pub are : with_own own rest.keys ≡ files

-- files that are there as they should be, are these
now : (own : List Own) (many room : ℕ) (rest : KeySet RipeFile) (files : List RipeFile) → AreSortedBy goes_by_group rest.keys → AreSortedBy goes_by_group files
    → ((file : RipeFile) → is_own own file ≡ true → has_key goes_by_group file rest.keys ≡ false)
    → ((file : RipeFile) → (is_own own file || has_key goes_by_group file rest.keys) ≡ has_key goes_by_group file files)
    → many ≡ length files → length own ≤ MOST_DESTS → many ≤ room → room ≤ rest.room → IsNow own many room rest files
now own many room rest files sorted sorted_too apart same count few inside places =
    let are =
    same_keys goes_by_group by_group (with_own own rest.keys) files (sorted_own own rest.keys sorted apart) sorted_too
    (λ file. has_own own rest.keys file ∙ same file) in
    record {
      kept = record { apart = apart; count = count ∙ ap length (sym are); few = few; inside = inside; places = places };
      are = are;
    }

-- bits
swapped : (one own have : Bool) → (own || (one || have)) ≡ (one || (own || have))
swapped one own have = grind (arith, nat_tests)

put_front : (one own have : Bool) → ((one || own) || have) ≡ (one || (own || have))
put_front one own have = grind (arith, nat_tests)

left_front : (own have differ : Bool) → (not differ ≡ true → have ≡ false) → ((own && differ) || have) ≡ ((own || have) && differ)
left_front own have true apart = grind (arith, nat_tests)
left_front own have false apart = ap (λ (test : Bool). (own && false) || test) (apart refl) ∙ bits own have
  where
    bits : (own have : Bool) → ((own && false) || false) ≡ ((own || have) && false)
    bits own have = grind (arith, nat_tests)

left_back : (own have differ : Bool) → (not differ ≡ true → own ≡ false) → (own || (have && differ)) ≡ ((own || have) && differ)
left_back own have true apart = grind (arith, nat_tests)
left_back own have false apart = ap (λ (test : Bool). test || (have && false)) (apart refl) ∙ bits own have
  where
    bits : (own have : Bool) → (false || (have && false)) ≡ ((own || have) && false)
    bits own have = grind (arith, nat_tests)

module _ (own : List Own) (many room : ℕ) (rest : KeySet RipeFile) (kept : AreCrowd own many room rest) (sorted : AreSortedBy goes_by_group rest.keys)
    (file : RipeFile) where
  all : List RipeFile
  all = with_own own rest.keys

  sorted_all : AreSortedBy goes_by_group (with_own own rest.keys)
  sorted_all = sorted_own own rest.keys sorted kept.apart

  module _ (absent : has_key goes_by_group file (with_own own rest.keys) ≡ false) (less : many < room) where
    not_own : is_own own file ≡ false
    not_own = to_false (is_own own file) (λ is.
        sym (ap (λ (test : Bool). test || has_key goes_by_group file rest.keys) is) ∙ (sym (has_own own rest.keys file) ∙ absent))

    pub not_rest : has_key goes_by_group file rest.keys ≡ false
    not_rest = sym (ap (λ (test : Bool). test || has_key goes_by_group file rest.keys) not_own) ∙ (sym (has_own own rest.keys file) ∙ absent)

    one_more_file : many + 1 ≡ length (put_by goes_by_group file (with_own own rest.keys))
    one_more_file = omega (arith, kept.count, length-put_by goes_by_group file (with_own own rest.keys))

    sorted_put : AreSortedBy goes_by_group (put_by goes_by_group file (with_own own rest.keys))
    sorted_put = put_sorted goes_by_group by_group file (with_own own rest.keys) sorted_all absent

    -- a file more that stands by its destination
    pub put_own : may_own own file ≡ true
        → IsNow (slice_set own file.dest (record { queue = file.queue; rank = file.rank })) (many + 1) room rest
        (put_by goes_by_group file (with_own own rest.keys))
    put_own is =
        let may_be = may own file is in
        let own_now = slice_set own file.dest (record { queue = file.queue; rank = file.rank }) in
        now own_now (many + 1) room rest (put_by goes_by_group file (with_own own rest.keys)) sorted sorted_put
        (λ other here. by_test other (is_one file other) refl (sym (own_put own file may_be other) ∙ here))
        (λ other.
        ap (λ (test : Bool). test || has_key goes_by_group other rest.keys) (own_put own file may_be other)
        ∙ (put_front (is_one file other) (is_own own other) (has_key goes_by_group other rest.keys)
        ∙ (ap (λ (test : Bool). is_one file other || test) (sym (has_own own rest.keys other))
        ∙ sym (has_put goes_by_group file other (with_own own rest.keys)))))
        one_more_file (omega (arith, length-set own file.dest (record { queue = file.queue; rank = file.rank }), kept.few)) (omega (arith, less)) kept.places
      where
        by_test : (other : RipeFile) (answer : Bool) → is_one file other ≡ answer → (is_one file other || is_own own other) ≡ true
            → has_key goes_by_group other rest.keys ≡ false
        by_test other true one here =
            ap (λ (some : RipeFile). has_key goes_by_group some rest.keys) (sym (one_of goes_by_group by_group file other one)) ∙ not_rest
        by_test other false one here = kept.apart other (sym (ap (λ (test : Bool). test || is_own own other) one) ∙ here)

    -- and one more that doesn't
    pub put_rest : IsNow own (many + 1) room (record rest { keys = put_by goes_by_group file rest.keys })
        (put_by goes_by_group file (with_own own rest.keys))
    put_rest =
        now own (many + 1) room (record rest { keys = put_by goes_by_group file rest.keys }) (put_by goes_by_group file (with_own own rest.keys))
        (put_sorted goes_by_group by_group file rest.keys sorted not_rest) sorted_put
        (λ other here. has_put goes_by_group file other rest.keys ∙ by_test other (is_one file other) refl here)
        (λ other.
        ap (λ (test : Bool). is_own own other || test) (has_put goes_by_group file other rest.keys)
        ∙ (swapped (is_one file other) (is_own own other) (has_key goes_by_group other rest.keys)
        ∙ (ap (λ (test : Bool). is_one file other || test) (sym (has_own own rest.keys other))
        ∙ sym (has_put goes_by_group file other (with_own own rest.keys)))))
        one_more_file kept.few (omega (arith, less)) kept.places
      where
        by_test : (other : RipeFile) (answer : Bool) → is_one file other ≡ answer → is_own own other ≡ true
            → (is_one file other || has_key goes_by_group other rest.keys) ≡ false
        by_test other true one here =
            no (sym here ∙ (ap (λ (some : RipeFile). is_own own some) (sym (one_of goes_by_group by_group file other one)) ∙ not_own))
        by_test other false one here = ap (λ (test : Bool). test || has_key goes_by_group other rest.keys) one ∙ kept.apart other here

  sorted_without : AreSortedBy goes_by_group (without goes_by_group file (with_own own rest.keys))
  sorted_without = filter_sorted goes_by_group (λ other. differs goes_by_group other file) (with_own own rest.keys) sorted_all

  one_less : has_key goes_by_group file (with_own own rest.keys) ≡ true → many - 1 ≡ length (without goes_by_group file (with_own own rest.keys))
  one_less there = omega (arith, kept.count, length-without goes_by_group by_group file (with_own own rest.keys) sorted_all there)

  -- a file less that stood by its destination
  pub out_own : is_own own file ≡ true
      → IsNow (slice_set own file.dest nobody) (many - 1) room rest (without goes_by_group file (with_own own rest.keys))
  out_own is =
      now (slice_set own file.dest nobody) (many - 1) room rest (without goes_by_group file (with_own own rest.keys)) sorted sorted_without
      (λ other here. kept.apart other
      (and_parts (is_own own other) (differs goes_by_group file other) (sym (own_without own file is other) ∙ here)).0)
      (λ other.
      ap (λ (test : Bool). test || has_key goes_by_group other rest.keys) (own_without own file is other)
      ∙ (left_front (is_own own other) (has_key goes_by_group other rest.keys) (differs goes_by_group file other)
      (λ one. ap (λ (some : RipeFile). has_key goes_by_group some rest.keys) (sym (one_of goes_by_group by_group file other one)) ∙ kept.apart file is)
      ∙ (ap (λ (test : Bool). test && differs goes_by_group file other) (sym (has_own own rest.keys other))
      ∙ sym (has_without goes_by_group by_group file other (with_own own rest.keys)))))
      (one_less (has_own own rest.keys file ∙ ap (λ (test : Bool). test || has_key goes_by_group file rest.keys) is))
      (omega (arith, length-set own file.dest nobody, kept.few)) (omega (arith, kept.inside)) kept.places

  -- and one less of the others
  pub out_rest : has_key goes_by_group file rest.keys ≡ true
      → IsNow own (many - 1) room (record rest { keys = without goes_by_group file rest.keys }) (without goes_by_group file (with_own own rest.keys))
  out_rest there =
      now own (many - 1) room (record rest { keys = without goes_by_group file rest.keys }) (without goes_by_group file (with_own own rest.keys))
      (filter_sorted goes_by_group (λ other. differs goes_by_group other file) rest.keys sorted) sorted_without
      (λ other here. has_without goes_by_group by_group file other rest.keys
      ∙ ap (λ (test : Bool). test && differs goes_by_group file other) (kept.apart other here))
      (λ other.
      ap (λ (test : Bool). is_own own other || test) (has_without goes_by_group by_group file other rest.keys)
      ∙ (left_back (is_own own other) (has_key goes_by_group other rest.keys) (differs goes_by_group file other) (λ one. not_own_too other one)
      ∙ (ap (λ (test : Bool). test && differs goes_by_group file other) (sym (has_own own rest.keys other))
      ∙ sym (has_without goes_by_group by_group file other (with_own own rest.keys)))))
      (one_less (has_own own rest.keys file ∙ (ap (λ (test : Bool). is_own own file || test) there ∙ or_true (is_own own file))))
      kept.few (omega (arith, kept.inside)) kept.places
    where
      or_true : (test : Bool) → (test || true) ≡ true
      or_true true = refl
      or_true false = refl

      not_own_too : (other : RipeFile) → not (differs goes_by_group file other) ≡ true → is_own own other ≡ false
      not_own_too other one = to_false (is_own own other) (λ is.
          sym there
          ∙ (ap (λ (some : RipeFile). has_key goes_by_group some rest.keys) (one_of goes_by_group by_group file other one) ∙ kept.apart other is))

-- files stay the same where as many stand by their destinations, whatever room there is
pub same_stands : (own more : List Own) (many room : ℕ) (rest : KeySet RipeFile) → AreCrowd own many room rest → AreSortedBy goes_by_group rest.keys
    → ((file : RipeFile) → is_own more file ≡ is_own own file) → (length own ≤ MOST_DESTS → length more ≤ MOST_DESTS)
    → IsNow more many room rest (with_own own rest.keys)
same_stands own more many room rest kept sorted same few =
    now more many room rest (with_own own rest.keys) sorted (sorted_own own rest.keys sorted kept.apart)
    (λ file here. kept.apart file (sym (same file) ∙ here))
    (λ file. ap (λ (test : Bool). test || has_key goes_by_group file rest.keys) (same file) ∙ sym (has_own own rest.keys file)) kept.count (few kept.few)
    kept.inside kept.places

pub more_room : (own : List Own) (many room files : ℕ) (rest : KeySet RipeFile) → AreCrowd own many room rest → room < files
    → AreCrowd own many files (record rest { room = max rest.room files })
more_room own many room files rest kept less = record {
  apart = kept.apart;
  count = kept.count;
  few = kept.few;
  inside = omega (arith, kept.inside, less);
  places = omega arith;
}
