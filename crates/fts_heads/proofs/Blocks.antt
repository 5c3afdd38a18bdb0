-- The numbers of blocks after a file more or less in line, and what they tell of all files.
use Rattle.std.proofs.Common.{Result, Ok, Err, ◌≡◌, ℕ, zero, suc, ◌+◌, ◌-◌, ◌/◌, ◌<◌, ◌≤◌, ◌⊎◌, inl, inr, Bool, true, false, cond, List, [], ◌∷◌, length, refl, ap, sym, ◌∙◌, subst, arith}
use Rattle.std.specs.Prelude.{nat_lt, ◌==◌, ◌||◌, ◌&&◌, count_by, slice_set, slice_index_or, replicate}
use Rattle.std.specs.declared.alloc.AllocError.{AllocError}
use Rattle.std.specs.Prelude.{OnOk, OnErr}
use Rattle.std.specs.List.{list_any}
use Rattle.std.proofs.lemmas.Bool.{and_parts, and_from, cases_eq, eq-eqb, ne_eqb, ltb-true, lt-ltb}
use Rattle.std.proofs.lemmas.List.{get_or-set_same, get_or-set_other, get_or-replicate, length-set, length-replicate}
use Rattle.std.proofs.lemmas.List.Sums.{sum_by-cons, count_by-le-length}
use Rattle.ordered.specs.Orders.{AreSortedBy, KeySet, has_key, put_by, without}
use Rattle.ordered.proofs.Members.{count_put, count_without}
use Rattle.fts_heads.specs.declared.counted.TheConstants.{BLOCK_QUEUES, BLOCKS}
use Rattle.fts_heads.specs.declared.ripe_file.RipeFile.{RipeFile}
use Rattle.fts_heads.specs.declared.ripe_file.Lined.{Lined}
use Rattle.fts_heads.specs.RipeFiles.{goes_by_group, by_group}
use Rattle.fts_heads.specs.Keys.{is_line_before, lines_in_order}
use Rattle.fts_heads.specs.Heads.{leads, is_open, AreHeads}
use Rattle.fts_heads.specs.Blocks.{is_in_block, count_in_block, with_at, AreCounted}
use Rattle.fts_heads.proofs.Found.{no, one_there, any_there}
use Rattle.fts_heads.proofs.Ranges.{leader}
use Rattle.fts_heads.proofs.Firsts.{has_head}
use Rattle.fts_heads.proofs.Tests.{same_answer}

-- the file's block
abbrev pub own_block : Lined → ℕ
own_block key = key.waiter.queue / BLOCK_QUEUES

-- a number put at a place leaves as many, and is read there alone
pub length_with : (numbers : List ℕ) (place number : ℕ) → length (with_at numbers place number) ≡ length numbers
length_with numbers place number = by_test (nat_lt place (length numbers))
  where
    by_test : (answer : Bool) → length (cond answer (slice_set numbers place number) numbers) ≡ length numbers
    by_test true = length-set numbers place number
    by_test false = refl

read_same : (numbers : List ℕ) (place number : ℕ) → place < length numbers → slice_index_or (with_at numbers place number) place 0 ≡ number
read_same numbers place number inside = by_test (nat_lt place (length numbers)) refl
  where
    by_test : (answer : Bool) → nat_lt place (length numbers) ≡ answer → slice_index_or (cond answer (slice_set numbers place number) numbers) place 0 ≡ number
    by_test true is = get_or-set_same numbers place number 0 inside
    by_test false is = no (sym (lt-ltb place (length numbers) inside) ∙ is)

read_other : (numbers : List ℕ) (place number other : ℕ) → (other ≡ place → ⊥)
    → slice_index_or (with_at numbers place number) other 0 ≡ slice_index_or numbers other 0
read_other numbers place number other apart = by_test (nat_lt place (length numbers))
  where
    by_test : (answer : Bool) → slice_index_or (cond answer (slice_set numbers place number) numbers) other 0 ≡ slice_index_or numbers other 0
    by_test true = get_or-set_other numbers place other number 0 apart
    by_test false = refl

-- the line has changed in the block of a file alone, and so have the numbers
changed : (numbers : List ℕ) (line after : List Lined) (key : Lined) (number : ℕ)
    → ((block : ℕ) → block < length numbers → slice_index_or numbers block 0 ≡ count_in_block block line)
    → (slice_index_or numbers (own_block key) 0 ≡ count_in_block (own_block key) line → number ≡ count_in_block (own_block key) after)
    → ((block : ℕ) → (block ≡ own_block key → ⊥) → count_in_block block after ≡ count_in_block block line)
    → (block : ℕ) → block < length (with_at numbers (own_block key) number)
    → slice_index_or (with_at numbers (own_block key) number) block 0 ≡ count_in_block block after
changed numbers line after key number each own others block inside = by_case (cases_eq block (own_block key))
  where
    within : block < length numbers
    within = omega (arith, inside, length_with numbers (own_block key) number)

    by_case : (block ≡ own_block key) ⊎ (block ≡ own_block key → ⊥)
        → slice_index_or (with_at numbers (own_block key) number) block 0 ≡ count_in_block block after
    by_case (inl same) =
        ap (λ n. slice_index_or (with_at numbers (own_block key) number) n 0) same
        ∙ (read_same numbers (own_block key) number (omega (arith, within, same))
        ∙ (own (subst (λ n. slice_index_or numbers n 0 ≡ count_in_block n line) same (each block within))
        ∙ ap (λ n. count_in_block n after) (sym same)))
    by_case (inr apart) = read_other numbers (own_block key) number block apart ∙ (each block within ∙ sym (others block apart))

-- a file counts in its own block, and in no other
counts_in_own : (key : Lined) → ◌≡◌ {A = ℕ} (cond (own_block key == own_block key) 1 0) 1
counts_in_own key = ap (λ (test : Bool). cond test 1 0) (eq-eqb (own_block key) (own_block key) refl)

counts_in_no_other : (key : Lined) (block : ℕ) → (block ≡ own_block key → ⊥) → ◌≡◌ {A = ℕ} (cond (own_block key == block) 1 0) 0
counts_in_no_other key block apart = ap (λ (test : Bool). cond test 1 0) (ne_eqb (own_block key) block (λ same. apart (sym same)))

-- one file more
pub raised : (numbers : List ℕ) (line : List Lined) (key : Lined)
    → ((block : ℕ) → block < length numbers → slice_index_or numbers block 0 ≡ count_in_block block line)
    → (block : ℕ) → block < length (with_at numbers (own_block key) (slice_index_or numbers (own_block key) 0 + 1))
    → slice_index_or (with_at numbers (own_block key) (slice_index_or numbers (own_block key) 0 + 1)) block 0
    ≡ count_in_block block (put_by is_line_before key line)
raised numbers line key each =
    changed numbers line (put_by is_line_before key line) key (slice_index_or numbers (own_block key) 0 + 1) each
    (λ old. omega (arith, old, counted (own_block key), counts_in_own key))
    (λ block apart. omega (arith, counted block, counts_in_no_other key block apart))
  where
    counted : (block : ℕ) → count_in_block block (put_by is_line_before key line) ≡ count_in_block block line + cond (own_block key == block) 1 0
    counted block = count_put is_line_before (λ some. is_in_block block some.waiter) key line

-- and one less
pub lowered : (numbers : List ℕ) (line : List Lined) (key : Lined) → AreSortedBy is_line_before line → has_key is_line_before key line ≡ true
    → ((block : ℕ) → block < length numbers → slice_index_or numbers block 0 ≡ count_in_block block line)
    → (block : ℕ) → block < length (with_at numbers (own_block key) (slice_index_or numbers (own_block key) 0 - 1))
    → slice_index_or (with_at numbers (own_block key) (slice_index_or numbers (own_block key) 0 - 1)) block 0
    ≡ count_in_block block (without is_line_before key line)
lowered numbers line key sorted there each =
    changed numbers line (without is_line_before key line) key (slice_index_or numbers (own_block key) 0 - 1) each
    (λ old. omega (arith, old, counted (own_block key), counts_in_own key))
    (λ block apart. omega (arith, counted block, counts_in_no_other key block apart))
  where
    counted : (block : ℕ) → count_in_block block (without is_line_before key line) + cond (own_block key == block) 1 0 ≡ count_in_block block line
    counted block = count_without is_line_before lines_in_order (λ some. is_in_block block some.waiter) key line sorted there

-- the numbers with one more at a place, and with one less
abbrev pub with_one : List ℕ → ℕ → List ℕ
with_one numbers place = with_at numbers place (slice_index_or numbers place 0 + 1)

abbrev pub less_one : List ℕ → ℕ → List ℕ
less_one numbers place = with_at numbers place (slice_index_or numbers place 0 - 1)

-- so they stay counted
pub with_file : (line : KeySet Lined) (numbers : List ℕ) (key : Lined) → AreCounted line numbers
    → AreCounted (record line { keys = put_by is_line_before key line.keys }) (with_one numbers (own_block key))
with_file line numbers key is =
    let same = length_with numbers (own_block key) (slice_index_or numbers (own_block key) 0 + 1) in
    record {
      each = raised numbers line.keys key is.each;
      whole = λ some. same ∙ is.whole (omega (arith, same, some));
      made = λ room. omega (arith, same, is.made room);
    }

pub without_file : (line : KeySet Lined) (numbers : List ℕ) (key : Lined) → AreSortedBy is_line_before line.keys → has_key is_line_before key line.keys ≡ true
    → AreCounted line numbers → AreCounted (record line { keys = without is_line_before key line.keys }) (less_one numbers (own_block key))
without_file line numbers key sorted there is =
    let same = length_with numbers (own_block key) (slice_index_or numbers (own_block key) 0 - 1) in
    record {
      each = lowered numbers line.keys key sorted there is.each;
      whole = λ some. same ∙ is.whole (omega (arith, same, some));
      made = λ room. omega (arith, same, is.made room);
    }

-- a block's number is no more than all files
pub few : (numbers : List ℕ) (line : List Lined) (place : ℕ)
    → ((block : ℕ) → block < length numbers → slice_index_or numbers block 0 ≡ count_in_block block line)
    → slice_index_or numbers place 0 ≤ length line
few numbers line place each = by_test (nat_lt place (length numbers)) refl
  where
    by_test : (answer : Bool) → nat_lt place (length numbers) ≡ answer → slice_index_or numbers place 0 ≤ length line
    by_test true is =
        let inside : place < length numbers = ltb-true place (length numbers) is in
        omega (arith, each place inside, count_by-le-length (λ (key : Lined). is_in_block place key.waiter) line)
    by_test false is = omega (arith, past numbers place is)
      where
        past : (numbers : List ℕ) (place : ℕ) → nat_lt place (length numbers) ≡ false → slice_index_or numbers place 0 ≡ 0
        past [] place is = refl
        past (number ∷ rest) zero is = no (sym (lt-ltb 0 (suc (length rest)) (omega arith)) ∙ is)
        past (number ∷ rest) (suc place) is =
            past rest place (not_inside (nat_lt place (length rest)) (λ inside. no (sym (lt-ltb (suc place) (suc (length rest)) (omega (arith, inside))) ∙ is)) refl)
          where
            not_inside : (answer : Bool) → (place < length rest → nat_lt place (length rest) ≡ false) → nat_lt place (length rest) ≡ answer
                → nat_lt place (length rest) ≡ false
            not_inside true apart at = apart (ltb-true place (length rest) at)
            not_inside false apart at = at

-- no files, no numbers
none_left : (line : List Lined) → length line ≤ 0 → line ≡ []
none_left [] none = refl
none_left (first ∷ rest) none = absurd (omega arith)

-- where no numbers were there, all blocks have none
pub made_anew : (line : KeySet Lined) (counts : List ℕ) → length line.keys ≤ line.room → AreCounted line counts
    → AreCounted line (cond (length counts == 0) (replicate BLOCKS 0) counts) × (0 < length (cond (length counts == 0) (replicate BLOCKS 0) counts))
made_anew line counts most is = by_case (cases_eq (length counts) 0)
  where
    by_case : (length counts ≡ 0) ⊎ (length counts ≡ 0 → ⊥)
        → AreCounted line (cond (length counts == 0) (replicate BLOCKS 0) counts) × (0 < length (cond (length counts == 0) (replicate BLOCKS 0) counts))
    by_case (inl none) =
        let without_room : line.room ≡ 0 = omega (arith, empty) in
        let empty_line : line.keys ≡ [] = none_left line.keys (omega (arith, most, without_room)) in
        let whole : length (replicate {A = ℕ} BLOCKS 0) ≡ BLOCKS = length-replicate {A = ℕ} BLOCKS 0 in
        subst (λ (some : List ℕ). AreCounted line some × (0 < length some))
        (sym (ap (λ (test : Bool). cond test (replicate BLOCKS 0) counts) (eq-eqb (length counts) 0 none))) (
          record {
            each = λ block inside. get_or-replicate BLOCKS block 0 0 (omega (arith, inside, whole)) ∙ sym (ap (count_in_block block) empty_line);
            whole = λ some. whole;
            made = λ some. omega (arith, whole);
          },
          omega (arith, whole),
        )
      where
        empty : line.room ≤ 0
        empty = by_room (cases_eq line.room 0)
          where
            by_room : (line.room ≡ 0) ⊎ (line.room ≡ 0 → ⊥) → line.room ≤ 0
            by_room (inl same) = omega (arith, same)
            by_room (inr apart) = absurd (omega (arith, none, is.made (omega (arith, apart))))
    by_case (inr some) =
        subst (λ (numbers : List ℕ). AreCounted line numbers × (0 < length numbers))
        (sym (ap (λ (test : Bool). cond test (replicate BLOCKS 0) counts) (ne_eqb (length counts) 0 some)))
        (is, omega (arith, some))

-- a number above 0 is that of a block with a file
pub any_counted : (passes : Lined → Bool) (line : List Lined) → nat_lt 0 (count_by passes line) ≡ list_any passes line
any_counted passes [] = refl
any_counted passes (first ∷ rest) =
    ap (nat_lt 0) (sum_by-cons (λ some. cond (passes some) 1 0) first rest) ∙ by_test (passes first) (any_counted passes rest)
  where
    by_test : (answer : Bool) → nat_lt 0 (count_by passes rest) ≡ list_any passes rest
        → nat_lt 0 (cond answer 1 0 + count_by passes rest) ≡ (answer || list_any passes rest)
    by_test true behind = lt-ltb 0 _ (omega arith)
    by_test false behind = ap (nat_lt 0) (omega arith) ∙ behind

pub has_block : (line : List Lined) (counts : List ℕ) (block : ℕ)
    → ((other : ℕ) → other < length counts → slice_index_or counts other 0 ≡ count_in_block other line) → block < length counts
    → nat_lt 0 (slice_index_or counts block 0) ≡ list_any (λ key. is_in_block block key.waiter) line
has_block line counts block each inside = ap (nat_lt 0) (each block inside) ∙ any_counted (λ key. is_in_block block key.waiter) line

-- a number that is there is read alike by each default
pub read_alike : (numbers : List ℕ) (place one other : ℕ) → place < length numbers
    → slice_index_or numbers place one ≡ slice_index_or numbers place other
read_alike [] place one other inside = absurd (omega (arith, inside))
read_alike (number ∷ rest) zero one other inside = refl
read_alike (number ∷ rest) (suc place) one other inside = read_alike rest place one other (omega (arith, inside))

-- where a block has no number, no file is in line
pub none_in : (line : KeySet Lined) (counts : List ℕ) (block : ℕ) → length line.keys ≤ line.room → AreCounted line counts → length counts ≤ block
    → block < BLOCKS → false ≡ list_any (λ key. is_in_block block key.waiter) line.keys
none_in line counts block most is past inside =
    sym (ap (list_any (λ key. is_in_block block key.waiter)) (none_left line.keys (omega (arith, most, no_room))))
  where
    no_numbers : length counts ≤ 0
    no_numbers = by_case (cases_eq (length counts) 0)
      where
        by_case : (length counts ≡ 0) ⊎ (length counts ≡ 0 → ⊥) → length counts ≤ 0
        by_case (inl none) = omega (arith, none)
        by_case (inr some) = absurd (omega (arith, past, inside, is.whole (omega (arith, some))))

    no_room : line.room ≤ 0
    no_room = by_case (cases_eq line.room 0)
      where
        by_case : (line.room ≡ 0) ⊎ (line.room ≡ 0 → ⊥) → line.room ≤ 0
        by_case (inl none) = omega (arith, none)
        by_case (inr some) = absurd (omega (arith, no_numbers, is.made (omega (arith, some))))

-- a block has a file in line where it has one whose destination is known and free
pub open_in : (busy : List Bool) (files : List RipeFile) (line : List Lined) (block : ℕ) → AreHeads busy files line → AreSortedBy goes_by_group files
    → list_any (λ key. is_in_block block key.waiter) line ≡ list_any (λ waiter. is_in_block block waiter && is_open busy waiter.dest) files
open_in busy files line block heads sorted = same_answer _ _ there back
  where
    there : list_any (λ key. is_in_block block key.waiter) line ≡ true
        → list_any (λ waiter. is_in_block block waiter && is_open busy waiter.dest) files ≡ true
    there any =
        let one = one_there is_line_before lines_in_order (λ key. is_in_block block key.waiter) line any in
        let waiter : RipeFile = one.key.waiter in
        let parts = and_parts (is_open busy waiter.dest) (leads files waiter) (sym (heads.lined waiter) ∙ one.there) in
        any_there goes_by_group by_group (λ other. is_in_block block other && is_open busy other.dest) waiter files (leader files waiter parts.1).there
        (and_from (is_in_block block waiter) (is_open busy waiter.dest) one.passing parts.0)

    back : list_any (λ waiter. is_in_block block waiter && is_open busy waiter.dest) files ≡ true
        → list_any (λ key. is_in_block block key.waiter) line ≡ true
    back any =
        let one = one_there goes_by_group by_group (λ waiter. is_in_block block waiter && is_open busy waiter.dest) files any in
        let has = has_head files one.key sorted one.there in
        let parts = and_parts (is_in_block block one.key) (is_open busy one.key.dest) one.passing in
        any_there is_line_before lines_in_order (λ key. is_in_block block key.waiter) (record { waiter = has.head }) line
        (heads.lined has.head ∙ (ap (λ (test : Bool). test && leads files has.head) (ap (is_open busy) has.dest ∙ parts.1) ∙ has.leading))
        (ap (λ n. (n / BLOCK_QUEUES) == block) has.queue ∙ parts.0)

-- more room, or want of memory, changes no file
pub more_room : (line new : KeySet Lined) (counts : List ℕ) (room : ℕ) (answer : Result (Unit {0}) AllocError)
    → OnOk answer (new ≡ record line { room = room }) → OnErr answer (new ≡ line) → AreCounted line counts → 0 < length counts → AreCounted new counts
more_room line new counts room (Ok done) ok err is some =
    subst (λ set. AreCounted set counts) (sym ok) (record { each = is.each; whole = is.whole; made = λ any. some })
more_room line new counts room (Err want) ok err is some = subst (λ set. AreCounted set counts) (sym err) is
