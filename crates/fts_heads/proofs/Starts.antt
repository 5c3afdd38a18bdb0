-- Where a queue's line starts.
use Rattle.std.proofs.Common.{◌≡◌, ℕ, Bool, true, false, cond, List, [], ◌∷◌, Option, Some, None, map, refl, ap, sym, ◌∙◌, arith}
use Rattle.std.specs.Prelude.{not, nat_lt, ◌==◌, find, if◌then◌else◌}
use Rattle.std.specs.List.{AllByRecursion}
use Rattle.std.proofs.lemmas.Bool.Decides.{nat_tests}
use Rattle.ordered.specs.Orders.{AreSortedBy, first_from}
use Rattle.ordered.specs.ByNumbers.{is_first_by}
use Rattle.fts_heads.specs.declared.ripe_file.RipeFile.{RipeFile}
use Rattle.fts_heads.specs.declared.ripe_file.Lined.{Lined}
use Rattle.fts_heads.specs.RipeFiles.{is_in}
use Rattle.fts_heads.specs.Keys.{is_line_before}

-- before all files of a queue
abbrev pub start_of : ℕ → Lined
start_of queue = record { waiter = record { queue = queue; dest = 0; rank = 0; file = 0 } }

-- what stands before the start is of a lesser queue
before_start : (queue rank file dest start : ℕ)
    → is_first_by queue start (is_first_by rank 0 (is_first_by file 0 (nat_lt dest 0))) ≡ nat_lt queue start
before_start queue rank file dest start = grind (arith, nat_tests)

-- a lesser queue is another
lesser_is_other : (queue other : ℕ) → nat_lt queue other ≡ true → (queue == other) ≡ false
lesser_is_other queue other is = grind (arith, nat_tests)

-- neither lesser nor the same is greater; and what stands behind it is greater too
greater_too : (queue start other : ℕ) (rest : Bool) → nat_lt queue start ≡ false → (queue == start) ≡ false → is_first_by queue other rest ≡ true
    → (other == start) ≡ false
greater_too queue start other rest lesser same goes = grind (arith, nat_tests)

-- the file, where it is of the queue
abbrev pub of_queue : ℕ → Option Lined → Option RipeFile
of_queue queue None = None
of_queue queue (Some found) = if found.waiter.queue == queue then Some found.waiter else None

none_of : (queue : ℕ) (keys : List Lined) → AllByRecursion (λ key. (key.waiter.queue == queue) ≡ false) keys
    → find (is_in queue) (map (λ key. key.waiter) keys) ≡ None
none_of queue [] all = refl
none_of queue (key ∷ keys) all =
    ap (λ (test : Bool). cond test (Some key.waiter) (find (is_in queue) (map (λ key. key.waiter) keys))) all.0 ∙ none_of queue keys all.1

all_greater : (queue : ℕ) (first : Lined) (keys : List Lined) → nat_lt first.waiter.queue queue ≡ false → (first.waiter.queue == queue) ≡ false
    → AllByRecursion (λ later. is_line_before first later ≡ true) keys → AllByRecursion (λ key. (key.waiter.queue == queue) ≡ false) keys
all_greater queue first [] lesser same all = tt
all_greater queue first (key ∷ keys) lesser same all =
    (greater_too first.waiter.queue queue key.waiter.queue _ lesser same all.0, all_greater queue first keys lesser same all.1)

-- so the first from the start on is the first of the queue, or there is none
pub first_of_queue : (queue : ℕ) (keys : List Lined) → AreSortedBy is_line_before keys
    → of_queue queue (first_from is_line_before (start_of queue) keys) ≡ find (is_in queue) (map (λ key. key.waiter) keys)
first_of_queue queue [] sorted = refl
first_of_queue queue (key ∷ keys) sorted =
    by_tests (first_of_queue queue keys sorted.1) (nat_lt key.waiter.queue queue) (key.waiter.queue == queue) refl refl
  where
    goes : is_line_before key (start_of queue) ≡ nat_lt key.waiter.queue queue
    goes = before_start key.waiter.queue key.waiter.rank key.waiter.file key.waiter.dest queue

    by_tests : of_queue queue (first_from is_line_before (start_of queue) keys) ≡ find (is_in queue) (map (λ key. key.waiter) keys)
        → (lesser same : Bool) → nat_lt key.waiter.queue queue ≡ lesser → (key.waiter.queue == queue) ≡ same
        → of_queue queue (first_from is_line_before (start_of queue) (key ∷ keys)) ≡ find (is_in queue) (map (λ key. key.waiter) (key ∷ keys))
    by_tests behind true same is1 is2 =
        ap (λ (test : Bool). of_queue queue (cond (not test) (Some key) (first_from is_line_before (start_of queue) keys))) (goes ∙ is1)
        ∙ (behind
        ∙ sym (ap (λ (test : Bool). cond test (Some key.waiter) (find (is_in queue) (map (λ key. key.waiter) keys)))
        (lesser_is_other key.waiter.queue queue is1)))
    by_tests behind false true is1 is2 =
        ap (λ (test : Bool). of_queue queue (cond (not test) (Some key) (first_from is_line_before (start_of queue) keys))) (goes ∙ is1)
        ∙ (ap (λ (test : Bool). cond test (Some key.waiter) None) is2
        ∙ sym (ap (λ (test : Bool). cond test (Some key.waiter) (find (is_in queue) (map (λ key. key.waiter) keys))) is2))
    by_tests behind false false is1 is2 =
        ap (λ (test : Bool). of_queue queue (cond (not test) (Some key) (first_from is_line_before (start_of queue) keys))) (goes ∙ is1)
        ∙ (ap (λ (test : Bool). cond test (Some key.waiter) None) is2
        ∙ sym (ap (λ (test : Bool). cond test (Some key.waiter) (find (is_in queue) (map (λ key. key.waiter) keys))) is2
        ∙ none_of queue keys (all_greater queue key keys is1 is2 sorted.0)))
