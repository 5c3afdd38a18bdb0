-- Keys of files that wait for their moment stand before all others, by their moments; and how many keys a test counts, where one goes.
use Rattle.std.proofs.Common.{◌≡◌, ◌⊎◌, inl, inr, ℕ, ◌<◌, ◌≤◌, Bool, true, false, cond, List, [], ◌∷◌, Some, refl, ap, sym, ◌∙◌, subst, arith}
use Rattle.std.specs.Prelude.{◌&&◌, ◌||◌, filter, find, count_by}
use Rattle.std.specs.List.{AllByRecursion}
use Rattle.std.proofs.lemmas.Bool.{cases_lt, eqb-true, eq-eqb, ne_eqb, le-leb, lt-leb}
use Rattle.std.proofs.lemmas.Bool.Decides.{nat_tests}
use Rattle.std.proofs.lemmas.List.Sums.{sum_by-cons}
use Rattle.ordered.specs.Orders.{AreSortedBy, differs, has_key, put_by, without}
use Rattle.ordered.specs.ByNumbers.{is_first_by}
use Rattle.ordered.proofs.Members.{count_put}
use Rattle.fts_queue.specs.declared.waiter.Waiter.{Waiter}
use Rattle.fts_heads.specs.declared.ripe_file.RipeFile.{RipeFile}
use Rattle.fts_heads.specs.RipeFiles.{goes_by_group, by_group}
use Rattle.fts_heads.proofs.Found.{no, IsFound, is_found, has_first, has_rest, of_there}
use Rattle.fts_heads.proofs.Passed.{no_bit, fewer}
use Rattle.fts_line.specs.declared.key.TheConstants.{LATER}
use Rattle.fts_line.specs.LineData.{dest_of}
use Rattle.fts_line.specs.Keys.{whole_of, ripe_of, later_of, key_of, is_later, waiter_of, IsKeyed, AreKeyed, IsDue, AreDue}

-- what stands first has of one destination no greater queue, and of one queue no greater rank
no_greater_queue : (dest other queue other_queue : ℕ) (rest : Bool) → dest ≡ other → is_first_by other dest (is_first_by queue other_queue rest) ≡ true
    → queue ≤ other_queue
no_greater_queue dest other queue other_queue rest same goes = grind (arith, nat_tests)

no_greater_rank : (dest other queue other_queue rank other_rank : ℕ) (rest : Bool) → dest ≡ other → queue ≡ other_queue
    → is_first_by other dest (is_first_by queue other_queue (is_first_by rank other_rank rest)) ≡ true → rank ≤ other_rank
no_greater_rank dest other queue other_queue rank other_rank rest same same_too goes = grind (arith, nat_tests)

-- so of one destination it has no greater moment
no_later : (one other : RipeFile) → one.dest ≡ other.dest → one.rank < 4294967296 → goes_by_group one other ≡ true
    → whole_of one.queue one.rank ≤ whole_of other.queue other.rank
no_later one other same small goes = by_case (cases_lt one.queue other.queue)
  where
    by_case : (one.queue < other.queue) ⊎ (other.queue ≤ one.queue) → whole_of one.queue one.rank ≤ whole_of other.queue other.rank
    by_case (inl less) = omega (arith, less, small)
    by_case (inr most) =
        let least = no_greater_queue one.dest other.dest one.queue other.queue _ same goes in
        let even : one.queue ≡ other.queue = omega (arith, most, least) in
        let rank = no_greater_rank one.dest other.dest one.queue other.queue one.rank other.rank _ same even goes in
        omega (arith, even, rank)

-- what is asked of each key that is there
pub to_there : (P : RipeFile → Type 0) (keys : List RipeFile) → ((key : RipeFile) → has_key goes_by_group key keys ≡ true → P key) → AllByRecursion P keys
to_there P [] each = tt
to_there P (first ∷ rest) each = (
  each first (has_first goes_by_group by_group first rest),
  to_there P rest (λ key there. each key (has_rest goes_by_group by_group key first rest there)),
)

-- where the moment of the first that waits for it is to come, each one's is
pub none_due : (keys : List RipeFile) (first : RipeFile) (now : ℕ) → AreSortedBy goes_by_group keys → find is_later keys ≡ Some first
    → first.rank < 4294967296 → now < whole_of first.queue first.rank
    → (key : RipeFile) → has_key goes_by_group key keys ≡ true → is_later key ≡ true → now < whole_of key.queue key.rank
none_due keys first now sorted is small past key there later = by_test (goes_by_group first key) refl
  where
    found : IsFound goes_by_group is_later keys first
    found = is_found goes_by_group by_group is_later keys first sorted is

    by_test : (answer : Bool) → goes_by_group first key ≡ answer → now < whole_of key.queue key.rank
    by_test true goes =
        let same : first.dest ≡ key.dest = eqb-true first.dest LATER found.passing ∙ sym (eqb-true key.dest LATER later) in
        omega (arith, past, no_later first key same small goes)
    by_test false level =
        subst (λ some. now < whole_of some.queue some.rank) (by_group.total first key level (found.least key there later)) past

-- the moment of a file that waits for it
first_moment : (test : Bool) (one other : Waiter) → test ≡ true → (cond test one other).not_before ≡ one.not_before
first_moment true one other is = refl
first_moment false one other is = no (sym is)

pub moment_is : (rests : List ℕ) (key : RipeFile) → is_later key ≡ true → (waiter_of rests key).not_before ≡ whole_of key.queue key.rank
moment_is rests key is = first_moment (is_later key) _ _ is

module _ (dests : List ℕ) (count : ℕ) (rests : List ℕ) (keys : List RipeFile) (are : AreKeyed dests count rests keys) (key : RipeFile)
    (there : has_key goes_by_group key keys ≡ true) where
  own : IsKeyed dests count rests key
  own = of_there goes_by_group by_group (IsKeyed dests count rests) keys key are.keyed there

  -- a file that stands with its destination does so before `LATER`
  pub ripe_dest : is_later key ≡ false → key.dest < LATER
  ripe_dest is =
      let same : key.dest ≡ dest_of dests (waiter_of rests key).file =
      ap (λ (some : RipeFile). some.dest)
      (own.own ∙ ap (λ (test : Bool). cond test (later_of (waiter_of rests key)) (ripe_of dests (waiter_of rests key))) is) in
      omega (arith, same, own.known.dest, are.few)

  -- so it does at its next place, where its moment has come
  pub new_ripe : (now : ℕ) → (waiter_of rests key).not_before ≤ now → is_later (key_of now dests (waiter_of rests key)) ≡ false
  new_ripe now past =
      ap (λ (test : Bool). is_later (cond test (ripe_of dests (waiter_of rests key)) (later_of (waiter_of rests key))))
      (le-leb (waiter_of rests key).not_before now past)
      ∙ ne_eqb (dest_of dests (waiter_of rests key).file) LATER (λ same. absurd (omega (arith, same, own.known.dest, are.few)))

-- and waits for it, where it is to come
pub new_later : (now : ℕ) (dests : List ℕ) (waiter : Waiter) → now < waiter.not_before → is_later (key_of now dests waiter) ≡ true
new_later now dests waiter less =
    ap (λ (test : Bool). is_later (cond test (ripe_of dests waiter) (later_of waiter))) (lt-leb waiter.not_before now less)
    ∙ eq-eqb LATER LATER refl

-- what had its moment by a time has had it by a later one, and what has it past a time has it past an earlier one
pub due_between : (low high other_low other_high : ℕ) (rests : List ℕ) (keys : List RipeFile) → other_low ≤ low → high ≤ other_high
    → AreDue low high rests keys → AreDue other_low other_high rests keys
due_between low high other_low other_high rests keys lower higher due = to_there (IsDue other_low other_high rests) keys (λ key there.
    let is = of_there goes_by_group by_group (IsDue low high rests) keys key due there in
    record { past = λ ripe. omega (arith, is.past ripe, higher); later = λ later. omega (arith, is.later later, lower) })

-- where no file's moment is left behind
pub due_end : (low now : ℕ) (rests : List ℕ) (keys : List RipeFile) → AreDue low now rests keys
    → ((key : RipeFile) → has_key goes_by_group key keys ≡ true → is_later key ≡ true → now < whole_of key.queue key.rank)
    → AreDue now now rests keys
due_end low now rests keys due none = to_there (IsDue now now rests) keys (λ key there.
    let is = of_there goes_by_group by_group (IsDue low now rests) keys key due there in
    record { past = is.past; later = λ later. omega (arith, none key there later, moment_is rests key later) })

-- what is counted among those that a filter keeps
count_filter : (passes keeps : RipeFile → Bool) (keys : List RipeFile)
    → count_by passes (filter keeps keys) ≡ count_by (λ key. keeps key && passes key) keys
count_filter passes keeps [] = refl
count_filter passes keeps (first ∷ rest) = by_test (keeps first) refl (count_filter passes keeps rest)
  where
    by_test : (answer : Bool) → keeps first ≡ answer → count_by passes (filter keeps rest) ≡ count_by (λ key. keeps key && passes key) rest
        → count_by passes (cond answer (first ∷ filter keeps rest) (filter keeps rest)) ≡ count_by (λ key. keeps key && passes key) (first ∷ rest)
    by_test true is behind =
        let here : ◌≡◌ {A = ℕ} (cond (keeps first && passes first) 1 0) (cond (passes first) 1 0) =
        ap (λ (test : Bool). cond (test && passes first) 1 0) is in
        omega (
          arith,
          behind,
          sum_by-cons (λ some. cond (passes some) 1 0) first (filter keeps rest),
          sum_by-cons (λ some. cond (keeps some && passes some) 1 0) first rest,
          here,
        )
    by_test false is behind =
        let here : ◌≡◌ {A = ℕ} (cond (keeps first && passes first) 1 0) 0 = ap (λ (test : Bool). cond (test && passes first) 1 0) is in
        omega (arith, behind, sum_by-cons (λ some. cond (keeps some && passes some) 1 0) first rest, here)

and_right : (one other : Bool) → (one && other) ≡ true → other ≡ true
and_right true other is = is
and_right false other is = no (sym is)

-- a key goes that one test counts, and comes in at a place where the other, which lets less through, doesn't
pub fewer_moved : (one other : RipeFile → Bool) → ((key : RipeFile) → other key ≡ true → one key ≡ true) → (key new : RipeFile) → one key ≡ true
    → other new ≡ false → (keys : List RipeFile) → has_key goes_by_group key keys ≡ true
    → count_by other (put_by goes_by_group new (without goes_by_group key keys)) < count_by one keys
fewer_moved one other weaker key new is not_new keys there =
    let put = count_put goes_by_group other new (without goes_by_group key keys) in
    let none = no_bit (other new) not_new in
    let left = count_filter other (λ some. differs goes_by_group some key) keys in
    let itself : (differs goes_by_group key key && other key) ≡ false =
    ap (λ (test : Bool). (test || test) && other key) (by_group.irreflexive key) in
    let less =
    fewer one (λ some. differs goes_by_group some key && other some)
    (λ some both. weaker some (and_right (differs goes_by_group some key) (other some) both)) key is itself keys there in
    omega (arith, put, none, left, less)
