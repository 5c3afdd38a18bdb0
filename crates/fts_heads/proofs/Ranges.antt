-- The next file that leads, of a destination and from a queue on.
use Rattle.std.proofs.Common.{◌≡◌, ℕ, ◌<◌, ◌≤◌, ◌+◌, ◌⊎◌, inl, inr, Bool, true, false, List, [], ◌∷◌, Some, None, refl, ap, sym, ◌∙◌, subst, arith}
use Rattle.std.specs.Prelude.{not, nat_lt, ◌==◌, ◌||◌, ◌&&◌, find}
use Rattle.std.specs.List.{list_any}
use Rattle.std.proofs.lemmas.Bool.{eqb-true, and_parts, cases_lt}
use Rattle.std.proofs.lemmas.Bool.Decides.{nat_tests}
use Rattle.ordered.specs.Orders.{AreSortedBy, has_key, first_from}
use Rattle.ordered.specs.ByNumbers.{is_first_by}
use Rattle.ordered.proofs.Members.{one_of, itself}
use Rattle.fts_heads.proofs.Tests.{same_answer}
use Rattle.fts_heads.specs.declared.ripe_file.RipeFile.{RipeFile}
use Rattle.fts_heads.specs.RipeFiles.{goes_by_group, by_group}
use Rattle.fts_heads.specs.Heads.{is_one, goes_ahead, leads, is_within, start_at}
use Rattle.fts_heads.specs.Crowd.{is_from}
use Rattle.fts_heads.proofs.Found.{any_there, is_found, none_found, has_first, has_rest}

-- a file of the destination and of no lesser queue is not before the start
pub not_before_start : (dest from other queue rank file : ℕ) → other ≡ dest → from ≤ queue
    → is_first_by dest other (is_first_by queue from (is_first_by rank 0 (nat_lt file 0))) ≡ false
not_before_start dest from other queue rank file same least = grind (arith, nat_tests)

-- and one that is not before it is of no lesser queue
pub no_lesser : (dest from other queue rank file : ℕ) → other ≡ dest → is_first_by dest other (is_first_by queue from (is_first_by rank 0 (nat_lt file 0))) ≡ false
    → from ≤ queue
no_lesser dest from other queue rank file same goes = grind (arith, nat_tests)

-- nor of a greater destination
pub no_greater_dest : (dest from other queue : ℕ) (rest : Bool) → is_first_by dest other (is_first_by queue from rest) ≡ false → other ≤ dest
no_greater_dest dest from other queue rest goes = grind (arith, nat_tests)

-- what a range says
pub record AreWithin (dest from to other queue : ℕ) : Type 0 where
  pub same : other ≡ dest
  pub least : from ≤ queue
  pub less : queue < to

pub within : (dest from to other queue : ℕ) → ((other == dest) && (not (nat_lt queue from) && nat_lt queue to)) ≡ true → AreWithin dest from to other queue
within dest from to other queue is = record {
  same = grind (arith, nat_tests);
  least = grind (arith, nat_tests);
  less = grind (arith, nat_tests);
}

pub to_within : (dest from to other queue : ℕ) → other ≡ dest → from ≤ queue → queue < to
    → ((other == dest) && (not (nat_lt queue from) && nat_lt queue to)) ≡ true
to_within dest from to other queue same least less = grind (arith, nat_tests)

-- of two files of a destination the one of no greater queue, if it is behind, is in the same queue
same_queue : (dest other queue other_queue : ℕ) (rest : Bool) → dest ≡ other → is_first_by other dest (is_first_by queue other_queue rest) ≡ true
    → other_queue < queue + 1 → queue ≡ other_queue
same_queue dest other queue other_queue rest same goes less = grind (arith, nat_tests)

-- one in front by destination or queue goes before
before_by_dest : (dest other queue other_queue : ℕ) (rest : Bool) → other < dest → is_first_by other dest (is_first_by queue other_queue rest) ≡ true
before_by_dest dest other queue other_queue rest greater = grind (arith, nat_tests)

before_by_queue : (dest other queue other_queue : ℕ) (rest : Bool) → dest ≡ other → queue < other_queue
    → is_first_by other dest (is_first_by queue other_queue rest) ≡ true
before_by_queue dest other queue other_queue rest same smaller = grind (arith, nat_tests)

pub goes_before : (dest other queue other_queue : ℕ) (rest : Bool) → other ≤ dest → (dest ≡ other → queue < other_queue)
    → is_first_by other dest (is_first_by queue other_queue rest) ≡ true
goes_before dest other queue other_queue rest most less = by_case (cases_lt other dest)
  where
    by_case : (other < dest) ⊎ (dest ≤ other) → is_first_by other dest (is_first_by queue other_queue rest) ≡ true
    by_case (inl greater) = before_by_dest dest other queue other_queue rest greater
    by_case (inr no_greater) =
        let same : dest ≡ other = omega (arith, most, no_greater) in
        before_by_queue dest other queue other_queue rest same (less same)

pub past_of : {Same Past : Type 0} → (Same × Past) ⊎ (Same → ⊥) → Same → Past
past_of (inl both) same = both.1
past_of (inr differ) same = absurd (differ same)

-- what goes ahead
pub record IsAhead (one other : RipeFile) : Type 0 where
  pub dest : one.dest ≡ other.dest
  pub queue : one.queue ≡ other.queue
  pub goes : goes_by_group one other ≡ true

pub ahead : (one other : RipeFile) → goes_ahead one other ≡ true → IsAhead one other
ahead one other is =
    let parts = and_parts (one.dest == other.dest) ((one.queue == other.queue) && goes_by_group one other) is in
    let more = and_parts (one.queue == other.queue) (goes_by_group one other) parts.1 in
    record { dest = eqb-true one.dest other.dest parts.0; queue = eqb-true one.queue other.queue more.0; goes = more.1 }

pub both_same : (dest other queue other_queue : ℕ) (rest : Bool) → dest ≡ other → queue ≡ other_queue → rest ≡ true
    → ((dest == other) && ((queue == other_queue) && rest)) ≡ true
both_same dest other queue other_queue rest same same_too is = grind (arith, nat_tests)

-- a test that passes none that is there passes none
pub none_there : (passes : RipeFile → Bool) (keys : List RipeFile) → ((key : RipeFile) → has_key goes_by_group key keys ≡ true → passes key ≡ false)
    → list_any passes keys ≡ false
none_there passes [] none = refl
none_there passes (first ∷ rest) none =
    ap (λ (test : Bool). test || list_any passes rest) (none first (has_first goes_by_group by_group first rest))
    ∙ none_there passes rest (λ key there. none key (has_rest goes_by_group by_group key first rest there))

pub record IsLeader (files : List RipeFile) (waiter : RipeFile) : Type 0 where
  pub there : has_key goes_by_group waiter files ≡ true
  pub none : list_any (λ other. goes_ahead other waiter) files ≡ false

pub leader : (files : List RipeFile) (waiter : RipeFile) → leads files waiter ≡ true → IsLeader files waiter
leader files waiter is =
    let parts = and_parts (has_key goes_by_group waiter files) (not (list_any (λ other. goes_ahead other waiter) files)) is in
    record { there = parts.0; none = not_true (list_any (λ other. goes_ahead other waiter) files) parts.1 }
  where
    not_true : (test : Bool) → not test ≡ true → test ≡ false
    not_true true is = cc
    not_true false is = refl

pub to_true : (test : Bool) → (test ≡ false → true ≡ false) → test ≡ true
to_true true not_false = refl
to_true false not_false = sym (not_false refl)

pub to_false : (test : Bool) → (test ≡ true → true ≡ false) → test ≡ false
to_false true not_true = not_true refl
to_false false not_true = refl

-- no file is in a range without queues
pub empty_range : (files : List RipeFile) (dest from to : ℕ) → to ≤ from → (waiter : RipeFile) → (is_within dest from to waiter && leads files waiter) ≡ false
empty_range files dest from to none waiter = to_false (is_within dest from to waiter && leads files waiter) (λ both.
    let range = within dest from to waiter.dest waiter.queue (and_parts (is_within dest from to waiter) (leads files waiter) both).0 in
    let impossible : ⊥ = omega (arith, none, range.least, range.less) in
    absurd impossible)

module _ (files : List RipeFile) (sorted : AreSortedBy goes_by_group files) (dest from : ℕ) where
  -- what is found from the start on
  pub record IsNext (found : RipeFile) : Type 0 where
    pub there : has_key goes_by_group found files ≡ true
    pub passing : goes_by_group found (start_at dest from) ≡ false
    pub least : (other : RipeFile) → has_key goes_by_group other files ≡ true → other.dest ≡ dest → from ≤ other.queue → goes_by_group other found ≡ false

  pub next : (found : RipeFile) → first_from goes_by_group (start_at dest from) files ≡ Some found → IsNext found
  next found is =
      let first = is_found goes_by_group by_group (λ other. not (goes_by_group other (start_at dest from))) files found sorted is in
      record {
        there = first.there;
        passing = not_true (goes_by_group found (start_at dest from)) first.passing;
        least = λ other there same least. first.least other there (ap not (not_before_start dest from other.dest other.queue other.rank other.file same least));
      }
    where
      not_true : (test : Bool) → not test ≡ true → test ≡ false
      not_true true is = cc
      not_true false is = refl

  -- it leads, where it is of the destination
  pub next_leads : (found : RipeFile) → IsNext found → found.dest ≡ dest → leads files found ≡ true
  next_leads found is same =
      let least = no_lesser dest from found.dest found.queue found.rank found.file same is.passing in
      let none =
      none_there (λ other. goes_ahead other found) files
      (λ other there. to_false (goes_ahead other found) (λ goes.
      let parts = ahead other found goes in
      sym parts.goes ∙ is.least other there (parts.dest ∙ same) (subst (λ n. from ≤ n) (sym parts.queue) least)))
      in
      ap (λ (test : Bool). test && not (list_any (λ other. goes_ahead other found) files)) is.there ∙ ap not none

  pub next_least : (found : RipeFile) → IsNext found → found.dest ≡ dest → from ≤ found.queue
  next_least found is same = no_lesser dest from found.dest found.queue found.rank found.file same is.passing

  -- and it is the only one up to its queue
  pub next_alone : (found : RipeFile) → IsNext found → found.dest ≡ dest → (waiter : RipeFile)
      → (is_within dest from (found.queue + 1) waiter && leads files waiter) ≡ is_one found waiter
  next_alone found is same waiter = same_answer (is_within dest from (found.queue + 1) waiter && leads files waiter) (is_one found waiter) there back
    where
      there : (is_within dest from (found.queue + 1) waiter && leads files waiter) ≡ true → is_one found waiter ≡ true
      there both =
          let parts = and_parts (is_within dest from (found.queue + 1) waiter) (leads files waiter) both in
          let range = within dest from (found.queue + 1) waiter.dest waiter.queue parts.0 in
          let first = leader files waiter parts.1 in
          let behind : goes_by_group waiter found ≡ false = is.least waiter first.there range.same range.least in
          let ahead_of : goes_by_group found waiter ≡ false =
          to_false (goes_by_group found waiter) (λ goes.
          sym (any_there goes_by_group by_group (λ other. goes_ahead other waiter) found files is.there
          (both_same found.dest waiter.dest found.queue waiter.queue (goes_by_group found waiter) (same ∙ sym range.same)
          (same_queue found.dest waiter.dest found.queue waiter.queue _ (same ∙ sym range.same) goes range.less) goes)) ∙ first.none) in
          subst (λ some. is_one found some ≡ true) (by_group.total found waiter ahead_of behind) (itself goes_by_group by_group found)

      back : is_one found waiter ≡ true → (is_within dest from (found.queue + 1) waiter && leads files waiter) ≡ true
      back one =
          subst (λ some. (is_within dest from (found.queue + 1) some && leads files some) ≡ true) (one_of goes_by_group by_group found waiter one)
          (ap (λ (test : Bool). test && leads files found)
          (to_within dest from (found.queue + 1) found.dest found.queue same
          (no_lesser dest from found.dest found.queue found.rank found.file same is.passing) (omega arith))
          ∙ next_leads found is same)

  -- where it is of another destination, or past the range, the range has none
  pub next_past : (found : RipeFile) (to : ℕ) → IsNext found → (found.dest ≡ dest → to ≤ found.queue) → (waiter : RipeFile)
      → (is_within dest from to waiter && leads files waiter) ≡ false
  next_past found to is past waiter = to_false (is_within dest from to waiter && leads files waiter) (λ both.
      let parts = and_parts (is_within dest from to waiter) (leads files waiter) both in
      let range = within dest from to waiter.dest waiter.queue parts.0 in
      let first = leader files waiter parts.1 in
      let no_more : found.dest ≤ dest = no_greater_dest dest from found.dest found.queue _ is.passing in
      sym (goes_before waiter.dest found.dest waiter.queue found.queue _ (subst (λ n. found.dest ≤ n) (sym range.same) no_more)
      (λ one. omega (arith, past (sym one ∙ range.same), range.less)))
      ∙ is.least waiter first.there range.same range.least)

  -- and where none is found
  pub none_next : (to : ℕ) → first_from goes_by_group (start_at dest from) files ≡ None → (waiter : RipeFile)
      → (is_within dest from to waiter && leads files waiter) ≡ false
  none_next to is waiter = to_false (is_within dest from to waiter && leads files waiter) (λ both.
      let parts = and_parts (is_within dest from to waiter) (leads files waiter) both in
      let range = within dest from to waiter.dest waiter.queue parts.0 in
      let first = leader files waiter parts.1 in
      let not_passed =
      none_found goes_by_group by_group (λ other. not (goes_by_group other (start_at dest from))) files is waiter first.there in
      sym (ap not (not_before_start dest from waiter.dest waiter.queue waiter.rank waiter.file range.same range.least)) ∙ not_passed)

  -- the same of what is found of the destination alone
  pub next_for : (found : RipeFile) → find (is_from (start_at dest from)) files ≡ Some found → (IsNext found) × (found.dest ≡ dest)
  next_for found is =
      let first = is_found goes_by_group by_group (is_from (start_at dest from)) files found sorted is in
      let parts = and_parts (found.dest == dest) (not (goes_by_group found (start_at dest from))) first.passing in (
        record {
          there = first.there;
          passing = not_true (goes_by_group found (start_at dest from)) parts.1;
          least = λ other there same least. first.least other there
              (passes other.dest (goes_by_group other (start_at dest from)) same
              (not_before_start dest from other.dest other.queue other.rank other.file same least));
        },
        eqb-true found.dest dest parts.0,
      )
    where
      not_true : (test : Bool) → not test ≡ true → test ≡ false
      not_true true is = cc
      not_true false is = refl

      passes : (other : ℕ) (goes : Bool) → other ≡ dest → goes ≡ false → ((other == dest) && not goes) ≡ true
      passes other goes same is = grind (arith, nat_tests)

  pub none_for : (to : ℕ) → find (is_from (start_at dest from)) files ≡ None → (waiter : RipeFile)
      → (is_within dest from to waiter && leads files waiter) ≡ false
  none_for to is waiter = to_false (is_within dest from to waiter && leads files waiter) (λ both.
      let parts = and_parts (is_within dest from to waiter) (leads files waiter) both in
      let range = within dest from to waiter.dest waiter.queue parts.0 in
      let first = leader files waiter parts.1 in
      sym (passes waiter.dest (goes_by_group waiter (start_at dest from)) range.same
      (not_before_start dest from waiter.dest waiter.queue waiter.rank waiter.file range.same range.least))
      ∙ none_found goes_by_group by_group (is_from (start_at dest from)) files is waiter first.there)
    where
      passes : (other : ℕ) (goes : Bool) → other ≡ dest → goes ≡ false → ((other == dest) && not goes) ≡ true
      passes other goes same is = grind (arith, nat_tests)
