-- Keys and what they leave out, as a file comes in among them and goes.
use Rattle.std.proofs.Common.{◌≡◌, ◌<◌, ◌≤◌, ◌+◌, ◌-◌, ◌*◌, ◌/◌, ◌%◌, ◌++◌, ◌∷◌, [], ℕ, Bool, true, false, cond, List, length, zero, suc, refl, ap, sym, ◌∙◌, subst, arith}
use Rattle.std.specs.Prelude.{not, ◌||◌, ◌==◌, map, slice_set, slice_index_or}
use Rattle.std.specs.List.{list_any, AllByRecursion}
use Rattle.std.proofs.lemmas.Bool.{eqb-false, eq-eqb, ne_eqb, or_parts, leb-true, leb-false}
use Rattle.ordered.specs.Orders.{AreSortedBy, has_key, put_by, without, differs}
use Rattle.ordered.proofs.Lists.{filter_sorted}
use Rattle.ordered.proofs.Members.{one_of}
use Rattle.fts_queue.specs.declared.waiter.Waiter.{Waiter}
use Rattle.fts_queue.specs.WaitingData.{is_waiting, is_ripe, in_order, with_waiter, without_file, goes_before, AreApart}
use Rattle.fts_queue.proofs.Sorting.{any_sorted, apart_middle}
use Rattle.fts_heads.specs.RipeFiles.{goes_by_group, by_group}
use Rattle.fts_heads.specs.declared.ripe_file.RipeFile.{RipeFile}
use Rattle.fts_line.specs.declared.key.TheConstants.{LATER}
use Rattle.fts_line.specs.LineData.{IsKnown, dest_of}
use Rattle.fts_line.specs.Keys.{queue_of, rank_of, whole_of, ripe_of, later_of, key_of, rest_of, waiter_at, is_later, file_of, waiter_of, waiters_of, IsKeyed, AreKeyed, IsDue, AreDue}
use Rattle.fts_line.proofs.Between.{IsBetween, put_is, gone_is, map_is, all_in, all_out, all_both, map_same, none_made}

-- files with the same numbers are one
pub same_numbers : (one other : Waiter) → one.file ≡ other.file → one.link.source ≡ other.link.source → one.link.dest ≡ other.link.dest
    → one.activity ≡ other.activity → one.priority ≡ other.priority → one.not_before ≡ other.not_before → one ≡ other
same_numbers one other file source dest activity priority not_before =
    ap (λ n. record one { file = n }) file
    ∙ (ap (λ n. record one { file = other.file; link = record one.link { source = n } }) source
    ∙ (ap (λ n. record one { file = other.file; link = record one.link { source = other.link.source; dest = n } }) dest
    ∙ (ap (λ n. record one { file = other.file; link = other.link; activity = n }) activity
    ∙ (ap (λ n. record one { file = other.file; link = other.link; activity = other.activity; priority = n }) priority
    ∙ ap (λ n. record other { not_before = n }) not_before))))

-- a queue, a rank and a moment come out as they went in
record AreSame (source dest activity priority : ℕ) : Type 0 where
  source_is : ((source * 256 + dest) * 256 + activity) / 65536 ≡ source
  dest_is : (((source * 256 + dest) * 256 + activity) / 256) % 256 ≡ dest
  activity_is : ((source * 256 + dest) * 256 + activity) % 256 ≡ activity
  priority_is : 4294967295 - (4294967295 - priority) ≡ priority
  queue_back : (((source * 256 + dest) * 256 + activity) * 4294967296 + (4294967295 - priority)) / 4294967296 ≡ (source * 256 + dest) * 256 + activity
  rank_back : (((source * 256 + dest) * 256 + activity) * 4294967296 + (4294967295 - priority)) % 4294967296 ≡ 4294967295 - priority

same : (source dest activity priority : ℕ) → dest < 256 → activity < 256 → priority < 4294967296 → AreSame source dest activity priority
same source dest activity priority d a p = record {
  source_is = omega (arith, d, a);
  dest_is = omega (arith, d, a);
  activity_is = omega (arith, a);
  priority_is = omega (arith, p);
  queue_back = omega (arith, p);
  rank_back = omega (arith, p);
}

same_moment : (moment : ℕ) → (moment / 4294967296) * 4294967296 + moment % 4294967296 ≡ moment
same_moment moment = omega arith

module _ (dests : List ℕ) (dest_count : ℕ) (few : dest_count ≤ LATER) (waiter : Waiter) (known : IsKnown dests dest_count waiter) where
  numbers : AreSame waiter.link.source waiter.link.dest waiter.activity waiter.priority
  numbers = same waiter.link.source waiter.link.dest waiter.activity waiter.priority known.queue.to known.queue.under known.priority

  at_is : (queue rank moment : ℕ) → queue ≡ queue_of waiter.link waiter.activity → rank ≡ rank_of waiter.priority → moment ≡ waiter.not_before
      → waiter_at waiter.file queue rank moment ≡ waiter
  at_is queue rank moment one other third = same_numbers (waiter_at waiter.file queue rank moment) waiter refl
      (ap (λ n. n / 65536) one ∙ numbers.source_is)
      (ap (λ n. (n / 256) % 256) one ∙ numbers.dest_is)
      (ap (λ n. n % 256) one ∙ numbers.activity_is)
      (ap (λ n. 4294967295 - n) other ∙ numbers.priority_is)
      third

  -- a file's destination is not that of files whose moment has not come
  ripe_not_later : is_later (ripe_of dests waiter) ≡ false
  ripe_not_later = ne_eqb (dest_of dests waiter.file) LATER (λ is. omega (arith, is, known.dest, few))

  ripe_back : file_of waiter.not_before (ripe_of dests waiter) ≡ waiter
  ripe_back =
      ap (λ (test : Bool). cond test (waiter_at waiter.file (waiter.not_before / 4294967296) (waiter.not_before % 4294967296)
      (whole_of (queue_of waiter.link waiter.activity) (rank_of waiter.priority)))
      (waiter_at waiter.file (queue_of waiter.link waiter.activity) (rank_of waiter.priority) waiter.not_before)) ripe_not_later
      ∙ at_is (queue_of waiter.link waiter.activity) (rank_of waiter.priority) waiter.not_before refl refl refl

  later_back : file_of (whole_of (queue_of waiter.link waiter.activity) (rank_of waiter.priority)) (later_of waiter) ≡ waiter
  later_back = at_is _ _ _ numbers.queue_back numbers.rank_back (same_moment waiter.not_before)

  -- the key of a file at a moment, and what it leaves out, give the file
  record IsBack (moment : ℕ) : Type 0 where
    number : (key_of moment dests waiter).file ≡ waiter.file
    back : file_of (rest_of moment waiter) (key_of moment dests waiter) ≡ waiter
    own : key_of moment dests waiter ≡ (cond (is_later (key_of moment dests waiter)) (later_of waiter) (ripe_of dests waiter))
    past : is_later (key_of moment dests waiter) ≡ false → waiter.not_before ≤ moment
    later : is_later (key_of moment dests waiter) ≡ true → moment < waiter.not_before

  is_back : (moment : ℕ) → IsBack moment
  is_back moment = by_test (is_ripe moment waiter) refl
    where
      by_test : (answer : Bool) → is_ripe moment waiter ≡ answer → IsBack moment
      by_test true is = record {
        number = ap (λ (test : Bool). (cond test (ripe_of dests waiter) (later_of waiter)).file) is;
        back = ap (λ (test : Bool). file_of (cond test waiter.not_before (whole_of (queue_of waiter.link waiter.activity) (rank_of waiter.priority)))
            (cond test (ripe_of dests waiter) (later_of waiter))) is ∙ ripe_back;
        own = ap (λ (test : Bool). cond test (ripe_of dests waiter) (later_of waiter)) is
            ∙ sym (ap (λ (test : Bool). cond (is_later (cond test (ripe_of dests waiter) (later_of waiter))) (later_of waiter) (ripe_of dests waiter)) is
            ∙ ap (λ (test : Bool). cond test (later_of waiter) (ripe_of dests waiter)) ripe_not_later);
        past = λ not_later. leb-true waiter.not_before moment is;
        later = λ is_then.
            let wrong : true ≡ false = sym is_then ∙ (ap (λ (test : Bool). is_later (cond test (ripe_of dests waiter) (later_of waiter))) is ∙ ripe_not_later) in
            cc;
      }
      by_test false is = record {
        number = ap (λ (test : Bool). (cond test (ripe_of dests waiter) (later_of waiter)).file) is;
        back = ap (λ (test : Bool). file_of (cond test waiter.not_before (whole_of (queue_of waiter.link waiter.activity) (rank_of waiter.priority)))
            (cond test (ripe_of dests waiter) (later_of waiter))) is ∙ later_back;
        own = ap (λ (test : Bool). cond test (ripe_of dests waiter) (later_of waiter)) is
            ∙ sym (ap (λ (test : Bool). cond (is_later (cond test (ripe_of dests waiter) (later_of waiter))) (later_of waiter) (ripe_of dests waiter)) is);
        past = λ not_later.
            let wrong : true ≡ false = sym (ap (λ (test : Bool). is_later (cond test (ripe_of dests waiter) (later_of waiter))) is) ∙ not_later in
            cc;
        later = λ is_then. leb-false waiter.not_before moment is;
      }

-- the number of a key is its file's
pub number_is : (rest : ℕ) (key : RipeFile) → (file_of rest key).file ≡ key.file
number_is rest key = by_test (is_later key)
  where
    by_test : (answer : Bool) → (cond answer (waiter_at key.file (rest / 4294967296) (rest % 4294967296) (whole_of key.queue key.rank))
        (waiter_at key.file key.queue key.rank rest)).file ≡ key.file
    by_test true = refl
    by_test false = refl

-- what stands at a number in a list with another number there, and beside it
set_here : (rests : List ℕ) (at rest : ℕ) → at < length rests → slice_index_or (slice_set rests at rest) at 0 ≡ rest
set_here [] at rest inside = absurd (omega (arith, inside))
set_here (first ∷ rests) zero rest inside = refl
set_here (first ∷ rests) (suc at) rest inside = set_here rests at rest (omega (arith, inside))

set_beside : (rests : List ℕ) (at other rest : ℕ) → (at ≡ other → ⊥) → slice_index_or (slice_set rests at rest) other 0 ≡ slice_index_or rests other 0
set_beside [] at other rest apart = refl
set_beside (first ∷ rests) zero zero rest apart = absurd (apart refl)
set_beside (first ∷ rests) zero (suc other) rest apart = refl
set_beside (first ∷ rests) (suc at) zero rest apart = refl
set_beside (first ∷ rests) (suc at) (suc other) rest apart = set_beside rests at other rest (λ is. apart (ap suc is))

pub set_length : (rests : List ℕ) (at rest : ℕ) → length (slice_set rests at rest) ≡ length rests
set_length [] at rest = refl
set_length (first ∷ rests) zero rest = refl
set_length (first ∷ rests) (suc at) rest = ap suc (set_length rests at rest)

-- a file that none of the others is comes among them
any_parts : (passes : Waiter → Bool) (front back : List Waiter) (waiter : Waiter) → passes waiter ≡ false → list_any passes (front ++ back) ≡ false
    → list_any passes (front ++ waiter ∷ back) ≡ false
any_parts passes [] back waiter not_here none = ap (λ (test : Bool). test || list_any passes back) not_here ∙ none
any_parts passes (first ∷ front) back waiter not_here none =
    let parts = or_parts (passes first) (list_any passes (front ++ back)) none in
    ap (λ (test : Bool). test || list_any passes (front ++ waiter ∷ back)) parts.0 ∙ any_parts passes front back waiter not_here parts.1

other_way : (one other : ℕ) → (one == other) ≡ false → (other == one) ≡ false
other_way one other apart = ne_eqb other one (λ is. eqb-false one other apart (sym is))

apart_parts : (front back : List Waiter) (waiter : Waiter) → AreApart (front ++ back) → is_waiting waiter.file (front ++ back) ≡ false
    → AreApart (front ++ waiter ∷ back)
apart_parts [] back waiter apart fresh = (fresh, apart)
apart_parts (first ∷ front) back waiter apart fresh =
    let parts = or_parts (first.file == waiter.file) (is_waiting waiter.file (front ++ back)) fresh in (
      any_parts (λ other. other.file == first.file) front back waiter (other_way first.file waiter.file parts.0) apart.0,
      apart_parts front back waiter apart.1 parts.1,
    )

-- none of the files of the keys has a number where none that waits has
strangers : (rests : List ℕ) (file : ℕ) (keys : List RipeFile) → is_waiting file (waiters_of rests keys) ≡ false
    → AllByRecursion (λ key. (key.file == file) ≡ false) keys
strangers rests file keys fresh =
    all_both (λ (key : RipeFile). ((waiter_of rests key).file == file) ≡ false) (λ (key : RipeFile). ((waiter_of rests key).file == file) ≡ false)
    (λ (key : RipeFile). (key.file == file) ≡ false)
    (λ key is again. ap (λ n. n == file) (sym (number_is (slice_index_or rests (key.file - 1) 0) key)) ∙ is) keys made made
  where
    made : AllByRecursion (λ (key : RipeFile). ((waiter_of rests key).file == file) ≡ false) keys
    made = none_made (λ waiter. waiter.file == file) (waiter_of rests) keys
        (sym (any_sorted goes_before (λ waiter. waiter.file == file) (map (waiter_of rests) keys)) ∙ fresh)

-- a key that no other has the number of isn't there
no_key : (key : RipeFile) (keys : List RipeFile) → AllByRecursion (λ other. (other.file == key.file) ≡ false) keys → has_key goes_by_group key keys ≡ false
no_key key [] all = refl
no_key key (first ∷ rest) all =
    ap (λ (test : Bool). test || has_key goes_by_group key rest) (by_test (not (differs goes_by_group first key)) refl)
    ∙ no_key key rest all.1
  where
    by_test : (answer : Bool) → not (differs goes_by_group first key) ≡ answer → not (differs goes_by_group first key) ≡ false
    by_test true is =
        let alike : first ≡ key = one_of goes_by_group by_group first key is in
        let wrong : true ≡ false = sym (eq-eqb first.file key.file (ap (λ (some : RipeFile). some.file) alike)) ∙ all.0 in
        cc
    by_test false is = is

-- what the order of files depends on
module _ (inserted : (before after : List Waiter) (waiter : Waiter) → AreApart (before ++ waiter ∷ after)
    → in_order (before ++ waiter ∷ after) ≡ with_waiter waiter (in_order (before ++ after)))
    (removed : (before after : List Waiter) (waiter : Waiter) → AreApart (before ++ waiter ∷ after)
    → without_file waiter.file (in_order (before ++ waiter ∷ after)) ≡ in_order (before ++ after)) where
  -- a file comes in
  module _ (dests : List ℕ) (dest_count : ℕ) (rests : List ℕ) (keys : List RipeFile) (are : AreKeyed dests dest_count rests keys) (waiter : Waiter)
      (known : IsKnown dests dest_count waiter) (fresh : is_waiting waiter.file (waiters_of rests keys) ≡ false) (moment : ℕ) where
    abbrev key : RipeFile
    key = key_of moment dests waiter

    abbrev then : List ℕ
    then = slice_set rests (waiter.file - 1) (rest_of moment waiter)

    back : IsBack dests dest_count are.few waiter known moment
    back = is_back dests dest_count are.few waiter known moment

    own : waiter_of then key ≡ waiter
    own =
        ap (λ n. file_of (slice_index_or then (n - 1) 0) key) back.number
        ∙ (ap (λ rest. file_of rest key) (set_here rests (waiter.file - 1) (rest_of moment waiter) (omega (arith, known.numbered, are.each)))
        ∙ back.back)

    others : AllByRecursion (λ other. (other.file == waiter.file) ≡ false) keys
    others = strangers rests waiter.file keys fresh

    stays : AllByRecursion (λ other. waiter_of then other ≡ waiter_of rests other) keys
    stays = all_both (IsKeyed dests dest_count rests) (λ (other : RipeFile). (other.file == waiter.file) ≡ false)
        (λ (other : RipeFile). waiter_of then other ≡ waiter_of rests other)
        (λ other keyed apart.
        let first : 0 < other.file = subst (λ n. 0 < n) (number_is (slice_index_or rests (other.file - 1) 0) other) keyed.known.first in
        ap (λ rest. file_of rest other) (set_beside rests (waiter.file - 1) (other.file - 1) (rest_of moment waiter)
        (λ is. eqb-false other.file waiter.file apart (omega (arith, is, first, known.first))))) keys are.keyed others

    abbrev among : IsBetween key (put_by goes_by_group key keys) keys
    among = put_is goes_by_group key keys

    made : IsBetween waiter (map (waiter_of then) (put_by goes_by_group key keys)) (map (waiter_of rests) keys)
    made =
        let is = map_is (waiter_of then) key (put_by goes_by_group key keys) keys among in
        record {
          front = is.front;
          back = is.back;
          whole_is = is.whole_is ∙ ap (λ some. is.front ++ some ∷ is.back) own;
          rest_is = sym (map_same (waiter_of then) (waiter_of rests) keys stays) ∙ is.rest_is;
        }

    apart : AreApart (made.front ++ waiter ∷ made.back)
    apart = apart_parts made.front made.back waiter (subst AreApart made.rest_is are.apart)
        (ap (is_waiting waiter.file) (sym made.rest_is)
        ∙ (sym (any_sorted goes_before (λ other. other.file == waiter.file) (map (waiter_of rests) keys)) ∙ fresh))

    pub came_absent : has_key goes_by_group key keys ≡ false
    came_absent = no_key key keys (subst (λ n. AllByRecursion (λ (other : RipeFile). (other.file == n) ≡ false) keys) (sym back.number) others)

    pub came_waiters : waiters_of then (put_by goes_by_group key keys) ≡ with_waiter waiter (waiters_of rests keys)
    came_waiters = ap in_order made.whole_is ∙ (inserted made.front made.back waiter apart ∙ ap (λ some. with_waiter waiter (in_order some)) (sym made.rest_is))

    pub came_keyed : AreKeyed dests dest_count then (put_by goes_by_group key keys)
    came_keyed = record {
      keyed = all_in (IsKeyed dests dest_count then) key (put_by goes_by_group key keys) keys among
          (record {
            own = back.own ∙ ap (λ some. cond (is_later key) (later_of some) (ripe_of dests some)) (sym own);
            known = subst (IsKnown dests dest_count) (sym own) known;
          })
          (all_both (IsKeyed dests dest_count rests) (λ (other : RipeFile). waiter_of then other ≡ waiter_of rests other) (IsKeyed dests dest_count then)
          (λ other keyed same. record {
            own = keyed.own ∙ ap (λ some. cond (is_later other) (later_of some) (ripe_of dests some)) (sym same);
            known = subst (IsKnown dests dest_count) (sym same) keyed.known;
          }) keys are.keyed stays);
      apart = subst AreApart (sym made.whole_is) apart;
      each = set_length rests (waiter.file - 1) (rest_of moment waiter) ∙ are.each;
      few = are.few;
    }

    pub came_due : (low high : ℕ) → low ≤ moment → moment ≤ high → AreDue low high rests keys → AreDue low high then (put_by goes_by_group key keys)
    came_due low high less more due =
        all_in (IsDue low high then) key (put_by goes_by_group key keys) keys among
        (record {
          past = λ is. subst (λ (some : Waiter). some.not_before ≤ high) (sym own) (omega (arith, back.past is, more));
          later = λ is. subst (λ (some : Waiter). low < some.not_before) (sym own) (omega (arith, back.later is, less));
        })
        (all_both (IsDue low high rests) (λ (other : RipeFile). waiter_of then other ≡ waiter_of rests other) (IsDue low high then)
        (λ other was same. record {
          past = λ is. subst (λ (some : Waiter). some.not_before ≤ high) (sym same) (was.past is);
          later = λ is. subst (λ (some : Waiter). low < some.not_before) (sym same) (was.later is);
        }) keys due stays)

  -- a key goes
  module _ (dests : List ℕ) (dest_count : ℕ) (rests : List ℕ) (keys : List RipeFile) (are : AreKeyed dests dest_count rests keys) (key : RipeFile)
      (sorted : AreSortedBy goes_by_group keys) (there : has_key goes_by_group key keys ≡ true) where
    abbrev gone : IsBetween key keys (without goes_by_group key keys)
    gone = gone_is goes_by_group by_group key keys sorted there

    abbrev was : IsBetween (waiter_of rests key) (map (waiter_of rests) keys) (map (waiter_of rests) (without goes_by_group key keys))
    was = map_is (waiter_of rests) key keys (without goes_by_group key keys) gone

    left : (is_waiting (waiter_of rests key).file (was.front ++ was.back) ≡ false) × AreApart (was.front ++ was.back)
    left = apart_middle was.front was.back (waiter_of rests key) (subst AreApart was.whole_is are.apart)

    pub gone_keyed : AreKeyed dests dest_count rests (without goes_by_group key keys)
    gone_keyed = record {
      keyed = (all_out (IsKeyed dests dest_count rests) key keys (without goes_by_group key keys) gone are.keyed).1;
      apart = subst AreApart (sym was.rest_is) left.1;
      each = are.each;
      few = are.few;
    }

    pub gone_due : (low high : ℕ) → AreDue low high rests keys → AreDue low high rests (without goes_by_group key keys)
    gone_due low high due = (all_out (IsDue low high rests) key keys (without goes_by_group key keys) gone due).1

    pub gone_waiters : waiters_of rests (without goes_by_group key keys) ≡ without_file key.file (waiters_of rests keys)
    gone_waiters =
        ap in_order was.rest_is
        ∙ (sym (removed was.front was.back (waiter_of rests key) (subst AreApart was.whole_is are.apart))
        ∙ (ap (λ some. without_file (waiter_of rests key).file (in_order some)) (sym was.whole_is)
        ∙ ap (λ n. without_file n (waiters_of rests keys)) (number_is (slice_index_or rests (key.file - 1) 0) key)))

    -- its file was known, and is none that waits any more
    pub gone_known : IsKeyed dests dest_count rests key
    gone_known = (all_out (IsKeyed dests dest_count rests) key keys (without goes_by_group key keys) gone are.keyed).0

    pub gone_fresh : is_waiting (waiter_of rests key).file (waiters_of rests (without goes_by_group key keys)) ≡ false
    gone_fresh =
        any_sorted goes_before (λ other. other.file == (waiter_of rests key).file) (map (waiter_of rests) (without goes_by_group key keys))
        ∙ (ap (is_waiting (waiter_of rests key).file) was.rest_is ∙ left.0)

    -- with it all wait as before
    pub gone_back : with_waiter (waiter_of rests key) (waiters_of rests (without goes_by_group key keys)) ≡ waiters_of rests keys
    gone_back =
        ap (λ some. with_waiter (waiter_of rests key) (in_order some)) was.rest_is
        ∙ (sym (inserted was.front was.back (waiter_of rests key) (subst AreApart was.whole_is are.apart)) ∙ ap in_order (sym was.whole_is))

    -- and what another number leaves out doesn't matter to those that stay
    apart_from : AllByRecursion (λ (other : RipeFile). (other.file == (waiter_of rests key).file) ≡ false) (without goes_by_group key keys)
    apart_from = strangers rests (waiter_of rests key).file (without goes_by_group key keys) gone_fresh

    pub gone_stays : (other : RipeFile) → has_key goes_by_group other (without goes_by_group key keys) ≡ true
        → (file rest : ℕ) → file ≡ (waiter_of rests key).file → waiter_of (slice_set rests (file - 1) rest) other ≡ waiter_of rests other
    gone_stays other is file rest same =
        let keyed : IsKeyed dests dest_count rests other =
        (all_out (IsKeyed dests dest_count rests) other (without goes_by_group key keys) (without goes_by_group other (without goes_by_group key keys))
        (gone_is goes_by_group by_group other (without goes_by_group key keys) (filter_sorted goes_by_group (λ some. differs goes_by_group some key) keys sorted) is)
        gone_keyed.keyed).0 in
        let differ : (other.file == (waiter_of rests key).file) ≡ false =
        (all_out (λ (some : RipeFile). (some.file == (waiter_of rests key).file) ≡ false) other (without goes_by_group key keys)
        (without goes_by_group other (without goes_by_group key keys))
        (gone_is goes_by_group by_group other (without goes_by_group key keys) (filter_sorted goes_by_group (λ some. differs goes_by_group some key) keys sorted) is)
        apart_from).0 in
        let first : 0 < other.file = subst (λ n. 0 < n) (number_is (slice_index_or rests (other.file - 1) 0) other) keyed.known.first in
        let some : 0 < (waiter_of rests key).file = gone_known.known.first in
        ap (λ found. file_of found other) (set_beside rests (file - 1) (other.file - 1) rest
        (λ is. eqb-false other.file (waiter_of rests key).file differ (omega (arith, is, same, first, some))))
