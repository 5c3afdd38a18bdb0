-- What stands in line and what waits: each file that waits has its key, and each key is that of a file that waits.
use Rattle.std.proofs.Common.{◌≡◌, ◌⊎◌, inl, inr, ◌<◌, ◌≤◌, ◌+◌, ◌-◌, ◌/◌, ◌%◌, ◌++◌, ◌∷◌, [], ℕ, Bool, true, false, cond, List, length, suc, refl, ap, sym, ◌∙◌, subst, arith}
use Rattle.std.specs.Prelude.{not, ◌&&◌, ◌||◌, ◌==◌, map, take, drop, slice_index_or}
use Rattle.std.specs.List.{list_any, AllByRecursion}
use Rattle.std.proofs.lemmas.Bool.{and_parts, or_left, or_right, eqb-true, eq-eqb, ne_eqb, le-leb, lt-leb}
use Rattle.std.proofs.Math.ListN.{get_or-append}
use Rattle.std.proofs.lemmas.List.{length_push}
use Rattle.ordered.specs.Orders.{has_key, differs}
use Rattle.ordered.proofs.Members.{itself, one_of}
use Rattle.fts_queue.specs.declared.waiter.Waiter.{Waiter}
use Rattle.fts_queue.specs.WaitingData.{is_waiting, is_ripe, is_in, in_order, is_same_place, with_waiter, goes_before, AreApart}
use Rattle.fts_queue.proofs.Sorting.{any_sorted}
use Rattle.fts_heads.specs.RipeFiles.{goes_by_group, by_group}
use Rattle.fts_heads.specs.declared.ripe_file.RipeFile.{RipeFile}
use Rattle.fts_heads.proofs.Found.{any_there}
use Rattle.fts_line.specs.declared.key.TheConstants.{LATER}
use Rattle.fts_line.specs.LineData.{IsKnown, dest_of, is_on, is_same_waiter}
use Rattle.fts_line.specs.Keys.{link_at, waiter_at, whole_of, ripe_of, later_of, key_of, is_later, file_of, waiter_of, waiters_of, is_own_key, IsKeyed, AreKeyed, IsDue, AreDue}
use Rattle.fts_line.proofs.Files.{IsOneOf, HasOne, has_one, any_of, length_with}
use Rattle.fts_line.proofs.Between.{all_both, map_same}
use Rattle.fts_line.proofs.Keyed.{number_is, same_numbers}

-- as many wait as there are keys
length_order : (waiters : List Waiter) → length (in_order waiters) ≡ length waiters
length_order [] = refl
length_order (first ∷ rest) = length_with first (in_order rest) ∙ ap suc (length_order rest)

length_made : {A B : Type 0} (f : A → B) (items : List A) → length (map f items) ≡ length items
length_made f [] = refl
length_made f (first ∷ rest) = ap suc (length_made f rest)

pub as_many : (rests : List ℕ) (keys : List RipeFile) → length (waiters_of rests keys) ≡ length keys
as_many rests keys = length_order (map (waiter_of rests) keys) ∙ length_made (waiter_of rests) keys

-- a file with the same numbers is the same, and each is so with itself
pub same_waiter : (one other : Waiter) → is_same_waiter one other ≡ true → other ≡ one
same_waiter one other is =
    let all = and_parts (is_same_place one other) (other.not_before == one.not_before) is in
    let placed = and_parts ((other.file == one.file) && is_in one.link one.activity other) (other.priority == one.priority) all.0 in
    let filed = and_parts (other.file == one.file) (is_in one.link one.activity other) placed.0 in
    let queued = and_parts ((other.link.source == one.link.source) && (other.link.dest == one.link.dest)) (other.activity == one.activity) filed.1 in
    let linked = and_parts (other.link.source == one.link.source) (other.link.dest == one.link.dest) queued.0 in
    same_numbers other one (eqb-true other.file one.file filed.0)
    (eqb-true other.link.source one.link.source linked.0) (eqb-true other.link.dest one.link.dest linked.1)
    (eqb-true other.activity one.activity queued.1) (eqb-true other.priority one.priority placed.1) (eqb-true other.not_before one.not_before all.1)

pub both : (one other : Bool) → one ≡ true → other ≡ true → (one && other) ≡ true
both true other is1 is2 = is2
both false other is1 is2 = is1

own_same : (waiter : Waiter) → is_same_waiter waiter waiter ≡ true
own_same waiter =
    both _ _
    (both _ _ (both _ _ (eq-eqb waiter.file waiter.file refl)
    (both _ _ (both _ _ (eq-eqb waiter.link.source waiter.link.source refl) (eq-eqb waiter.link.dest waiter.link.dest refl))
    (eq-eqb waiter.activity waiter.activity refl)))
    (eq-eqb waiter.priority waiter.priority refl))
    (eq-eqb waiter.not_before waiter.not_before refl)

-- a file that is made of one of the keys is among those that wait
with_others : (waiter other : Waiter) (waiters : List Waiter) → (other ≡ waiter) ⊎ IsOneOf waiter waiters → IsOneOf waiter (with_waiter other waiters)
with_others waiter other [] side = side
with_others waiter other (first ∷ rest) side = by_test (goes_before other first) (with_others waiter other rest) side
  where
    by_test : (answer : Bool) → ((other ≡ waiter) ⊎ IsOneOf waiter rest → IsOneOf waiter (with_waiter other rest))
        → (other ≡ waiter) ⊎ IsOneOf waiter (first ∷ rest) → IsOneOf waiter (cond answer (other ∷ first ∷ rest) (first ∷ with_waiter other rest))
    by_test true behind is = is
    by_test false behind (inl here) = inr (behind (inl here))
    by_test false behind (inr (inl first_is)) = inl first_is
    by_test false behind (inr (inr later)) = inr (behind (inr later))

among_order : (waiter : Waiter) (waiters : List Waiter) → IsOneOf waiter waiters → IsOneOf waiter (in_order waiters)
among_order waiter [] among = among
among_order waiter (first ∷ rest) among = with_others waiter first (in_order rest) (by_side among (among_order waiter rest))
  where
    by_side : (first ≡ waiter) ⊎ IsOneOf waiter rest → (IsOneOf waiter rest → IsOneOf waiter (in_order rest)) → (first ≡ waiter) ⊎ IsOneOf waiter (in_order rest)
    by_side (inl here) behind = inl here
    by_side (inr later) behind = inr (behind later)

module _ (dests : List ℕ) (dest_count : ℕ) (rests : List ℕ) (moment : ℕ) where
  -- a key, and what is known of it
  pub record HasKey (waiter : Waiter) (keys : List RipeFile) : Type 0 where
    pub key : RipeFile
    pub there : has_key goes_by_group key keys ≡ true
    pub keyed : IsKeyed dests dest_count rests key
    pub due : IsDue moment moment rests key
    pub own : waiter_of rests key ≡ waiter

  -- a file that waits has one
  key_there : (waiter : Waiter) (keys : List RipeFile) → AllByRecursion (IsKeyed dests dest_count rests) keys → AreDue moment moment rests keys
      → list_any (is_same_waiter waiter) (map (waiter_of rests) keys) ≡ true → HasKey waiter keys
  key_there waiter [] keyed due is = cc
  key_there waiter (first ∷ rest) keyed due is =
      by_test (key_there waiter rest keyed.1 due.1) (is_same_waiter waiter (waiter_of rests first)) refl is
    where
      by_test : (list_any (is_same_waiter waiter) (map (waiter_of rests) rest) ≡ true → HasKey waiter rest) → (answer : Bool)
          → is_same_waiter waiter (waiter_of rests first) ≡ answer → (answer || list_any (is_same_waiter waiter) (map (waiter_of rests) rest)) ≡ true
          → HasKey waiter (first ∷ rest)
      by_test behind true here is = record {
        key = first;
        there = or_left (not (differs goes_by_group first first)) (has_key goes_by_group first rest) (itself goes_by_group by_group first);
        keyed = keyed.0;
        due = due.0;
        own = same_waiter waiter (waiter_of rests first) here;
      }
      by_test behind false here is =
          let later = behind is in
          record {
            key = later.key;
            there = or_right (not (differs goes_by_group first later.key)) (has_key goes_by_group later.key rest) later.there;
            keyed = later.keyed;
            due = later.due;
            own = later.own;
          }

  -- which is the file's at that moment
  own_key : (waiter : Waiter) (keys : List RipeFile) → (has : HasKey waiter keys) → has.key ≡ key_of moment dests waiter
  own_key waiter keys has = by_test (is_later has.key) refl
    where
      by_test : (answer : Bool) → is_later has.key ≡ answer → has.key ≡ key_of moment dests waiter
      by_test true is =
          let past : moment < waiter.not_before = subst (λ (some : Waiter). moment < some.not_before) has.own (has.due.later is) in
          has.keyed.own
          ∙ (ap (λ (test : Bool). cond test (later_of (waiter_of rests has.key)) (ripe_of dests (waiter_of rests has.key))) is
          ∙ (ap later_of has.own ∙ sym (ap (λ (test : Bool). cond test (ripe_of dests waiter) (later_of waiter)) (lt-leb waiter.not_before moment past))))
      by_test false is =
          let past : waiter.not_before ≤ moment = subst (λ (some : Waiter). some.not_before ≤ moment) has.own (has.due.past is) in
          has.keyed.own
          ∙ (ap (λ (test : Bool). cond test (later_of (waiter_of rests has.key)) (ripe_of dests (waiter_of rests has.key))) is
          ∙ (ap (ripe_of dests) has.own ∙ sym (ap (λ (test : Bool). cond test (ripe_of dests waiter) (later_of waiter)) (le-leb waiter.not_before moment past))))

  module _ (keys : List RipeFile) (are : AreKeyed dests dest_count rests keys) (due : AreDue moment moment rests keys) where
    pub has_its_key : (waiter : Waiter) → list_any (is_same_waiter waiter) (waiters_of rests keys) ≡ true
        → has_key goes_by_group (key_of moment dests waiter) keys ≡ true
    has_its_key waiter is =
        let has : HasKey waiter keys = key_there waiter keys are.keyed due
        (sym (any_sorted goes_before (is_same_waiter waiter) (map (waiter_of rests) keys)) ∙ is) in
        subst (λ key. has_key goes_by_group key keys ≡ true) (own_key waiter keys has) has.there

    pub waits_known : (waiter : Waiter) → IsOneOf waiter (waiters_of rests keys) → IsKnown dests dest_count waiter
    waits_known waiter among =
        let has : HasKey waiter keys = key_there waiter keys are.keyed due
        (sym (any_sorted goes_before (is_same_waiter waiter) (map (waiter_of rests) keys))
        ∙ any_of (is_same_waiter waiter) (waiters_of rests keys) waiter among (own_same waiter)) in
        subst (IsKnown dests dest_count) has.own has.keyed.known

    pub stands_then : (waiter : Waiter) → IsOneOf waiter (waiters_of rests keys) → is_ripe moment waiter ≡ true
        → has_key goes_by_group (ripe_of dests waiter) keys ≡ true
    stands_then waiter among ripe =
        subst (λ key. has_key goes_by_group key keys ≡ true) (ap (λ (test : Bool). cond test (ripe_of dests waiter) (later_of waiter)) ripe)
        (has_its_key waiter (any_of (is_same_waiter waiter) (waiters_of rests keys) waiter among (own_same waiter)))

-- one of the keys is made a file of those that are made
among_made : (rests : List ℕ) (key : RipeFile) (keys : List RipeFile) → has_key goes_by_group key keys ≡ true → IsOneOf (waiter_of rests key) (map (waiter_of rests) keys)
among_made rests key [] there = cc
among_made rests key (first ∷ rest) there = by_test (among_made rests key rest) (not (differs goes_by_group first key)) refl there
  where
    by_test : (has_key goes_by_group key rest ≡ true → IsOneOf (waiter_of rests key) (map (waiter_of rests) rest)) → (answer : Bool)
        → not (differs goes_by_group first key) ≡ answer → (answer || has_key goes_by_group key rest) ≡ true
        → (waiter_of rests first ≡ waiter_of rests key) ⊎ IsOneOf (waiter_of rests key) (map (waiter_of rests) rest)
    by_test behind true is there = inl (ap (waiter_of rests) (one_of goes_by_group by_group first key is))
    by_test behind false is there = inr (behind there)

pub waits_so : (rests : List ℕ) (key : RipeFile) (keys : List RipeFile) → has_key goes_by_group key keys ≡ true
    → IsOneOf (waiter_of rests key) (waiters_of rests keys)
waits_so rests key keys there = among_order (waiter_of rests key) (map (waiter_of rests) keys) (among_made rests key keys there)

-- what is known of all keys is known of one
pub of_key : (P : RipeFile → Type 0) (key : RipeFile) (keys : List RipeFile) → AllByRecursion P keys → has_key goes_by_group key keys ≡ true → P key
of_key P key [] all there = cc
of_key P key (first ∷ rest) all there = by_test (of_key P key rest all.1) (not (differs goes_by_group first key)) refl there
  where
    by_test : (has_key goes_by_group key rest ≡ true → P key) → (answer : Bool) → not (differs goes_by_group first key) ≡ answer
        → (answer || has_key goes_by_group key rest) ≡ true → P key
    by_test behind true is there = subst P (one_of goes_by_group by_group first key is) all.0
    by_test behind false is there = behind there

-- one row more
module _ (dests : List ℕ) (dest_count : ℕ) (rests : List ℕ) (keys : List RipeFile) (are : AreKeyed dests dest_count rests keys) (dest : ℕ)
    (few : dest_count < LATER) where
  stays : AllByRecursion (λ key. waiter_of (rests ++ 0 ∷ []) key ≡ waiter_of rests key) keys
  stays = all_both (IsKeyed dests dest_count rests) (IsKeyed dests dest_count rests) (λ key. waiter_of (rests ++ 0 ∷ []) key ≡ waiter_of rests key)
      (λ key keyed again.
      let number = number_is (slice_index_or rests (key.file - 1) 0) key in
      let numbered : key.file - 1 < length rests = subst (λ n. n - 1 < length rests) number (omega (arith, keyed.known.numbered, are.each)) in
      ap (λ rest. file_of rest key) (get_or-append rests (0 ∷ []) 0 (key.file - 1) numbered)) keys are.keyed are.keyed

  pub row_waiters : waiters_of (rests ++ 0 ∷ []) keys ≡ waiters_of rests keys
  row_waiters = ap in_order (map_same (waiter_of (rests ++ 0 ∷ [])) (waiter_of rests) keys stays)

  pub row_keyed : AreKeyed (dests ++ dest ∷ []) (suc dest_count) (rests ++ 0 ∷ []) keys
  row_keyed = record {
    keyed = all_both (IsKeyed dests dest_count rests) (λ key. waiter_of (rests ++ 0 ∷ []) key ≡ waiter_of rests key)
        (IsKeyed (dests ++ dest ∷ []) (suc dest_count) (rests ++ 0 ∷ [])) (λ key keyed same.
        let was : dest_of (dests ++ dest ∷ []) (waiter_of rests key).file ≡ dest_of dests (waiter_of rests key).file =
        get_or-append dests (dest ∷ []) 0 ((waiter_of rests key).file - 1) keyed.known.numbered in
        record {
          own = keyed.own
              ∙ (ap (λ n. cond (is_later key) (later_of (waiter_of rests key)) (record (ripe_of dests (waiter_of rests key)) { dest = n })) (sym was)
              ∙ ap (λ some. cond (is_later key) (later_of some) (ripe_of (dests ++ dest ∷ []) some)) (sym same));
          known = subst (IsKnown (dests ++ dest ∷ []) (suc dest_count)) (sym same) (record {
            queue = keyed.known.queue;
            priority = keyed.known.priority;
            first = keyed.known.first;
            numbered = omega (arith, keyed.known.numbered, length_push dests dest);
            dest = omega (arith, keyed.known.dest, was);
          });
        }) keys are.keyed stays;
    apart = subst (λ some. AreApart some) (sym (map_same (waiter_of (rests ++ 0 ∷ [])) (waiter_of rests) keys stays)) are.apart;
    each = omega (arith, length_push rests 0, are.each, length_push dests dest);
    few = omega (arith, few);
  }

  pub row_due : (low high : ℕ) → AreDue low high rests keys → AreDue low high (rests ++ 0 ∷ []) keys
  row_due low high due = all_both (IsDue low high rests) (λ key. waiter_of (rests ++ 0 ∷ []) key ≡ waiter_of rests key) (IsDue low high (rests ++ 0 ∷ []))
      (λ key was same. record {
        past = λ is. subst (λ (some : Waiter). some.not_before ≤ high) (sym same) (was.past is);
        later = λ is. subst (λ (some : Waiter). low < some.not_before) (sym same) (was.later is);
      }) keys due stays

  -- its number is none of theirs
  pub row_new : (key : RipeFile) → has_key goes_by_group key keys ≡ true → (key.dest == dest_count) ≡ false
  row_new key there =
      let keyed : IsKeyed dests dest_count rests key = of_key (IsKeyed dests dest_count rests) key keys are.keyed there in
      by_test keyed (is_later key) refl
    where
      by_test : IsKeyed dests dest_count rests key → (answer : Bool) → is_later key ≡ answer → (key.dest == dest_count) ≡ false
      by_test keyed true is = ne_eqb key.dest dest_count (λ same. omega (arith, same, few, eqb-true key.dest LATER is))
      by_test keyed false is =
          let own : key.dest ≡ dest_of dests (waiter_of rests key).file =
          ap (λ (some : RipeFile). some.dest) (keyed.own ∙ ap (λ (test : Bool). cond test (later_of (waiter_of rests key)) (ripe_of dests (waiter_of rests key))) is) in
          ne_eqb key.dest dest_count (λ same. omega (arith, same, own, keyed.known.dest))

-- what was written back to all of a list stands there
pub filled : (into items : List ℕ) (long : ℕ) → length into ≡ length items → long ≡ length items → take long (into ++ drop (length into) items) ≡ into
filled into items long one other = ap (λ (n : ℕ). take n (into ++ drop (length into) items)) (other ∙ sym one) ∙ take_front into (drop (length into) items)
  where
    take_front : (front back : List ℕ) → take (length front) (front ++ back) ≡ front
    take_front [] back = take_none back
      where
        take_none : (back : List ℕ) → take 0 back ≡ []
        take_none [] = refl
        take_none (first ∷ rest) = refl
    take_front (first ∷ front) back = ap (λ later. first ∷ later) (take_front front back)

pub key_number : (moment : ℕ) (dests : List ℕ) (waiter : Waiter) → (key_of moment dests waiter).file ≡ waiter.file
key_number moment dests waiter = by_test (is_ripe moment waiter)
  where
    by_test : (answer : Bool) → (cond answer (ripe_of dests waiter) (later_of waiter)).file ≡ waiter.file
    by_test true = refl
    by_test false = refl

-- the file of a key that is there waits
any_map : (test : Waiter → Bool) (file : RipeFile → Waiter) (keys : List RipeFile) → list_any test (map file keys) ≡ list_any (λ key. test (file key)) keys
any_map test file [] = refl
any_map test file (first ∷ rest) = ap (λ (answer : Bool). test (file first) || answer) (any_map test file rest)

pub key_waits : (rests : List ℕ) (keys : List RipeFile) (key : RipeFile) → has_key goes_by_group key keys ≡ true
    → is_waiting key.file (waiters_of rests keys) ≡ true
key_waits rests keys key there =
    any_sorted goes_before (λ waiter. waiter.file == key.file) (map (waiter_of rests) keys)
    ∙ (any_map (λ waiter. waiter.file == key.file) (waiter_of rests) keys
    ∙ any_there goes_by_group by_group (λ other. (waiter_of rests other).file == key.file) key keys there
    (eq-eqb (waiter_of rests key).file key.file (number_is (slice_index_or rests (key.file - 1) 0) key)))

-- and it does so on the link of its queue, where it stands with its destination
pub key_on : (rests : List ℕ) (keys : List RipeFile) (key : RipeFile) → has_key goes_by_group key keys ≡ true → is_later key ≡ false
    → list_any (λ waiter. (waiter.file == key.file) && is_on (link_at key.queue) waiter) (waiters_of rests keys) ≡ true
key_on rests keys key there ripe =
    any_sorted goes_before (λ waiter. (waiter.file == key.file) && is_on (link_at key.queue) waiter) (map (waiter_of rests) keys)
    ∙ (any_map (λ waiter. (waiter.file == key.file) && is_on (link_at key.queue) waiter) (waiter_of rests) keys
    ∙ any_there goes_by_group by_group (λ other. ((waiter_of rests other).file == key.file) && is_on (link_at key.queue) (waiter_of rests other)) key keys
    there
    (both _ _ (eq-eqb (waiter_of rests key).file key.file (number_is (slice_index_or rests (key.file - 1) 0) key))
    (ap (λ (answer : Bool). is_on (link_at key.queue) (cond answer (later (slice_index_or rests (key.file - 1) 0)) (here (slice_index_or rests (key.file - 1) 0)))) ripe
    ∙ both _ _ (eq-eqb (link_at key.queue).source (link_at key.queue).source refl) (eq-eqb (link_at key.queue).dest (link_at key.queue).dest refl))))
  where
    later : ℕ → Waiter
    later rest = waiter_at key.file (rest / 4294967296) (rest % 4294967296) (whole_of key.queue key.rank)

    here : ℕ → Waiter
    here rest = waiter_at key.file key.queue key.rank rest

-- the key of a file that brought its destination: it is the file's, and stands with its destination
pub own_file : (dests : List ℕ) (file : ℕ) (key : RipeFile) → is_own_key dests file key ≡ true → key.file ≡ file
own_file dests file key is =
    eqb-true key.file file (and_parts (key.file == file) ((key.dest == dest_of dests file) && (file == dest_of dests file + 1)) is).0

brought_it : (dests : List ℕ) (file : ℕ) (key : RipeFile) → is_own_key dests file key ≡ true
    → ((key.dest == dest_of dests file) ≡ true) × ((file == dest_of dests file + 1) ≡ true)
brought_it dests file key is =
    and_parts (key.dest == dest_of dests file) (file == dest_of dests file + 1)
    (and_parts (key.file == file) ((key.dest == dest_of dests file) && (file == dest_of dests file + 1)) is).1

pub own_ripe : (dests : List ℕ) (file : ℕ) (key : RipeFile) → file ≤ LATER → is_own_key dests file key ≡ true → is_later key ≡ false
own_ripe dests file key fits is = ne_eqb key.dest LATER (λ same. absurd (omega (
  arith,
  same,
  fits,
  eqb-true key.dest (dest_of dests file) (brought_it dests file key is).0,
  eqb-true file (dest_of dests file + 1) (brought_it dests file key is).1,
)))

-- such a file waits, its moment come, exactly where its key is there
pub own_waits : (dests : List ℕ) (rests : List ℕ) (moment : ℕ) (keys : List RipeFile) → AreDue moment moment rests keys → (file : ℕ) → file ≤ LATER
    → (key : RipeFile) → has_key goes_by_group key keys ≡ true → is_own_key dests file key ≡ true
    → list_any (λ waiter. (waiter.file == file) && (is_ripe moment waiter && (file == dest_of dests file + 1))) (waiters_of rests keys) ≡ true
own_waits dests rests moment keys due file fits key there is =
    any_of (λ waiter. (waiter.file == file) && (is_ripe moment waiter && (file == dest_of dests file + 1))) (waiters_of rests keys) (waiter_of rests key)
    (waits_so rests key keys there)
    (both _ _ (eq-eqb (waiter_of rests key).file file (number_is (slice_index_or rests (key.file - 1) 0) key ∙ own_file dests file key is))
    (both _ _ (le-leb (waiter_of rests key).not_before moment
    ((of_key (IsDue moment moment rests) key keys due there).past (own_ripe dests file key fits is)))
    (brought_it dests file key is).1))

pub none_waits : (dests : List ℕ) (dest_count : ℕ) (rests : List ℕ) (moment : ℕ) (keys : List RipeFile) → AreKeyed dests dest_count rests keys
    → AreDue moment moment rests keys → (file : ℕ) → ((key : RipeFile) → has_key goes_by_group key keys ≡ true → is_own_key dests file key ≡ false)
    → list_any (λ waiter. (waiter.file == file) && (is_ripe moment waiter && (file == dest_of dests file + 1))) (waiters_of rests keys) ≡ false
none_waits dests dest_count rests moment keys are due file none =
    by_answer (list_any (λ waiter. (waiter.file == file) && (is_ripe moment waiter && (file == dest_of dests file + 1))) (waiters_of rests keys)) refl
  where
    never : HasOne (λ waiter. (waiter.file == file) && (is_ripe moment waiter && (file == dest_of dests file + 1))) (waiters_of rests keys) → true ≡ false
    never has =
        let parts = and_parts (has.one.file == file) (is_ripe moment has.one && (file == dest_of dests file + 1)) has.passing in
        let come = and_parts (is_ripe moment has.one) (file == dest_of dests file + 1) parts.1 in
        let same : has.one.file ≡ file = eqb-true has.one.file file parts.0 in
        sym (both _ _ parts.0 (both _ _ (eq-eqb (dest_of dests has.one.file) (dest_of dests file) (ap (dest_of dests) same)) come.1))
        ∙ none (ripe_of dests has.one) (stands_then dests dest_count rests moment keys are due has.one has.among come.0)

    by_answer : (answer : Bool)
        → list_any (λ waiter. (waiter.file == file) && (is_ripe moment waiter && (file == dest_of dests file + 1))) (waiters_of rests keys) ≡ answer
        → answer ≡ false
    by_answer false is = refl
    by_answer true is =
        never (has_one (λ waiter. (waiter.file == file) && (is_ripe moment waiter && (file == dest_of dests file + 1))) (waiters_of rests keys) is)
