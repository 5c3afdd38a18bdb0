-- Rooms of queues: what a raise leaves, and that as many files as wait find room in all of them together.
use Rattle.std.proofs.Common.{◌≡◌, ℕ, ◌+◌, ◌-◌, ◌<◌, ◌≤◌, Bool, true, false, cond, List, [], ◌∷◌, length, Some, None, refl, ap, sym, ◌∙◌, arith, subst, inl, inr}
use Rattle.std.specs.Prelude.{not, ◌&&◌, ◌==◌, ◌⊎◌, filter, find, nat_lt, max, sum_by}
use Rattle.std.specs.List.{AllByRecursion}
use Rattle.std.specs.Option.{option_map_or}
use Rattle.std.proofs.lemmas.Bool.{and_parts, and_from, eqb-true, eq-eqb, lt-ltb, le-ltb, cases_order, false≢true, false_from_ne_true, not-true, cases_Bool}
use Rattle.std.proofs.lemmas.List.Sums.{sum_by-cons}
use Rattle.std.proofs.lemmas.List.Filters.{length-filter_both}
use Rattle.fts_tables.specs.declared.settings.LinkAt.{LinkAt}
use Rattle.fts_queue.specs.declared.waiter.Waiter.{Waiter}
use Rattle.fts_queue.specs.declared.rooms.QueueRoom.{QueueRoom}
use Rattle.fts_queue.specs.WaitingData.{is_first_by, is_queue_before, is_room_of, room_of, with_room, AreQueuesInOrder, is_in, waiting_in, with_waiter, without_file, goes_before, WaitingData, AreWaiting, is_waiting}
use Rattle.fts_queue.proofs.Sorting.{count_put, put_keeps, put_apart, filter_sorted, filter_apart}
use Rattle.fts_queue.proofs.Orders.{waiting_order, first_less, first_equal, first_passes_on, less_passes_on}

-- three equal numbers, by a test
pub three_same : (a1 a2 b1 b2 c1 c2 : ℕ) → ((a1 == a2) && (b1 == b2) && (c1 == c2)) ≡ true → (a1 ≡ a2) × (b1 ≡ b2) × (c1 ≡ c2)
three_same a1 a2 b1 b2 c1 c2 is =
    let outer = and_parts ((a1 == a2) && (b1 == b2)) (c1 == c2) is in
    let inner = and_parts (a1 == a2) (b1 == b2) outer.0 in
    (eqb-true a1 a2 inner.0, eqb-true b1 b2 inner.1, eqb-true c1 c2 outer.1)

-- the number of files that wait, and the sum of rooms
abbrev pub whole_room : List QueueRoom → ℕ
whole_room rooms = sum_by (λ room. room.room) rooms

-- a queue's files among those of another queue are none
none_elsewhere : (passes other : Waiter → Bool) → ((waiter : Waiter) → other waiter ≡ true → passes waiter ≡ false) → (waiters : List Waiter)
    → filter passes (filter other waiters) ≡ []
none_elsewhere passes other apart [] = refl
none_elsewhere passes other apart (first ∷ rest) = by_test (other first) refl (none_elsewhere passes other apart rest)
  where
    by_test : (answer : Bool) → other first ≡ answer → filter passes (filter other rest) ≡ []
        → filter passes (cond answer (first ∷ filter other rest) (filter other rest)) ≡ []
    by_test true is behind = ap (λ test. cond test (first ∷ filter passes (filter other rest)) (filter passes (filter other rest))) (apart first is) ∙ behind
    by_test false is behind = behind

-- tests that answer alike leave the same
filter_alike : (passes other : Waiter → Bool) → ((waiter : Waiter) → passes waiter ≡ other waiter) → (waiters : List Waiter)
    → filter passes waiters ≡ filter other waiters
filter_alike passes other alike [] = refl
filter_alike passes other alike (first ∷ rest) =
    ap (λ test. cond test (first ∷ filter passes rest) (filter passes rest)) (alike first)
    ∙ ap (λ behind. cond (other first) (first ∷ behind) behind) (filter_alike passes other alike rest)

-- a filter twice leaves at most what it leaves once
pub fewer : (passes other : Waiter → Bool) (waiters : List Waiter) → length (filter passes (filter other waiters)) ≤ length (filter passes waiters)
fewer passes other [] = omega arith
fewer passes other (first ∷ rest) = by_tests (other first) (passes first) refl (fewer passes other rest)
  where
    by_tests : (there here : Bool) → passes first ≡ here → length (filter passes (filter other rest)) ≤ length (filter passes rest)
        → length (filter passes (cond there (first ∷ filter other rest) (filter other rest))) ≤ length (filter passes (first ∷ rest))
    by_tests true true is behind = simp is (omega arith)
    by_tests true false is behind = simp is (omega arith)
    by_tests false true is behind = simp is (omega arith)
    by_tests false false is behind = simp is (omega arith)

-- a queue of a room is before another
abbrev pub goes_by : LinkAt → ℕ → QueueRoom → Bool
goes_by link activity room = is_queue_before room.link room.activity link activity

-- of two queues one is before the other, or they are one
pub queues_decide : (s1 d1 a1 s2 d2 a2 : ℕ)
    → is_first_by s1 s2 (is_first_by d1 d2 (nat_lt a1 a2)) ≡ false
    → ((s1 == s2) && (d1 == d2) && (a1 == a2)) ≡ false
    → is_first_by s2 s1 (is_first_by d2 d1 (nat_lt a2 a1)) ≡ true
queues_decide s1 d1 a1 s2 d2 a2 not_before not_same = by_order (cases_order s1 s2) (cases_order d1 d2) (cases_order a1 a2)
  where
    by_order : (s1 ≡ s2) ⊎ ((s1 < s2) ⊎ (s2 < s1)) → (d1 ≡ d2) ⊎ ((d1 < d2) ⊎ (d2 < d1)) → (a1 ≡ a2) ⊎ ((a1 < a2) ⊎ (a2 < a1))
        → is_first_by s2 s1 (is_first_by d2 d1 (nat_lt a2 a1)) ≡ true
    by_order (inr (inr more)) d a = first_less s2 s1 (is_first_by d2 d1 (nat_lt a2 a1)) more
    by_order (inr (inl less)) d a = absurd (false≢true (sym not_before ∙ first_less s1 s2 (is_first_by d1 d2 (nat_lt a1 a2)) less))
    by_order (inl s) (inr (inr more)) a = first_equal s2 s1 (is_first_by d2 d1 (nat_lt a2 a1)) (sym s) ∙ first_less d2 d1 (nat_lt a2 a1) more
    by_order (inl s) (inr (inl less)) a =
        absurd (false≢true (sym not_before ∙ (first_equal s1 s2 (is_first_by d1 d2 (nat_lt a1 a2)) s ∙ first_less d1 d2 (nat_lt a1 a2) less)))
    by_order (inl s) (inl d) (inr (inr more)) =
        first_equal s2 s1 (is_first_by d2 d1 (nat_lt a2 a1)) (sym s) ∙ (first_equal d2 d1 (nat_lt a2 a1) (sym d) ∙ lt-ltb a2 a1 more)
    by_order (inl s) (inl d) (inr (inl less)) =
        absurd (false≢true (sym not_before ∙ (first_equal s1 s2 (is_first_by d1 d2 (nat_lt a1 a2)) s
        ∙ (first_equal d1 d2 (nat_lt a1 a2) d ∙ lt-ltb a1 a2 less))))
    by_order (inl s) (inl d) (inl a) =
        absurd (false≢true (sym not_same ∙ and_from ((s1 == s2) && (d1 == d2)) (a1 == a2)
        (and_from (s1 == s2) (d1 == d2) (eq-eqb s1 s2 s) (eq-eqb d1 d2 d)) (eq-eqb a1 a2 a)))

-- a queue is not before itself
pub queue_not_before : (s1 d1 a1 s2 d2 a2 : ℕ) → is_first_by s1 s2 (is_first_by d1 d2 (nat_lt a1 a2)) ≡ true
    → ((s1 == s2) && (d1 == d2) && (a1 == a2)) ≡ false
queue_not_before s1 d1 a1 s2 d2 a2 goes = false_from_ne_true _ (λ is. by_same (three_same s1 s2 d1 d2 a1 a2 is))
  where
    by_same : (s1 ≡ s2) × (d1 ≡ d2) × (a1 ≡ a2) → ⊥
    by_same same =
        false≢true (sym (first_equal s1 s2 (is_first_by d1 d2 (nat_lt a1 a2)) same.0
        ∙ (first_equal d1 d2 (nat_lt a1 a2) same.1 ∙ le-ltb a1 a2 (let at : a1 ≡ a2 = same.2 in omega arith))) ∙ goes)

-- the order of queues passes on
pub queues_pass_on : (s1 d1 a1 s2 d2 a2 s3 d3 a3 : ℕ) → is_first_by s1 s2 (is_first_by d1 d2 (nat_lt a1 a2)) ≡ true
    → is_first_by s2 s3 (is_first_by d2 d3 (nat_lt a2 a3)) ≡ true → is_first_by s1 s3 (is_first_by d1 d3 (nat_lt a1 a3)) ≡ true
queues_pass_on s1 d1 a1 s2 d2 a2 s3 d3 a3 first then_third =
    first_passes_on s1 s2 s3 (is_first_by d1 d2 (nat_lt a1 a2)) (is_first_by d2 d3 (nat_lt a2 a3)) (is_first_by d1 d3 (nat_lt a1 a3)) first then_third
    (λ one other. first_passes_on d1 d2 d3 (nat_lt a1 a2) (nat_lt a2 a3) (nat_lt a1 a3) one other (less_passes_on a1 a2 a3))

-- a queue that goes before the first of those in order has no room among them
no_room_behind : (link : LinkAt) (activity : ℕ) (first : QueueRoom) (rest : List QueueRoom)
    → is_queue_before link activity first.link first.activity ≡ true
    → AllByRecursion (λ later. is_queue_before first.link first.activity later.link later.activity ≡ true) rest
    → find (is_room_of link activity) rest ≡ None
no_room_behind link activity first [] goes all = refl
no_room_behind link activity first (next ∷ rest) goes all =
    let on = queues_pass_on link.source link.dest activity first.link.source first.link.dest first.activity next.link.source next.link.dest next.activity
    goes all.0 in
    let apart = queue_not_before link.source link.dest activity next.link.source next.link.dest next.activity on in
    ap (λ test. cond test (Some next) (find (is_room_of link activity) rest))
    (same_back next.link.source link.source next.link.dest link.dest next.activity activity apart)
    ∙ no_room_behind link activity first rest goes all.1
  where
    same_back : (a1 a2 b1 b2 c1 c2 : ℕ) → ((a2 == a1) && (b2 == b1) && (c2 == c1)) ≡ false → ((a1 == a2) && (b1 == b2) && (c1 == c2)) ≡ false
    same_back a1 a2 b1 b2 c1 c2 apart = false_from_ne_true _ (λ is. by_same (three_same a1 a2 b1 b2 c1 c2 is))
      where
        by_same : (a1 ≡ a2) × (b1 ≡ b2) × (c1 ≡ c2) → ⊥
        by_same same = false≢true (sym apart ∙ and_from ((a2 == a1) && (b2 == b1)) (c2 == c1)
            (and_from (a2 == a1) (b2 == b1) (eq-eqb a2 a1 (sym same.0)) (eq-eqb b2 b1 (sym same.1))) (eq-eqb c2 c1 (sym same.2)))

-- a queue's own room is its own
is_own : (link : LinkAt) (activity room : ℕ) → is_room_of link activity (record { link = link; activity = activity; room = room }) ≡ true
is_own link activity room =
    and_from ((link.source == link.source) && (link.dest == link.dest)) (activity == activity)
    (and_from (link.source == link.source) (link.dest == link.dest) (eq-eqb link.source link.source refl) (eq-eqb link.dest link.dest refl))
    (eq-eqb activity activity refl)

-- a queue that isn't before and isn't the first room's, of rooms in order, has none of them
pub no_room : (link : LinkAt) (activity : ℕ) (first : QueueRoom) (rest : List QueueRoom) → is_queue_before first.link first.activity link activity ≡ false
    → is_room_of link activity first ≡ false
    → AllByRecursion (λ later. is_queue_before first.link first.activity later.link later.activity ≡ true) rest
    → room_of link activity rest ≡ 0
no_room link activity first rest goes own all =
    ap (λ found. option_map_or (λ (room : QueueRoom). room.room) found 0)
    (no_room_behind link activity first rest
    (queues_decide first.link.source first.link.dest first.activity link.source link.dest activity goes own) all)

-- a room that comes in
abbrev pub new_room : LinkAt → ℕ → ℕ → QueueRoom
new_room link activity wanted = record { link = link; activity = activity; room = wanted }

-- the three ways to raise a room: behind the first, at it, before it
pub raise_behind : (link : LinkAt) (activity wanted : ℕ) (first : QueueRoom) (rest : List QueueRoom)
    → is_queue_before first.link first.activity link activity ≡ true
    → with_room link activity wanted (first ∷ rest) ≡ first ∷ with_room link activity wanted rest
raise_behind link activity wanted first rest goes = rw goes refl

pub raise_here : (link : LinkAt) (activity wanted : ℕ) (first : QueueRoom) (rest : List QueueRoom)
    → is_queue_before first.link first.activity link activity ≡ false → is_room_of link activity first ≡ true
    → with_room link activity wanted (first ∷ rest) ≡ record first { room = max first.room wanted } ∷ rest
raise_here link activity wanted first rest goes own = rw (goes, own) refl

pub raise_before : (link : LinkAt) (activity wanted : ℕ) (first : QueueRoom) (rest : List QueueRoom)
    → is_queue_before first.link first.activity link activity ≡ false → is_room_of link activity first ≡ false
    → with_room link activity wanted (first ∷ rest) ≡ new_room link activity wanted ∷ first ∷ rest
raise_before link activity wanted first rest goes own = rw (goes, own) refl

-- the room of a queue that stands first, and that of one that doesn't
pub room_here : (link : LinkAt) (activity : ℕ) (first : QueueRoom) (rest : List QueueRoom) → is_room_of link activity first ≡ true
    → room_of link activity (first ∷ rest) ≡ first.room
room_here link activity first rest own = ap (λ test. option_map_or (λ (room : QueueRoom). room.room) (cond test (Some first) (find (is_room_of link activity) rest)) 0) own

pub room_behind : (link : LinkAt) (activity : ℕ) (first : QueueRoom) (rest : List QueueRoom) → is_room_of link activity first ≡ false
    → room_of link activity (first ∷ rest) ≡ room_of link activity rest
room_behind link activity first rest own = ap (λ test. option_map_or (λ (room : QueueRoom). room.room) (cond test (Some first) (find (is_room_of link activity) rest)) 0) own

-- the raised room of a queue
pub room_raised : (link : LinkAt) (activity wanted : ℕ) (rooms : List QueueRoom) → AreQueuesInOrder rooms
    → room_of link activity (with_room link activity wanted rooms) ≡ max (room_of link activity rooms) wanted
room_raised link activity wanted [] sorted = room_here link activity (new_room link activity wanted) [] (is_own link activity wanted) ∙ omega arith
room_raised link activity wanted (first ∷ rest) sorted =
    by_tests (is_queue_before first.link first.activity link activity) (is_room_of link activity first) refl refl
    (room_raised link activity wanted rest sorted.1)
  where
    by_tests : (goes own : Bool) → is_queue_before first.link first.activity link activity ≡ goes → is_room_of link activity first ≡ own
        → room_of link activity (with_room link activity wanted rest) ≡ max (room_of link activity rest) wanted
        → room_of link activity (with_room link activity wanted (first ∷ rest)) ≡ max (room_of link activity (first ∷ rest)) wanted
    by_tests true true goes own behind =
        absurd (false≢true (sym (queue_not_before first.link.source first.link.dest first.activity link.source link.dest activity goes) ∙ own))
    by_tests true false goes own behind =
        ap (room_of link activity) (raise_behind link activity wanted first rest goes)
        ∙ (room_behind link activity first (with_room link activity wanted rest) own
        ∙ (behind ∙ ap (λ room. max room wanted) (sym (room_behind link activity first rest own))))
    by_tests false true goes own behind =
        ap (room_of link activity) (raise_here link activity wanted first rest goes own)
        ∙ (room_here link activity (record first { room = max first.room wanted }) rest own
        ∙ ap (λ room. max room wanted) (sym (room_here link activity first rest own)))
    by_tests false false goes own behind =
        ap (room_of link activity) (raise_before link activity wanted first rest goes own)
        ∙ (room_here link activity (new_room link activity wanted) (first ∷ rest) (is_own link activity wanted)
        ∙ (omega arith ∙ ap (λ room. max room wanted) (sym (room_behind link activity first rest own ∙ no_room link activity first rest goes own sorted.0))))

-- rooms of equal queues are the same queue's
same_room : (link other : LinkAt) (activity other_activity : ℕ) (room : QueueRoom) → is_room_of link activity room ≡ true
    → is_room_of other other_activity room ≡ is_room_of other other_activity (new_room link activity 0)
same_room link other activity other_activity room own =
    let same = three_same room.link.source link.source room.link.dest link.dest room.activity activity own in
    ap (λ source. (source == other.source) && (room.link.dest == other.dest) && (room.activity == other_activity)) same.0
    ∙ (ap (λ dest. (link.source == other.source) && (dest == other.dest) && (room.activity == other_activity)) same.1
    ∙ ap (λ number. (link.source == other.source) && (link.dest == other.dest) && (number == other_activity)) same.2)

-- the rooms of the others stay
pub room_of_others : (link other : LinkAt) (activity other_activity wanted : ℕ) (rooms : List QueueRoom)
    → is_room_of other other_activity (new_room link activity wanted) ≡ false
    → room_of other other_activity (with_room link activity wanted rooms) ≡ room_of other other_activity rooms
room_of_others link other activity other_activity wanted [] apart = room_behind other other_activity (new_room link activity wanted) [] apart
room_of_others link other activity other_activity wanted (first ∷ rest) apart =
    by_tests (is_queue_before first.link first.activity link activity) (is_room_of link activity first) (is_room_of other other_activity first)
    refl refl refl (room_of_others link other activity other_activity wanted rest apart)
  where
    by_tests : (goes own there : Bool) → is_queue_before first.link first.activity link activity ≡ goes → is_room_of link activity first ≡ own
        → is_room_of other other_activity first ≡ there
        → room_of other other_activity (with_room link activity wanted rest) ≡ room_of other other_activity rest
        → room_of other other_activity (with_room link activity wanted (first ∷ rest)) ≡ room_of other other_activity (first ∷ rest)
    by_tests true own true goes is at behind =
        ap (room_of other other_activity) (raise_behind link activity wanted first rest goes)
        ∙ (room_here other other_activity first (with_room link activity wanted rest) at ∙ sym (room_here other other_activity first rest at))
    by_tests true own false goes is at behind =
        ap (room_of other other_activity) (raise_behind link activity wanted first rest goes)
        ∙ (room_behind other other_activity first (with_room link activity wanted rest) at ∙ (behind ∙ sym (room_behind other other_activity first rest at)))
    by_tests false true true goes is at behind =
        absurd (false≢true (sym apart ∙ (sym (same_room link other activity other_activity first is) ∙ at)))
    by_tests false true false goes is at behind =
        ap (room_of other other_activity) (raise_here link activity wanted first rest goes is)
        ∙ (room_behind other other_activity (record first { room = max first.room wanted }) rest at ∙ sym (room_behind other other_activity first rest at))
    by_tests false false there goes is at behind =
        ap (room_of other other_activity) (raise_before link activity wanted first rest goes is)
        ∙ room_behind other other_activity (new_room link activity wanted) (first ∷ rest) apart

-- what goes before all rooms and before one more goes before all of them
all_raised : (link : LinkAt) (activity wanted : ℕ) (head : QueueRoom) (rooms : List QueueRoom)
    → is_queue_before head.link head.activity link activity ≡ true
    → AllByRecursion (λ later. is_queue_before head.link head.activity later.link later.activity ≡ true) rooms
    → AllByRecursion (λ later. is_queue_before head.link head.activity later.link later.activity ≡ true) (with_room link activity wanted rooms)
all_raised link activity wanted head [] goes all = (goes, tt)
all_raised link activity wanted head (first ∷ rest) goes all =
    by_tests (is_queue_before first.link first.activity link activity) (is_room_of link activity first) (all_raised link activity wanted head rest goes all.1)
  where
    by_tests : (test own : Bool)
        → AllByRecursion (λ later. is_queue_before head.link head.activity later.link later.activity ≡ true) (with_room link activity wanted rest)
        → AllByRecursion (λ later. is_queue_before head.link head.activity later.link later.activity ≡ true)
        (cond test (first ∷ with_room link activity wanted rest)
        (cond own (record first { room = max first.room wanted } ∷ rest) (new_room link activity wanted ∷ first ∷ rest)))
    by_tests true own behind = (all.0, behind)
    by_tests false true behind = (all.0, all.1)
    by_tests false false behind = (goes, (all.0, all.1))

-- what goes before the first goes before all
all_behind : (link : LinkAt) (activity : ℕ) (first : QueueRoom) (rest : List QueueRoom) → is_queue_before link activity first.link first.activity ≡ true
    → AllByRecursion (λ later. is_queue_before first.link first.activity later.link later.activity ≡ true) rest
    → AllByRecursion (λ later. is_queue_before link activity later.link later.activity ≡ true) rest
all_behind link activity first [] goes all = tt
all_behind link activity first (next ∷ rest) goes all = (
  queues_pass_on link.source link.dest activity first.link.source first.link.dest first.activity next.link.source next.link.dest next.activity goes all.0,
  all_behind link activity first rest goes all.1,
)

-- rooms in order stay so
pub raised_in_order : (link : LinkAt) (activity wanted : ℕ) (rooms : List QueueRoom) → AreQueuesInOrder rooms
    → AreQueuesInOrder (with_room link activity wanted rooms)
raised_in_order link activity wanted [] sorted = (tt, tt)
raised_in_order link activity wanted (first ∷ rest) sorted =
    by_tests (is_queue_before first.link first.activity link activity) (is_room_of link activity first) refl refl
    (raised_in_order link activity wanted rest sorted.1)
  where
    by_tests : (test own : Bool) → is_queue_before first.link first.activity link activity ≡ test → is_room_of link activity first ≡ own
        → AreQueuesInOrder (with_room link activity wanted rest)
        → AreQueuesInOrder (cond test (first ∷ with_room link activity wanted rest)
        (cond own (record first { room = max first.room wanted } ∷ rest) (new_room link activity wanted ∷ first ∷ rest)))
    by_tests true own goes is behind = (all_raised link activity wanted first rest goes sorted.0, behind)
    by_tests false true goes is behind = (sorted.0, sorted.1)
    by_tests false false goes is behind =
        let before = queues_decide first.link.source first.link.dest first.activity link.source link.dest activity goes is in
        ((before, all_behind link activity first rest before sorted.0), sorted)

-- the sum of rooms with one more, and the sum after a raise
pub whole_cons : (first : QueueRoom) (rest : List QueueRoom) → whole_room (first ∷ rest) ≡ first.room + whole_room rest
whole_cons first rest = sum_by-cons (λ (room : QueueRoom). room.room) first rest

pub whole_raised : (link : LinkAt) (activity wanted : ℕ) (rooms : List QueueRoom) → AreQueuesInOrder rooms
    → whole_room (with_room link activity wanted rooms) ≡ whole_room rooms + (wanted - room_of link activity rooms)
whole_raised link activity wanted [] sorted = omega (arith, whole_cons (new_room link activity wanted) [])
whole_raised link activity wanted (first ∷ rest) sorted =
    by_tests (is_queue_before first.link first.activity link activity) (is_room_of link activity first) refl refl
    (whole_raised link activity wanted rest sorted.1)
  where
    by_tests : (goes own : Bool) → is_queue_before first.link first.activity link activity ≡ goes → is_room_of link activity first ≡ own
        → whole_room (with_room link activity wanted rest) ≡ whole_room rest + (wanted - room_of link activity rest)
        → whole_room (with_room link activity wanted (first ∷ rest)) ≡ whole_room (first ∷ rest) + (wanted - room_of link activity (first ∷ rest))
    by_tests true true goes own behind =
        absurd (false≢true (sym (queue_not_before first.link.source first.link.dest first.activity link.source link.dest activity goes) ∙ own))
    by_tests true false goes own behind =
        ap whole_room (raise_behind link activity wanted first rest goes)
        ∙ (omega (arith, behind, whole_cons first (with_room link activity wanted rest), whole_cons first rest)
        ∙ ap (λ room. whole_room (first ∷ rest) + (wanted - room)) (sym (room_behind link activity first rest own)))
    by_tests false true goes own behind =
        ap whole_room (raise_here link activity wanted first rest goes own)
        ∙ (omega (arith, whole_cons (record first { room = max first.room wanted }) rest, whole_cons first rest)
        ∙ ap (λ room. whole_room (first ∷ rest) + (wanted - room)) (sym (room_here link activity first rest own)))
    by_tests false false goes own behind =
        ap whole_room (raise_before link activity wanted first rest goes own)
        ∙ (omega (arith, whole_cons (new_room link activity wanted) (first ∷ rest))
        ∙ ap (λ room. whole_room (first ∷ rest) + (wanted - room))
        (sym (room_behind link activity first rest own ∙ no_room link activity first rest goes own sorted.0)))

-- a file waits in its own queue
is_in_own : (waiter : Waiter) → is_in waiter.link waiter.activity waiter ≡ true
is_in_own waiter =
    and_from ((waiter.link.source == waiter.link.source) && (waiter.link.dest == waiter.link.dest)) (waiter.activity == waiter.activity)
    (and_from (waiter.link.source == waiter.link.source) (waiter.link.dest == waiter.link.dest)
    (eq-eqb waiter.link.source waiter.link.source refl) (eq-eqb waiter.link.dest waiter.link.dest refl))
    (eq-eqb waiter.activity waiter.activity refl)

-- a file of a room's queue is one of that queue by whatever name
same_queue : (link : LinkAt) (activity : ℕ) (room : QueueRoom) (waiter : Waiter) → is_room_of link activity room ≡ true
    → is_in link activity waiter ≡ is_in room.link room.activity waiter
same_queue link activity room waiter own =
    let same = three_same room.link.source link.source room.link.dest link.dest room.activity activity own in
    ap (λ source. (waiter.link.source == source) && (waiter.link.dest == link.dest) && (waiter.activity == activity)) (sym same.0)
    ∙ (ap (λ dest. (waiter.link.source == room.link.source) && (waiter.link.dest == dest) && (waiter.activity == activity)) (sym same.1)
    ∙ ap (λ number. (waiter.link.source == room.link.source) && (waiter.link.dest == room.link.dest) && (waiter.activity == number)) (sym same.2))

-- each queue's files are within its room
abbrev pub AreWithin : List Waiter → List QueueRoom → Type 0
AreWithin waiters rooms = (link : LinkAt) (activity : ℕ) → length (waiting_in link activity waiters) ≤ room_of link activity rooms

-- the files that are of no room's queue
abbrev others : QueueRoom → List Waiter → List Waiter
others room waiters = filter (λ waiter. not (is_in room.link room.activity waiter)) waiters

-- these are within the other rooms
others_within : (first : QueueRoom) (rest : List QueueRoom) (waiters : List Waiter) → AreWithin waiters (first ∷ rest) → AreWithin (others first waiters) rest
others_within first rest waiters within = λ link activity. by_test link activity (cases_Bool (is_room_of link activity first))
  where
    by_test : (link : LinkAt) (activity : ℕ) → (is_room_of link activity first ≡ true) ⊎ (is_room_of link activity first ≡ false)
        → length (waiting_in link activity (others first waiters)) ≤ room_of link activity rest
    by_test link activity (inl own) =
        let none = none_elsewhere (is_in link activity) (λ waiter. not (is_in first.link first.activity waiter))
        (λ waiter other. same_queue link activity first waiter own ∙ not-true (is_in first.link first.activity waiter) other) waiters in
        omega (arith, ap length none)
    by_test link activity (inr apart) =
        omega (
          arith,
          fewer (is_in link activity) (λ waiter. not (is_in first.link first.activity waiter)) waiters,
          within link activity,
          room_behind link activity first rest apart,
        )

-- the first room holds the files of its queue
first_within : (first : QueueRoom) (rest : List QueueRoom) (waiters : List Waiter) → AreWithin waiters (first ∷ rest)
    → length (waiting_in first.link first.activity waiters) ≤ first.room
first_within first rest waiters within =
    omega (arith, within first.link first.activity, room_here first.link first.activity first rest (is_own first.link first.activity first.room))

-- all files find room in all rooms together
pub all_fit : (rooms : List QueueRoom) (waiters : List Waiter) → AreWithin waiters rooms → length waiters ≤ whole_room rooms
all_fit [] [] within = omega arith
all_fit [] (waiter ∷ rest) within =
    let one = ap (λ test. length (cond test (waiter ∷ waiting_in waiter.link waiter.activity rest) (waiting_in waiter.link waiter.activity rest)))
    (is_in_own waiter) in
    absurd (omega (arith, one, within waiter.link waiter.activity))
all_fit (first ∷ rest) waiters within =
    omega (
      arith,
      all_fit rest (others first waiters) (others_within first rest waiters within),
      first_within first rest waiters within,
      whole_cons first rest,
      length-filter_both (is_in first.link first.activity) (λ waiter. not (is_in first.link first.activity waiter)) (λ waiter. refl) waiters,
    )

-- and what is left of a queue's room is left of them too
pub room_is_left : (link : LinkAt) (activity : ℕ) (rooms : List QueueRoom) (waiters : List Waiter) → AreWithin waiters rooms
    → length (waiting_in link activity waiters) < room_of link activity rooms → length waiters < whole_room rooms
room_is_left link activity [] waiters within less = absurd (omega arith)
room_is_left link activity (first ∷ rest) waiters within less =
    by_test (room_is_left link activity rest (others first waiters) (others_within first rest waiters within)) (cases_Bool (is_room_of link activity first))
  where
    by_test : (length (waiting_in link activity (others first waiters)) < room_of link activity rest → length (others first waiters) < whole_room rest)
        → (is_room_of link activity first ≡ true) ⊎ (is_room_of link activity first ≡ false) → length waiters < whole_room (first ∷ rest)
    by_test behind (inl own) =
        let same = ap length (filter_alike (is_in link activity) (is_in first.link first.activity)
        (λ waiter. same_queue link activity first waiter own) waiters) in
        omega (
          arith,
          all_fit rest (others first waiters) (others_within first rest waiters within),
          same,
          less,
          room_here link activity first rest own,
          whole_cons first rest,
          length-filter_both (is_in first.link first.activity) (λ waiter. not (is_in first.link first.activity waiter)) (λ waiter. refl) waiters,
        )
    by_test behind (inr apart) =
        let fewer_there = fewer (is_in link activity) (λ waiter. not (is_in first.link first.activity waiter)) waiters in
        let room = room_behind link activity first rest apart in
        let left : length (waiting_in link activity (others first waiters)) < room_of link activity rest = omega (arith, fewer_there, room, less) in
        omega (
          arith,
          behind left,
          first_within first rest waiters within,
          whole_cons first rest,
          length-filter_both (is_in first.link first.activity) (λ waiter. not (is_in first.link first.activity waiter)) (λ waiter. refl) waiters,
        )

-- one, where a test passes
abbrev one_if : Bool → ℕ
one_if passes = cond passes 1 0

-- a file more in a queue that has room
pub within_more : (rooms : List QueueRoom) (waiter : Waiter) (waiters : List Waiter) → AreWithin waiters rooms
    → length (waiting_in waiter.link waiter.activity waiters) < room_of waiter.link waiter.activity rooms → AreWithin (with_waiter waiter waiters) rooms
within_more rooms waiter waiters within less = λ link activity. by_test link activity (cases_Bool (is_in link activity waiter))
  where
    by_test : (link : LinkAt) (activity : ℕ) → (is_in link activity waiter ≡ true) ⊎ (is_in link activity waiter ≡ false)
        → length (waiting_in link activity (with_waiter waiter waiters)) ≤ room_of link activity rooms
    by_test link activity (inl is) =
        let same = three_same waiter.link.source link.source waiter.link.dest link.dest waiter.activity activity is in
        let at : LinkAt → ℕ → Type 0 = λ link activity. length (waiting_in link activity waiters) < room_of link activity rooms in
        let here : at link activity = subst (λ number. at link number) same.2
        (subst (λ dest. at (record { source = link.source; dest = dest }) waiter.activity) same.1
        (subst (λ source. at (record { source = source; dest = waiter.link.dest }) waiter.activity) same.0 less)) in
        omega (arith, count_put goes_before (is_in link activity) waiter waiters, ap one_if is, here)
    by_test link activity (inr not_in) =
        omega (arith, count_put goes_before (is_in link activity) waiter waiters, ap one_if not_in, within link activity)

-- the rooms after a raise hold what they held
pub within_raised : (link : LinkAt) (activity wanted : ℕ) (rooms : List QueueRoom) (waiters : List Waiter) → AreQueuesInOrder rooms → AreWithin waiters rooms
    → AreWithin waiters (with_room link activity wanted rooms)
within_raised link activity wanted rooms waiters sorted within = λ other number. by_test other number (cases_Bool (is_room_of other number (new_room link activity wanted)))
  where
    by_test : (other : LinkAt) (number : ℕ)
        → (is_room_of other number (new_room link activity wanted) ≡ true) ⊎ (is_room_of other number (new_room link activity wanted) ≡ false)
        → length (waiting_in other number waiters) ≤ room_of other number (with_room link activity wanted rooms)
    by_test other number (inl is) =
        let same = three_same link.source other.source link.dest other.dest activity number is in
        let at : LinkAt → ℕ → Type 0 = λ other number. length (waiting_in other number waiters) ≤ room_of other number (with_room link activity wanted rooms) in
        let here : at link activity = omega (arith, room_raised link activity wanted rooms sorted, within link activity) in
        subst (λ count. at other count) same.2
        (subst (λ dest. at (record { source = other.source; dest = dest }) activity) same.1
        (subst (λ source. at (record { source = source; dest = link.dest }) activity) same.0 here))
    by_test other number (inr apart) = omega (arith, room_of_others link other activity number wanted rooms apart, within other number)

-- what holds of the files that wait still does with one more, without one, and with a room raised
pub waiting_more : (waiting : WaitingData) (waiter : Waiter) → AreWaiting waiting → is_waiting waiter.file waiting.waiters ≡ false
    → length (waiting_in waiter.link waiter.activity waiting.waiters) < room_of waiter.link waiter.activity waiting.rooms
    → AreWaiting (record waiting { waiters = with_waiter waiter waiting.waiters })
waiting_more waiting waiter are fresh less = record {
  order = put_keeps goes_before waiting_order waiter waiting.waiters are.order fresh;
  apart = put_apart goes_before waiter waiting.waiters are.apart fresh;
  rooms = within_more waiting.rooms waiter waiting.waiters are.rooms less;
  queues = are.queues;
}

pub waiting_less : (waiting : WaitingData) (file : ℕ) → AreWaiting waiting → AreWaiting (record waiting { waiters = without_file file waiting.waiters })
waiting_less waiting file are = record {
  order = filter_sorted goes_before (λ waiter. not (waiter.file == file)) waiting.waiters are.order;
  apart = filter_apart (λ waiter. not (waiter.file == file)) waiting.waiters are.apart;
  rooms = λ link activity.
      omega (arith, fewer (is_in link activity) (λ waiter. not (waiter.file == file)) waiting.waiters, are.rooms link activity);
  queues = are.queues;
}

pub waiting_raised : (waiting : WaitingData) (link : LinkAt) (activity wanted : ℕ) → AreWaiting waiting
    → AreWaiting (record waiting { rooms = with_room link activity wanted waiting.rooms })
waiting_raised waiting link activity wanted are = record {
  order = are.order;
  apart = are.apart;
  rooms = within_raised link activity wanted waiting.rooms waiting.waiters are.queues are.rooms;
  queues = raised_in_order link activity wanted waiting.rooms are.queues;
}
