-- Places in sorted lists: what a binary search finds, and what an insert, a write and a filter at such a place leave.
use Rattle.std.proofs.Common.{◌≡◌, ℕ, zero, suc, ◌+◌, ◌<◌, ◌≤◌, Bool, true, false, cond, List, [], ◌∷◌, length, take, get_or, set, Some, None, refl, ap, sym, ◌∙◌, arith, subst}
use Rattle.std.specs.Prelude.{not, filter, slice_get, insert, max}
use Rattle.std.specs.List.{prefix_len, AllByRecursion}
use Rattle.std.specs.List.Sorted.{IsPartitionPoint}
use Rattle.std.proofs.lemmas.List.Sums.{prefix_len_is}
use Rattle.fts_tables.specs.declared.settings.LinkAt.{LinkAt}
use Rattle.fts_queue.specs.declared.rooms.QueueRoom.{QueueRoom}
use Rattle.fts_queue.specs.WaitingData.{put_by, AreSortedBy, is_queue_before, is_room_of, with_room}
use Rattle.fts_queue.proofs.QueueRooms.{new_room, raise_behind, raise_here, raise_before}

-- what holds of each holds at each place
all_by_place : {A : Type 0} (P : A → Type 0) (items : List A) (n : ℕ) (d : A) → AllByRecursion P items → n < length items → P (get_or items n d)
all_by_place P [] n d all less = absurd (omega arith)
all_by_place P (first ∷ rest) zero d all less = all.0
all_by_place P (first ∷ rest) (suc n) d all less = all_by_place P rest n d all.1 (omega arith)

-- a test that goes down along a sorted list parts it
pub parted : {A : Type 0} (before : A → A → Bool) (passes : A → Bool)
    → ((one other : A) → before one other ≡ true → passes other ≡ true → passes one ≡ true)
    → (items : List A) → AreSortedBy before items → (i j : ℕ) (d : A) → i ≤ j → j < length items → passes (get_or items j d) ≡ true
    → passes (get_or items i d) ≡ true
parted before passes down [] sorted i j d le less is = absurd (omega arith)
parted before passes down (first ∷ rest) sorted zero zero d le less is = is
parted before passes down (first ∷ rest) sorted zero (suc j) d le less is =
    let at : j < length rest = omega arith in
    down first (get_or rest j d) (all_by_place (λ later. before first later ≡ true) rest j d sorted.0 at) is
parted before passes down (first ∷ rest) sorted (suc i) zero d le less is = absurd (omega arith)
parted before passes down (first ∷ rest) sorted (suc i) (suc j) d le less is = parted before passes down rest sorted.1 i j d (omega arith) (omega arith) is

-- where it is parted is how many pass from the front
pub parted_at : {A : Type 0} (passes : A → Bool) (items : List A) (n : ℕ) (d : A) → n ≤ length items
    → IsPartitionPoint (λ item. passes item ≡ true) (λ item. passes item ≡ false) items n → n ≡ prefix_len passes items
parted_at passes items n d inside point =
    sym (prefix_len_is passes items n d inside (λ k less. point.0 k d (omega arith) less) (λ less. point.1 n d (omega arith) less))

-- a file comes in behind all that it does not go before
pub put_at : {A : Type 0} (before : A → A → Bool) (item : A) (items : List A)
    → put_by before item items ≡ insert items (prefix_len (λ other. not (before item other)) items) item
put_at before item [] = refl
put_at before item (first ∷ rest) = by_test (before item first) (put_at before item rest)
  where
    by_test : (answer : Bool) → put_by before item rest ≡ insert rest (prefix_len (λ other. not (before item other)) rest) item
        → cond answer (item ∷ first ∷ rest) (first ∷ put_by before item rest)
        ≡ insert (first ∷ rest) (cond (not answer) (1 + prefix_len (λ other. not (before item other)) rest) 0) item
    by_test true behind = refl
    by_test false behind =
        let next : suc (prefix_len (λ other. not (before item other)) rest) ≡ 1 + prefix_len (λ other. not (before item other)) rest = omega arith in
        ap (λ later. first ∷ later) behind ∙ ap (λ place. insert (first ∷ rest) place item) next

-- a room is raised at its place
pub raised_at : (link : LinkAt) (activity wanted : ℕ) (rooms : List QueueRoom) (d : QueueRoom)
    → prefix_len (λ room. is_queue_before room.link room.activity link activity) rooms < length rooms
    → is_room_of link activity (get_or rooms (prefix_len (λ room. is_queue_before room.link room.activity link activity) rooms) d) ≡ true
    → with_room link activity wanted rooms ≡ set rooms (prefix_len (λ room. is_queue_before room.link room.activity link activity) rooms)
    (record (get_or rooms (prefix_len (λ room. is_queue_before room.link room.activity link activity) rooms) d) {
      room = max (get_or rooms (prefix_len (λ room. is_queue_before room.link room.activity link activity) rooms) d).room wanted;
    })
raised_at link activity wanted [] d less own = absurd (omega arith)
raised_at link activity wanted (first ∷ rest) d less own =
    by_test (is_queue_before first.link first.activity link activity) refl (raised_at link activity wanted rest d) less own
  where
    count : ℕ
    count = prefix_len (λ room. is_queue_before room.link room.activity link activity) rest

    by_test : (answer : Bool) → is_queue_before first.link first.activity link activity ≡ answer
        → (prefix_len (λ room. is_queue_before room.link room.activity link activity) rest < length rest
        → is_room_of link activity (get_or rest (prefix_len (λ room. is_queue_before room.link room.activity link activity) rest) d) ≡ true
        → with_room link activity wanted rest ≡ set rest (prefix_len (λ room. is_queue_before room.link room.activity link activity) rest)
        (record (get_or rest (prefix_len (λ room. is_queue_before room.link room.activity link activity) rest) d) {
          room = max (get_or rest (prefix_len (λ room. is_queue_before room.link room.activity link activity) rest) d).room wanted;
        }))
        → cond answer (1 + prefix_len (λ room. is_queue_before room.link room.activity link activity) rest) 0 < suc (length rest)
        → is_room_of link activity
        (get_or (first ∷ rest) (cond answer (1 + prefix_len (λ room. is_queue_before room.link room.activity link activity) rest) 0) d) ≡ true
        → with_room link activity wanted (first ∷ rest)
        ≡ set (first ∷ rest) (cond answer (1 + prefix_len (λ room. is_queue_before room.link room.activity link activity) rest) 0)
        (record (get_or (first ∷ rest) (cond answer (1 + prefix_len (λ room. is_queue_before room.link room.activity link activity) rest) 0) d) {
          room = max (get_or (first ∷ rest) (cond answer (1 + prefix_len (λ room. is_queue_before room.link room.activity link activity) rest) 0) d).room
              wanted;
        })
    by_test true goes behind less own =
        let next : suc (prefix_len (λ room. is_queue_before room.link room.activity link activity) rest)
        ≡ 1 + prefix_len (λ room. is_queue_before room.link room.activity link activity) rest = omega arith in
        raise_behind link activity wanted first rest goes
        ∙ (ap (λ later. first ∷ later) (behind (omega arith) (ap (λ place. is_room_of link activity (get_or (first ∷ rest) place d)) next ∙ own))
        ∙ ap (λ place. set (first ∷ rest) place (record (get_or (first ∷ rest) place d) { room = max (get_or (first ∷ rest) place d).room wanted })) next)
    by_test false goes behind less own = raise_here link activity wanted first rest goes own

-- or comes in there
pub comes_in_at : (link : LinkAt) (activity wanted : ℕ) (rooms : List QueueRoom) (d : QueueRoom)
    → (prefix_len (λ room. is_queue_before room.link room.activity link activity) rooms < length rooms
    → is_room_of link activity (get_or rooms (prefix_len (λ room. is_queue_before room.link room.activity link activity) rooms) d) ≡ false)
    → with_room link activity wanted rooms ≡ insert rooms (prefix_len (λ room. is_queue_before room.link room.activity link activity) rooms)
    (new_room link activity wanted)
comes_in_at link activity wanted [] d own = refl
comes_in_at link activity wanted (first ∷ rest) d own =
    by_test (is_queue_before first.link first.activity link activity) refl (comes_in_at link activity wanted rest d) own
  where
    by_test : (answer : Bool) → is_queue_before first.link first.activity link activity ≡ answer
        → ((prefix_len (λ room. is_queue_before room.link room.activity link activity) rest < length rest
        → is_room_of link activity (get_or rest (prefix_len (λ room. is_queue_before room.link room.activity link activity) rest) d) ≡ false)
        → with_room link activity wanted rest ≡ insert rest (prefix_len (λ room. is_queue_before room.link room.activity link activity) rest)
        (new_room link activity wanted))
        → (cond answer (1 + prefix_len (λ room. is_queue_before room.link room.activity link activity) rest) 0 < suc (length rest)
        → is_room_of link activity
        (get_or (first ∷ rest) (cond answer (1 + prefix_len (λ room. is_queue_before room.link room.activity link activity) rest) 0) d) ≡ false)
        → with_room link activity wanted (first ∷ rest)
        ≡ insert (first ∷ rest) (cond answer (1 + prefix_len (λ room. is_queue_before room.link room.activity link activity) rest) 0)
        (new_room link activity wanted)
    by_test true goes behind own =
        let next : suc (prefix_len (λ room. is_queue_before room.link room.activity link activity) rest)
        ≡ 1 + prefix_len (λ room. is_queue_before room.link room.activity link activity) rest = omega arith in
        raise_behind link activity wanted first rest goes
        ∙ (ap (λ later. first ∷ later)
        (behind (λ less. ap (λ place. is_room_of link activity (get_or (first ∷ rest) place d)) next ∙ own (omega arith)))
        ∙ ap (λ place. insert (first ∷ rest) place (new_room link activity wanted)) next)
    by_test false goes behind own = raise_before link activity wanted first rest goes (own (omega arith))

-- the same, where the place and the room are known by equations
pub raised_here : (link : LinkAt) (activity wanted : ℕ) (rooms : List QueueRoom) (place : ℕ) (here : QueueRoom)
    → place ≡ prefix_len (λ room. is_queue_before room.link room.activity link activity) rooms → here ≡ get_or rooms place here
    → place < length rooms → is_room_of link activity here ≡ true
    → set rooms place (record here { room = max here.room wanted }) ≡ with_room link activity wanted rooms
raised_here link activity wanted rooms place here at is less own =
    let found = is ∙ ap (λ n. get_or rooms n here) at in
    let write : ℕ → QueueRoom → List QueueRoom = λ n room. set rooms n (record room { room = max room.room wanted }) in
    ap (write place) is
    ∙ (ap (λ n. write n (get_or rooms n here)) at
    ∙ sym (raised_at link activity wanted rooms here (subst (λ n. n < length rooms) at less)
    (ap (is_room_of link activity) (sym found) ∙ own)))

pub comes_in_here : (link : LinkAt) (activity wanted : ℕ) (rooms : List QueueRoom) (place : ℕ) (d : QueueRoom)
    → place ≡ prefix_len (λ room. is_queue_before room.link room.activity link activity) rooms
    → (place < length rooms → is_room_of link activity (get_or rooms place d) ≡ false)
    → insert rooms place (new_room link activity wanted) ≡ with_room link activity wanted rooms
comes_in_here link activity wanted rooms place d at own =
    ap (λ n. insert rooms n (new_room link activity wanted)) at
    ∙ sym (comes_in_at link activity wanted rooms d (subst (λ n. n < length rooms → is_room_of link activity (get_or rooms n d) ≡ false) at own))

-- inside a list it is all one what would stand past its end
pub get_or_any : {A : Type 0} (items : List A) (n : ℕ) (d e : A) → n < length items → get_or items n d ≡ get_or items n e
get_or_any [] n d e less = absurd (omega arith)
get_or_any (first ∷ rest) zero d e less = refl
get_or_any (first ∷ rest) (suc n) d e less = get_or_any rest n d e (omega arith)

-- past the end there is nothing
pub get_past : {A : Type 0} (items : List A) (n : ℕ) → length items ≤ n → slice_get items n ≡ None
get_past [] n past = refl
get_past (first ∷ rest) zero past = absurd (omega arith)
get_past (first ∷ rest) (suc n) past = get_past rest n (omega arith)

-- among those that pass, one stands behind as many as pass before it
pub filter_at : {A : Type 0} (passes : A → Bool) (items : List A) (i : ℕ) (d : A) → i < length items → passes (get_or items i d) ≡ true
    → slice_get (filter passes items) (length (filter passes (take i items))) ≡ Some (get_or items i d)
filter_at passes [] i d less is = absurd (omega arith)
filter_at passes (first ∷ rest) zero d less is = ap (λ test. slice_get (cond test (first ∷ filter passes rest) (filter passes rest)) 0) is
filter_at passes (first ∷ rest) (suc i) d less is = by_test (passes first) (filter_at passes rest i d (omega arith) is)
  where
    by_test : (answer : Bool) → slice_get (filter passes rest) (length (filter passes (take i rest))) ≡ Some (get_or rest i d)
        → slice_get (cond answer (first ∷ filter passes rest) (filter passes rest))
        (length (cond answer (first ∷ filter passes (take i rest)) (filter passes (take i rest)))) ≡ Some (get_or rest i d)
    by_test true behind = behind
    by_test false behind = behind
