-- Files that wait: their order, which are ripe, and the rooms of their queues. A queue is a link with an activity.
use Rattle.std.specs.Prelude.{◌-◌, ◌≡◌, ℕ, ◌≤◌, Bool, false, not, ◌&&◌, ◌||◌, ◌==◌, nat_lt, nat_le, max, List, [], ◌∷◌, length, filter, find, slice_get, Option, option_map, if◌then◌else◌, IsTrue}
use Rattle.std.specs.List.{list_any, AllByRecursion}
use Rattle.std.specs.Option.{option_map_or}
use Rattle.fts_tables.specs.declared.settings.LinkAt.{LinkAt}
use Rattle.fts_queue.specs.declared.waiter.Waiter.{Waiter}
use Rattle.fts_queue.specs.declared.rooms.QueueRoom.{QueueRoom}

-- the files that wait, in their order; the moment of the last ripening; and the room of each queue that any was made for
pub record WaitingData : Type 0 where
  pub waiters : List Waiter
  pub moment : ℕ
  pub rooms : List QueueRoom

-- the lesser number first; of equal ones the rest decides
abbrev pub is_first_by : ℕ → ℕ → Bool → Bool
is_first_by one other rest = nat_lt one other || ((one == other) && rest)

-- whether a file goes before another: by the link's source, its destination, the activity; in one queue the greater priority, then the lesser number
abbrev pub goes_before : Waiter → Waiter → Bool
goes_before one other =
    is_first_by one.link.source other.link.source
    (is_first_by one.link.dest other.link.dest
    (is_first_by one.activity other.activity
    (is_first_by other.priority one.priority
    (nat_lt one.file other.file))))

-- an item put before the first that it goes before
abbrev pub put_by : {A : Type 0} → (A → A → Bool) → A → List A → List A
put_by is_before item [] = item ∷ []
put_by is_before item (first ∷ rest) = if is_before item first then item ∷ first ∷ rest else first ∷ put_by is_before item rest

-- items in their order
abbrev pub sorted_by : {A : Type 0} → (A → A → Bool) → List A → List A
sorted_by is_before [] = []
sorted_by is_before (item ∷ items) = put_by is_before item (sorted_by is_before items)

-- each item goes before all that follow
abbrev pub AreSortedBy : {A : Type 0} → (A → A → Bool) → List A → Type 0
AreSortedBy is_before [] = Unit {0}
AreSortedBy is_before (item ∷ items) = AllByRecursion (λ later. IsTrue (is_before item later)) items × AreSortedBy is_before items

-- one file more among those that wait
abbrev pub with_waiter : Waiter → List Waiter → List Waiter
with_waiter waiter waiters = put_by goes_before waiter waiters

-- those that wait, without a file
abbrev pub without_file : ℕ → List Waiter → List Waiter
without_file file waiters = filter (λ waiter. not (waiter.file == file)) waiters

-- these files, in the order in which they wait
abbrev pub in_order : List Waiter → List Waiter
in_order waiters = sorted_by goes_before waiters

-- whether a file waits
abbrev pub is_waiting : ℕ → List Waiter → Bool
is_waiting file waiters = list_any (λ waiter. waiter.file == file) waiters

-- no file waits twice
abbrev pub AreApart : List Waiter → Type 0
AreApart [] = Unit {0}
AreApart (waiter ∷ waiters) = (is_waiting waiter.file waiters ≡ false) × AreApart waiters

-- whether a file waits on a link under an activity
abbrev pub is_in : LinkAt → ℕ → Waiter → Bool
is_in link activity waiter = (waiter.link.source == link.source) && (waiter.link.dest == link.dest) && (waiter.activity == activity)

-- whether a file stands at another's place of the order: in its queue, with its priority and its number
abbrev pub is_same_place : Waiter → Waiter → Bool
is_same_place one other = (other.file == one.file) && is_in one.link one.activity other && (other.priority == one.priority)

-- the files of a queue
abbrev pub waiting_in : LinkAt → ℕ → List Waiter → List Waiter
waiting_in link activity waiters = filter (is_in link activity) waiters

-- whether a file may be claimed at a moment
abbrev pub is_ripe : ℕ → Waiter → Bool
is_ripe moment waiter = nat_le waiter.not_before moment

-- whether a queue stands before another: by the link's source, its destination, the activity
abbrev pub is_queue_before : LinkAt → ℕ → LinkAt → ℕ → Bool
is_queue_before link activity other_link other_activity =
    is_first_by link.source other_link.source
    (is_first_by link.dest other_link.dest
    (nat_lt activity other_activity))

-- whether a room is a queue's
abbrev pub is_room_of : LinkAt → ℕ → QueueRoom → Bool
is_room_of link activity room = (room.link.source == link.source) && (room.link.dest == link.dest) && (room.activity == activity)

-- how many files a queue has room for
abbrev pub room_of : LinkAt → ℕ → List QueueRoom → ℕ
room_of link activity rooms = option_map_or (λ room. room.room) (find (is_room_of link activity) rooms) 0

-- the rooms, with that of a queue raised to a number, or come in at the queue's place
abbrev pub with_room : LinkAt → ℕ → ℕ → List QueueRoom → List QueueRoom
with_room link activity wanted [] = record { link = link; activity = activity; room = wanted } ∷ []
with_room link activity wanted (first ∷ rest) =
    if is_queue_before first.link first.activity link activity then first ∷ with_room link activity wanted rest
    else if is_room_of link activity first then record first { room = max first.room wanted } ∷ rest
    else record { link = link; activity = activity; room = wanted } ∷ first ∷ rest

-- queues in their order, each once
abbrev pub AreQueuesInOrder : List QueueRoom → Type 0
AreQueuesInOrder rooms = AreSortedBy (λ room later. is_queue_before room.link room.activity later.link later.activity) rooms

-- the files stand in their order, none twice, in queues that have room for them and stand in their order too
pub record AreWaiting (waiting : WaitingData) : Type 0 where
  pub order : AreSortedBy goes_before waiting.waiters
  pub apart : AreApart waiting.waiters
  pub rooms : (link : LinkAt) (activity : ℕ) → length (waiting_in link activity waiting.waiters) ≤ room_of link activity waiting.rooms
  pub queues : AreQueuesInOrder waiting.rooms
