-- The files that wait with their destinations, which of these are busy, and the first file of a queue that may start.
use Rattle.std.specs.Prelude.{ℕ, ◌+◌, ◌-◌, ◌<◌, Bool, ◌&&◌, ◌==◌, List, length, find, slice_index_or, Option, option_map}
use Rattle.std.specs.List.{list_any}
use Rattle.fts_tables.specs.declared.settings.LinkAt.{LinkAt}
use Rattle.fts_queue.specs.declared.waiter.Waiter.{Waiter}
use Rattle.fts_queue.specs.WaitingData.{WaitingData, is_in, is_ripe, is_same_place}
use Rattle.fts_heads.specs.Heads.{is_free}

-- the files that wait; the number of each file's destination, the first file's first; for each number whether that destination is busy; how many files may
-- stand in line in all; and how many files may have a number
pub record LineData : Type 0 where
  pub waiting : WaitingData
  pub dests : List ℕ
  pub busy : List Bool
  pub room : ℕ
  pub row_room : ℕ

-- the number of a file's destination
abbrev pub dest_of : List ℕ → ℕ → ℕ
dest_of dests file = slice_index_or dests (file - 1) 0

-- whether a file waits whose moment has come and which brought its destination: files count from 1, and destinations from 0
abbrev pub is_own : LineData → ℕ → Waiter → Bool
is_own line file waiter = (waiter.file == file) && (is_ripe line.waiting.moment waiter && (file == dest_of line.dests file + 1))

abbrev pub waits_own : LineData → ℕ → Bool
waits_own line file = list_any (is_own line file) line.waiting.waiters

-- whether a file is another, with the same moment
abbrev pub is_same_waiter : Waiter → Waiter → Bool
is_same_waiter one other = is_same_place one other && (other.not_before == one.not_before)

-- a queue has a number of its own
pub record IsInside (link : LinkAt) (activity : ℕ) : Type 0 where
  pub from : link.source < 256
  pub to : link.dest < 256
  pub under : activity < 256

-- a file's queue has a number of its own, its priority is one of 32 bits, files are numbered from 1, and its destination has a number
pub record IsKnown (dests : List ℕ) (dest_count : ℕ) (waiter : Waiter) : Type 0 where
  pub queue : IsInside waiter.link waiter.activity
  pub priority : waiter.priority < 4294967296
  pub first : 0 < waiter.file
  pub numbered : waiter.file - 1 < length dests
  pub dest : dest_of dests waiter.file < dest_count

-- whether a file of a queue may start: its moment has come, and its destination is free
abbrev pub may_start : LineData → LinkAt → ℕ → Waiter → Bool
may_start line link activity waiter =
    (is_in link activity waiter && is_ripe line.waiting.moment waiter) && is_free line.busy (dest_of line.dests waiter.file)

-- whether a file waits on a link, and whether it may start there, under any activity
abbrev pub is_on : LinkAt → Waiter → Bool
is_on link waiter = (waiter.link.source == link.source) && (waiter.link.dest == link.dest)

abbrev pub may_start_on : LineData → LinkAt → Waiter → Bool
may_start_on line link waiter =
    (is_on link waiter && is_ripe line.waiting.moment waiter) && is_free line.busy (dest_of line.dests waiter.file)

-- the first of the files that wait that may start in a queue
abbrev pub first_open : LineData → LinkAt → ℕ → Option ℕ
first_open line link activity = option_map (λ waiter. waiter.file) (find (may_start line link activity) line.waiting.waiters)
