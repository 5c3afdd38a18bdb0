-- Which files stand in line: those that go first of all with their queue and destination, where the destination is known and free.
use Rattle.std.specs.Prelude.{◌≡◌, ℕ, ◌<◌, ◌≤◌, Bool, true, false, not, nat_lt, ◌&&◌, ◌==◌, List, length, slice_index_or}
use Rattle.std.specs.List.{list_any}
use Rattle.ordered.specs.Orders.{differs, has_key, KeySet}
use Rattle.fts_heads.specs.declared.ripe_file.RipeFile.{RipeFile}
use Rattle.fts_heads.specs.declared.ripe_file.Lined.{Lined}
use Rattle.fts_heads.specs.RipeFiles.{goes_by_group, goes_in_line}
use Rattle.fts_heads.specs.Keys.{is_line_before}

-- whether two files are one
abbrev pub is_one : RipeFile → RipeFile → Bool
is_one one other = not (differs goes_by_group one other)

-- whether a file goes ahead of another of its queue and destination
abbrev pub goes_ahead : RipeFile → RipeFile → Bool
goes_ahead other waiter = (other.dest == waiter.dest) && ((other.queue == waiter.queue) && goes_by_group other waiter)

-- whether a file waits, and none goes ahead of it
abbrev pub leads : List RipeFile → RipeFile → Bool
leads files waiter = has_key goes_by_group waiter files && not (list_any (λ other. goes_ahead other waiter) files)

-- whether a file stands in line
abbrev pub is_lined : List Lined → RipeFile → Bool
is_lined line waiter = has_key is_line_before (record { waiter = waiter }) line

-- whether a file is for a destination, and of a queue from one on and before another
abbrev pub is_within : ℕ → ℕ → ℕ → RipeFile → Bool
is_within dest from to waiter = (waiter.dest == dest) && (not (nat_lt waiter.queue from) && nat_lt waiter.queue to)

-- before all files of a destination and a queue
abbrev pub start_at : ℕ → ℕ → RipeFile
start_at dest queue = record { queue = queue; dest = dest; rank = 0; file = 0 }

-- whether a destination is free
abbrev pub is_free : List Bool → ℕ → Bool
is_free busy dest = not (slice_index_or busy dest false)

-- whether a destination is known and free
abbrev pub is_open : List Bool → ℕ → Bool
is_open busy dest = not (slice_index_or busy dest true)

-- of the files that pass a test, the one that no other goes in front of
pub record IsFirstOf (passes : RipeFile → Bool) (files : List RipeFile) (first : RipeFile) : Type 0 where
  pub there : has_key goes_by_group first files ≡ true
  pub passing : passes first ≡ true
  pub least : (other : RipeFile) → has_key goes_by_group other files ≡ true → passes other ≡ true → goes_in_line other first ≡ false

-- who leads for a destination that is known and free stands in line, and no other file
pub record AreHeads (busy : List Bool) (files : List RipeFile) (line : List Lined) : Type 0 where
  pub lined : (waiter : RipeFile) → is_lined line waiter ≡ (is_open busy waiter.dest && leads files waiter)

-- what a `Heads` keeps: the heads in line; no more destinations than the most; of the numbers that these may have, no file of a queue as great as the
-- bound; and in the line room for as many as in the files
pub record AreKept (bound most : ℕ) (busy : List Bool) (files : KeySet RipeFile) (line : KeySet Lined) : Type 0 where
  pub heads : AreHeads busy files.keys line.keys
  pub few : length busy ≤ most
  pub below : (waiter : RipeFile) → has_key goes_by_group waiter files.keys ≡ true → waiter.dest < most → waiter.queue < bound
  pub room : files.room ≤ line.room

-- the files, the greatest destination first, then by queue; which destinations are busy; and how many files there is room for, and how many destinations
pub record HeadsData : Type 0 where
  pub files : List RipeFile
  pub busy : List Bool
  pub room : ℕ
  pub dest_room : ℕ
