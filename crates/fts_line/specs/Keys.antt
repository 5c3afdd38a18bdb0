-- A file as it stands in the one set of all: with its destination once its moment has come, else under `LATER` by its moment; and what its key leaves out.
use Rattle.std.specs.Prelude.{◌≡◌, ℕ, ◌+◌, ◌-◌, ◌*◌, ◌/◌, ◌%◌, ◌<◌, ◌≤◌, Bool, true, false, ◌==◌, ◌&&◌, List, length, map, slice_index_or, if◌then◌else◌}
use Rattle.std.specs.List.{AllByRecursion}
use Rattle.fts_tables.specs.declared.settings.LinkAt.{LinkAt}
use Rattle.fts_queue.specs.declared.waiter.Waiter.{Waiter}
use Rattle.fts_queue.specs.WaitingData.{is_ripe, in_order, AreApart}
use Rattle.fts_heads.specs.declared.ripe_file.RipeFile.{RipeFile}
use Rattle.fts_line.specs.declared.key.TheConstants.{LATER}
use Rattle.fts_line.specs.LineData.{IsKnown, dest_of}

-- the number of a queue, and the link and the activity of a number
abbrev pub queue_of : LinkAt → ℕ → ℕ
queue_of link activity = (link.source * 256 + link.dest) * 256 + activity

abbrev pub link_at : ℕ → LinkAt
link_at queue = record { source = queue / 65536; dest = (queue / 256) % 256 }

-- what a priority lacks of the greatest
abbrev pub rank_of : ℕ → ℕ
rank_of priority = 4294967295 - priority

-- two numbers of 32 bits in one of 64
abbrev pub whole_of : ℕ → ℕ → ℕ
whole_of high low = high * 4294967296 + low

-- a file whose moment has come stands with its destination, by its queue and rank; its key leaves the moment out
abbrev pub ripe_of : List ℕ → Waiter → RipeFile
ripe_of dests waiter = record {
  queue = queue_of waiter.link waiter.activity;
  dest = dest_of dests waiter.file;
  rank = rank_of waiter.priority;
  file = waiter.file;
}

-- any other stands by its moment, in two halves; its key leaves queue and rank out
abbrev pub later_of : Waiter → RipeFile
later_of waiter = record {
  queue = waiter.not_before / 4294967296;
  dest = LATER;
  rank = waiter.not_before % 4294967296;
  file = waiter.file;
}

-- a file's key at a moment, and what it leaves out
abbrev pub key_of : ℕ → List ℕ → Waiter → RipeFile
key_of moment dests waiter = if is_ripe moment waiter then ripe_of dests waiter else later_of waiter

abbrev pub rest_of : ℕ → Waiter → ℕ
rest_of moment waiter = if is_ripe moment waiter then waiter.not_before else whole_of (queue_of waiter.link waiter.activity) (rank_of waiter.priority)

-- the file of a number, a queue, a rank and a moment
abbrev pub waiter_at : ℕ → ℕ → ℕ → ℕ → Waiter
waiter_at file queue rank moment = record {
  file = file;
  link = link_at queue;
  activity = queue % 256;
  priority = 4294967295 - rank;
  not_before = moment;
}

-- the file of a key, with what the key leaves out
abbrev pub is_later : RipeFile → Bool
is_later key = key.dest == LATER

abbrev pub file_of : ℕ → RipeFile → Waiter
file_of rest key =
    if is_later key then waiter_at key.file (rest / 4294967296) (rest % 4294967296) (whole_of key.queue key.rank)
    else waiter_at key.file key.queue key.rank rest

-- and where that stands in a list by the numbers of the files
abbrev pub waiter_of : List ℕ → RipeFile → Waiter
waiter_of rests key = file_of (slice_index_or rests (key.file - 1) 0) key

-- whether a key is that of a file that stands with its destination and brought it
abbrev pub is_own_key : List ℕ → ℕ → RipeFile → Bool
is_own_key dests file key = (key.file == file) && ((key.dest == dest_of dests file) && (file == dest_of dests file + 1))

-- the files of keys, in the order in which they wait
abbrev pub waiters_of : List ℕ → List RipeFile → List Waiter
waiters_of rests keys = in_order (map (waiter_of rests) keys)

-- a key is that of its file
pub record IsKeyed (dests : List ℕ) (dest_count : ℕ) (rests : List ℕ) (key : RipeFile) : Type 0 where
  pub own : key ≡ (if is_later key then later_of (waiter_of rests key) else ripe_of dests (waiter_of rests key))
  pub known : IsKnown dests dest_count (waiter_of rests key)

-- all keys are, and no file has two; there is a rest for each number, and `LATER` is no destination's
pub record AreKeyed (dests : List ℕ) (dest_count : ℕ) (rests : List ℕ) (keys : List RipeFile) : Type 0 where
  pub keyed : AllByRecursion (IsKeyed dests dest_count rests) keys
  pub apart : AreApart (map (waiter_of rests) keys)
  pub each : length rests ≡ length dests
  pub few : dest_count ≤ LATER

-- a file that stands with its destination had its moment by `high`, and one that stands by its moment has it past `low`
pub record IsDue (low high : ℕ) (rests : List ℕ) (key : RipeFile) : Type 0 where
  pub past : is_later key ≡ false → (waiter_of rests key).not_before ≤ high
  pub later : is_later key ≡ true → low < (waiter_of rests key).not_before

abbrev pub AreDue : ℕ → ℕ → List ℕ → List RipeFile → Type 0
AreDue low high rests keys = AllByRecursion (IsDue low high rests) keys
