-- Blocks of queues that follow each other, and how many files in line each has.
use Rattle.std.specs.Prelude.{◌≡◌, ℕ, ◌<◌, ◌/◌, Bool, ◌==◌, nat_lt, List, length, count_by, slice_set, slice_index_or, if◌then◌else◌}
use Rattle.ordered.specs.Orders.{KeySet}
use Rattle.fts_heads.specs.declared.counted.TheConstants.{BLOCK_QUEUES, BLOCKS}
use Rattle.fts_heads.specs.declared.ripe_file.RipeFile.{RipeFile}
use Rattle.fts_heads.specs.declared.ripe_file.Lined.{Lined}

-- whether a file is of a queue of a block
abbrev pub is_in_block : ℕ → RipeFile → Bool
is_in_block block waiter = (waiter.queue / BLOCK_QUEUES) == block

-- how many files in line are
abbrev pub count_in_block : ℕ → List Lined → ℕ
count_in_block block line = count_by (λ key. is_in_block block key.waiter) line

-- numbers with another one at a place, where the place is there
abbrev pub with_at : List ℕ → ℕ → ℕ → List ℕ
with_at numbers place number = if nat_lt place (length numbers) then slice_set numbers place number else numbers

-- each block's number counts its files in line; all blocks have one or none has; and all have one where there is room for any file
pub record AreCounted (line : KeySet Lined) (counts : List ℕ) : Type 0 where
  pub each : (block : ℕ) → block < length counts → slice_index_or counts block 0 ≡ count_in_block block line.keys
  pub whole : 0 < length counts → length counts ≡ BLOCKS
  pub made : 0 < line.room → 0 < length counts
