-- All files in one order, of which some stand by the destinations that they brought, and the others in a set.
use Rattle.std.specs.Prelude.{◌≡◌, ℕ, suc, zero, ◌≤◌, Bool, true, false, not, ◌&&◌, ◌==◌, nat_lt, List, length, slice_index_or, Option, Some, None, if◌then◌else◌}
use Rattle.ordered.specs.Orders.{has_key, put_by, KeySet}
use Rattle.fts_heads.specs.declared.ripe_file.RipeFile.{RipeFile}
use Rattle.fts_heads.specs.declared.crowd.Own.{Own}
use Rattle.fts_heads.specs.declared.heads.TheConstants.{MOST_QUEUES, MOST_DESTS}
use Rattle.fts_heads.specs.RipeFiles.{goes_by_group, brought}

-- no file, and whether there is one
abbrev pub nobody : Own
nobody = record { queue = MOST_QUEUES; rank = 0 }

abbrev pub is_there : Own → Bool
is_there own = not (own.queue == MOST_QUEUES)

-- the file that brought a destination: files count from 1, and destinations from 0, each with the first file that has it
abbrev pub own_file : ℕ → Own → RipeFile
own_file dest own = record { queue = own.queue; dest = dest; rank = own.rank; file = suc dest }

-- what stands by a destination
abbrev pub stand_of : List Own → ℕ → Own
stand_of own dest = slice_index_or own dest nobody

abbrev pub own_at : List Own → ℕ → Option RipeFile
own_at own dest = if is_there (stand_of own dest) then Some (own_file dest (stand_of own dest)) else None

-- whether a file is what stands there
abbrev pub is_own_of : Own → RipeFile → Bool
is_own_of own file = is_there own && ((own.queue == file.queue) && ((own.rank == file.rank) && (file.file == suc file.dest)))

abbrev pub is_own : List Own → RipeFile → Bool
is_own own file = is_own_of (stand_of own file.dest) file

-- whether a file may come to stand by its destination: it brought that, and nothing stands there
abbrev pub may_own : List Own → RipeFile → Bool
may_own own file =
    ((file.file == suc file.dest) && not (file.queue == MOST_QUEUES)) && (nat_lt file.dest (length own) && not (is_there (stand_of own file.dest)))

-- files with those that stand by so many destinations
abbrev pub with_first : ℕ → List Own → List RipeFile → List RipeFile
with_first zero own files = files
with_first (suc dest) own files =
    if is_there (stand_of own dest) then put_by goes_by_group (own_file dest (stand_of own dest)) (with_first dest own files) else with_first dest own files

abbrev pub with_own : List Own → List RipeFile → List RipeFile
with_own own files = with_first (length own) own files

-- of a destination, and not before a file
abbrev pub is_from : RipeFile → RipeFile → Bool
is_from start file = (file.dest == start.dest) && not (goes_by_group file start)

-- which of two stands first
abbrev pub sooner : Option RipeFile → Option RipeFile → Option RipeFile
sooner None other = other
sooner (Some one) None = Some one
sooner (Some one) (Some other) = if goes_by_group other one then Some other else Some one

-- the destination of a file, and the least where there is none
abbrev pub dest_or_least : Option RipeFile → ℕ
dest_or_least None = 0
dest_or_least (Some file) = file.dest

-- of what is there, an answer is the first that passes a test; None where none does
abbrev pub IsLeast : (RipeFile → Bool) → (RipeFile → Bool) → Option RipeFile → Type 0
IsLeast there passes None = (file : RipeFile) → there file ≡ true → passes file ≡ false
IsLeast there passes (Some found) =
    (there found ≡ true) × ((passes found ≡ true) × ((file : RipeFile) → there file ≡ true → passes file ≡ true → goes_by_group file found ≡ false))

-- what a `Crowd` keeps: no file stands in both; how many there are; and in the set room for them all
pub record AreCrowd (own : List Own) (many room : ℕ) (rest : KeySet RipeFile) : Type 0 where
  pub apart : (file : RipeFile) → is_own own file ≡ true → has_key goes_by_group file rest.keys ≡ false
  pub count : many ≡ length (with_own own rest.keys)
  pub few : length own ≤ MOST_DESTS
  pub inside : many ≤ room
  pub places : room ≤ rest.room

-- and no file of the set brought its destination, but where one may have
abbrev pub AreFollowers : Bool → List RipeFile → Type 0
AreFollowers strays files = strays ≡ false → (file : RipeFile) → has_key goes_by_group file files ≡ true → brought file.dest file ≡ false
