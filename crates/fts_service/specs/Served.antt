-- How lanes and workers ended together.
use Rattle.std.specs.Prelude.{ℕ, Bool, true, false, if◌then◌else◌, nat_lt, List, [], ◌∷◌, Option, Some, unwrap_or}
use Rattle.std.specs.List.{list_any}
use Rattle.fts_shop.specs.declared.ends.WorkerEnd.{WorkerEnd}
use Rattle.fts_shop.specs.declared.ends.WorkerEnd.TheVariants as worker_ends
use Rattle.fts_service.specs.declared.lane.LaneStop.{LaneStop}
use Rattle.fts_service.specs.declared.lane.LaneStop.TheVariants.{DoorsFailed}
use Rattle.fts_service.specs.declared.together.ServedEnd.{ServedEnd}
use Rattle.fts_service.specs.declared.together.ServedEnd.TheVariants as served_ends

-- whether a lane's doors failed
abbrev pub are_doors_failed : Option LaneStop → Bool
are_doors_failed (Some DoorsFailed) = true
are_doors_failed _ = false

-- how bad an end is: a disk that failed most of all, then a full journal, then want of memory, then a stop
abbrev pub severity_of : WorkerEnd → ℕ
severity_of worker_ends.Drained = 0
severity_of worker_ends.Stopped = 1
severity_of worker_ends.Memory = 2
severity_of (worker_ends.JournalFull used) = 3
severity_of worker_ends.DiskFailed = 4

-- the worse of two ends; of two that are alike the first
abbrev pub worse_of : WorkerEnd → WorkerEnd → WorkerEnd
worse_of one other = if nat_lt (severity_of one) (severity_of other) then other else one

-- the worst of an end and of those behind it; a worker that hasn't ended counts as one that drained
abbrev pub worst_from : WorkerEnd → List (Option WorkerEnd) → WorkerEnd
worst_from worst [] = worst
worst_from worst (end ∷ ends) = worst_from (worse_of worst (unwrap_or end worker_ends.Drained)) ends

-- the worst of ends
abbrev pub worst_of : List (Option WorkerEnd) → WorkerEnd
worst_of ends = worst_from worker_ends.Drained ends

-- how lanes and workers ended together: doors that failed go first
abbrev pub served_end : List (Option LaneStop) → List (Option WorkerEnd) → ServedEnd
served_end stops ends = if list_any are_doors_failed stops then served_ends.DoorsFailed else served_ends.Worked (worst_of ends)
