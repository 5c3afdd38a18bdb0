-- How runs that serve may end, and how a shop is closed.
use Rattle.std.proofs.Common.{◌≡◌, ◌≢◌, ◌≤◌, ◌==◌, ◌||◌, ◌&&◌, Bool, true, false, ℕ, List, Option, refl, sym, ap, ◌∙◌}
use Rattle.std.specs.Prelude.{nat_le, IsTrue}
use Rattle.std.proofs.lemmas.Bool.{leb-true}
use Rattle.fts_tables.specs.SettingsData.{SettingsData, has_worker_range}
use Rattle.fts_keep.specs.declared.fault.KeepFault.{KeepFault}
use Rattle.fts_keep.specs.declared.fault.KeepFault.TheVariants as faults_of_keep
use Rattle.fts_shop.specs.declared.ends.WorkerEnd.{WorkerEnd}
use Rattle.fts_shop.specs.declared.ends.WorkerEnd.TheVariants as worker_ends
use Rattle.fts_top.specs.Ends.{status_of, worker_status, IsServingStatus, end_when_served}
use Rattle.fts_top.specs.Runs.{HasNoSettings, start_end}
use Rattle.fts_top.specs.declared.ends.RunEnd.{RunEnd}
use Rattle.fts_top.specs.declared.ends.RunEnd.TheVariants.{NoMemory, SettingsUnread, SettingsRule}
use Rattle.fts_service.specs.declared.together.ServedEnd.{ServedEnd}
use Rattle.fts_service.specs.declared.together.ServedEnd.TheVariants as served_ends
use Rattle.fts_tables.specs.declared.limits.TheConstants.{MAX_WORKERS}

-- a start that failed
pub start_status : (fault : KeepFault) → IsServingStatus (status_of (start_end fault))
start_status faults_of_keep.DiskFailed = refl
start_status (faults_of_keep.Damaged offset) = refl
start_status (faults_of_keep.JournalFull used) = refl
start_status faults_of_keep.Memory = refl
start_status (faults_of_keep.Rule refusal) = refl

pub start_settings : (fault : KeepFault) → (status_of (start_end fault) == 8) ≡ false
start_settings faults_of_keep.DiskFailed = refl
start_settings (faults_of_keep.Damaged offset) = refl
start_settings (faults_of_keep.JournalFull used) = refl
start_settings faults_of_keep.Memory = refl
start_settings (faults_of_keep.Rule refusal) = refl

-- lanes and workers that ended
worker_ended : (end : WorkerEnd) → IsServingStatus (worker_status end) × ((worker_status end == 8) ≡ false)
worker_ended worker_ends.Drained = (refl, refl)
worker_ended worker_ends.Stopped = (refl, refl)
worker_ended worker_ends.Memory = (refl, refl)
worker_ended worker_ends.DiskFailed = (refl, refl)
worker_ended (worker_ends.JournalFull used) = (refl, refl)

pub served_status : (end : ServedEnd) → IsServingStatus (status_of (end_when_served end))
served_status served_ends.DoorsFailed = refl
served_status (served_ends.Worked end) = (worker_ended end).0

pub served_settings : (end : ServedEnd) → (status_of (end_when_served end) == 8) ≡ false
served_settings served_ends.DoorsFailed = refl
served_settings (served_ends.Worked end) = (worker_ended end).1

-- settings that were not had
pub unset_status : (text : Option (List ℕ)) (end : RunEnd) → HasNoSettings text end → IsServingStatus (status_of end)
unset_status text NoMemory h = refl
unset_status text SettingsUnread h = refl
unset_status text (SettingsRule rule) h = refl
unset_status text _ h = absurd h

-- a status of a run that serves is none of those that it excludes
pub not_status : (status other : ℕ) → (other == 2 || (other == 5 || other == 6)) ≡ true → IsServingStatus status → status ≢ other
not_status status other is serving e = cc

-- a status that is not 8 is nothing of which 8 would follow
pub not_eight : {P : Type 0} (status : ℕ) → (status == 8) ≡ false → status ≡ 8 → P
not_eight status differs is = absurd (by_test (sym (ap (λ n. n == 8) is) ∙ differs))
  where
    by_test : true ≡ false → ⊥
    by_test e = cc

both_true : (one other : Bool) → (one && other) ≡ true → other ≡ true
both_true true other e = e
both_true false other e = cc

-- settings have no more workers than a run has hands
pub few_workers : (settings : SettingsData) → IsTrue (has_worker_range settings) → settings.workers ≤ MAX_WORKERS
few_workers settings range = leb-true settings.workers MAX_WORKERS (both_true (nat_le 1 settings.workers) (nat_le settings.workers MAX_WORKERS) range)
