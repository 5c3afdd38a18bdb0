-- What a crash leaves at the moments of calls of a disk that are still, or look alone, and what follows from what is left.
use Rattle.std.proofs.Common.{◌≡◌, inl, inr, ⊎_elim, ℕ, ◌≤◌, ◌∙◌, arith}
use Rattle.fts_tables.specs.Counts.{Rose}
use Rattle.fts_disk.specs.Disk.{DiskState, IsTold, LeavesOnly, IsLawful, Looks}
use Rattle.fts_journal.specs.Loading.{IsQuiet}
use Rattle.fts_journal.specs.Journal.{IsMaking}
use Rattle.fts_journal.proofs.Moments.{started, goes_on, joins, weakened}
use Rattle.fts_delete.specs.Opened.{IsStill, Makes}

-- two runs that are still
pub still_still : (old mid new : DiskState) → IsStill old mid → IsStill mid new → IsStill old new
still_still old mid new first second = record {
  images = λ c left. first.images c (second.images c left);
  moments = joins old mid new old.may_leave first.moments (weakened mid new mid.may_leave old.may_leave second.moments first.images);
}

-- what is quiet is still
pub quiet_still : (old new : DiskState) → IsQuiet old new → IsStill old new
quiet_still old new quiet = record { images = quiet.images; moments = quiet.moments }

-- no call at all is still
pub same_still : (disk : DiskState) → IsLawful disk → IsStill disk disk
same_still disk lawful = record { images = λ c left. left; moments = started disk lawful disk.may_leave (λ c left. left) }

-- a call more that leaves only what might have been left before
pub more_still : (old mid new : DiskState) → IsStill old mid → IsLawful new → LeavesOnly mid new mid.may_leave → IsStill old new
more_still old mid new first lawful only =
    still_still old mid new first (record { images = λ c left. only.each c (lawful.counts_now mid.moment c only.later left); moments = only })

-- behind a look a journal is made as without it
pub made_behind : {old mid new : DiskState} → (IsTold old → IsLawful old) → (IsTold old → Looks old mid) → mid.told ≡ old.told
    → (IsTold mid → LeavesOnly mid new (IsMaking mid)) → Makes old new
made_behind {old} {mid} {new} lawful looks same only told empty =
    let look = looks told in
    joins old mid new (IsMaking old)
    (goes_on old old mid (IsMaking old) (started old (lawful told) (IsMaking old) (λ c there. inl there)) look.time (λ c there. inl (look.crash c there)))
    (weakened mid new (IsMaking mid) (IsMaking old) (only (same ∙ told))
    (λ c there. ⊎_elim (λ kept. inl (look.crash c kept)) (λ torn. inr (torn.0, (look.crash torn.0 torn.1.0, torn.1.1))) there))

-- a count that rose later rose
pub rose_later : (old mid new : ℕ) → old ≤ mid → Rose mid new → Rose old new
rose_later old mid new keeps rose = ⊎_elim (λ more. inl (omega arith)) (λ most. inr most) rose
