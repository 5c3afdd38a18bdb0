-- What a crash leaves while a journal is made behind a look at the disk.
use Rattle.std.proofs.Common.{inl, inr, ⊎_elim}
use Rattle.fts_disk.specs.Disk.{DiskState, LeavesOnly, IsLawful, Looks}
use Rattle.fts_journal.specs.Journal.{IsMaking}
use Rattle.fts_journal.proofs.Moments.{started, goes_on, joins, weakened}

-- behind a look a journal is made as without it
pub made_behind : (old mid new : DiskState) → IsLawful old → Looks old mid → LeavesOnly mid new (IsMaking mid) → LeavesOnly old new (IsMaking old)
made_behind old mid new lawful looks only = joins old mid new (IsMaking old)
    (goes_on old old mid (IsMaking old) (started old lawful (IsMaking old) (λ c there. inl there)) looks.time (λ c there. inl (looks.crash c there)))
    (weakened mid new (IsMaking mid) (IsMaking old) only
    (λ c there. ⊎_elim (λ same. inl (looks.crash c same)) (λ torn. inr (torn.0, (looks.crash torn.0 torn.1.0, torn.1.1))) there))
