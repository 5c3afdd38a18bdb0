-- What is done with a file so that an answer is of the device, and not of pages that it may never get: each call of a guard as a script.
use Rattle.std.specs.Prelude.{ℕ, zero, suc, ◌+◌, ◌-◌, ◌*◌, ◌/◌, nat_lt, nat_le, ◌==◌, ◌&&◌, not, min, max, Bool, if◌then◌else◌, List, length, replicate}
use Rattle.fts_tables.specs.declared.limits.TheConstants.{JOURNAL_END}
use Rattle.fts_files.specs.Calls.{SyncData, SyncAll, Forget, LookAtOpen}
use Rattle.fts_files.specs.Script.{Script, Does, fails, unless_failed, with_seen}
use Rattle.fts_files.specs.Reach.{fits_file}
use Rattle.fts_files.specs.Writing.{writes_whole, matches_whole}
use Rattle.fts_files.specs.Reading.{reads_whole}
use Rattle.fts_disk.specs.declared.guard.State.{State}
use Rattle.fts_disk.specs.declared.guard.Trust.{Trust}
use Rattle.fts_disk.specs.declared.guard.Trust.TheVariants.{Whole, ReadBack, Nothing}

-- where nothing is believed: the whole file is synced, its pages are dropped, and what is ready is no more than before and no more than
-- is there; from then on writes are read back
abbrev pub restores_by : ℕ → State → (State → Script) → Trust → Script
restores_by file state next Whole = next state
restores_by file state next (ReadBack writes from) = next state
restores_by file state next (Nothing from) =
    Does (SyncAll file) (unless_failed (Does (Forget file) (unless_failed
    (Does (LookAtOpen file) (with_seen (λ seen. next (record state { ready = min state.ready seen.len; trust = ReadBack 4 from })) fails)) fails)) fails)

-- by what is believed of it
unfoldable pub restores : ℕ → State → (State → Script) → Script
restores file state next = restores_by file state next state.trust

-- the end of the zeros for a write up to this end: that of its block, but no more than a journal may have
abbrev pub ready_end : ℕ → ℕ
ready_end end = max end (min ((end / 1048576 + 1) * 1048576) JOURNAL_END)

-- a write of so many bytes, from inside what is ready or from its end, that would pass it; the first bytes of an empty file need none
abbrev pub needs_zeros : ℕ → ℕ → ℕ → Bool
needs_zeros ready at size = nat_le at ready && not (ready == 0) && nat_lt (ready - at) size

-- zeros in pieces of 65,536, so many more of them
unfoldable pub zeros_on : ℕ → Script → ℕ → ℕ → ℕ → Script
zeros_on file next to at zero = next
zeros_on file next to at (suc more) = writes_whole file at (replicate (min (to - at) 65536) 0) (zeros_on file next to (at + 65536) more)

-- zeros up to a block's end and a sync, where a write of so many bytes needs them; then so much is ready
unfoldable pub readies : ℕ → ℕ → ℕ → ℕ → (ℕ → Script) → Script
readies file ready at size next =
    if needs_zeros ready at size
    then zeros_on file (Does (SyncData file) (unless_failed (next (ready_end (at + size))) fails)) (ready_end (at + size)) ready ((ready_end (at + size) - ready + 65535) / 65536)
    else next ready

-- what was written is synced with all of the file, the pages are dropped, and it is read from the device
unfoldable pub reads_back : ℕ → ℕ → List ℕ → Script → Script
reads_back file at bytes next = Does (SyncAll file) (unless_failed (Does (Forget file) (unless_failed (matches_whole file at bytes next) fails)) fails)

-- what is believed once a write more was read back: only one that goes beyond the place that failed counts
abbrev pub after_read_back : ℕ → ℕ → ℕ → Trust
after_read_back end writes from = if nat_le end from then ReadBack writes from else if nat_le writes 1 then Whole else ReadBack (writes - 1) from

-- behind a write: it is read back, where that is to be done
abbrev pub confirms_by : ℕ → ℕ → List ℕ → State → (State → Script) → Trust → Script
confirms_by file at bytes state next (ReadBack writes from) =
    reads_back file at bytes (next (record state { trust = after_read_back (at + length bytes) writes from }))
confirms_by file at bytes state next Whole = next state
confirms_by file at bytes state next (Nothing from) = next state

-- by what is believed of the file
unfoldable pub confirms : ℕ → ℕ → List ℕ → State → (State → Script) → Script
confirms file at bytes state next = confirms_by file at bytes state next state.trust

-- a write that lies in a file: what is believed is restored, what it needs is made ready, all bytes are written, and they are read back
-- where that is to be done
unfoldable pub writes_there : ℕ → State → ℕ → List ℕ → (State → Script) → Script
writes_there file state at bytes next =
    restores file state (λ now.
    readies file now.ready at (length bytes) (λ ready.
    writes_whole file at bytes (confirms file at bytes (record now { ready = max ready (at + length bytes); unsynced = min now.unsynced at }) next)))

-- a write, unless no file would be so long
unfoldable pub guarded_write : ℕ → State → ℕ → List ℕ → (State → Script) → Script
guarded_write file state at bytes next = if fits_file at (length bytes) then writes_there file state at bytes next else fails

-- a sync
unfoldable pub guarded_sync : ℕ → State → (State → Script) → Script
guarded_sync file state next =
    restores file state (λ now. Does (SyncData file) (unless_failed (next (record now { unsynced = 18446744073709551615 })) fails))

-- a read of so many bytes, all of which have to be there
unfoldable pub reads_full : ℕ → ℕ → ℕ → (List ℕ → Script) → Script
reads_full file at wanted next = reads_whole file at wanted (λ found. if length found == wanted then next found else fails)

-- and before it what is believed is restored
unfoldable pub guarded_read : ℕ → State → ℕ → ℕ → (State → List ℕ → Script) → Script
guarded_read file state at wanted next =
    restores file state (λ now. reads_full file at wanted (next now))

-- a look at the length
unfoldable pub guarded_len : ℕ → State → (State → ℕ → Script) → Script
guarded_len file state next = restores file state (λ now. Does (LookAtOpen file) (with_seen (λ seen. next now seen.len) fails))

-- the place that fails where a write of so many bytes does: the end of what is ready where it needs zeros, and else the first byte that
-- isn't synced
abbrev pub write_place : State → ℕ → ℕ → ℕ
write_place state at size = if needs_zeros state.ready at size then state.ready else min state.unsynced at

-- the place that failed before, or the start
abbrev pub place_of : Trust → ℕ
place_of Whole = 0
place_of (ReadBack writes from) = from
place_of (Nothing from) = from

-- until it has answered, and after it has failed, nothing is believed; no more is ready than before, and the place is the furthest that failed
abbrev pub doubted : State → ℕ → State
doubted state from = record state { trust = Nothing (max from (place_of state.trust)) }
