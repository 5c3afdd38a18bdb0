-- How bytes are put into a file, and compared with it.
use Rattle.std.specs.Prelude.{ℕ, zero, suc, ◌+◌, min, Option, Some, None, if◌then◌else◌, nat_eq, List, [], ◌∷◌, length, drop}
use Rattle.std.specs.List.{starts_with}
use Rattle.fts_files.specs.Calls.{Asked, Answer, Done, Opened, Saw, Gave, Counted, Failed, ReadAt, WriteAt}
use Rattle.fts_files.specs.Errno.{is_interrupted}
use Rattle.fts_files.specs.Reach.{fits_file}
use Rattle.fts_files.specs.Script.{Script, Does, fails, with_value}

-- nothing was done where a call was interrupted, and any other refusal is a failure
abbrev pub unless_interrupted : ℕ → Option ℕ
unless_interrupted errno = if is_interrupted errno then Some 0 else None

-- how many bytes a write took; one that took none has failed
abbrev pub taken : Answer → Option ℕ
taken (Counted (suc count)) = Some (suc count)
taken (Failed errno) = unless_interrupted errno
taken _ = None

-- a number, unless it is 0
abbrev pub at_least_one : ℕ → Option ℕ
at_least_one zero = None
at_least_one (suc count) = Some (suc count)

-- how many of these bytes a read gave; one that gave none, or others, has failed
abbrev pub matched : List ℕ → Answer → Option ℕ
matched bytes (Gave got) = if starts_with nat_eq bytes got then at_least_one (length got) else None
matched bytes (Failed errno) = unless_interrupted errno
matched bytes _ = None

-- goes over these bytes in at most so many calls, each of which deals with some of those that are left
unfoldable pub goes_over : (ℕ → List ℕ → Asked) → (List ℕ → Answer → Option ℕ) → Script → ℕ → ℕ → List ℕ → Script
goes_over asks dealt next times offset [] = next
goes_over asks dealt next zero offset (byte ∷ bytes) = fails
goes_over asks dealt next (suc times) offset (byte ∷ bytes) =
    Does (asks offset (byte ∷ bytes)) (λ answer. with_value (λ count. goes_over asks dealt next times (offset + count) (drop count (byte ∷ bytes))) fails (dealt (byte ∷ bytes) answer))

-- writes these bytes at an offset: each call writes all that is left, a short write is written on and an interrupted one made again
abbrev pub writes_on : ℕ → Script → ℕ → ℕ → List ℕ → Script
writes_on file next times offset bytes = goes_over (WriteAt file) (λ left. taken) next times offset bytes

-- reads what is at an offset, which has to be these bytes
abbrev pub matches_on : ℕ → Script → ℕ → ℕ → List ℕ → Script
matches_on file next times offset bytes = goes_over (λ from left. ReadAt file from (min (length left) 4096)) matched next times offset bytes

-- writes all of these bytes at an offset, unless no file is so long; at most a thousand calls more than there are bytes
unfoldable pub writes_whole : ℕ → ℕ → List ℕ → Script → Script
writes_whole file offset bytes next = if fits_file offset (length bytes) then writes_on file next (length bytes + 1000) offset bytes else fails

-- all bytes at an offset are these
unfoldable pub matches_whole : ℕ → ℕ → List ℕ → Script → Script
matches_whole file offset bytes next = if fits_file offset (length bytes) then matches_on file next (length bytes + 1000) offset bytes else fails
