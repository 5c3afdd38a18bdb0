-- How a file is looked at, opened and read.
use Rattle.std.specs.Prelude.{ℕ, zero, suc, ◌+◌, ◌-◌, Option, Some, None, if◌then◌else◌, List, [], ◌∷◌, ◌++◌, length}
use Rattle.fts_files.specs.declared.files.Kind.{Kind}
use Rattle.fts_files.specs.declared.files.Kind.TheVariants.{File, Folder, Other}
use Rattle.fts_files.specs.declared.files.Way.TheVariants.{Read}
use Rattle.fts_files.specs.Calls.{Answer, Done, Opened, Saw, Gave, Counted, Failed, Open, Look, LookAtOpen, ReadAt}
use Rattle.fts_files.specs.Errno.{is_interrupted, is_missing}
use Rattle.fts_files.specs.Opening.{opens_when_free}
use Rattle.fts_files.specs.Reach.{fits_file}
use Rattle.fts_files.specs.Script.{Script, Does, fails, with_open, with_seen, with_value}

-- the length of a plain file
abbrev pub plain_len : Kind → ℕ → Option (Option ℕ)
plain_len File len = Some (Some len)
plain_len Folder len = None
plain_len Other len = None

-- how long the file is that a look saw: none where nothing has the name; what isn't a plain file is a failure, and so is any other refusal
abbrev pub size_seen : Answer → Option (Option ℕ)
size_seen (Saw seen) = plain_len seen.kind seen.len
size_seen (Failed errno) = if is_missing errno then Some None else None
size_seen _ = None

-- looks how long a file is
unfoldable pub sizes : List ℕ → (Option ℕ → Script) → Script
sizes path next = Does (Look path) (λ answer. with_value next fails (size_seen answer))

-- goes on where a plain file was seen
abbrev pub if_plain : Script → Kind → Script
if_plain next File = next
if_plain next Folder = fails
if_plain next Other = fails

-- opens a plain file to be read: it is looked at before, since the opening of a pipe waits, and by its handle behind
unfoldable pub opens_plain : List ℕ → (ℕ → Script) → Script
opens_plain path next =
    Does (Look path) (with_seen (λ seen. if_plain
    (Does (Open path Read) (with_open (λ file.
    Does (LookAtOpen file) (with_seen (λ there. if_plain (next file) there.kind) fails)) fails)) seen.kind) fails)

-- opens a plain file likewise, once too many files are open no more
unfoldable pub opens_source : List ℕ → (ℕ → Script) → Script
opens_source path next =
    Does (Look path) (with_seen (λ seen. if_plain
    (opens_when_free path Read (with_open (λ file.
    Does (LookAtOpen file) (with_seen (λ there. if_plain (next file) there.kind) fails)) fails)) seen.kind) fails)

-- what a read gave; an interrupted one is made again
abbrev pub by_read : (List ℕ → Script) → Script → Answer → Script
by_read next again (Gave bytes) = next bytes
by_read next again (Failed errno) = if is_interrupted errno then again else fails
by_read next again _ = fails

-- reads once, in at most so many calls
unfoldable pub reads_once : ℕ → ℕ → ℕ → (List ℕ → Script) → ℕ → Script
reads_once file offset wanted next zero = fails
reads_once file offset wanted next (suc times) = Does (ReadAt file offset wanted) (by_read next (reads_once file offset wanted next times))

-- the end of a file is where a read gives nothing
abbrev pub by_end : Script → (List ℕ → Script) → List ℕ → Script
by_end ended goes [] = ended
by_end ended goes (byte ∷ bytes) = goes (byte ∷ bytes)

-- reads so many bytes behind those that it had, or to the end of the file, in at most so many reads
unfoldable pub reads_on : ℕ → (List ℕ → Script) → ℕ → ℕ → ℕ → List ℕ → Script
reads_on file next times offset zero had = next had
reads_on file next zero offset (suc wanted) had = fails
reads_on file next (suc times) offset (suc wanted) had =
    reads_once file offset (suc wanted) (by_end (next had) (λ bytes. reads_on file next times (offset + length bytes) (suc wanted - length bytes) (had ++ bytes))) 1000

-- reads so many bytes from an offset on, or to the end of the file, unless no file is so long; each read gives one at least
unfoldable pub reads_whole : ℕ → ℕ → ℕ → (List ℕ → Script) → Script
reads_whole file offset wanted next = if fits_file offset wanted then reads_on file next wanted offset wanted [] else fails
