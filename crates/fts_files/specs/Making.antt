-- How a part is made and held, and how a name is taken away.
use Rattle.std.specs.Prelude.{ℕ, if◌then◌else◌, List}
use Rattle.fts_files.specs.declared.files.Kind.{Kind}
use Rattle.fts_files.specs.declared.files.Kind.TheVariants.{File, Folder, Other}
use Rattle.fts_files.specs.declared.files.Seen.{Seen}
use Rattle.fts_files.specs.declared.files.Way.TheVariants.{Read, New}
use Rattle.fts_files.specs.Calls.{Answer, Done, Opened, Saw, Gave, Counted, Failed, LookAtName, LookAtOpen, Lock, Unlink}
use Rattle.fts_files.specs.Errno.{is_missing, is_taken}
use Rattle.fts_files.specs.Opening.{opens_when_free}
use Rattle.fts_files.specs.Script.{Script, Does, fails, unless_failed, with_open, with_seen}
use Rattle.fts_files.specs.Moving.{checks}

-- an open file is locked, which fails where another run holds it, and the name is still its own
unfoldable pub holds : List ℕ → ℕ → Script → Script → Script
holds path file next ended = Does (Lock file) (unless_failed (Does (LookAtOpen file) (with_seen (λ seen. checks path seen next ended) ended)) ended)

-- one of two, by whether it is a plain file
abbrev pub by_kind : Script → Script → Kind → Script
by_kind plain other File = plain
by_kind plain other Folder = other
by_kind plain other Other = other

-- a plain file loses its name, where nobody holds it; to lock it, it is enough that it may be read
unfoldable pub clears_plain : List ℕ → Script → Script → Script
clears_plain path next ended =
    opens_when_free path Read (with_open (λ old. holds path old (Does (Unlink path) (unless_failed next ended)) ended) ended)

-- what has the name loses it; a plain file only where nobody holds it
unfoldable pub clears : List ℕ → Script → Script
clears path next =
    Does (LookAtName path) (with_seen (λ found. by_kind (clears_plain path next fails) (Does (Unlink path) (unless_failed next fails)) found.kind) fails)

-- a part that a run left loses its name: a plain file that nobody holds
unfoldable pub removes_stale : List ℕ → Script → Script → Script
removes_stale path next ended =
    Does (LookAtName path) (with_seen (λ found. by_kind (clears_plain path next ended) ended found.kind) ended)

-- by what has a name, where something has
abbrev pub by_name : (Seen → Script) → Script → Answer → Script
by_name there absent (Saw seen) = there seen
by_name there absent (Failed errno) = if is_missing errno then absent else fails
by_name there absent _ = fails

-- the name of a part is taken away from a plain file that nobody holds; where nothing has it, that is done
unfoldable pub removes_part : List ℕ → Script → Script
removes_part path next = Does (LookAtName path) (by_name (λ found. by_kind (clears_plain path next fails) fails found.kind) next)

-- by what the making answered
abbrev pub by_made : (ℕ → Script) → Script → Answer → Script
by_made made taken (Opened file) = made file
by_made made taken (Failed errno) = if is_taken errno then taken else fails
by_made made taken _ = fails

-- a part is made where nothing has its name, once what has it has lost it, and held
unfoldable pub makes_part : List ℕ → (ℕ → Script) → Script
makes_part path next =
    opens_when_free path New (by_made (λ file. holds path file (next file) fails)
    (clears path (opens_when_free path New (with_open (λ file. holds path file (next file) fails) fails))))

-- by what the taking away answered: what has no name needs none taken away
abbrev pub by_removed : Script → Answer → Script
by_removed next Done = next
by_removed next (Failed errno) = if is_missing errno then next else fails
by_removed next _ = fails

-- a file is removed
unfoldable pub removes : List ℕ → Script → Script
removes path next = Does (Unlink path) (by_removed next)
