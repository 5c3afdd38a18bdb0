-- How a file is opened, for a service and for looking, and how it is seen to stay where it was: as calls.
use Rattle.std.specs.Prelude.{ℕ, nat_le, ◌&&◌, ◌==◌, Bool, if◌then◌else◌, Option, Some, None, List, [], ◌∷◌, length}
use Rattle.std.specs.Path.{path_parent}
use Rattle.fts_files.specs.declared.files.Seen.{Seen}
use Rattle.fts_files.specs.declared.files.Way.TheVariants.{Read, Write, New}
use Rattle.fts_files.specs.Calls.{Answer, Done, Opened, Saw, Gave, Counted, Failed, Open, Look, LookAtOpen, SyncAll, Forget, Lock}
use Rattle.fts_files.specs.Errno.{is_missing}
use Rattle.fts_files.specs.Moving.{is_same_file}
use Rattle.fts_files.specs.Reading.{if_plain, sizes, opens_plain}
use Rattle.fts_files.specs.Script.{Script, Does, fails, unless_failed, with_open, with_seen}

-- the folder that a parent names: where there is none, or an empty one, it is the folder that the program runs in
abbrev pub folder_from : Option (List ℕ) → List ℕ
folder_from None = 46 ∷ []
folder_from (Some parent) = if length parent == 0 then 46 ∷ [] else parent

-- the folder that the name of a file lies in
abbrev pub folder_of : List ℕ → List ℕ
folder_of path = folder_from (path_parent path)

-- by what the opening answered: what isn't there is made
abbrev pub by_found : (ℕ → Script) → Script → Answer → Script
by_found next made (Opened file) = next file
by_found next made (Failed errno) = if is_missing errno then made else fails
by_found next made _ = fails

-- a file is opened to be written, or made where nothing has its name, a link neither
unfoldable pub opens_or_makes : List ℕ → (ℕ → Script) → Script
opens_or_makes path next = Does (Open path Write) (by_found next (Does (Open path New) (with_open next fails)))

-- for a service: a plain file is opened or made, locked, synced, and its pages are dropped, since after a failed sync of an earlier service they
-- may differ from the device; then the folder is synced, so that the name is stable too
unfoldable pub opens_to_serve : List ℕ → (ℕ → Script) → Script
opens_to_serve path next =
    opens_or_makes path (λ file.
    Does (LookAtOpen file) (with_seen (λ seen. if_plain
    (Does (Lock file) (unless_failed
    (Does (SyncAll file) (unless_failed
    (Does (Forget file) (unless_failed
    (Does (Open (folder_of path) Read) (with_open (λ folder.
    Does (SyncAll folder) (unless_failed (next file) fails)) fails)) fails)) fails)) fails)) seen.kind) fails))

-- the name is still that of the open file, which is as long as it was, at least
abbrev pub keeps : Seen → Seen → ℕ → Bool
keeps there opened least = is_same_file there opened && nat_le least opened.len

-- name and open file are looked at: it fails where one of them has another file, and where the file was cut; it gives the length
unfoldable pub stays : List ℕ → ℕ → ℕ → (ℕ → Script) → Script
stays path file least next =
    Does (Look path) (with_seen (λ there. Does (LookAtOpen file) (with_seen (λ opened. if keeps there opened least then next opened.len else fails) fails)) fails)

-- by whether there is one
abbrev pub by_option : {T : Type 0} → Script → (T → Script) → Option T → Script
by_option absent found None = absent
by_option absent found (Some value) = found value

-- for looking: where nothing has the name there is none; a plain file is opened to be read
unfoldable pub opens_to_look : List ℕ → Script → (ℕ → Script) → Script
opens_to_look path absent next = sizes path (by_option absent (λ len. opens_plain path next))
