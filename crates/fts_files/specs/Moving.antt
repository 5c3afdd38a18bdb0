-- How a part becomes its destination, by calls.
use Rattle.std.specs.Prelude.{ℕ, ◌==◌, ◌&&◌, Bool, Option, Some, None, if◌then◌else◌, List, [], ◌∷◌}
use Rattle.fts_files.specs.declared.files.Kind.{Kind}
use Rattle.fts_files.specs.declared.files.Kind.TheVariants.{File, Folder, Other}
use Rattle.fts_files.specs.declared.files.Seen.{Seen}
use Rattle.fts_files.specs.declared.files.Way.TheVariants.{Read}
use Rattle.fts_files.specs.Calls.{Answer, Done, Opened, Saw, Gave, Counted, Failed, LookAtName, LookAtOpen, SyncData, SyncAll, Link, Rename, Unlink, SetMode}
use Rattle.fts_files.specs.Errno.{is_missing, lacks_links}
use Rattle.fts_files.specs.Opening.{opens_when_free}
use Rattle.fts_files.specs.Script.{Script, Does, fails, unless_failed, with_open, with_seen, with_value}

-- two looks saw one file
abbrev pub is_same_file : Seen → Seen → Bool
is_same_file one other = (one.device == other.device) && (one.inode == other.inode)

-- opens each of these folders and syncs it, one after the other
unfoldable pub syncs : List (List ℕ) → Script → Script → Script
syncs [] next ended = next
syncs (folder ∷ folders) next ended =
    opens_when_free folder Read (with_open (λ file. Does (SyncAll file) (unless_failed (syncs folders next ended) ended)) ended)

-- the name is this file's, as it was seen by its handle
unfoldable pub checks : List ℕ → Seen → Script → Script → Script
checks path seen next ended = Does (LookAtName path) (with_seen (λ there. if is_same_file there seen then next else ended) ended)

-- the name is taken away, and what was begun has failed
unfoldable pub takes_back : List ℕ → Script
takes_back path = Does (Unlink path) (λ answer. fails)

-- behind a link: the new name is the file's, the part loses its own, and the folders are synced
unfoldable pub settles : List ℕ → List ℕ → Seen → List (List ℕ) → Script → Script → Script
settles part dest seen folders next ended =
    checks dest seen (Does (Unlink part) (unless_failed (syncs folders next ended) ended)) ended

-- in place of what has the name: the part's name is the file's, it gets the other one, that is the file's too, and the folders are synced;
-- where that name is another file's, it is taken away
unfoldable pub replaces : List ℕ → List ℕ → Seen → List (List ℕ) → Script → Script
replaces part dest seen folders next =
    checks part seen (Does (Rename part dest) (unless_failed (checks dest seen (syncs folders next fails) (takes_back dest)) fails)) fails

-- the rights of a plain file
abbrev pub plain_mode : Kind → ℕ → Option ℕ
plain_mode File mode = Some mode
plain_mode Folder mode = None
plain_mode Other mode = None

-- the rights that a replaced file had: none where something else has the name, or nothing; any other refusal is a failure
abbrev pub mode_seen : Answer → Option (Option ℕ)
mode_seen (Saw seen) = Some (plain_mode seen.kind seen.mode)
mode_seen (Failed errno) = if is_missing errno then Some None else None
mode_seen _ = None

-- looks which rights the file has that is to be replaced
unfoldable pub sees_mode : List ℕ → (Option ℕ → Script) → Script
sees_mode dest next = Does (LookAtName dest) (λ answer. with_value next fails (mode_seen answer))

-- an open file gets these rights, where there are some
abbrev pub gets_mode : ℕ → Script → Option ℕ → Script
gets_mode file next (Some mode) = Does (SetMode file mode) (unless_failed next fails)
gets_mode file next None = next

-- an open part gets the rights of the plain file that it is to replace
unfoldable pub keeps_mode : ℕ → List ℕ → Script → Script
keeps_mode file dest next = sees_mode dest (gets_mode file next)

-- where no second name can be given: nothing has the name, and then as above
abbrev pub if_missing : Script → Answer → Script
if_missing next (Failed errno) = if is_missing errno then next else fails
if_missing next _ = fails

-- by what the link answered
abbrev pub by_link : Script → Script → Answer → Script
by_link linked unlinked Done = linked
by_link linked unlinked (Failed errno) = if lacks_links errno then unlinked else fails
by_link linked unlinked _ = fails

-- where nothing has the name: it is given by a link, which fails where something has it; a failure behind that takes the name back
unfoldable pub links : List ℕ → List ℕ → Seen → List (List ℕ) → Script → Script
links part dest seen folders next =
    Does (Link part dest) (by_link (settles part dest seen folders next (takes_back dest))
    (Does (LookAtName dest) (if_missing (replaces part dest seen folders next))))

-- an open part becomes its destination: its data are synced first, and it is looked at by its handle; what it may replace leaves it its rights
unfoldable pub moves : ℕ → List ℕ → List ℕ → List (List ℕ) → Bool → Script → Script
moves file part dest folders overwrite next =
    Does (SyncData file) (unless_failed
    (Does (LookAtOpen file) (with_seen (λ seen. if overwrite then keeps_mode file dest (replaces part dest seen folders next) else links part dest seen folders next) fails)) fails)
