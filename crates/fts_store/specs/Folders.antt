-- The calls that a store in a folder makes on the folders of its files.
use Rattle.std.specs.Prelude.{ℕ, ◌+◌, ◌==◌, nat_lt, nat_le, ◌||◌, not, Bool, true, false, if◌then◌else◌, Option, Some, None, is_some, option_map, List, [], ◌∷◌, length, take, filter, bytes_eq, String, string_bytes}
use Rattle.std.specs.List.{find, position_or_len, list_any}
use Rattle.std.specs.declared.alloc.Global.{Global}
use Rattle.fts_files.specs.declared.files.Kind.{Kind}
use Rattle.fts_files.specs.declared.files.Kind.TheVariants.{File, Folder, Other}
use Rattle.fts_files.specs.Calls.{Answer, Done, Opened, Saw, Gave, Counted, Failed, Look, MakeFolder}
use Rattle.fts_files.specs.Errno.{is_missing, is_taken}
use Rattle.fts_files.specs.Script.{Script, Does, fails, with_value}
use Rattle.fts_store.specs.declared.folders.Met.{Met}
use Rattle.fts_store.specs.declared.folders.Missing.{Missing}
use Rattle.fts_store.specs.declared.folders.Missing.TheVariants.{Nothing, Lowest, Several}

-- the device of a folder; what isn't one is a failure
abbrev pub device_of : Kind → ℕ → Option (Option ℕ)
device_of Folder device = Some (Some device)
device_of File device = None
device_of Other device = None

-- the device of the folder that a look saw: none where nothing has the name; any other refusal is a failure
abbrev pub device_seen : Answer → Option (Option ℕ)
device_seen (Saw seen) = device_of seen.kind seen.device
device_seen (Failed errno) = if is_missing errno then Some None else None
device_seen _ = None

-- whether a folder was there when it was first met; where it was, it has to be on the same device still
abbrev pub as_met : Option (Option ℕ) → Option ℕ → Option Bool
as_met None device = Some (is_some device)
as_met (Some None) device = Some false
as_met (Some (Some first)) None = None
as_met (Some (Some first)) (Some device) = if device == first then Some true else None

-- a folder that was met has this name
abbrev pub is_met : List ℕ → Met → Bool
is_met folder met = bytes_eq (string_bytes met.folder) folder

-- how a folder was first met, where it was
abbrev pub first_met : List Met → List ℕ → Option (Option ℕ)
first_met met folder = option_map (λ known. known.device) (find (is_met folder) met)

-- looks for a folder: its device, or that nothing has the name
unfoldable pub sees_device : List ℕ → (Option ℕ → Script) → Script
sees_device folder next = Does (Look folder) (λ answer. with_value next fails (device_seen answer))

-- an endpoint's own folder is looked at: whether it was there when it was first met
unfoldable pub meets : List Met → List ℕ → (Bool → Script) → Script
meets met folder next = sees_device folder (λ device. with_value next fails (as_met (first_met met folder) device))

-- by whether a look saw a folder, or nothing
abbrev pub if_there : Script → Script → Option ℕ → Script
if_there there absent (Some device) = there
if_there there absent None = absent

-- by what the making of a folder answered: one that another made meanwhile is there too
abbrev pub by_made_one : Script → Answer → Script
by_made_one next Done = next
by_made_one next (Failed errno) = if is_taken errno then next else fails
by_made_one next _ = fails

-- a folder is made where it is missing
unfoldable pub makes_one : List ℕ → Script → Script
makes_one folder next = sees_device folder (if_there next (Does (MakeFolder folder) (by_made_one next)))

-- those of these folders are made that are missing, from the highest down
unfoldable pub makes_down : List (List ℕ) → Script → Script
makes_down [] next = next
makes_down (lowest ∷ above) next = makes_down above (makes_one lowest next)

-- by what the making of the lowest answered: where one above it is missing, they are made from the highest down
abbrev pub by_lowest : (Missing → Script) → Script → Answer → Script
by_lowest next several Done = next Lowest
by_lowest next several (Failed errno) = if is_taken errno then next Lowest else (if is_missing errno then several else fails)
by_lowest next several _ = fails

-- the lowest of these folders
abbrev pub lowest_of : List (List ℕ) → Option (List ℕ)
lowest_of [] = None
lowest_of (lowest ∷ above) = Some lowest

-- with the lowest, where there is one
abbrev pub with_lowest : Script → (List ℕ → Script) → Option (List ℕ) → Script
with_lowest none next None = none
with_lowest none next (Some lowest) = next lowest

-- those of a file's folders are made that are missing: which were
unfoldable pub has_folders : List (List ℕ) → (Missing → Script) → Script
has_folders folders next = with_lowest (next Nothing) (λ lowest. sees_device lowest (if_there (next Nothing)
    (Does (MakeFolder lowest) (by_lowest next (makes_down folders (next Several)))))) (lowest_of folders)

-- those of a file's folders that lie below this one
abbrev pub below : List (List ℕ) → List ℕ → List (List ℕ)
below folders top = take (position_or_len (λ folder. nat_le (length folder) (length top)) folders) folders

-- all of a file's folders, but not the endpoint's own where it was there when it was first met
unfoldable pub has_all : List Met → List ℕ → List (List ℕ) → (Missing → Script) → Script
has_all met endpoint folders next = meets met endpoint (λ was_there. if was_there then has_folders (below folders endpoint) next else has_folders folders next)

-- the name of the first of these folders is this one
abbrev pub is_lowest : List (List ℕ) → List ℕ → Bool
is_lowest [] name = false
is_lowest (lowest ∷ above) name = bytes_eq name lowest

-- which names are still known to be stable: a folder that was made has a new name, and where one above it was made too, none is known
abbrev pub still_stable : Missing → List (List ℕ) → List (String Global) → List (String Global)
still_stable Nothing folders stable = stable
still_stable Lowest folders stable = filter (λ known. not (is_lowest folders (string_bytes known))) stable
still_stable Several folders stable = []

-- a folder whose name is known to be stable, or that lies above the root
abbrev pub is_settled : List ℕ → List (String Global) → List ℕ → Bool
is_settled root stable folder = nat_lt (length folder) (length root) || list_any (λ known. bytes_eq (string_bytes known) folder) stable

-- those of a file's folders that are synced behind a move: up to the first that is settled, and that one
abbrev pub to_sync : List ℕ → List (String Global) → List (List ℕ) → List (List ℕ)
to_sync root stable folders = take (position_or_len (is_settled root stable) folders + 1) folders
