-- The calls of a file system that the calls of a store in a folder make.
use Rattle.std.specs.Prelude.{◌≡◌, ℕ, ◌&&◌, not, Bool, if◌then◌else◌, Option, Some, None, option_map, Result, IsErr, List, ◌++◌, String}
use Rattle.std.specs.declared.alloc.Global.{Global}
use Rattle.fts_tables.specs.declared.places.Place.{Place}
use Rattle.fts_files.specs.Calls.{Call}
use Rattle.fts_files.specs.declared.parts.OpenPart.{OpenPart}
use Rattle.fts_files.specs.Making.{makes_part, removes_part}
use Rattle.fts_files.specs.Moved.{IsMoved}
use Rattle.fts_files.specs.Reading.{sizes, opens_source, reads_once}
use Rattle.fts_files.specs.Script.{Script, LeadsTo, either, fails}
use Rattle.fts_files.specs.Writing.{writes_whole}
use Rattle.fts_store.specs.declared.folder.Opened.{Opened}
use Rattle.fts_store.specs.declared.folders.Met.{Met}
use Rattle.fts_store.specs.declared.folders.Missing.{Missing}
use Rattle.fts_store.specs.Folder.{stays_inside, is_among_parts}
use Rattle.fts_store.specs.Paths.{endpoint_in, path_in, folders_of}
use Rattle.fts_store.specs.Folders.{meets, below, has_all, still_stable, to_sync}
use Rattle.fts_store.specs.Opened.{is_open_at, is_free}
use Rattle.fts_store.specs.Removing.{sizes_for_good, removes_for_good}

-- the calls that were told end with some of which this holds
abbrev pub EndWith : (List Call → Type 0) → Option (List Call) → Type 0
EndWith P new = (after : List Call) → new ≡ Some after → (before : List Call) × (told : List Call) × (after ≡ before ++ told) × P told

-- the open part was moved: the last calls are exactly those of its move, and of the file's folders those are synced whose names weren't known to
-- be stable behind the making of those that were missing
abbrev pub OpenMoved : ℕ → List ℕ → List (String Global) → Option (String Global) → Place → Place → Option (List Call) → Type 0
OpenMoved file root stable free from to calls = (missing : Missing) × EndWith (IsMoved file (path_in root from) (path_in root to)
    (to_sync root (still_stable missing (folders_of (path_in root to)) stable) (folders_of (path_in root to))) (not (is_free free (path_in root to)))) calls

-- memory was missing before anything was asked
abbrev pub IsUnasked : {T E : Type 0} → Result T E → Option (List Call) → Option (List Call) → Type 0
IsUnasked result old new = IsErr result × (new ≡ old)

-- the calls of a script were made, and it goes on by what they gave; or memory was missing behind some of them, and the others were left
abbrev pub UpToMemory : {T E : Type 0} → Result T E → Script → (T → Script) → Option (List Call) → Option (List Call) → Type 0
UpToMemory result from next old new = (left : Script) × LeadsTo from old (either next left result) new

-- an endpoint's own folder is as it was first met, and the place lies inside
abbrev pub inside : List ℕ → List Met → Place → Script → Script
inside root met place next = if stays_inside place then meets met (endpoint_in root place.endpoint) (λ was_there. next) else fails

-- a file's size is looked for
abbrev pub sizes_in : List ℕ → List Met → Place → (Option ℕ → Script) → Script
sizes_in root met place next = inside root met place (sizes (path_in root place) next)

-- a file is opened to be read
abbrev pub opens_in : List ℕ → List Met → Place → (ℕ → Script) → Script
opens_in root met place next = inside root met place (opens_source (path_in root place) next)

-- with the number of what is open
abbrev pub with_opened : {T : Type 0} → (T → ℕ) → Option (Opened T) → (ℕ → Script) → Script
with_opened number (Some opened) next = next (number opened.file)
with_opened number None next = fails

-- a file is read: by the part's own handle where it is the part, by the one that is open where it is that, and else it is opened
abbrev pub reads_in : {H : Type 0} → (H → ℕ) → List ℕ → List Met → Option (Opened (OpenPart H)) → Option (Opened H) → Place → ℕ → ℕ → (List ℕ → Script) → Script
reads_in number root met writing reading place offset wanted next =
    if stays_inside place then
    (if is_open_at writing place then with_opened (λ part. number part.file) writing (λ file. reads_once file offset wanted next 1000)
    else (if is_open_at reading place then with_opened number reading (λ file. reads_once file offset wanted next 1000)
    else opens_in root met place (λ file. reads_once file offset wanted next 1000)))
    else fails

-- a part is made, behind its folders
abbrev pub creates_in : List ℕ → List Met → Place → (ℕ → Script) → Script
creates_in root met place next =
    if stays_inside place then has_all met (endpoint_in root place.endpoint) (folders_of (path_in root place)) (λ missing. makes_part (path_in root place) next) else fails

-- bytes are put behind those of what is open
abbrev pub with_part : {H : Type 0} → (H → ℕ) → Option (Opened (OpenPart H)) → List ℕ → Script → Script
with_part number (Some part) bytes next = writes_whole (number part.file.file) part.file.end bytes next
with_part number None bytes next = fails

-- they are put behind those of the open part, where it is the file at this place
abbrev pub appends_in : {H : Type 0} → (H → ℕ) → Option (Opened (OpenPart H)) → Place → List ℕ → Script → Script
appends_in number writing place bytes next = if stays_inside place then (if is_open_at writing place then with_part number writing bytes next else fails) else fails

-- the end of the open part
abbrev pub part_end : {H : Type 0} → Option (Opened (OpenPart H)) → Option ℕ
part_end writing = option_map (λ part. part.file.end) writing

-- its handle
abbrev pub part_handle : {H : Type 0} → Option (Opened (OpenPart H)) → Option H
part_handle writing = option_map (λ part. part.file.file) writing

-- the folders that a file lies in, below its endpoint's own
abbrev pub inner_folders : List ℕ → Place → List (List ℕ)
inner_folders root place = below (folders_of (path_in root place)) (endpoint_in root place.endpoint)

-- a place that lies inside, and in no folder of parts
abbrev pub apart_from_parts : List ℕ → List Met → Place → Script → Script
apart_from_parts root met place next = if is_among_parts place.path then fails else inside root met place next

-- a store for deletions looks for a file's size: of a plain file behind no link; that there is none is told once no crash undoes it
abbrev pub looks_for_good : List ℕ → List Met → Place → (Option ℕ → Script) → Script
looks_for_good root met place next =
    apart_from_parts root met place (sizes_for_good (endpoint_in root place.endpoint) (inner_folders root place) (path_in root place) next)

-- by whether the store is for deletions
abbrev pub looks_in : Bool → List ℕ → List Met → Place → (Option ℕ → Script) → Script
looks_in deleting root met place next = if deleting then looks_for_good root met place next else sizes_in root met place next

-- the name of a part is taken away, unless a run holds it
abbrev pub removes_part_in : List ℕ → List Met → Place → Script → Script
removes_part_in root met place next = inside root met place (removes_part (path_in root place) next)

-- a plain file behind no link is removed, so that no crash gives it back
abbrev pub removes_file_in : List ℕ → List Met → Place → Script → Script
removes_file_in root met place next =
    apart_from_parts root met place (removes_for_good (endpoint_in root place.endpoint) (inner_folders root place) (path_in root place) next)

-- a file is removed, and no part by a store for deletions
abbrev pub removes_in : Bool → List ℕ → List Met → Place → Script → Script
removes_in deleting root met place next =
    if is_among_parts place.path && not deleting then removes_part_in root met place next else removes_file_in root met place next
