-- Plain files behind no link: the calls by which one is found, and by which its name is taken away for good.
use Rattle.std.specs.Prelude.{ℕ, Bool, true, false, if◌then◌else◌, Option, Some, None, List, [], ◌∷◌}
use Rattle.fts_files.specs.declared.files.Kind.{Kind}
use Rattle.fts_files.specs.declared.files.Kind.TheVariants.{File, Folder, Other}
use Rattle.fts_files.specs.Calls.{Answer, Done, Opened, Saw, Gave, Counted, Failed, LookAtName}
use Rattle.fts_files.specs.Errno.{is_missing}
use Rattle.fts_files.specs.Making.{removes}
use Rattle.fts_files.specs.Moving.{syncs}
use Rattle.fts_files.specs.Reading.{size_seen}
use Rattle.fts_files.specs.Script.{Script, Does, fails, with_value}

-- a folder is one, behind a file lies nothing, and what a link, a pipe, a device or a socket leads to isn't looked for
abbrev pub is_folder_kind : Kind → Option Bool
is_folder_kind Folder = Some true
is_folder_kind File = Some false
is_folder_kind Other = None

-- whether a look at a name saw a folder: not where nothing has the name; any other refusal is a failure
abbrev pub folder_seen : Answer → Option Bool
folder_seen (Saw seen) = is_folder_kind seen.kind
folder_seen (Failed errno) = if is_missing errno then Some false else None
folder_seen _ = None

-- looks whether a name is a folder's
unfoldable pub sees_folder : List ℕ → (Bool → Script) → Script
sees_folder folder next = Does (LookAtName folder) (λ answer. with_value next fails (folder_seen answer))

-- goes down these folders, from the highest, which lies in the one at the top: to the lowest that is there, and whether that is the last of them
unfoldable pub goes_down : List ℕ → List (List ℕ) → (List ℕ → Bool → Script) → Script
goes_down top [] next = next top true
goes_down top (lowest ∷ above) next =
    goes_down top above (λ folder is_last. if is_last then sees_folder lowest (λ is_there. if is_there then next lowest true else next folder false) else next folder false)

-- looks for a plain file below the folder at the top: the lowest of its folders that is there, and its size, where it is there
unfoldable pub finds : List ℕ → List (List ℕ) → List ℕ → (List ℕ → Option ℕ → Script) → Script
finds top folders path next =
    goes_down top folders (λ folder is_last. if is_last then Does (LookAtName path) (λ answer. with_value (next folder) fails (size_seen answer)) else next folder None)

-- that there is no file is said once the folder is synced in which its name would stand
abbrev pub once_stable : List ℕ → (Option ℕ → Script) → Option ℕ → Script
once_stable folder next (Some size) = next (Some size)
once_stable folder next None = syncs (folder ∷ []) (next None) fails

-- the size of a plain file, or that there is none, which no crash undoes
unfoldable pub sizes_for_good : List ℕ → List (List ℕ) → List ℕ → (Option ℕ → Script) → Script
sizes_for_good top folders path next = finds top folders path (λ folder size. once_stable folder next size)

-- a file that is there loses its name
abbrev pub taken : List ℕ → Script → Option ℕ → Script
taken path next (Some size) = removes path next
taken path next None = next

-- a plain file loses its name, and then no crash gives it back; where none is there, that becomes as stable
unfoldable pub removes_for_good : List ℕ → List (List ℕ) → List ℕ → Script → Script
removes_for_good top folders path next = finds top folders path (λ folder size. taken path (syncs (folder ∷ []) next fails) size)
