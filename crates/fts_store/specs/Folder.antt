-- What is known of a store in a folder: how often it failed, and which names stay inside the folder.
use Rattle.std.specs.Prelude.{ℕ, ◌&&◌, not, Bool, List, [], codes, bytes_eq, nat_eq}
use Rattle.std.specs.List.{list_all, starts_with}
use Rattle.fts_tables.specs.declared.places.Place.{Place}
use Rattle.fts_tables.specs.Names.{segments}
use Rattle.fts_store.specs.declared.folder.FolderStore.{FolderStore}

-- how often it failed
abbrev pub folder_faults : {F Handle : Type 0} → FolderStore F Handle → ℕ
folder_faults store = store.faults

-- it is for deletions
abbrev pub is_deleting : {F Handle : Type 0} → FolderStore F Handle → Bool
is_deleting store = store.deleting

-- a name of one thing in a folder: not empty, neither "." nor ".."
abbrev pub is_name : List ℕ → Bool
is_name text = not (bytes_eq text []) && not (bytes_eq text (codes ".")) && not (bytes_eq text (codes ".."))

-- a place whose file lies below the store's folder: the endpoint is one name once each slash is a comma, and so is each segment of the path
abbrev pub stays_inside : Place → Bool
stays_inside place = is_name place.endpoint && list_all is_name (segments place.path)

-- a path in the folder that is kept for parts, where no file of a job lies
abbrev pub is_among_parts : List ℕ → Bool
is_among_parts path = starts_with nat_eq path (codes ".fts/")
