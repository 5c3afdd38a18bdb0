-- The paths of a store in a folder: an endpoint's own folder, a file's path, and the folders that it lies in.
use Rattle.std.specs.Prelude.{ℕ, zero, suc, ◌==◌, if◌then◌else◌, Option, Some, None, List, [], ◌∷◌, ◌++◌, map, length, codes}
use Rattle.std.specs.Path.{path_parent}
use Rattle.fts_tables.specs.declared.places.Place.{Place}

-- a slash becomes a comma, and any other byte stays
abbrev pub comma_for : ℕ → ℕ
comma_for byte = if byte == 47 then 44 else byte

-- an endpoint's own folder, below the root
abbrev pub endpoint_in : List ℕ → List ℕ → List ℕ
endpoint_in root endpoint = (root ++ codes "/") ++ map comma_for endpoint

-- a file's path
abbrev pub path_in : List ℕ → Place → List ℕ
path_in root place = (endpoint_in root place.endpoint ++ codes "/") ++ place.path

-- a folder, and what is said to lie above it; where the path names none it is "."
abbrev pub from_folder : (List ℕ → List (List ℕ)) → Option (List ℕ) → List (List ℕ)
from_folder above None = []
from_folder above (Some []) = codes "." ∷ []
from_folder above (Some (byte ∷ bytes)) = (byte ∷ bytes) ∷ above (byte ∷ bytes)

-- the folders that something lies in, from the lowest up, so many at most
unfoldable pub folders_above : ℕ → List ℕ → List (List ℕ)
folders_above zero path = []
folders_above (suc times) path = from_folder (λ folder. folders_above times folder) (path_parent path)

-- all of them: a path names fewer folders than it has bytes
abbrev pub folders_of : List ℕ → List (List ℕ)
folders_of path = folders_above (length path) path
