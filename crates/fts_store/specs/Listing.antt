-- Which names are found in a folder, and the paths of what has them.
use Rattle.std.specs.Prelude.{◌≡◌, ◌⊎◌, ℕ, ◌==◌, Option, Result, Ok, Err, List, [], ◌++◌, filter, map, codes, Vec, String, string_bytes}
use Rattle.std.specs.List.{slice_split}
use Rattle.std.specs.Str.{is_utf8}
use Rattle.std.specs.declared.alloc.Global.{Global}
use Rattle.fts_files.specs.Calls.{Call, Answer, Done, Opened, Saw, Gave, Counted, Failed, Names, with_call}
use Rattle.fts_files.specs.Script.{Script, Does}

-- the path of what has a name in a folder
abbrev pub below_in : List ℕ → List ℕ → List ℕ
below_in folder name = (folder ++ codes "/") ++ name

-- the names in a list in which a zero stands behind each; what is no text is none
abbrev pub names_in : List ℕ → List (List ℕ)
names_in listed = filter is_utf8 (slice_split (λ byte. byte == 0) listed)

-- those that a reading gave; one that was refused gave none
abbrev pub names_told : Answer → List (List ℕ)
names_told (Gave listed) = names_in listed
names_told _ = []

-- the names in a folder are read
abbrev pub lists : List ℕ → (List (List ℕ) → Script) → Script
lists folder next = Does (Names folder) (λ answer. next (names_told answer))

-- the names in the root are read; a link at its end is followed
abbrev pub lists_root : List ℕ → (List (List ℕ) → Script) → Script
lists_root root next = lists (root ++ codes "/") next

-- the names in a folder were read, by one call and no other; or memory was missing, behind that call or before anything was asked
abbrev pub AreListed : {E : Type 0} → List ℕ → Result (Vec (String Global) Global) E → Option (List Call) → Option (List Call) → Type 0
AreListed folder (Ok names) old new = (answer : Answer) × (new ≡ with_call old (Names folder) answer) × (map string_bytes names.items ≡ names_told answer)
AreListed folder (Err memory) old new = (new ≡ old) ⊎ ((answer : Answer) × (new ≡ with_call old (Names folder) answer))
