-- Which calls a move that succeeded has made, with their answers, in order: no other, and none of them otherwise.
use Rattle.std.specs.Prelude.{◌≡◌, ◌⊎◌, ℕ, zero, suc, Bool, true, false, Option, Some, None, List, [], ◌∷◌, ◌++◌}
use Rattle.fts_files.specs.declared.files.Seen.{Seen}
use Rattle.fts_files.specs.declared.files.Way.{Way}
use Rattle.fts_files.specs.declared.files.Way.TheVariants.{Read}
use Rattle.fts_files.specs.Calls.{Call, Asked, Answer, Done, Opened, Saw, Failed, Open, LookAtName, LookAtOpen, SyncData, SyncAll, Link, Rename, Unlink, SetMode, Rest}
use Rattle.fts_files.specs.Errno.{are_too_many, is_missing, lacks_links}
use Rattle.fts_files.specs.Moving.{is_same_file, mode_seen}

-- a call and its answer
abbrev pub answered : Asked → Answer → Call
answered asked answer = record { asked = asked; answer = answer }

-- this call, answered so, and then these
abbrev pub Then : Asked → Answer → (List Call → Type 0) → List Call → Type 0
Then asked answer P told = (rest : List Call) × (told ≡ answered asked answer ∷ rest) × P rest

-- a file was opened, behind so many rests at most, each of which stands behind a refusal since too many files were open
unfoldable pub IsOpened : ℕ → List ℕ → Way → (ℕ → List Call → Type 0) → List Call → Type 0
IsOpened zero path way P told = (file : ℕ) × Then (Open path way) (Opened file) (P file) told
IsOpened (suc rests) path way P told =
    ((file : ℕ) × Then (Open path way) (Opened file) (P file) told)
    ⊎ ((errno : ℕ) × (are_too_many errno ≡ true) × Then (Open path way) (Failed errno) (Then Rest Done (IsOpened rests path way P)) told)

-- each of these folders was opened and synced, one after the other
abbrev pub AreSynced : List (List ℕ) → List Call → Type 0
AreSynced [] told = told ≡ []
AreSynced (folder ∷ folders) told = IsOpened 100 folder Read (λ file. Then (SyncAll file) Done (AreSynced folders)) told

-- a name was looked at, and is this file's
abbrev pub IsItsName : List ℕ → Seen → (List Call → Type 0) → List Call → Type 0
IsItsName path seen P told = (there : Seen) × Then (LookAtName path) (Saw there) (λ rest. (is_same_file there seen ≡ true) × P rest) told

-- in place of what had the name
abbrev pub IsReplaced : List ℕ → List ℕ → Seen → List (List ℕ) → List Call → Type 0
IsReplaced part dest seen folders = IsItsName part seen (Then (Rename part dest) Done (IsItsName dest seen (AreSynced folders)))

-- by a link, where nothing had the name
abbrev pub IsLinked : List ℕ → List ℕ → Seen → List (List ℕ) → List Call → Type 0
IsLinked part dest seen folders = Then (Link part dest) Done (IsItsName dest seen (Then (Unlink part) Done (AreSynced folders)))

-- where no second name could be given, and nothing had the name
abbrev pub IsUnlinked : List ℕ → List ℕ → Seen → List (List ℕ) → List Call → Type 0
IsUnlinked part dest seen folders told =
    (errno : ℕ) × (lacks_links errno ≡ true) × Then (Link part dest) (Failed errno)
    (λ rest. (missing : ℕ) × (is_missing missing ≡ true) × Then (LookAtName dest) (Failed missing) (IsReplaced part dest seen folders) rest) told

-- it got these rights, where there were some
abbrev pub HasMode : ℕ → (List Call → Type 0) → Option ℕ → List Call → Type 0
HasMode file P (Some mode) told = Then (SetMode file mode) Done P told
HasMode file P None told = P told

-- it got those of the plain file that has a name
abbrev pub HasItsMode : ℕ → List ℕ → (List Call → Type 0) → List Call → Type 0
HasItsMode file dest P told = (answer : Answer) × (found : Option ℕ) × (mode_seen answer ≡ Some found) × Then (LookAtName dest) answer (HasMode file P found) told

-- by leave to replace: the rights of a plain file that was there stay
abbrev pub IsPut : Bool → ℕ → List ℕ → List ℕ → Seen → List (List ℕ) → List Call → Type 0
IsPut true file part dest seen folders told = HasItsMode file dest (IsReplaced part dest seen folders) told
IsPut false file part dest seen folders told = IsLinked part dest seen folders told ⊎ IsUnlinked part dest seen folders told

-- the part's data were synced, the open part was looked at, and it was put there
abbrev pub IsMoved : ℕ → List ℕ → List ℕ → List (List ℕ) → Bool → List Call → Type 0
IsMoved file part dest folders overwrite =
    Then (SyncData file) Done (λ behind. (seen : Seen) × Then (LookAtOpen file) (Saw seen) (IsPut overwrite file part dest seen folders) behind)

-- the calls that were told grew by some of which this holds
abbrev pub GrewBy : (List Call → Type 0) → Option (List Call) → Option (List Call) → Type 0
GrewBy P old new = (before after : List Call) → old ≡ Some before → new ≡ Some after → (told : List Call) × (after ≡ before ++ told) × P told
