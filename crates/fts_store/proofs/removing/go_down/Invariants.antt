use Rattle.std.proofs.Common.{◌-◌, ℕ, Bool, List, map, string_bytes, take}
use denote.Text.{Utf8}
use denote.Shadow.{shadow}
use Rattle.fts_files.specs.Script.{Script, LeadsTo}
use Rattle.fts_store.specs.Removing.{goes_down}
use Rattle.fts_store.proofs.removing.go_down.Given as goal

-- so many of them are there
abbrev pub invariant-folders : goal.invariant-folders
invariant-folders g l = ((next : List ℕ → Bool → Script) → LeadsTo (goes_down l.top (map string_bytes l.folders) next) (g.F.FileSystem.calls l.initial.files)
    (goes_down l.reached (take (l.count - l.i) (map string_bytes l.folders)) next) (g.F.FileSystem.calls l.files)) × shadow (Utf8 l.reached)
