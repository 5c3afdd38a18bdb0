use Rattle.std.proofs.Common.{◌≡◌, ◌-◌, ◌++◌, length, map, string_bytes}
use denote.Text.{Utf8}
use denote.Shadow.{shadow}
use Rattle.fts_store.specs.Paths.{folders_above}
use Rattle.fts_store.proofs.inside.folders_of.Given as goal

-- the folders so far, and those above the last of them
abbrev pub invariant-folders : goal.invariant-folders
invariant-folders l = (map string_bytes l.folders.items ++ folders_above (length l.path - l.i) l.below ≡ folders_above (length l.path) l.path) × shadow (Utf8 l.below)
