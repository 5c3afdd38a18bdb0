-- Names that are noted of a copy.
use Rattle.std.specs.Prelude.{◌≡◌, ◌≤◌, ℕ, List, length}
use Rattle.fts_tables.specs.declared.limits.TheConstants.{MAX_NAME_BYTES}

-- a name of at most so many bytes is noted as it is
abbrev pub IsNoted : List ℕ → List ℕ → Type 0
IsNoted name noted = length name ≤ MAX_NAME_BYTES → noted ≡ name
