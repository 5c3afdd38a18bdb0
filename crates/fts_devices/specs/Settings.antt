-- The file of a folder's settings.
use Rattle.std.specs.Prelude.{ℕ, List, Option, Some, None}

-- the bytes that a file has left, where it was opened and tells them
abbrev pub left_of : {F : Type 0} → (F → Option (List ℕ)) → Option F → Option (List ℕ)
left_of remaining None = None
left_of remaining (Some file) = remaining file
