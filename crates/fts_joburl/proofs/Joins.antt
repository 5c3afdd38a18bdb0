-- Texts joined by a byte, in two spellings.
use Rattle.std.proofs.Common.{◌≡◌, ℕ, List, [], ◌∷◌, ◌++◌, refl, ap, map, append-nil}
use Rattle.std.specs.List.{join_by, join_with_byte}

-- pieces that are read by a function and joined are the read pieces joined
pub joined_by_byte : {X : Type 0} (read : X → List ℕ) (byte : ℕ) (pieces : List X) → join_by read (byte ∷ []) pieces ≡ join_with_byte byte (map read pieces)
joined_by_byte read byte [] = refl
joined_by_byte read byte (piece ∷ []) = append-nil (read piece)
joined_by_byte read byte (piece ∷ next ∷ pieces) = ap (λ rest. read piece ++ byte ∷ rest) (joined_by_byte read byte (next ∷ pieces))
