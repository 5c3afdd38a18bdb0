-- What reading one piece does to the bytes at hand, and to those that a source has left.
use Rattle.std.specs.Prelude.{◌≡◌, ℕ, ◌<◌, ◌≤◌, List, ◌++◌, length, Option, IfSome}
use Rattle.fts_wire.specs.Outside.{IsTakenOf}
use Rattle.fts_wire.specs.declared.buffer.TheConstants.{PIECE_BYTES}

-- a piece of n bytes, which the source gave, stands behind the bytes that were there: at least a byte where there is one
pub record AddsPiece (before after : Option (List ℕ)) (old new : List ℕ) (n : ℕ) : Type 0 where
  pub piece : List ℕ
  pub appended : new ≡ old ++ piece
  pub count : length piece ≡ n
  pub small : n ≤ PIECE_BYTES
  pub given : IsTakenOf before after piece
  pub some : IfSome before (λ left. 0 < length left → 0 < n)
