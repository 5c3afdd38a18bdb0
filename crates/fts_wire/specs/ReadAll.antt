-- What reading a source to its end gives, and what is left of the source then, where it tells that.
use Rattle.std.specs.Prelude.{◌≡◌, ℕ, ◌+◌, ◌<◌, ◌≤◌, List, [], ◌++◌, length, drop, Option, Some, None}
use Rattle.fts_wire.specs.declared.whole_input.ReadAllFault.{ReadAllFault}
use Rattle.fts_wire.specs.declared.whole_input.ReadAllFault.TheVariants.{TooLong, SourceFailed, Memory}

-- the bytes are all that were left, and no more than the limit; nothing is left
abbrev pub IsAll : ℕ → Option (List ℕ) → Option (List ℕ) → List ℕ → Type 0
IsAll limit None after bytes = (after ≡ None) × (length bytes ≤ limit)
IsAll limit (Some left) None bytes = ⊥
IsAll limit (Some left) (Some rest) bytes = (bytes ≡ left) × ((rest ≡ []) × (length bytes ≤ limit))

-- some bytes were taken, no more than the limit, and the rest is left
pub record IsPartTaken (limit : ℕ) (left rest : List ℕ) : Type 0 where
  pub taken : List ℕ
  pub parts : left ≡ taken ++ rest
  pub few : length taken ≤ limit

-- More bytes were left than the limit, of which one more than the limit was taken, to know it.
-- Where a read failed or memory ran out, the bytes taken and those that are left make those that were left before.
abbrev pub IsRefused : ℕ → Option (List ℕ) → Option (List ℕ) → ReadAllFault → Type 0
IsRefused limit None after fault = after ≡ None
IsRefused limit (Some left) None fault = ⊥
IsRefused limit (Some left) (Some rest) TooLong = (limit < length left) × (rest ≡ drop (limit + 1) left)
IsRefused limit (Some left) (Some rest) SourceFailed = IsPartTaken limit left rest
IsRefused limit (Some left) (Some rest) Memory = IsPartTaken limit left rest
