-- What a watch counts, and what a copy asks of it.
use Rattle.std.specs.Prelude.{◌≡◌, ℕ, ◌+◌, ◌*◌, ◌≤◌, min, Bool, Option, option_map, Result, Ok, Err, OnOk, List, [], ◌∷◌, ◌++◌}
use Rattle.std.specs.Int.{div_ceil}
use Rattle.fts_tables.specs.declared.rows.Outcome.{Outcome}
use Rattle.fts_tables.specs.declared.rows.Outcome.TheVariants.{Verified, SourceMissing, DestinationExists, SourceSize, SourceDigest, ReadBackDiffers, StoreFailed, Stopped}
use Rattle.fts_tables.specs.Counts.{Rose}
use Rattle.fts_copy.specs.declared.pieces.TheConstants.{PIECE_BYTES}

-- the number of pieces of a file
abbrev pub pieces : ℕ → ℕ
pieces size = div_ceil size PIECE_BYTES

-- a count after one asking; at the end of its type it stays
abbrev pub asked_once : ℕ → ℕ
asked_once count = min (count + 1) 18446744073709551615

-- the answers that were told, and this one behind them; a watch that tells none tells none
abbrev pub with_answer : Option (List Bool) → Bool → Option (List Bool)
with_answer answers answer = option_map (λ list. list ++ answer ∷ []) answers

-- the askings rose by at least this many, or stand at the end of their type
abbrev pub IsAsked : ℕ → ℕ → ℕ → Type 0
IsAsked times old new = min (old + times) 18446744073709551615 ≤ new

-- a watch is asked before each piece that is written and each that is read back, and before the file is put in its place
abbrev pub VerifiedAsks : Outcome → ℕ → ℕ → Type 0
VerifiedAsks (Verified size digest) old new = IsAsked (2 * pieces size + 1) old new
VerifiedAsks SourceMissing old new = Unit {0}
VerifiedAsks DestinationExists old new = Unit {0}
VerifiedAsks (SourceSize seen) old new = Unit {0}
VerifiedAsks (SourceDigest seen) old new = Unit {0}
VerifiedAsks (ReadBackDiffers at) old new = Unit {0}
VerifiedAsks StoreFailed old new = Unit {0}
VerifiedAsks Stopped old new = Unit {0}

-- the noes rose where a copy was stopped, and are as before where it ended otherwise
abbrev pub NoesBy : Outcome → ℕ → ℕ → Type 0
NoesBy (Verified size digest) old new = new ≡ old
NoesBy SourceMissing old new = new ≡ old
NoesBy DestinationExists old new = new ≡ old
NoesBy (SourceSize seen) old new = new ≡ old
NoesBy (SourceDigest seen) old new = new ≡ old
NoesBy (ReadBackDiffers at) old new = new ≡ old
NoesBy StoreFailed old new = new ≡ old
NoesBy Stopped old new = Rose old new

-- the same of a step of a copy
abbrev pub NoesAfter : {T : Type 0} → Result T Outcome → ℕ → ℕ → Type 0
NoesAfter (Ok value) old new = new ≡ old
NoesAfter (Err outcome) old new = NoesBy outcome old new

-- what became of a watch in a step that asks it this many times
pub record Watched {W T : Type 0} (noes askings : W → ℕ) (later : W → W → Type 0) (times : ℕ) (old new : W) (result : Result T Outcome) : Type 0 where
  pub onward : later old new
  pub no_fewer : noes old ≤ noes new
  pub cause : NoesAfter result (noes old) (noes new)
  pub asked : OnOk result (IsAsked times (askings old) (askings new))

-- what became of a store's count in a step
pub record Counted {T : Type 0} (old new : ℕ) (result : Result T Outcome) : Type 0 where
  pub no_fewer : old ≤ new
  pub cause : result ≡ Err StoreFailed → Rose old new
