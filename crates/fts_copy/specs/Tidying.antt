-- What is done with the part behind a copy: one that ended otherwise than verified may leave it, and it is removed by one call.
use Rattle.std.specs.Prelude.{◌≡◌, ℕ, ◌≤◌, Bool, true, false, Option, None, Result, OnOk, List}
use Rattle.fts_tables.specs.Counts.{CountsFaults}
use Rattle.fts_tables.specs.declared.rows.Outcome.{Outcome}
use Rattle.fts_tables.specs.declared.rows.Outcome.TheVariants.{Verified, SourceMissing, DestinationExists, SourceSize, SourceDigest, ReadBackDiffers, StoreFailed, Stopped}
use Rattle.fts_store.specs.Calls.{Call, Removed, answer_of, with_call}
use Rattle.fts_store.specs.Store.{StoreState, IsTold, Stays, SameBut}
use Rattle.fts_store.specs.declared.store.StoreFailed.{StoreFailed as Failure}
use Rattle.fts_copy.specs.Copy.{Order, part_of}

-- whether a copy that ended so may leave its part; a verified one has made it the destination
abbrev pub leaves_part : Outcome → Bool
leaves_part (Verified size digest) = false
leaves_part _ = true

-- One call was made, which removes the part of an order, and it answered so. No other file changed, and where it didn't fail the part is gone.
pub record RemovesPart (order : Order) (old new : StoreState) (calls called : Option (List Call)) (faults later : ℕ) : Type 0 where
  pub answer : Result (Unit {0}) Failure
  pub call : called ≡ with_call calls (Removed (part_of order) (answer_of answer))
  pub gone : IsTold old → OnOk answer (new.files (part_of order) ≡ None)
  pub others : IsTold old → SameBut (part_of order) old.files new.files
  pub cause : CountsFaults faults later answer

-- no call was made
pub record MakesNoCall (old new : StoreState) (calls called : Option (List Call)) (faults later : ℕ) : Type 0 where
  pub same : new ≡ old
  pub none : called ≡ calls
  pub counts : later ≡ faults

-- behind a copy that ended so its part was removed, where it may have left it, and else no call was made
pub record IsTidied (order : Order) (outcome : Outcome) (old new : StoreState) (calls called : Option (List Call)) (faults later : ℕ) : Type 0 where
  pub stays : Stays old new
  pub counts : faults ≤ later
  pub removed : leaves_part outcome ≡ true → RemovesPart order old new calls called faults later
  pub untouched : leaves_part outcome ≡ false → MakesNoCall old new calls called faults later
