-- What the parts of a turn do.
use Rattle.std.specs.Prelude.{ℕ, ◌<◌}
use Rattle.fts_tables.specs.declared.commands.Entry.{Entry}
use Rattle.fts_tables.specs.declared.rows.Outcome.{Outcome}
use Rattle.fts_tables.specs.declared.rows.Outcome.TheVariants.{Verified, SourceMissing, DestinationExists, SourceSize, SourceDigest, ReadBackDiffers, StoreFailed, Stopped}
use Rattle.fts_copy.specs.Copy.{Order}
use Rattle.fts_copy.specs.Watch.{NoesBy, VerifiedAsks}
use Rattle.fts_turnstile.specs.Passes.{PassView}
use Rattle.fts_workers.specs.Copies.{IsCopied}
use Rattle.fts_shop.specs.Looking.{IsWatched}
use Rattle.fts_store.specs.declared.store.Store as store

-- an order was copied, and its part removed where that wasn't verified, with a watch that had been asked nothing before, and was asked so often, and
-- said no so often
pub record CopiesOrder {E : Type 0} (stores : store.Ghosts E) (old new : PassView Entry) (store after : E)
    (file : ℕ) (order : Order) (outcome : Outcome) : Type 0 where
  pub made : IsCopied (stores.state store) (stores.state after) (stores.calls store) (stores.calls after) (stores.faults store) (stores.faults after) (record { order = order; outcome = outcome })
  pub askings : ℕ
  pub noes : ℕ
  pub watched : IsWatched file old new 0 askings 0 noes
  pub stopped : NoesBy outcome 0 noes
  pub asked : VerifiedAsks outcome 0 askings

-- the size of a verified copy is one of 64 bits
abbrev pub HasSize : Outcome → Type 0
HasSize (Verified size digest) = size < 18446744073709551616
HasSize SourceMissing = Unit {0}
HasSize DestinationExists = Unit {0}
HasSize (SourceSize seen) = Unit {0}
HasSize (SourceDigest seen) = Unit {0}
HasSize (ReadBackDiffers at) = Unit {0}
HasSize StoreFailed = Unit {0}
HasSize Stopped = Unit {0}
