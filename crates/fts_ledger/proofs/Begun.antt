-- Before a pass has added anything, an empty bench fits it.
use Rattle.std.proofs.Common.{ℕ, List, [], ◌∷◌}
use Rattle.fts_tables.specs.declared.commands.Entry.{Entry}
use Rattle.fts_turnstile.specs.History.{items_of}
use Rattle.fts_turnstile.specs.Passes.{PassView}
use Rattle.fts_shop.specs.Looking.{NoneOf}
use Rattle.fts_ledger.specs.Fitting.{FitsPass}
use Rattle.fts_ledger.specs.Reports.{AddsAsked}
use Rattle.fts_ledger.proofs.Asked.{asked_unclaimed}

-- what others added is no claim of a writer's
none_asked : (writer : ℕ) (entries : List Entry) → NoneOf writer entries → AddsAsked writer entries
none_asked writer [] none = tt
none_asked writer (entry ∷ entries) none = ((λ is. absurd (none.0 is)), none_asked writer entries none.1)

pub fits_none : (pass : PassView Entry) → NoneOf pass.number (items_of pass.seen) → FitsPass pass []
fits_none pass none = record {
  ready = tt;
  each = tt;
  whole = λ file out own.
      absurd (asked_unclaimed pass.number file pass.opening (items_of pass.seen) (none_asked pass.number (items_of pass.seen) none) own);
}
