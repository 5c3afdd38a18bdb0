-- The words that all these proofs use: what a seat of a lock has, and that a seat has a view.
use Rattle.std.proofs.Common.{◌≡◌, ℕ, Option}
use mathlib.Core.Option.{some}
use lib.ListN.{get_elem?}
use Rattle.atomic_table.specs.Table.{State, Me}
use Rattle.fts_turnstile.specs.declared.view.View.{View}

-- what a seat has of a lock over a `T` with items of `I`: its view, and the slot while it holds that
abbrev pub Seat : Type 0 → Type 0 → Type 0
Seat T I = Me (Option T) (View I)

-- the seat has this view
abbrev pub at : {T I : Type 0} → State (Option T) (View I) → ℕ → View I → Type 0
at s id view = get_elem? s.views id ≡ some view
