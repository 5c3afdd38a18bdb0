-- That what stands beside the rows is told in propositions, as a ghost field has to be.
use Rattle.std.specs.Prelude.{◌≡◌, ℕ, ◌+◌, List, [], ◌∷◌}
use Rattle.std.specs.List.{AllByRecursion-prop}
use Rattle.std.proofs.Props as std_props
use mathlib.Core.Bool.{Bool-set}
use mathlib.Core.HLevel.{×_prop, Unit-prop}
use Rattle.fts_tables.specs.Tables.{AreFirstsFrom}
use Rattle.fts_tables.specs.declared.rows.JobRow.{JobRow}
use Rattle.fts_tables.specs.Dues.{Due, AreInOrder}

-- the order of moments
pub in_order-prop : (dues : List Due) → IsProp (AreInOrder dues)
in_order-prop [] = Unit-prop
in_order-prop (due ∷ dues) = ×_prop (AllByRecursion-prop _ (λ later. Bool-set _ _) dues) (in_order-prop dues)

-- the first row of a job
first-prop : (first next : ℕ) → IsProp (first ≡ next)
first-prop first next = Prim.hlevel std_props.props

-- the first rows of jobs
pub firsts-prop : (next : ℕ) (jobs : List JobRow) → IsProp (AreFirstsFrom next jobs)
firsts-prop next [] = Unit-prop
firsts-prop next (job ∷ jobs) = ×_prop (first-prop job.first next) (firsts-prop (next + job.count) jobs)

-- with these, the set for a ghost field
pub ruleset beside_props = (std_props.props, in_order-prop, firsts-prop)
