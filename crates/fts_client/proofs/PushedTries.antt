-- One try behind others.
use Rattle.std.proofs.Common.{ℕ, List, [], ◌∷◌, ◌++◌, refl, subst}
use Rattle.std.specs.List.{AllByRecursion}
use Rattle.fts_wire.specs.Outside.{Side}
use Rattle.fts_client.specs.Links.{LinkData}
use Rattle.fts_client.specs.Tries.{Try, IsTried, AreTried}

-- what is told of the tries is told with one more
pub tried-push : {L : Type 0} (read written : Side L) (port : ℕ) (request : List ℕ) (old between new : LinkData L) (faults_old faults faults_new : ℕ) (tries : List Try) (try : Try)
    → AreTried read written port request old between faults_old faults tries → IsTried read written port request between new faults faults_new try
    → AreTried read written port request old new faults_old faults_new (tries ++ try ∷ [])
tried-push read written port request old between new faults_old faults faults_new [] try so_far more = (
  new,
  faults_new,
  subst (λ link. IsTried read written port request link new faults_old faults_new try) so_far.0
      (subst (λ count. IsTried read written port request between new count faults_new try) so_far.1 more),
  (refl, refl),
)
tried-push read written port request old between new faults_old faults faults_new (first ∷ tries) try so_far more =
    (so_far.0, so_far.1, so_far.2, tried-push read written port request so_far.0 between new so_far.1 faults faults_new tries try so_far.3 more)

-- and what holds of each
pub all-push : (Holds : Try → Type 0) (tries : List Try) (try : Try) → AllByRecursion Holds tries → Holds try → AllByRecursion Holds (tries ++ try ∷ [])
all-push Holds [] try all is = (is, tt)
all-push Holds (first ∷ tries) try all is = (all.0, all-push Holds tries try all.1 is)
