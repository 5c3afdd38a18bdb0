-- The ids of jobs where a priority changes.
use Rattle.std.proofs.Common.{◌≡◌, ℕ, Bool, true, false, List, [], ◌∷◌, map, refl, ap, ◌∙◌}
use Rattle.std.specs.Prelude.{◌==◌, if◌then◌else◌}
use Rattle.fts_tables.specs.Step.{with_priority}
use Rattle.fts_tables.specs.declared.rows.JobRow.{JobRow}
use Rattle.fts_desk.specs.Standing.{prioritized}

-- a job keeps its id
id_prioritized : (priority : ℕ) (job : JobRow) (answer : Bool) → (if answer then with_priority priority job else job).id ≡ job.id
id_prioritized priority job true = refl
id_prioritized priority job false = refl

-- so the ids stay
pub ids-prioritized : (number priority : ℕ) (jobs : List JobRow)
    → map (λ (job : JobRow). job.id) (map (prioritized number priority) jobs) ≡ map (λ (job : JobRow). job.id) jobs
ids-prioritized number priority [] = refl
ids-prioritized number priority (job ∷ jobs) =
    ap (λ id. id ∷ map (λ (other : JobRow). other.id) (map (prioritized number priority) jobs)) (id_prioritized priority job (job.number == number))
    ∙ ap (λ ids. job.id ∷ ids) (ids-prioritized number priority jobs)
