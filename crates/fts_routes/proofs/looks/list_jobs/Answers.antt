-- No job has a float.
use Rattle.std.proofs.Common.{refl}
use Rattle.std.specs.Prelude.{option_map}
use Rattle.std.specs.Cow.{cow_str_bytes}
use Rattle.fts_routes.specs.Objects.{job_object}
use Rattle.fts_routes.specs.Queries.{jobs_asked}
use Rattle.fts_routes.specs.Found.{states_asked}
use Rattle.fts_routes.proofs.Listed.{array-no_float}
use Rattle.fts_routes.proofs.looks.list_jobs.Goals as goal

pub shows-requires : goal.shows-requires
shows-requires c = rw c.in_ok-value.ensures (array-no_float (job_object c.args.desk.now.tables) (λ _. refl)
    (jobs_asked c.args.desk.now.tables (states_asked (option_map cow_str_bytes c.args.states.now)) c.args.limit))
