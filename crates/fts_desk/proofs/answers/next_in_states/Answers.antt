-- The place that is found is that of the first job asked for.
use Rattle.std.proofs.Common.{List, drop, ap, ◌∙◌}
use Rattle.std.specs.Prelude.{slice_get, option_and_then}
use Rattle.std.specs.List.{position_from}
use Rattle.fts_tables.specs.declared.rows.JobRow.{JobRow}
use Rattle.fts_desk.specs.Counted.{progress_of}
use Rattle.fts_desk.specs.JobLists.{is_among}
use Rattle.fts_desk.specs.declared.job_states.Progress.{Progress}
use Rattle.fts_desk.proofs.JobsFound.{found_behind}
use Rattle.fts_desk.proofs.answers.next_in_states.Goals as goal

pub returns-in-Some : goal.returns-in-Some
returns-in-Some c =
    let kept = c.args.kept.now in
    let asked = c.args.asked.now in
    record {
      job = c.job_on_place.ensures.job
          ∙ (ap (λ (jobs : List JobRow). slice_get jobs c.in-Some.place) c.deref.ensures.value
          ∙ (ap (option_and_then (slice_get kept.jobs.items))
          (c.in-Some.ensures.place
          ∙ ap (λ (all : List Progress). position_from (λ (job : Progress). is_among asked job.state) c.args.behind (drop c.args.behind all))
          kept.beside_rows.counts.states.stand)
          ∙ found_behind (progress_of kept.rows.items) (λ (job : Progress). is_among asked job.state) kept.jobs.items c.args.behind));
    }

pub returns-in-None : goal.returns-in-None
returns-in-None c =
    let kept = c.args.kept.now in
    let asked = c.args.asked.now in
    record {
      job = ap (option_and_then (slice_get kept.jobs.items))
          (c.in-None.ensures.place
          ∙ ap (λ (all : List Progress). position_from (λ (job : Progress). is_among asked job.state) c.args.behind (drop c.args.behind all))
          kept.beside_rows.counts.states.stand)
          ∙ found_behind (progress_of kept.rows.items) (λ (job : Progress). is_among asked job.state) kept.jobs.items c.args.behind;
    }
