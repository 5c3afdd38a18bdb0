-- The jobs counted are those that stand so.
use Rattle.std.proofs.Common.{List, ap, ◌∙◌}
use Rattle.std.specs.Prelude.{count_by}
use Rattle.fts_desk.specs.Counted.{progress_of}
use Rattle.fts_desk.specs.JobLists.{rank, is_at}
use Rattle.fts_desk.specs.declared.job_states.Progress.{Progress}
use Rattle.fts_desk.proofs.JobsFound.{counted_map}
use Rattle.fts_desk.proofs.answers.count_in_state.Goals as goal

pub returns : goal.returns
returns c =
    let kept = c.args.kept.now in
    record {
      count = c.count.ensures.count
          ∙ (ap (λ (all : List Progress). count_by (is_at (rank c.args.state)) all) kept.beside_rows.counts.states.stand
          ∙ counted_map (progress_of kept.rows.items) (is_at (rank c.args.state)) kept.jobs.items);
    }
