-- An empty bench is over what a start leaves.
use Rattle.std.proofs.Common.{sym, subst}
use Rattle.fts_workers.specs.Benches.{KeepsOne}
use Rattle.fts_keep.specs.Started.{restarted}
use Rattle.fts_workers_trial.proofs.rounds.bed.Bed.new.Goals as goal

pub returns : goal.returns
returns c =
    let opening = c.in-Ok-start.ensures.ok.0 in
    let starts = c.in-Ok-start.ensures.ok.1 in
    record {
      order = (
        restarted opening 0 _,
        c.benches_stay_over_lists.ensures.started c.in-Ok-start.keep c.in_ok-bench.bench opening 0 _ starts.legal starts.folded starts.counted
            c.in_ok-bench.ensures.held,
      );
      kept = subst KeepsOne (sym c.in_ok-bench.ensures.held) tt;
    }
