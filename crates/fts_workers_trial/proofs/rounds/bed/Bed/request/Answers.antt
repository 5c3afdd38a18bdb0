-- The bench is over the list with the command.
use Rattle.std.proofs.Common.{[], ◌∷◌, ◌++◌}
use Rattle.fts_keep.specs.Applied.{entry_by}
use Rattle.fts_workers_trial.proofs.rounds.bed.Bed.request.Goals as goal

pub returns-in-Ok : goal.returns-in-Ok
returns-in-Ok c =
    let entry = entry_by 0 c.args.command in
    let order = c.requires.ready.order in
    record {
      order = (
        order.0 ++ entry ∷ [],
        c.benches_stay_over_lists.ensures.accepted c.args.self.now.keep c.apply.new.self c.args.self.now.bench entry c.in-Ok.field-0 order.0
            c.requires.request c.in-Ok.ensures.applied order.1,
      );
      kept = c.requires.ready.kept;
    }
