-- A run's status is that of its end, and a write that failed had its count risen in the command. Where nothing is in the way it comes to its end.
use Rattle.std.proofs.Common.{◌∙◌, sym, rules}
use Rattle.fts_top.proofs.Completing.{completes_over}
use Rattle.fts_top.proofs.top.run_alone.Goals as goal

pub returns-clause-output : goal.returns-clause-output
returns-clause-output g c = λ e. c.do_command-done.ensures.output (sym c.status.ensures ∙ e)

pub returns-clause-words : goal.returns-clause-words
returns-clause-words g c = search rules

pub returns-clause-run : goal.returns-clause-run
returns-clause-run g c = search rules

pub returns-clause-settings : goal.returns-clause-settings
returns-clause-settings g c = search rules

pub returns-clause-input : goal.returns-clause-input
returns-clause-input g c = search rules

pub returns-clause-disk : goal.returns-clause-disk
returns-clause-disk g c = search rules

pub returns-clause-deletes : goal.returns-clause-deletes
returns-clause-deletes g c = search rules

pub returns-clause-complete : goal.returns-clause-complete
returns-clause-complete g c =
    let run = returns-clause-run g c in (
      run.0,
      (
        run.1.0,
        completes_over g.D.Disk g.E.Store g.L.Line.Source g.L.Line.Sink _ _ (λ hand. hand.store) (λ hand. g.W.Words.words hand.words)
            _ _ _ _ _ _ _ run.0 _ _ _ _ _ _ _ _ _ _ _ _ run.1.1.0 (λ e. (returns-clause-words g c).0 (run.1.0 ∙ e)) (λ e. returns-clause-settings g c (run.1.0 ∙ e))
            (λ e. returns-clause-input g c (run.1.0 ∙ e)) (λ e. returns-clause-output g c (run.1.0 ∙ e)) (λ other e. returns-clause-disk g c other (run.1.0 ∙ e)),
      ),
    )
