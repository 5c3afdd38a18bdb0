-- A row that is picked may be claimed, so it waits, and may run.
use Rattle.fts_desk.specs.Kept.{tables_kept}
use Rattle.fts_desk.proofs.ClaimedParts.{eligible_idle, eligible_may_run}
use Rattle.fts_desk.proofs.claims.picked_rows_may_run.Goals as goal

pub returns-clause-idle : goal.returns-clause-idle
returns-clause-idle c = λ now word row picked.
    eligible_idle (tables_kept c.args.kept.now) now row (c.picked_rows_are_eligible.ensures.eligible (tables_kept c.args.kept.now) now word row picked)

pub returns-clause-may : goal.returns-clause-may
returns-clause-may c = λ now word place row picked at.
    let kept = c.args.kept.now in
    let tables = tables_kept kept in
    eligible_may_run c.eligible_rows_may_run.ensures.may tables kept.beside.parts place now row c.requires.formed.rows kept.beside_rows.parts kept.of_settings
    c.settings_keep_their_rules.ensures.rules c.requires.room at (c.picked_rows_are_eligible.ensures.eligible tables now word row picked)
