-- Each clause of the law.
use Rattle.std.proofs.Common.{[]}
use Rattle.fts_laws.proofs.Steps.{step_adds}
use Rattle.fts_laws.proofs.AttemptLists.{few_attempts, legal_adds, list_adds}
use Rattle.fts_laws.proofs.attempts.claims_raise_attempts.Goals as goal

pub returns-clause-steps : goal.returns-clause-steps
returns-clause-steps c = λ tables command formed accepted. step_adds tables c.picked_rows_stand.ensures.place formed command accepted

pub returns-clause-standing : goal.returns-clause-standing
returns-clause-standing c = λ tables entries stands legal.
    list_adds c.picked_rows_stand.ensures.place c.steps_keep_standing.ensures.standing tables entries stands legal

pub returns-clause-lists : goal.returns-clause-lists
returns-clause-lists c = λ entries more legal.
    legal_adds c.picked_rows_stand.ensures.place c.steps_keep_standing.ensures.standing
    (record { formed = c.tables_are_well_formed.ensures.formed [] tt; limits = c.limits_hold.ensures.limits [] tt }) entries more legal

pub returns-clause-few : goal.returns-clause-few
returns-clause-few c = λ entries legal.
    few_attempts c.picked_rows_stand.ensures.place c.steps_keep_standing.ensures.standing
    (record { formed = c.tables_are_well_formed.ensures.formed [] tt; limits = c.limits_hold.ensures.limits [] tt }) entries legal
