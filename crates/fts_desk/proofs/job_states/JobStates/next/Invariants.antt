-- What was found is the first place of a job in one of the states so far.
use Rattle.std.proofs.Common.{◌≡◌, drop}
use Rattle.std.specs.List.{position_from}
use Rattle.fts_desk.specs.declared.job_states.Progress.{Progress}
use Rattle.fts_desk.proofs.JobPlaces.{is_asked_before}
use Rattle.fts_desk.proofs.job_states.JobStates.next.Given as goal

abbrev pub invariant-loop-at : goal.invariant-loop-at
invariant-loop-at l = l.found ≡ position_from (λ (job : Progress). is_asked_before l.asked l.at job) l.from (drop l.from l.self.jobs)
