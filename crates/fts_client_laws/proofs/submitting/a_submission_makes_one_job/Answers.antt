-- The replies of the service are what the theorem of worlds asks for.
use Rattle.std.proofs.Common.{◌≡◌, sym, subst}
use Rattle.fts_tables.specs.History.{tables_of}
use Rattle.fts_jobdoc.specs.Ids.{sid_id}
use Rattle.fts_laws.specs.Submissions.{submissions, jobs_with}
use Rattle.fts_client.specs.Worlds.{ActsOnce, world_after}
use Rattle.fts_client.proofs.KeptWorlds.{events_act_once, reached_acts_once, events_keep, start_keeps}
use Rattle.fts_client_laws.specs.Submitting.{submitting, submission_of}
use Rattle.fts_client_laws.proofs.Answering.{answers_hold}
use Rattle.fts_client_laws.proofs.OwnIds.{sid_not_standard}
use Rattle.fts_client_laws.proofs.submitting.a_submission_makes_one_job.Goals as goal

pub returns-clause-events : goal.returns-clause-events
returns-clause-events c = λ document sid vo id start events begins.
    subst (λ other. ActsOnce other (world_after submitting start events)) (sym begins.named)
    (events_act_once c.submissions_add_up.ensures.sum c.one_submission_an_id.ensures.one submitting vo (submission_of document) (sid_id vo sid)
    (answers_hold c.tables_are_well_formed.ensures.formed document sid vo begins.accepted) start events begins.start)

pub returns-clause-reached : goal.returns-clause-reached
returns-clause-reached c = λ document sid vo id start world begins reached.
    subst (λ other. ActsOnce other world) (sym begins.named)
    (reached_acts_once c.submissions_add_up.ensures.sum c.one_submission_an_id.ensures.one submitting vo (submission_of document) (sid_id vo sid)
    (answers_hold c.tables_are_well_formed.ensures.formed document sid vo begins.accepted) start world begins.start reached)

pub returns-clause-list : goal.returns-clause-list
returns-clause-list c = λ document sid vo id start events begins.
    let add_up = c.submissions_add_up.ensures.sum in
    let one = c.one_submission_an_id.ensures.one in
    let answers = answers_hold c.tables_are_well_formed.ensures.formed document sid vo begins.accepted in
    let keeps = events_keep add_up one submitting vo (submission_of document) (sid_id vo sid) answers events start
    (start_keeps add_up one submitting vo (submission_of document) (sid_id vo sid) answers start begins.start) in (
      keeps.legal,
      keeps.name,
      subst (λ other. jobs_with other (tables_of (world_after submitting start events).entries).jobs ≡ submissions other (world_after submitting start events).entries)
          (sym begins.named)
          (c.jobs_are_those_submitted.ensures.jobs (world_after submitting start events).entries (sid_id vo sid) keeps.legal (sid_not_standard vo sid)),
    )
