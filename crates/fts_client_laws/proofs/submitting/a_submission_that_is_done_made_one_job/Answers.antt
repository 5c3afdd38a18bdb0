-- What the client was told is what its tries tell.
use Rattle.std.proofs.Common.{◌≡◌, ℕ, IfSome, subst}
use Rattle.fts_laws.specs.Submissions.{submissions}
use Rattle.fts_client.specs.Worlds.{world_after}
use Rattle.fts_client_laws.specs.Submitting.{submitting}
use Rattle.fts_client_laws.proofs.HeardReplies.{run_tells}
use Rattle.fts_client_laws.proofs.submitting.a_submission_that_is_done_made_one_job.Goals as goal

pub returns : goal.returns
returns c = λ document sid vo id start events most tries job again begins same ends.
    subst (λ done. IfSome done (λ (known : ℕ). (known ≡ id) × (submissions id (world_after submitting start events).entries ≡ 1)))
    (run_tells start events most tries job again begins.start.untold same ends)
    (c.a_submission_makes_one_job.ensures.events document sid vo id start events begins).done
