-- What the client knows where it heard just the responses that its tries read.
use Rattle.std.proofs.Common.{◌≡◌, ℕ, Bool, List, [], ◌∷◌, map, Some, None, refl, ap, ◌∙◌}
use Rattle.fts_wire.specs.RequestData.{RequestData}
use Rattle.fts_wire.specs.NextAnswers.{answer_of}
use Rattle.fts_wire.specs.declared.response.Reply.{Reply}
use Rattle.fts_client.specs.Worlds.{World, Event, told_all, world_after, replies_heard}
use Rattle.fts_client.specs.Tries.{Try, answers_of}
use Rattle.fts_client.specs.Ends.{says_to_submission, IsSubmitEnd}
use Rattle.fts_client.specs.declared.ends.SubmitEnd.TheVariants.{Done}
use Rattle.fts_client.proofs.HeardRuns.{knows}
use Rattle.fts_client.proofs.HeardTries.{tries_tell}
use Rattle.fts_client_laws.specs.Submitting.{submitting}

-- what replies say is what their answers say
answers_say : (replies : List Reply) → map submitting.heard replies ≡ map says_to_submission (map answer_of replies)
answers_say [] = refl
answers_say (reply ∷ replies) = ap (λ rest. says_to_submission (answer_of reply) ∷ rest) (answers_say replies)

-- a run in which the client heard what tries read that ended with a job
pub run_tells : (world : World RequestData Reply) (events : List Event) (most : ℕ) (tries : List Try) (job : ℕ) (again : Bool) → world.client.done ≡ None
    → map answer_of (replies_heard submitting world events) ≡ answers_of tries
    → IsSubmitEnd most tries (Done job again)
    → (world_after submitting world events).client.done ≡ Some job
run_tells world events most tries job again untold same ends =
    knows submitting events world
    ∙ (ap (λ done. told_all done (map submitting.heard (replies_heard submitting world events))) untold
    ∙ (ap (told_all None) (answers_say (replies_heard submitting world events) ∙ ap (map says_to_submission) same)
    ∙ tries_tell tries job again ends.0))
