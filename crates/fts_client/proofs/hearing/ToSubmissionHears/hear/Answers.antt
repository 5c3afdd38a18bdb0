-- A response that names its job, or none.
use Rattle.std.proofs.Common.{false, true, refl}
use Rattle.fts_client.specs.Hearing.{job_named_in}
use Rattle.fts_client.proofs.HeardEnds.{heard_named}
use Rattle.fts_client.proofs.hearing.ToSubmissionHears.hear.Goals as goal

pub returns-in-200 : goal.returns-in-200
returns-in-200 c = heard_named (record { status = c.args.status; body = c.args.body.now }) false (job_named_in c.args.body.now) c.named_end.result
    (rw c.in-200.is refl) c.named_end.ensures

pub returns-in-409 : goal.returns-in-409
returns-in-409 c = heard_named (record { status = c.args.status; body = c.args.body.now }) true (job_named_in c.args.body.now) c.named_end-in-409.result
    (rw c.in-409.is refl) c.named_end-in-409.ensures
