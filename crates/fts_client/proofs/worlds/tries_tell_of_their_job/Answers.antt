-- By the last try, which names the job.
use Rattle.fts_client.proofs.HeardTries.{tries_tell}
use Rattle.fts_client.proofs.worlds.tries_tell_of_their_job.Goals as goal

pub returns : goal.returns
returns c = λ most tries job again ends. tries_tell tries job again ends.0
