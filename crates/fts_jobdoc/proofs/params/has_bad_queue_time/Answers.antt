-- What is found under the key, or not. (The key is too long for the search.)
use Rattle.std.proofs.Common.{ap, ◌∙◌}
use Rattle.std.specs.Prelude.{not}
use Rattle.fts_jobdoc.specs.Json.{is_from_minus_one, fails}
use Rattle.fts_jobdoc.specs.Fields.{has_bad_queue_time}
use Rattle.fts_jobdoc.proofs.params.has_bad_queue_time.Goals as goal

pub returns-in-Some : goal.returns-in-Some
unfolding has_bad_queue_time
returns-in-Some c = ap not c.is_from_minus_one.ensures ∙ ap (fails (is_from_minus_one 8760)) c.in-Some.ensures

pub returns-in-None : goal.returns-in-None
unfolding has_bad_queue_time
returns-in-None c = ap (fails (is_from_minus_one 8760)) c.in-None.ensures
