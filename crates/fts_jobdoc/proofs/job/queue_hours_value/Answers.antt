-- Hours that aren't bad are a small number. (Its key is too long for the search.)
use Rattle.std.proofs.Common.{ap, ◌∙◌, codes, arith}
use Rattle.serde_json.specs.View.{view}
use Rattle.fts_jobdoc.specs.Json.{param, natural_or}
use Rattle.fts_jobdoc.specs.Fields.{has_bad_queue_time, queue_hours_of}
use Rattle.fts_jobdoc.proofs.FieldRules.{few_read}
use Rattle.fts_jobdoc.proofs.job.queue_hours_value.Goals as goal

pub overflow_cast-result : goal.overflow_cast-result
unfolding has_bad_queue_time
overflow_cast-result c =
    let found = param (codes "max_time_in_queue") (view c.args.document.now) in
    omega (arith, few_read 8760 found c.natural_or.result (c.natural_or.ensures ∙ ap (natural_or 0) c.param.ensures) c.requires)

pub returns : goal.returns
unfolding queue_hours_of
returns c = c.natural_or.ensures ∙ ap (natural_or 0) c.param.ensures
