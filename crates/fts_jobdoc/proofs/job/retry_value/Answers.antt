-- Retries that aren't bad are a small number.
use Rattle.std.proofs.Common.{ap, ◌∙◌, codes, arith}
use Rattle.serde_json.specs.View.{view}
use Rattle.fts_jobdoc.specs.Json.{param, natural_or}
use Rattle.fts_jobdoc.specs.Fields.{has_bad_retry}
use Rattle.fts_jobdoc.proofs.FieldRules.{few_read}
use Rattle.fts_jobdoc.proofs.job.retry_value.Goals as goal

pub overflow_cast-result : goal.overflow_cast-result
unfolding has_bad_retry
overflow_cast-result c =
    let found = param (codes "retry") (view c.args.document.now) in
    omega (arith, few_read 10 found c.natural_or.result (c.natural_or.ensures ∙ ap (natural_or 0) c.param.ensures) c.requires)
