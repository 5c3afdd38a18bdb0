-- A priority that isn't bad is a small number.
use Rattle.std.proofs.Common.{◌≡◌, ◌≤◌, refl, ap, ◌∙◌, codes, arith}
use Rattle.serde_json.specs.View.{view}
use Rattle.fts_tables.specs.SettingsData.{is_within}
use Rattle.fts_jobdoc.specs.Json.{param, natural_or}
use Rattle.fts_jobdoc.specs.Fields.{has_bad_priority}
use Rattle.fts_jobdoc.proofs.FieldRules.{within_or, within_end}
use Rattle.fts_jobdoc.proofs.job.priority_value.Goals as goal

pub overflow_cast-result : goal.overflow_cast-result
unfolding has_bad_priority
overflow_cast-result c =
    let found = param (codes "priority") (view c.args.document.now) in
    let read : c.natural_or.result ≡ natural_or 3 found = c.natural_or.ensures ∙ ap (natural_or 3) c.param.ensures in
    let few : c.natural_or.result ≤ 5 = within_end 1 5 c.natural_or.result (ap (is_within 1 5) read ∙ within_or 1 5 3 found c.requires refl) in
    omega arith
