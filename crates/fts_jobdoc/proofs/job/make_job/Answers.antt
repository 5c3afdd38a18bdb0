-- The job is the one of the document, whose rules keep those of its type.
use Rattle.std.proofs.Common.{◌≡◌, ◌≤◌, length, refl, ap, sym, ◌∙◌, arith}
use Rattle.std.proofs.lemmas.List.{length-map}
use Rattle.serde_json.specs.View.{view}
use Rattle.fts_jobdoc.specs.Json.{files_of}
use Rattle.fts_jobdoc.specs.Documents.{new_job}
use Rattle.fts_jobdoc.proofs.Chain.{all_keep, lawful}
use Rattle.fts_jobdoc.proofs.FieldRules.{within_end}
use Rattle.fts_jobdoc.proofs.KindRules.{few_files}
use Rattle.fts_jobdoc.proofs.job.make_job.Goals as goal

pub make_files-requires-clause-count : goal.make_files-requires-clause-count
make_files-requires-clause-count c =
    let document = view c.args.document.now in
    let kept = all_keep document c.args.settings.now c.requires.kept in
    let few : length (files_of document) ≤ 200 = within_end 1 200 _ (few_files (length (files_of document)) kept.some kept.few) in
    let same : length c.args.files.now ≡ length (files_of document) = sym (length-map c.args.files.now view) ∙ ap length c.requires.files in
    omega arith

pub priority_value-requires : goal.priority_value-requires
priority_value-requires c = (all_keep (view c.args.document.now) c.args.settings.now c.requires.kept).priority

pub retry_value-requires : goal.retry_value-requires
retry_value-requires c = (all_keep (view c.args.document.now) c.args.settings.now c.requires.kept).retry

pub queue_hours_value-requires : goal.queue_hours_value-requires
queue_hours_value-requires c = (all_keep (view c.args.document.now) c.args.settings.now c.requires.kept).queue_time

pub invariant_of-result : goal.invariant_of-result
unfolding new_job
invariant_of-result c =
    rw (
      c.job_id.ensures,
      c.kind_of.ensures,
      c.strategy_of.ensures,
      c.priority_value.ensures,
      c.retry_value.ensures,
      c.read_delay.ensures,
      c.is_set.ensures,
      c.queue_hours_value.ensures,
      c.in_ok-made.ensures,
      c.is_verified.ensures,
      c.requires.files,
    )
    (lawful (view c.args.document.now) c.args.settings.now c.requires.kept)

pub returns : goal.returns
unfolding new_job
returns c =
    rw (
      c.job_id.ensures,
      c.kind_of.ensures,
      c.strategy_of.ensures,
      c.priority_value.ensures,
      c.retry_value.ensures,
      c.read_delay.ensures,
      c.is_set.ensures,
      c.queue_hours_value.ensures,
      c.in_ok-made.ensures,
      c.is_verified.ensures,
      c.requires.files,
    ) refl
