-- What was read, put before what is read of the rest.
use Rattle.std.proofs.Common.{◌≡◌, Err, ap, sym, ◌∙◌, inl, rules, map, List}
use Rattle.std.proofs.lemmas.List.{drop_all}
use Rattle.serde_json.specs.View.{view}
use Rattle.serde_json.specs.declared.value.Value.{Value}
use Rattle.fts_jobdoc.specs.Ends.{all_ends_read}
use Rattle.fts_jobdoc.proofs.EndsLemmas.{extend, all_ends_read-step, all_ends_read-refused, all_ends_read-end}
use Rattle.fts_jobdoc.proofs.Left.{data_left}
use Rattle.fts_jobdoc.proofs.ends.read_all_ends.Goals as goal

pub returns-in_err-ends : goal.returns-in_err-ends
returns-in_err-ends c =
    let is : c.from_residual.result ≡ Err c.in_err-ends.field-0.0 = search rules in
    let left = data_left c.args.files.now c.loop-file.file-index c.file-item.result c.loop-file-test.true c.file-item.is in
    rw is (all_ends_read-refused c.loop-file.all (view c.file-item.result) _ c.in_err-ends.field-0.0 _ c.in_err-ends.ensures
    (sym (ap (λ values. extend c.loop-file.all (all_ends_read values)) left) ∙ c.loop-file.invariant))

pub loop-file-preserved : goal.loop-file-preserved
loop-file-preserved c =
    let left = data_left c.args.files.now c.loop-file.file-index c.file-item.result c.loop-file-test.true c.file-item.is in
    rw c.in_ok-add.ensures.ok (all_ends_read-step c.loop-file.all (view c.file-item.result) _ c.in_ok-ends.ends _ c.in_ok-ends.ensures
    (sym (ap (λ values. extend c.loop-file.all (all_ends_read values)) left) ∙ c.loop-file.invariant))

pub returns : goal.returns
returns c =
    let nothing = drop_all c.loop-file.file-index c.args.files.now c.loop-file-test.false in
    inl (all_ends_read-end c.loop-file.all _
    (sym (ap (λ (values : List Value). extend c.loop-file.all (all_ends_read (map view values))) nothing) ∙ c.loop-file.invariant))
