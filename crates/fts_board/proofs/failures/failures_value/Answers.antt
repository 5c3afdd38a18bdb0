-- The groups, one behind the other.
use Rattle.std.proofs.Common.{◌++◌, ◌∙◌, List, ap, codes, map}
use Rattle.serde_json.specs.Data.{Data, array}
use Rattle.serde_json.specs.View.{view, items_of}
use Rattle.serde_json.specs.declared.value.Value.{Value}
use Rattle.fts_board.specs.Snapshot.{failure_for}
use Rattle.fts_board.proofs.Lists.{seven}
use Rattle.fts_board.proofs.failures.failures_value.Goals as goal

pub returns : goal.returns
returns c =
    let group = failure_for c.args.desk.now.tables c.args.reports.now in
    let missing = c.in_ok-add_failure.ensures ∙ ap (λ (l : List Value). map view l ++ group (codes "source missing")) c.new-list.ensures.items in
    let exists = c.in_ok-add_failure-2.ensures ∙ ap (λ (l : List Data). l ++ group (codes "destination exists")) missing in
    let size = c.in_ok-add_failure-3.ensures ∙ ap (λ (l : List Data). l ++ group (codes "source size")) exists in
    let digest = c.in_ok-add_failure-4.ensures ∙ ap (λ (l : List Data). l ++ group (codes "source digest")) size in
    let differs = c.in_ok-add_failure-5.ensures ∙ ap (λ (l : List Data). l ++ group (codes "read back differs")) digest in
    let store = c.in_ok-add_failure-6.ensures ∙ ap (λ (l : List Data). l ++ group (codes "store failed")) differs in
    let stopped = c.in_ok-add_failure-7.ensures ∙ ap (λ (l : List Data). l ++ group (codes "stopped")) store in
    c.array_from.ensures ∙ ap (λ (l : List Data). array (items_of l))
    (stopped ∙ seven (group (codes "source missing")) (group (codes "destination exists")) (group (codes "source size")) (group (codes "source digest"))
    (group (codes "read back differs")) (group (codes "store failed")) (group (codes "stopped")))
