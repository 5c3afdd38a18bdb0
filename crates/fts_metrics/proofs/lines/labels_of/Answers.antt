-- Two labels, and the comma between them.
use Rattle.std.proofs.Common.{◌++◌, ◌∙◌, List, ℕ, ap, codes}
use Rattle.fts_metrics.specs.Form.{label, two_labels}
use Rattle.fts_metrics.proofs.lines.labels_of.Goals as goal

pub returns : goal.returns
unfolding two_labels
returns c =
    let first = label c.args.name.now c.args.value.now in
    let second = label c.args.other.now c.args.second.now in
    c.in_ok-put_label-2.ensures
    ∙ ap (λ (l : List ℕ). l ++ second) (c.in_ok-put_comma.ensures
    ∙ ap (λ (l : List ℕ). l ++ codes ",") (c.in_ok-put_label.ensures ∙ ap (λ (l : List ℕ). l ++ first) c.new-labels.ensures.items))
