-- These labels, a comma and one more.
use Rattle.std.proofs.Common.{◌++◌, ◌∙◌, List, ℕ, ap, codes}
use Rattle.fts_metrics.specs.Form.{label, two_labels}
use Rattle.fts_metrics.proofs.lines.labels_with.Goals as goal

pub returns : goal.returns
unfolding two_labels
returns c =
    let labels = c.args.labels.now in
    c.in_ok-put_label.ensures
    ∙ ap (λ (l : List ℕ). l ++ label c.args.name.now c.args.value.now) (c.in_ok-put_comma.ensures
    ∙ ap (λ (l : List ℕ). l ++ codes ",") (c.in_ok-extend_from_slice.ensures.items ∙ ap (λ (l : List ℕ). l ++ labels) c.new-more.ensures.items))
