-- Both samples.
use Rattle.std.proofs.Common.{◌≡◌, ◌++◌, ◌∙◌, List, ℕ, ap, codes}
use Rattle.fts_metrics.specs.Form.{sample}
use Rattle.fts_metrics.specs.Metrics.{both_directions, endpoint_labels}
use Rattle.fts_metrics.proofs.Texts.{goes_on}
use Rattle.fts_metrics.proofs.slots.put_both.Goals as goal

-- a sample by its labels
sampled : (old new name labels same : List ℕ) (number : ℕ) → new ≡ old ++ sample name labels number → labels ≡ same → new ≡ old ++ sample name same number
sampled old new name labels same number is labelled = is ∙ ap (λ (l : List ℕ). old ++ sample name l number) labelled

pub returns : goal.returns
unfolding both_directions
returns c =
    let name = c.args.name.now in
    (goes_on (c.args.text.now.items) (c.put_sample.new.text.items) (c.put_sample-2.new.text.items) (sample name (endpoint_labels c.args.endpoint.now (codes "inbound")) c.args.inbound) (sample name (endpoint_labels c.args.endpoint.now (codes "outbound")) c.args.outbound)
    (sampled c.args.text.now.items c.put_sample.new.text.items name c.deref.result.now (endpoint_labels c.args.endpoint.now (codes "inbound")) c.args.inbound c.in_ok-put_sample.ensures (c.deref.ensures.value ∙ c.in_ok-labels.ensures))
    (sampled c.put_sample.new.text.items c.put_sample-2.new.text.items name c.deref-2.result.now (endpoint_labels c.args.endpoint.now (codes "outbound")) c.args.outbound c.in_ok-put_sample-2.ensures (c.deref-2.ensures.value ∙ c.in_ok-labels-2.ensures)))
