-- The labels and the count of a link, by its own names.
use Rattle.std.proofs.Common.{◌++◌, ◌∙◌, List, ℕ, ap, codes}
use Rattle.std.specs.Prelude.{map}
use Rattle.fts_tables.specs.Limits.{held}
use Rattle.fts_metrics.specs.Form.{sample}
use Rattle.fts_metrics.specs.Metrics.{link_labels}
use Rattle.fts_metrics.proofs.slots.put_active.Goals as goal

pub returns : goal.returns
returns c =
    let text = c.args.text.now.items in
    let name = codes "fts_link_active" in
    let link = c.args.link.now in
    c.in_ok-put_sample.ensures
    ∙ ap (λ (l : List ℕ). text ++ sample name l c.active-count.result)
    (c.deref.ensures.value ∙ c.in_ok-labels.ensures ∙ (λ i. link_labels (c.as_str-source.ensures.text i) (c.as_str-dest.ensures.text i)))
    ∙ ap (λ (n : ℕ). text ++ sample name (link_labels link.source link.dest) n)
    (c.active-count.ensures ∙ (λ i. held (map (λ row. row.now) c.args.rows.now) (c.as_str-source.ensures.text i) (c.as_str-dest.ensures.text i)))
