-- A link has a row where some are counted.
use Rattle.std.proofs.Common.{◌≡◌, ◌++◌, ◌∙◌, List, [], ℕ, Bool, true, false, ap, sym, subst, cond, append-nil}
use Rattle.std.specs.Prelude.{not, ◌==◌, count_by, OnOk}
use Rattle.fts_tables.specs.Limits.{is_on_link}
use Rattle.fts_tables.specs.declared.rows.FileRow.{FileRow}
use Rattle.fts_metrics.specs.Metrics.{link_where}
use Rattle.fts_metrics.specs.Totals.{samples_of}
use Rattle.fts_metrics.proofs.LinkTotals.{any_counted}
use Rattle.fts_metrics.proofs.copies.put_link.Goals as goal

-- what their number says
told : (samples : List ℕ → List ℕ → List ℕ) (rows : List FileRow) (source dest text : List ℕ) (number : ℕ) (answer : Bool)
    → number ≡ count_by (is_on_link source dest) rows → answer ≡ not (number == 0)
    → text ++ link_where samples rows source dest ≡ text ++ cond answer (samples source dest) []
unfolding link_where
told samples rows source dest text number answer counted is =
    ap (λ answer. text ++ cond answer (samples source dest) [])
    (any_counted (is_on_link source dest) rows ∙ ap (λ (number : ℕ). not (number == 0)) (sym counted) ∙ sym is)

pub returns-in_ok-labels : goal.returns-in_ok-labels
returns-in_ok-labels c = λ tables reports stands.
    subst (λ (l : List ℕ). OnOk c.put_samples.result (c.put_samples.new.text.items ≡ l))
    (sym (told (samples_of c.args.metric tables reports) tables.rows c.args.source.now c.args.dest.now c.args.text.now.items _ true stands.rows
    (sym c.if-has_rows.true ∙ c.has_rows.ensures)))
    (c.put_samples.ensures tables reports c.args.source.now c.args.dest.now (c.deref.ensures.value ∙ c.in_ok-labels.ensures) stands)

pub returns-else-has_rows : goal.returns-else-has_rows
returns-else-has_rows c = λ tables reports stands.
    let text = c.args.text.now.items in
    sym (told (samples_of c.args.metric tables reports) tables.rows c.args.source.now c.args.dest.now text _ false stands.rows
    (sym c.if-has_rows.false ∙ c.has_rows.ensures) ∙ append-nil text)
