-- A link has a row where it has a state.
use Rattle.std.proofs.Common.{◌≡◌, ◌++◌, ◌∙◌, List, [], ℕ, Bool, true, false, ap, sym, subst, cond, append-nil, length}
use Rattle.std.specs.Prelude.{not, ◌==◌, OnOk}
use Rattle.fts_tables.specs.declared.rows.FileRow.{FileRow}
use Rattle.fts_tables.specs.declared.rows.FileState.{FileState}
use Rattle.fts_metrics.specs.Goings.{states_on}
use Rattle.fts_metrics.specs.Metrics.{files_where, files_on}
use Rattle.fts_metrics.proofs.Places.{any_on}
use Rattle.fts_metrics.proofs.files.put_files_where.Goals as goal

-- what the length of the states says
told : (states : List FileState) (source dest : List ℕ) (rows : List FileRow) (text : List ℕ) (empty : Bool) → states ≡ states_on source dest rows
    → empty ≡ (length states == 0) → text ++ files_where rows source dest ≡ text ++ cond (not empty) (files_on rows source dest) []
unfolding files_where
told states source dest rows text empty are is =
    ap (λ answer. text ++ cond answer (files_on rows source dest) []) (any_on source dest rows ∙ ap not (ap (λ (states : List FileState). length states == 0) (sym are) ∙ sym is))

pub returns-then-is_empty : goal.returns-then-is_empty
returns-then-is_empty c = λ rows are.
    let text = c.args.text.now.items in
    sym (told c.args.states.now c.args.source.now c.args.dest.now rows text true are (sym c.if-is_empty.true ∙ c.is_empty.ensures) ∙ append-nil text)

pub returns-in_ok-labels : goal.returns-in_ok-labels
returns-in_ok-labels c = λ rows are.
    subst (λ (l : List ℕ). OnOk c.put_files_on.result (c.put_files_on.new.text.items ≡ l))
    (sym (told c.args.states.now c.args.source.now c.args.dest.now rows c.args.text.now.items false are (sym c.if-is_empty.false ∙ c.is_empty.ensures)))
    (c.put_files_on.ensures rows c.args.source.now c.args.dest.now (c.deref.ensures.value ∙ c.in_ok-labels.ensures) are)
