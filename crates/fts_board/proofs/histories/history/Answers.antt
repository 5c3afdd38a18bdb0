-- The text is that of the steps that are asked for.
use Rattle.std.proofs.Common.{◌≡◌, ◌∙◌, List, ℕ, ap, subst}
use Rattle.std.specs.Prelude.{IfOk}
use Rattle.fts_board.specs.History.{question_of}
use Rattle.fts_board.specs.Json.{text_of}
use Rattle.fts_board.specs.Steps.{ended_from, steps_object}
use Rattle.fts_board.proofs.Plain.{history_plain, history_same}
use Rattle.fts_board.proofs.histories.history.Goals as goal

pub text_of-requires : goal.text_of-requires
text_of-requires c = rw c.in_ok-value.ensures (history_plain c.steps_of-steps.result c.deref.result.now)

pub returns : goal.returns
returns c =
    let rows = c.args.desk.now.tables.rows in
    let reports = c.args.reports.now in
    let steps = c.steps_of-steps.ensures in
    let ended = c.deref.ensures.value ∙ c.in_ok-ended.ensures ∙ (λ i. ended_from rows reports (question_of c.args.asked) (steps i).first (steps i).count) in
    subst (λ (l : List ℕ). IfOk c.text_of.result (λ text. text.items ≡ l))
    (ap text_of (c.in_ok-value.ensures ∙ (λ i. steps_object (steps i) (ended i)) ∙ history_same rows reports (question_of c.args.asked) c.args.now))
    c.text_of.ensures
