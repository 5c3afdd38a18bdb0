-- The buffer holds the UUID's text.
use Rattle.std.proofs.Common.{ℕ, List, ◌≤◌, length, ap, sym, ◌∙◌, subst, arith}
use Rattle.uuid.specs.Text.{by_index, hyphenated_text, lower}
use Rattle.fts_client.specs.RequestBytes.{id_text}
use Rattle.fts_client.proofs.requests.id_text.Goals as goal

pub returns-clause-text : goal.returns-clause-text
unfolding id_text
returns-clause-text c = c.encode_lower.ensures.text ∙ ap (hyphenated_text lower) (c.hyphenated.ensures ∙ c.from_u128.ensures)

pub returns-clause-short : goal.returns-clause-short
unfolding by_index
returns-clause-short c = subst (λ (text : List ℕ). length text ≤ 40) (sym c.encode_lower.ensures.text) (omega arith)
