-- The buffer holds the UUID's text.
use Rattle.std.proofs.Common.{ap, ◌∙◌}
use Rattle.uuid.specs.Text.{hyphenated_text, lower}
use Rattle.fts_log.specs.EventLines.{id_text}
use Rattle.fts_log.proofs.lines.id_text.Goals as goal

pub returns : goal.returns
unfolding id_text
returns c = record { text = c.encode_lower.ensures.text ∙ ap (hyphenated_text lower) (c.hyphenated.ensures ∙ c.from_u128.ensures) }
