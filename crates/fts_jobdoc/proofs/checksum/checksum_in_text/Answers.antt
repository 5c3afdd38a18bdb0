-- A text that is cut at its first colon, and one that has none.
use Rattle.std.proofs.Common.{refl, sym, ◌∙◌}
use Rattle.fts_jobdoc.proofs.ChecksumLemmas.{checksum_in-cut, checksum_in-whole}
use Rattle.fts_jobdoc.proofs.checksum.checksum_in_text.Goals as goal

pub returns-in-Some : goal.returns-in-Some
returns-in-Some c = c.checksum_by_parts.ensures
    ∙ sym (checksum_in-cut c.args.text.now _ c.in-Some.algorithm c.in-Some.digits (sym c.is_empty.ensures ∙ c.if-is_empty.false) refl c.in-Some.ensures.cases)

pub returns-in-None : goal.returns-in-None
returns-in-None c = sym (checksum_in-whole c.args.text.now (sym c.is_empty.ensures ∙ c.if-is_empty.false) c.in-None.ensures.cases)
