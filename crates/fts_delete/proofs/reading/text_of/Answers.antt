-- The text at the first place.
use Rattle.std.proofs.Common.{sym, ◌∙◌, arith}
use Rattle.fts_record.specs.Laws.{AreBytes}
use Rattle.fts_record.specs.Fields.{text_of}
use Rattle.fts_record.specs.Spelling.{text_bytes}
use Rattle.fts_record.proofs.Found.{text_found}
use Rattle.fts_delete.proofs.Fronts.{found_is}
use Rattle.fts_delete.proofs.reading.text_of.Goals as goal

pub returns-in-Some : goal.returns-in-Some
returns-in-Some c =
    let are : AreBytes c.args.bytes.now = λ i. omega (arith, c.type_inv.bytes i) in
    found_is text_of text_bytes _ text_found c.args.bytes.now c.in-Some.text c.in-Some.at are (sym c.in_ok-text.ensures ∙ c.in-Some.is)
