-- The number at the first place.
use Rattle.std.proofs.Common.{sym, ◌∙◌, arith}
use Rattle.fts_record.specs.Laws.{AreBytes}
use Rattle.fts_record.specs.Fields.{number_of, is_u64}
use Rattle.fts_record.specs.Spelling.{number_bytes}
use Rattle.fts_record.proofs.Found.{number_found}
use Rattle.fts_delete.proofs.Fronts.{found_is}
use Rattle.fts_delete.proofs.reading.number_of.Goals as goal

pub returns : goal.returns
returns c =
    let are : AreBytes c.args.bytes.now = λ i. omega (arith, c.type_inv.bytes i) in
    found_is number_of number_bytes is_u64 number_found c.args.bytes.now c.in_ok-number.number c.in_ok-number.at are
    (sym c.read_number.ensures ∙ c.in_ok-number.was)
