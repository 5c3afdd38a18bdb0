-- The bytes passed are CR or LF, and the next one is neither.
use Rattle.std.proofs.Common.{arith, sym}
use Rattle.std.proofs.lemmas.Bool.{or_from, ne_eqb}
use Rattle.std.specs.Prelude.{◌==◌, slice_index}
use Rattle.std.proofs.lemmas.List.Sums.{prefix_len_is}
use Rattle.httparse.specs.Pieces.{is_newline}
use Rattle.fts_wire.proofs.lines.count_blanks.Goals as goal

pub returns-then-b-ne10-clause-count : goal.returns-then-b-ne10-clause-count
returns-then-b-ne10-clause-count c =
    let bytes = c.args.bytes.now in
    let b = slice_index bytes c.loop-i.i in
    sym (prefix_len_is is_newline bytes c.loop-i.i 0 (omega arith) c.loop-i.invariant
    (λ _. or_from (b == 13) (b == 10) (ne_eqb b 13 c.if-b-ne13.true) (ne_eqb b 10 c.if-b-ne10.true)))

pub returns-clause-count : goal.returns-clause-count
returns-clause-count c =
    let bytes = c.args.bytes.now in
    sym (prefix_len_is is_newline bytes _ 0 (omega arith) (λ k h. c.loop-i.invariant k (omega arith)) (λ h. absurd (omega arith)))
