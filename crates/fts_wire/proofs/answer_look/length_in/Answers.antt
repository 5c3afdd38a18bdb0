-- The digits are yet to come, or they stand behind the front.
use Rattle.std.proofs.Common.{ℕ, List, ◌+◌, length, ap, subst, arith}
use Rattle.std.proofs.lemmas.List.{take_rest}
use Rattle.fts_wire.specs.AnswerLook.{IsLeading}
use Rattle.fts_wire.proofs.AnswerHeads.{length_unseen, length_seen}
use Rattle.fts_wire.proofs.answer_look.length_in.Goals as goal

pub returns-then-bytes-before : goal.returns-then-bytes-before
returns-then-bytes-before c =
    length_unseen c.args.bytes.now c.args.status c.requires.phrase (omega (arith, c.if-bytes-before.true, ap length c.phrase.ensures.phrase))

pub returns : goal.returns
returns c =
    let bytes = c.args.bytes.now in
    let before = 63 + length c.phrase.result.now in
    length_seen bytes c.args.status before c.leading_number.result c.requires.phrase
    (ap (λ (n : ℕ). 63 + n) (ap length c.phrase.ensures.phrase)) (omega (arith, c.if-bytes-before.false))
    (subst (λ (list : List ℕ). IsLeading list c.leading_number.result) (take_rest bytes before) c.leading_number.ensures)
