-- Less than the body.
use Rattle.std.proofs.Common.{arith}
use Rattle.fts_wire.proofs.AnswerHeads.{short_of_body, stands_within}
use Rattle.fts_wire.proofs.answer_look.look_at_answer.Goals as goal

pub returns-else-head-bytes : goal.returns-else-head-bytes
returns-else-head-bytes c =
    short_of_body c.args.bytes.now c.in-Found.head c.in-Found.ensures
    (omega (arith, c.if-head-bytes.false, stands_within c.args.bytes.now c.in-Found.head c.in-Found.ensures))
