-- One head or the other.
use Rattle.std.proofs.Common.{sym, subst}
use Rattle.fts_wire.specs.AnswerLook.{SeesAnswer, IsNoneHeaded}
use Rattle.fts_wire.specs.declared.answer_look.AnswerLook.{AnswerLook}
use Rattle.fts_wire.proofs.AnswerHeads.{sees_closes}
use Rattle.fts_wire.proofs.answer_look.look_for_either.Goals as goal

pub returns : goal.returns
returns c =
    let bytes = c.args.bytes.now in
    subst (λ (look : AnswerLook). SeesAnswer bytes (IsNoneHeaded bytes c.args.status c.args.body c.args.allow) look) (sym c.or.ensures)
    (sees_closes bytes c.args.status c.args.body c.args.allow c.look_for_head-stays.result c.look_for_head-ends.result
    c.look_for_head-stays.ensures c.look_for_head-ends.ensures)
