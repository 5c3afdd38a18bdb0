-- A refusal of a method names some, and no other response does.
use Rattle.std.proofs.lemmas.Bool.{ne_eqb}
use Rattle.fts_wire.proofs.AnswerHeads.{sees_named, sees_unnamed}
use Rattle.fts_wire.proofs.answer_look.look_for_lines.Goals as goal

pub returns-then-status-eq-METHOD_NOT_ALLOWED : goal.returns-then-status-eq-METHOD_NOT_ALLOWED
returns-then-status-eq-METHOD_NOT_ALLOWED c =
    sees_named c.args.bytes.now c.args.status c.args.body c.look_for_named.result c.if-status-eq-METHOD_NOT_ALLOWED.true c.requires.length c.look_for_named.ensures

pub returns-else-status-eq-METHOD_NOT_ALLOWED : goal.returns-else-status-eq-METHOD_NOT_ALLOWED
returns-else-status-eq-METHOD_NOT_ALLOWED c =
    sees_unnamed c.args.bytes.now c.args.status c.args.body c.look_for_either.result (ne_eqb c.args.status 405 c.if-status-eq-METHOD_NOT_ALLOWED.false) c.requires.length
    c.look_for_either.ensures
