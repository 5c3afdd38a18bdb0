-- What was filled in is what was read.
use Rattle.std.proofs.Common.{ℕ, List, Ok, drop, ap, sym, ◌∙◌, subst, arith}
use Rattle.std.proofs.lemmas.List.{drop-take}
use Rattle.fts_wire.specs.NextAnswers.{ReadsAnswer}
use Rattle.fts_wire.proofs.AnswerHeads.{stands_few}
use Rattle.fts_wire.proofs.AnswerPieces.{reads_whole}
use Rattle.fts_wire.proofs.answers.AnswerRoom.load.Goals as goal

pub overflow_add-head : goal.overflow_add-head
overflow_add-head g c = omega (arith, stands_few c.fill.new.buffer c.in-Ok.head c.in-Ok.ensures.look.0)

pub returns-in-Ok-clause-answer : goal.returns-in-Ok-clause-answer
returns-in-Ok-clause-answer g c =
    let before = g.S.Source.left c.args.source.now in
    let after = g.S.Source.left c.fill.new.source in
    let old = g.S.Source.reads c.args.source.now in
    let new = g.S.Source.reads c.fill.new.source in
    let bytes = c.fill.new.buffer in
    let head = c.in-Ok.head in
    subst (λ (body : List ℕ). ReadsAnswer before after old new (Ok (record { status = head.status; body = body })))
    (sym (ap (drop head.size) c.keep-in-Ok.ensures ∙ drop-take head.size head.body bytes))
    (reads_whole before after bytes old new (g.S.Source.faults c.args.source.now) (g.S.Source.faults c.fill.new.source) head c.in-Ok.ensures.takes c.in-Ok.ensures.look)
