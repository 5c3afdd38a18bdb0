-- A request is answered in one turn of the pass.
use Rattle.std.proofs.Common.{rules}
use Rattle.fts_service.specs.Within.{AnswersIn}
use Rattle.fts_service.proofs.Answering.{answered_in_turn}
use Rattle.fts_service.proofs.connection.answer_in_turn.Goals as goal

pub returns : goal.returns
returns g c =
    let t = c.with_turn.ensures.took in let d = t.did in let m = d.met in
    let answers : AnswersIn g.D.Disk c.args.pass.now.number c.args.room.now.request c.args.now t.before t.after
    c.with_turn.result = search rules in
    record {
      answered = answered_in_turn g.D.Disk _ c.args.pass.now c.with_turn.new.pass c.with_turn.ensures.same t
          c.args.room.now.request c.args.now c.with_turn.result answers;
      phrase = answers.phrase;
      methods = answers.methods;
    }
