-- A command is tried in one turn.
use Rattle.std.proofs.Common.{rules}
use Rattle.fts_shop.specs.Within.{TriesIn}
use Rattle.fts_shop.proofs.Took.{tried_of}
use Rattle.fts_shop.proofs.turns.try_command.Goals as goal

pub returns : goal.returns
returns g c =
    let t = c.with_turn.ensures.took in let d = t.did in let m = d.met in
    let tries : TriesIn g.D.Disk c.args.pass.now.number c.args.command t.before t.after c.with_turn.result.answer
    c.with_turn.result.lanes = search rules in
    tried_of g.D.Disk _ c.args.pass.now c.with_turn.new.pass c.with_turn.ensures.same t tries.disk c.args.command c.with_turn.result.answer
    c.with_turn.result.lanes tries
