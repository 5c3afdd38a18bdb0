-- An expiry and a claim are tried in one turn, and the order that the claim brings is that of the list which the pass has then seen.
use Rattle.std.proofs.Common.{rules, ◌≡◌, ◌∙◌, ap}
use Rattle.fts_tables.specs.Tables.{Tables}
use Rattle.fts_shop.specs.Shops.{step_answer}
use Rattle.fts_shop.specs.Within.{StepsIn, job_claimed, order_claimed}
use Rattle.fts_shop.proofs.Took.{stepped_of, tables_left}
use Rattle.fts_shop.proofs.turns.try_claim.Goals as goal

pub returns-clause-tried : goal.returns-clause-tried
returns-clause-tried g c =
    let t = c.with_turn.ensures.took in let d = t.did in let m = d.met in
    let step = c.with_turn.result.step in
    let steps : StepsIn g.D.Disk c.args.pass.now.number c.args.now c.args.word t.before t.after step.expiry step.claim
    c.with_turn.result.lanes = search rules in
    stepped_of g.D.Disk _ c.args.pass.now c.with_turn.new.pass c.with_turn.ensures.same t steps.disk c.args.now c.args.word step.expiry step.claim
    c.with_turn.result.lanes steps

pub returns-clause-order : goal.returns-clause-order
returns-clause-order g c =
    let t = c.with_turn.ensures.took in let d = t.did in let m = d.met in
    let step = c.with_turn.result.step in
    let answer = step_answer step.expiry step.claim in
    let steps : StepsIn g.D.Disk c.args.pass.now.number c.args.now c.args.word t.before t.after step.expiry step.claim
    c.with_turn.result.lanes = search rules in
    let said : c.with_turn.result.order ≡ order_claimed t.after.keep.tables answer = search rules in
    said ∙ ap (λ (tables : Tables). order_claimed tables answer)
    (tables_left g.D.Disk _ c.args.pass.now c.with_turn.new.pass c.with_turn.ensures.same t steps.keeps)

pub returns-clause-job : goal.returns-clause-job
returns-clause-job g c =
    let t = c.with_turn.ensures.took in let d = t.did in let m = d.met in
    let step = c.with_turn.result.step in
    let answer = step_answer step.expiry step.claim in
    let steps : StepsIn g.D.Disk c.args.pass.now.number c.args.now c.args.word t.before t.after step.expiry step.claim
    c.with_turn.result.lanes = search rules in
    let said : c.with_turn.result.job ≡ job_claimed t.after.keep.tables answer = search rules in
    said ∙ ap (λ (tables : Tables). job_claimed tables answer)
    (tables_left g.D.Disk _ c.args.pass.now c.with_turn.new.pass c.with_turn.ensures.same t steps.keeps)
