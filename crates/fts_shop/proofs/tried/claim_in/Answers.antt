-- A step leaves the shop as it then is, and a claimed file has its row.
use Rattle.std.proofs.Common.{rules, ◌≡◌, ◌∙◌, sym, subst}
use Rattle.fts_shop.specs.Shops.{ShopData, step_answer}
use Rattle.fts_shop.specs.Within.{HasOrder, StepsIn, order_claimed}
use Rattle.fts_shop.proofs.Claims.{order_of_step}
use Rattle.fts_shop.proofs.tried.claim_in.Goals as goal

pub returns-clause-steps : goal.returns-clause-steps
returns-clause-steps g c =
    let step = c.step_in-lanes.result.step in
    let before : c.match-answer_of.shop ≡ c.step_in-lanes.new.shop = search rules in
    let same : c.job_claimed-job.new.shop ≡ c.step_in-lanes.new.shop = c.job_claimed-job.ensures.same ∙ before in
    subst (λ (shop : ShopData g.row.D.Denot). StepsIn g.D.Disk c.args.writer c.args.now c.args.word c.args.shop.now shop step.expiry step.claim
    c.step_in-lanes.result.lanes) (sym same) c.step_in-lanes.ensures.steps

pub returns-clause-some : goal.returns-clause-some
returns-clause-some g c =
    let step = c.step_in-lanes.result.step in
    let answer = step_answer step.expiry step.claim in
    let is : c.match-answer_of.order ≡ order_claimed c.step_in-lanes.new.shop.keep.tables answer = search rules in
    subst (λ order. HasOrder answer order) (sym is)
    (order_of_step g.D.Disk c.args.shop.now.keep c.step_in-lanes.new.shop.keep c.args.writer c.args.now c.args.word step.expiry step.claim
    c.step_in-lanes.ensures.steps.stepped c.tables_are_well_formed.ensures.formed c.claimed_files_were_in.ensures.waited)
