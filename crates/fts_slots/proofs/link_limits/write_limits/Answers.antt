use Rattle.std.proofs.Common.{◌≡◌, ◌<◌, ◌-◌, ◌+◌, ◌∙◌, ◌∷◌, suc, sym, ap, subst, drop, length, arith}
use Rattle.std.proofs.Math.Seq.{drop-cons}
use Rattle.std.proofs.Math.ListN.{get_or}
use Rattle.fts_slots.specs.LinkLimits.{AreLimits}
use Rattle.fts_slots.proofs.link_limits.write_limits.Goals as goal

pub loop-behind-preserved : goal.loop-behind-preserved
loop-behind-preserved c =
    let links = c.args.settings.now.links in
    let rules : c.as_slice-rules.result.now ≡ links = cc in
    let endpoints : c.as_slice-endpoints.result.now ≡ c.args.settings.now.endpoints = cc in
    let rule = c.index-rules-rules.result in
    let behind : c.loop-behind.behind < length links = omega (arith, c.loop-behind-test.true, ap length rules) in
    let inside : length links - (c.loop-behind.behind + 1) < length links = omega (arith, behind) in
    let place : length links - 1 - c.loop-behind.behind ≡ length links - (c.loop-behind.behind + 1) = omega arith in
    let next : suc (length links - (c.loop-behind.behind + 1)) ≡ length links - c.loop-behind.behind = omega (arith, behind) in
    let found : get_or links (length links - (c.loop-behind.behind + 1)) rule ≡ rule =
    ap (λ at. get_or links at rule) (sym place) ∙ (ap (λ at. get_or at (length at - 1 - c.loop-behind.behind) rule) (sym rules) ∙ sym c.index-rules-rules.is) in
    let head : drop (length links - (c.loop-behind.behind + 1)) links ≡ rule ∷ drop (length links - c.loop-behind.behind) links =
    drop-cons links (length links - (c.loop-behind.behind + 1)) rule inside
    ∙ (ap (λ head. head ∷ drop (suc (length links - (c.loop-behind.behind + 1))) links) found ∙ ap (λ from. rule ∷ drop from links) next) in
    record {
      limits = subst (λ rules. AreLimits (record c.args.settings.now { links = rules }) c.write_limit.new.limits) (sym head)
          (c.write_limit.ensures.limits (record c.args.settings.now { links = drop (length links - c.loop-behind.behind) links }) (sym endpoints) c.loop-behind.invariant.limits);
    }
