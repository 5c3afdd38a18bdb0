use Rattle.std.proofs.Common.{◌≡◌, Option, ap, sym, ◌∙◌, subst}
use Rattle.std.specs.Prelude.{option_map, IfSome, IsTrue}
use Rattle.fts_claims.specs.declared.links.Standing.{Standing}
use Rattle.fts_claims.specs.Claims.{claim_data, is_inside, is_link_before, is_better, standing_of, stands_before}
use Rattle.fts_claims.proofs.Standings.{as_links}
use Rattle.fts_claims.proofs.pick.is_better_link.Goals as goal

pub returns-in-Some : goal.returns-in-Some
returns-in-Some c =
    let view = claim_data c.args.view.now in
    let best : Standing = c.in-Some.best in
    let inside = subst (λ (some : Option Standing). IfSome some (λ best. IsTrue (is_inside view.settings best.link))) c.in-Some.is c.requires.best_inside in
    let own : best ≡ standing_of view best.link =
    subst (λ (some : Option Standing). IfSome some (λ best. best ≡ standing_of view best.link)) c.in-Some.is c.requires.standing in
    record {
      answer = c.stands_before.ensures.answer
          ∙ (ap (λ one. stands_before one best) c.standing_of.ensures.standing
          ∙ (ap (stands_before (standing_of view c.args.link)) own
          ∙ (as_links view c.args.link best.link c.requires.inside inside
          ∙ sym (ap (λ (some : Option Standing). is_better (is_link_before view) (option_map (λ best. best.link) some) c.args.link) c.in-Some.is))));
    }
