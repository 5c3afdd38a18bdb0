-- The better of the best link so far and one more.
use Rattle.std.proofs.Common.{◌≡◌, true, ap, sym, ◌∙◌, subst}
use Rattle.std.proofs.lemmas.Bool.{and_parts}
use Rattle.fts_tables.specs.declared.settings.LinkAt.{LinkAt}
use Rattle.fts_claims.specs.declared.links.Standing.{Standing}
use Rattle.fts_claims.specs.Claims.{claim_data, may_start, has_chance, standing_of}
use Rattle.fts_claims.proofs.pick.next_best.Goals as goal

pub returns-then-is_next-clause-standing : goal.returns-then-is_next-clause-standing
returns-then-is_next-clause-standing c =
    let own = c.standing_of.ensures.standing in
    own ∙ ap (standing_of (claim_data c.args.view.now)) (sym (ap (λ (some : Standing). some.link) own))

pub returns-then-is_next-clause-starts : goal.returns-then-is_next-clause-starts
returns-then-is_next-clause-starts c =
    let view = claim_data c.args.view.now in
    let chance = and_parts (has_chance c.args.view.now.flags.now view c.args.link c.args.activity) _ (sym c.is_next.ensures.answer ∙ c.if-is_next.true) in
    subst (λ (link : LinkAt). may_start c.args.view.now.flags.now view link ≡ true)
    (sym (ap (λ (some : Standing). some.link) c.standing_of.ensures.standing)) (and_parts (may_start c.args.view.now.flags.now view c.args.link) _ chance.0).0
