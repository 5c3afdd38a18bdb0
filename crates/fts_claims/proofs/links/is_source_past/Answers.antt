-- A link whose source ranks behind doesn't go before one that holds nothing.
use Rattle.std.proofs.Common.{◌<◌, ap, sym, ◌∙◌, subst, arith}
use Rattle.std.proofs.lemmas.Bool.{ltb-true}
use Rattle.fts_slots.specs.Ranks.{rank_at}
use Rattle.fts_claims.specs.Claims.{claim_data, standing_of}
use Rattle.fts_claims.proofs.Standings.{not_before}
use Rattle.fts_claims.proofs.links.is_source_past.Goals as goal

pub returns : goal.returns
returns c = record {
  past = λ is other same.
      let view = claim_data c.args.view.now in
      let rank = c.rank.ensures.rank ∙ (ap (λ settings. rank_at settings c.args.link.source) c.requires.tied.settings ∙ ap (rank_at view.settings) (sym same)) in
      sym (not_before (standing_of view other) c.args.best.now (omega (arith, c.if-best-gt0.false))
      (subst (λ number. c.args.best.now.source < number) rank (ltb-true c.args.best.now.source c.rank.result is)));
}
