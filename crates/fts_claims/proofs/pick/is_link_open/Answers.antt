use Rattle.std.proofs.Common.{sym, ◌∙◌}
use Rattle.fts_claims.specs.Claims.{claim_data}
use Rattle.fts_claims.proofs.OpenWaiters.{none_on_link}
use Rattle.fts_claims.proofs.pick.is_link_open.Goals as goal

pub returns : goal.returns
returns c = record {
  none = λ no.
      none_on_link (claim_data c.args.view.now) c.settings_keep_their_rules.ensures.rules c.requires.tied c.args.link c.requires.inside c.requires.line
      c.first_is_the_best.ensures.best (sym c.has_open.ensures.answer ∙ no);
}
