use Rattle.std.proofs.Common.{List, ap, ◌∙◌, subst}
use Rattle.std.specs.Prelude.{find}
use Rattle.ordered.specs.Orders.{KeySet}
use Rattle.fts_heads.specs.declared.ripe_file.RipeFile.{RipeFile}
use Rattle.fts_heads.specs.declared.crowd.Own.{Own}
use Rattle.fts_heads.specs.Crowd.{is_own, is_from, IsLeast}
use Rattle.fts_heads.proofs.Leasts.{with_least}
use Rattle.fts_heads.proofs.crowd.Crowd.first_for.Goals as goal

pub returns : goal.returns
returns c = record {
  first = c.sooner.ensures.sooner
      ∙ (with_least c.self.inside.own.items c.self.inside.rest.keys (is_from c.args.start.now) c.own_from.result c.first_for.result c.len.ensures.order
      c.self.invariant.0.apart
      (subst (λ (own : List Own). IsLeast (is_own own) (is_from c.args.start.now) c.own_from.result) c.as_slice.ensures.value c.own_from.ensures.least)
      c.first_for.ensures.least
      ∙ ap (λ (set : KeySet RipeFile). find (is_from c.args.start.now) set.keys) c.self.view_is);
}
