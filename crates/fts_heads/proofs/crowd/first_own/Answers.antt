use Rattle.std.proofs.Common.{subst}
use Rattle.fts_heads.specs.Crowd.{is_own, is_from, IsLeast}
use Rattle.fts_heads.proofs.Leasts.{from_least}
use Rattle.fts_heads.proofs.crowd.first_own.Goals as goal

pub returns : goal.returns
returns c = record {
  least = from_least c.args.own.now c.args.start.now c.args.least c.own_below.result
      (subst (IsLeast (is_own c.args.own.now) (is_from c.args.start.now)) c.in_default.is c.own_from.ensures.least) c.own_below.ensures.least;
}
