-- One amount more is added at its place, and at no other.
use Rattle.std.proofs.Common.{length, ap, ◌∙◌, arith}
use Rattle.std.proofs.lemmas.List.{length-set}
use Rattle.fts_metrics.proofs.Summing.{number_more, low_more}
use Rattle.fts_metrics.proofs.sums.sums_of.Goals as goal

pub loop-share-preserved : goal.loop-share-preserved
loop-share-preserved c = record {
  places = ap length c.add_share.ensures.added ∙ length-set _ _ _ ∙ c.loop-share.invariant.places;
  sums = λ place inside. number_more c.args.shares.now c.loop-share.share-index _ c.loop-share.sums.items c.add_share.new.sums.items place
      c.loop-share-test.true (omega (arith, inside, c.loop-share.invariant.places)) c.add_share.ensures.added (c.loop-share.invariant.sums place inside);
  low = λ place inside. low_more _ c.loop-share.share-index c.loop-share.sums.items c.add_share.new.sums.items place
      (omega (arith, inside, c.loop-share.invariant.places)) c.add_share.ensures.range c.add_share.ensures.added (c.loop-share.invariant.low place inside);
}
