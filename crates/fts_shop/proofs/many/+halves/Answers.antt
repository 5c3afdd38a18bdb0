-- Both halves done are the whole list done.
use Rattle.std.proofs.Common.{refl}
use Rattle.fts_shop.proofs.Halves.{each_halves}
use Rattle.fts_shop.proofs.many.+halves.Goals as goal

pub spread-returns : goal.spread-returns
spread-returns g t c =
    let s = c.split_at_mut-front in
    each_halves (g.W.Work.done c.args.shared.now) c.args.jobs.now _ s.result.0.now c.spread_both.new.front s.result.1.now c.spread_both.new.back
    s.ensures.value refl c.spread_both.ensures.front c.spread_both.ensures.back
