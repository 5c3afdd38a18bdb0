-- A part more.
use Rattle.std.proofs.Common.{[]}
use Rattle.fts_metrics.proofs.Texts.{part_more}
use Rattle.fts_panel.proofs.refusals.joined.Goals as goal

pub loop-part-preserved : goal.loop-part-preserved
loop-part-preserved c = part_more c.args.parts.now c.loop-part.part-index _ [] c.loop-part.text.items c.extend_from_slice.new.self.items
    c.loop-part-test.true c.loop-part.invariant c.in_ok-extend_from_slice.ensures.items
