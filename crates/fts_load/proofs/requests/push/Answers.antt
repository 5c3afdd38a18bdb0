-- A part more.
use Rattle.fts_load.proofs.Texts.{part_more}
use Rattle.fts_load.proofs.requests.push.Goals as goal

pub parts-preserved : goal.parts-preserved
parts-preserved c = part_more c.args.bytes.now.items c.parts.bytes.items _ c.args.parts.now c.parts.part-index _ c.parts-test.true c.parts.invariant c.in-Ok.ensures.items
