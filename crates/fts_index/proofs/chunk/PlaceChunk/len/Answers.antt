use Rattle.std.proofs.Common.{arith}
use Rattle.fts_index.proofs.Placed.{lengths}
use Rattle.fts_index.proofs.chunk.PlaceChunk.len.Goals as goal

pub returns : goal.returns
returns c = record { len = omega (arith, c.len.ensures, (lengths c.self.inside c.args.self.now c.self.invariant c.self.view_is).0) }
