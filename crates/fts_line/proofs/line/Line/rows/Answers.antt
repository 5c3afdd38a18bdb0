use Rattle.std.proofs.Common.{length, ap, arith}
use Rattle.fts_line.specs.LineData.{LineData}
use Rattle.fts_line.proofs.Lines.{as_many}
use Rattle.fts_line.proofs.line.Line.rows.Goals as goal

pub returns-clause-places : goal.returns-clause-places
returns-clause-places c =
    omega (
      arith,
      as_many c.self.inside.rests.items c.self.inside.heads.files,
      c.len.ensures.room,
      ap (λ (view : LineData). length view.waiting.waiters) c.self.view_is,
      ap (λ (view : LineData). view.room) c.self.view_is,
    )
