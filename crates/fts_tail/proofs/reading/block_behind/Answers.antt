-- The whole body stands within the content.
use Rattle.std.proofs.Common.{ap, sym, ◌∙◌, length, drop, arith, length-drop}
use Rattle.fts_tail.proofs.reading.block_behind.Goals as goal

pub fill-requires : goal.fill-requires
fill-requires g c = λ told.
    let was = sym c.size_behind.ensures.told ∙ told in
    let seen = (g.D.Disk.state c.args.disk.now).seen in
    omega (
      arith,
      (c.in_ok-size.ensures.sized was).whole,
      length-drop 1 (drop c.args.used seen),
      length-drop c.args.used seen,
      ap length (c.size_behind.ensures.quiet was).seen,
    )
