-- The line was written whole.
use Rattle.std.proofs.Common.{true, inl, refl, arith}
use Rattle.fts_top.proofs.loads.end_load.Goals as goal

pub returns-in-Ok-clause-ends : goal.returns-in-Ok-clause-ends
returns-in-Ok-clause-ends g c = inl (record {
  well = omega (arith, c.status.ensures, c.if-status-ne0.false);
  whole = true;
  written = c.in-Ok.ensures.sent;
  ended = refl;
})
