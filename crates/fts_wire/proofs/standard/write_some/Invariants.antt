use Rattle.std.specs.Io.KnownBytes.{Keeps}
use Rattle.fts_wire.proofs.standard.write_some.Given as goal

-- what was interrupted wrote nothing
abbrev pub invariant-tries : goal.invariant-tries
invariant-tries g l = Keeps (g.W.Write.contents l.fn.writer) (g.W.Write.contents l.writer)
