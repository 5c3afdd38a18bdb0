use Rattle.std.specs.Io.KnownBytes.{Keeps}
use Rattle.fts_wire.proofs.standard.read_some.Given as goal

-- what was interrupted took nothing
abbrev pub invariant-tries : goal.invariant-tries
invariant-tries g l = Keeps (g.R.Read.remaining l.fn.reader) (g.R.Read.remaining l.reader)
