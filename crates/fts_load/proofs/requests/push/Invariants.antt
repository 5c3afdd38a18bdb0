use Rattle.std.proofs.Common.{◌≡◌, ◌++◌, take}
use Rattle.fts_wire.proofs.Sent.{joined}
use Rattle.fts_load.proofs.requests.push.Given as goal

-- the parts so far
abbrev pub invariant-parts : goal.invariant-parts
invariant-parts l = l.bytes.items ≡ l.initial.bytes.items ++ joined (take l.part-index l.parts)
