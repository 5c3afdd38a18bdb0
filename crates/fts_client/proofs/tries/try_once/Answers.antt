-- The request was written whole, or in part.
use Rattle.std.proofs.Common.{rules}
use Rattle.fts_client.proofs.OneTry.{tried_whole, tried_in_part}
use Rattle.fts_client.proofs.tries.try_once.Goals.{in-Ok-send_parts, in-Err-send_parts}
use Rattle.fts_client.proofs.tries.try_once.Goals as goal

pub returns-clause-tried : goal.returns-clause-tried
returns-clause-tried g c = elim c.match-send_parts.branch [
  | in-Ok-send_parts w ↦
      rw (w.tried-is, w.room-is)
      (tried_whole _ _ g.met.L.Link.line _ _ _ _ _ _ _ _ _ c.in-Ok.ensures.dials c.dial.ensures.cause.keeps _ _ _ _ w.in-Ok-send_parts.ensures.sent
      w.in-Ok-send_parts.ensures.beside w.load.ensures.answer w.load.ensures.cause w.load.ensures.beside
      (rw w.line-is at c.done.ensures.back) (rw w.line-is at c.done.ensures.faults))
  | in-Err-send_parts w ↦
      rw w.tried-is
      (tried_in_part _ _ g.met.L.Link.line _ _ _ _ _ _ _ _ _ c.in-Ok.ensures.dials c.dial.ensures.cause.keeps _ _ _ w.in-Err-send_parts.ensures.sent
      (w.in-Err-send_parts.ensures.cause.cause (search rules)) w.in-Err-send_parts.ensures.beside
      (rw w.line-is at c.done.ensures.back) (rw w.line-is at c.done.ensures.faults))
]
