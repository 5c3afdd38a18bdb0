-- Where none of the statuses that are left is that of a response that the bytes begin, they begin none.
use Rattle.std.proofs.Common.{drop}
use Rattle.std.specs.List.{AllByRecursion}
use Rattle.fts_wire.specs.AnswerLook.{IsNoneOf}
use Rattle.fts_wire.specs.NextAnswers.{BeginsResponse}
use Rattle.fts_wire.proofs.answer_look.look_at_heads.Given as goal

abbrev pub invariant-loop-status : goal.invariant-loop-status
invariant-loop-status l = AllByRecursion (IsNoneOf l.bytes) (drop l.status-index l.status-items) → BeginsResponse l.bytes → ⊥
