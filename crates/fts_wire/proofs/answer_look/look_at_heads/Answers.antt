-- One status after another is that of no response that the bytes begin.
use Rattle.std.proofs.Common.{◌<◌, List, [], ◌∷◌, ℕ, sym, subst, arith}
use Rattle.std.specs.List.{AllByRecursion}
use Rattle.std.proofs.lemmas.List.{drop_more}
use Rattle.fts_wire.specs.AnswerLook.{IsNoneOf}
use Rattle.fts_wire.proofs.AnswerHeads.{none_at_all}
use Rattle.fts_wire.proofs.answer_look.look_at_heads.Goals as goal

pub loop-status-init : goal.loop-status-init
loop-status-init c = none_at_all c.args.bytes.now

pub loop-status-preserved : goal.loop-status-preserved
loop-status-preserved c =
    let bytes = c.args.bytes.now in
    let statuses : List ℕ = 200 ∷ 400 ∷ 403 ∷ 404 ∷ 405 ∷ 409 ∷ 413 ∷ 431 ∷ 500 ∷ 501 ∷ 503 ∷ 507 ∷ [] in
    let at = c.loop-status.status-index in
    let less : at < 12 = omega (arith, c.loop-status-test.true) in
    λ rest. c.loop-status.invariant
    (subst (λ (left : List ℕ). AllByRecursion (IsNoneOf bytes) left) (sym (drop_more statuses at 0 less)) (c.in-Refused.ensures, rest))
