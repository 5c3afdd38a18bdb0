use Rattle.std.proofs.Common.{◌≡◌, ◌≤◌, ◌<◌, ◌+◌, ◌-◌, List, ℕ, length, drop, take, arith, sym, ap, ◌∙◌, length-drop}
use Rattle.std.proofs.lemmas.List.{take_rest}
use Rattle.fts_journal.specs.Loading.{IsPiece}
use Rattle.fts_journal.proofs.Piece.{front_is, open_here, cut_here_by}
use Rattle.fts_journal.proofs.loading.gate_at.Goals as goal

-- what is looked at is the beginning of what stands at the gate
looked_at : (content bytes now : List ℕ) (start at : ℕ) → IsPiece content start bytes → now ≡ bytes → start ≤ at → at < start + length bytes
    → take (length now - (at - start)) (drop (at - start) now) ≡ take (length bytes - (at - start)) (drop at content)
looked_at content bytes now start at piece same from here =
    take_rest now (at - start) ∙ ap (λ (l : List ℕ). drop (at - start) l) same ∙ front_is content start at bytes piece from here

-- and is no empty one
some_at : (bytes now : List ℕ) (start at : ℕ) → now ≡ bytes → start ≤ at → at < start + length bytes
    → 1 ≤ length (take (length now - (at - start)) (drop (at - start) now))
some_at bytes now start at same from here =
    omega (arith, ap length (take_rest now (at - start)), length-drop (at - start) now, ap length same)

pub returns-in-Some-clause-gate : goal.returns-in-Some-clause-gate
returns-in-Some-clause-gate c = λ content piece end.
    let bytes = c.args.piece.now.bytes.items in
    let now = c.deref.result.now in
    let start = c.args.piece.now.start in
    let at = c.args.at in
    let front = take (length now - (at - start)) (drop (at - start) now) in
    let ends : c.args.end ≡ at + length (drop at content) = omega (arith, end, length-drop at content, c.requires.covers.inside) in
    open_here (drop at content) front (length bytes - (at - start)) at c.args.end
    (looked_at content bytes now start at piece c.deref.ensures.value c.requires.covers.from c.requires.covers.here)
    (some_at bytes now start at c.deref.ensures.value c.requires.covers.from c.requires.covers.here)
    ends (sym c.if-front-ne-GATE_OPEN.false) _ (take_rest front 1) c.in-Some.size
    c.in-Some.ensures.some.0 c.in-Some.ensures.some.1 c.in-Some.ensures.some.2

pub returns-in-None-clause-gate : goal.returns-in-None-clause-gate
returns-in-None-clause-gate c = λ content piece end.
    let bytes = c.args.piece.now.bytes.items in
    let now = c.deref.result.now in
    let start = c.args.piece.now.start in
    let at = c.args.at in
    let front = take (length now - (at - start)) (drop (at - start) now) in
    let ends : c.args.end ≡ at + length (drop at content) = omega (arith, end, length-drop at content, c.requires.covers.inside) in
    cut_here_by (drop at content) front (length bytes - (at - start)) at c.args.end
    (looked_at content bytes now start at piece c.deref.ensures.value c.requires.covers.from c.requires.covers.here)
    (some_at bytes now start at c.deref.ensures.value c.requires.covers.from c.requires.covers.here)
    ends (sym c.if-front-ne-GATE_OPEN.false) _ (take_rest front 1)
    (omega (arith, c.requires.covers.behind, c.requires.covers.from, c.requires.covers.here))
    c.in-None.ensures.none
