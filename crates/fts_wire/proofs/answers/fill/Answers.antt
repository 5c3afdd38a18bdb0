-- A piece more is read only behind less than a response.
use Rattle.std.proofs.Common.{◌<◌, ℕ, List, length, ap, sym, ◌∙◌, arith, subst, length-append}
use Rattle.fts_wire.specs.NextAnswers.{IsInside, BeginsResponse}
use Rattle.fts_wire.specs.AnswerLook.{AnswerStands}
use Rattle.fts_wire.specs.declared.outside.SourceFailed.{SourceFailed}
use Rattle.fts_wire.proofs.AnswerHeads.{inside_bound}
use Rattle.fts_wire.proofs.AnswerPieces.{answer_more, answer_end, answer_failed}
use Rattle.fts_wire.proofs.Pieces.{used_up, same_bytes}
use Rattle.fts_wire.proofs.WholeInput.{rose_since}
use Rattle.fts_wire.proofs.answers.fill.Goals as goal

pub returns-in-Refused-clause-look : goal.returns-in-Refused-clause-look
returns-in-Refused-clause-look g c = subst (λ (bytes : List ℕ). BeginsResponse bytes → ⊥) c.as_slice.ensures c.in-Refused.ensures

pub returns-in-Found-clause-look : goal.returns-in-Found-clause-look
returns-in-Found-clause-look g c = (
  subst (λ (bytes : List ℕ). AnswerStands bytes c.in-Found.head) c.as_slice.ensures c.in-Found.ensures.0,
  omega (arith, c.in-Found.ensures.1, ap length c.as_slice.ensures),
)

pub read_from-requires : goal.read_from-requires
read_from-requires g c =
    let inside = subst IsInside c.as_slice.ensures c.in-Short.ensures in
    let short : length c.reading.buffer < 8390032 = inside_bound c.reading.buffer inside in
    record { room = omega (arith, short) }

pub returns-in-Err-clause-takes : goal.returns-in-Err-clause-takes
returns-in-Err-clause-takes g c =
    answer_failed _ _ _ c.reading.buffer c.read_from.new.self _ _ _ c.reading.invariant.takes c.in-Err.ensures.err.0 c.in-Err.ensures.err.1 c.read_from.ensures.counted

pub returns-in-Err-clause-look : goal.returns-in-Err-clause-look
returns-in-Err-clause-look g c =
    let inside = subst IsInside c.as_slice.ensures c.in-Short.ensures in
    (subst IsInside (sym c.in-Err.ensures.err.0) inside, rose_since SourceFailed c.in-Err.field-0 _ _ _ c.reading.invariant.faults c.in-Err.ensures.cause)

pub returns-then-n-eq0-clause-takes : goal.returns-then-n-eq0-clause-takes
returns-then-n-eq0-clause-takes g c =
    answer_end _ _ _ c.reading.buffer c.read_from.new.self c.in-Ok.n _ _ _ c.reading.invariant.takes c.in-Ok.ensures.piece
    c.if-n-eq0.true c.read_from.ensures.counted

pub returns-then-n-eq0-clause-look : goal.returns-then-n-eq0-clause-look
returns-then-n-eq0-clause-look g c =
    let inside = subst IsInside c.as_slice.ensures c.in-Short.ensures in (
      subst IsInside (sym (same_bytes _ _ c.reading.buffer c.read_from.new.self c.in-Ok.n c.if-n-eq0.true c.in-Ok.ensures.piece)) inside,
      used_up _ _ c.reading.buffer c.read_from.new.self c.in-Ok.n c.if-n-eq0.true c.in-Ok.ensures.piece,
    )

pub reading-smaller : goal.reading-smaller
reading-smaller g c =
    let inside = subst IsInside c.as_slice.ensures c.in-Short.ensures in
    let short : length c.reading.buffer < 8390032 = inside_bound c.reading.buffer inside in
    let piece = c.in-Ok.ensures.piece in
    omega (arith, short, piece.count, c.if-n-eq0.false, ap length piece.appended, length-append c.reading.buffer piece.piece)

pub reading-preserved : goal.reading-preserved
reading-preserved g c =
    let inside = subst IsInside c.as_slice.ensures c.in-Short.ensures in
    let some : 0 < c.in-Ok.n = omega (arith, c.if-n-eq0.false) in
    let inv = c.reading.invariant in
    record {
      takes = answer_more (g.S.Source.left c.args.source.now) (g.S.Source.left c.reading.source) (g.S.Source.left c.read_from.new.source)
          c.reading.buffer c.read_from.new.self c.in-Ok.n (g.S.Source.reads c.args.source.now) (g.S.Source.reads c.reading.source)
          (g.S.Source.reads c.read_from.new.source)
          inv.takes inside c.in-Ok.ensures.piece some c.read_from.ensures.counted;
      faults = omega (arith, inv.faults, c.read_from.ensures.cause.keeps);
      beside = c.read_from.ensures.beside ∙ inv.beside;
    }
