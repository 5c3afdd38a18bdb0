-- A piece more is read only behind less than a request, and what was found stays.
use Rattle.std.proofs.Common.{◌<◌, ℕ, List, length, ap, sym, ◌∙◌, arith, subst, length-append}
use Rattle.std.specs.Prelude.{IfSome, Option}
use Rattle.fts_wire.specs.Lines.{EndsNoLine}
use Rattle.fts_wire.specs.declared.look.Head.{Head}
use Rattle.fts_wire.proofs.Known.{still_short}
use Rattle.fts_wire.specs.Look.{sight_of, StandsAt}
use Rattle.fts_wire.specs.Requests.{IsShort, next_of}
use Rattle.fts_wire.specs.Taken.{IsKnown}
use Rattle.fts_wire.proofs.Bounds.{short_bound}
use Rattle.fts_wire.proofs.Next.{known_short, known_more, looks_refused, takes_refused}
use Rattle.fts_wire.proofs.Pieces.{takes_more, takes_end, used_up}
use Rattle.fts_wire.proofs.WholeInput.{rose_since}
use Rattle.fts_wire.specs.declared.outside.SourceFailed.{SourceFailed}
use Rattle.fts_wire.proofs.request.fill.Goals as goal

pub returns-in-Refused-clause-takes : goal.returns-in-Refused-clause-takes
returns-in-Refused-clause-takes g c =
    takes_refused _ _ c.reading.buffer _ _ _ c.in-Refused.fault (ap sight_of (sym c.as_slice.ensures) ∙ c.in-Refused.ensures) c.reading.invariant.takes

pub returns-in-Refused-clause-look : goal.returns-in-Refused-clause-look
returns-in-Refused-clause-look g c =
    looks_refused c.reading.buffer _ _ _ c.in-Refused.fault (ap sight_of (sym c.as_slice.ensures) ∙ c.in-Refused.ensures)

pub read_from-requires : goal.read_from-requires
read_from-requires g c =
    let known = subst (λ (bytes : List ℕ). IsKnown bytes c.in-More.found) c.as_slice.ensures c.in-More.ensures in
    let short : length c.reading.buffer < 1064960 = short_bound c.reading.buffer (known_short c.reading.buffer c.in-More.found known) in
    record { room = omega (arith, short) }

pub returns-in-Err-clause-look : goal.returns-in-Err-clause-look
returns-in-Err-clause-look g c =
    let known = subst (λ (bytes : List ℕ). IsKnown bytes c.in-More.found) c.as_slice.ensures c.in-More.ensures in
    let short = known_short c.reading.buffer c.in-More.found known in
    (subst IsShort (sym c.in-Err.ensures.err.0) short, rose_since SourceFailed c.in-Err.field-0 _ _ _ c.reading.invariant.faults c.in-Err.ensures.cause)

pub returns-then-is_clean_end-clause-takes : goal.returns-then-is_clean_end-clause-takes
returns-then-is_clean_end-clause-takes g c =
    takes_end c.args.buffer.now _ _ _ c.reading.buffer c.read_from.new.self c.in-Ok.n _ _ _ c.reading.invariant.takes c.in-Ok.ensures.piece
    c.if-n-eq0.true c.read_from.ensures.counted

pub returns-then-is_clean_end-clause-look : goal.returns-then-is_clean_end-clause-look
returns-then-is_clean_end-clause-look g c = (
  ap next_of (sym c.as_slice-then-n-eq0.ensures) ∙ c.if-is_clean_end.ensures,
  used_up _ _ c.reading.buffer c.read_from.new.self c.in-Ok.n c.if-n-eq0.true c.in-Ok.ensures.piece,
)

pub returns-else-is_clean_end-clause-takes : goal.returns-else-is_clean_end-clause-takes
returns-else-is_clean_end-clause-takes g c =
    takes_end c.args.buffer.now _ _ _ c.reading.buffer c.read_from.new.self c.in-Ok.n _ _ _ c.reading.invariant.takes c.in-Ok.ensures.piece
    c.if-n-eq0.true c.read_from.ensures.counted

pub returns-else-is_clean_end-clause-look : goal.returns-else-is_clean_end-clause-look
returns-else-is_clean_end-clause-look g c = (
  ap next_of (sym c.as_slice-then-n-eq0.ensures) ∙ c.if-is_clean_end.ensures,
  used_up _ _ c.reading.buffer c.read_from.new.self c.in-Ok.n c.if-n-eq0.true c.in-Ok.ensures.piece,
)

pub reading-smaller : goal.reading-smaller
reading-smaller g c =
    let known = subst (λ (bytes : List ℕ). IsKnown bytes c.in-More.found) c.as_slice.ensures c.in-More.ensures in
    let short : length c.reading.buffer < 1064960 = short_bound c.reading.buffer (known_short c.reading.buffer c.in-More.found known) in
    let piece = c.in-Ok.ensures.piece in
    omega (arith, short, piece.count, c.if-n-eq0.false, ap length piece.appended, length-append c.reading.buffer piece.piece)

pub reading-preserved : goal.reading-preserved
reading-preserved g c =
    let known = subst (λ (bytes : List ℕ). IsKnown bytes c.in-More.found) c.as_slice.ensures c.in-More.ensures in
    let short = known_short c.reading.buffer c.in-More.found known in
    let some : 0 < c.in-Ok.n = omega (arith, c.if-n-eq0.false) in
    let piece = c.in-Ok.ensures.piece in
    let inv = c.reading.invariant in
    record {
      takes = takes_more c.args.buffer.now (g.S.Source.left c.args.source.now) (g.S.Source.left c.reading.source) (g.S.Source.left c.read_from.new.source)
          c.reading.buffer c.read_from.new.self c.in-Ok.n (g.S.Source.reads c.args.source.now) (g.S.Source.reads c.reading.source)
          (g.S.Source.reads c.read_from.new.source)
          inv.takes short piece some c.read_from.ensures.counted;
      found = subst (λ (bytes : List ℕ). IfSome c.in-More.found (StandsAt bytes)) (sym piece.appended)
          (known_more c.reading.buffer piece.piece c.in-More.found known);
      known = λ is. still_short c.reading.buffer c.read_from.new.self piece.piece c.in-Ok.n
          (subst (λ (found : Option Head). IsKnown c.reading.buffer found) (c.ends_no_line-is_known.ensures.none is) known) piece.appended piece.count
          (subst (λ (bytes : List ℕ). EndsNoLine bytes c.in-Ok.n) c.as_slice-in-reading.ensures (c.ends_no_line-is_known.ensures.line is));
      faults = omega (arith, inv.faults, c.read_from.ensures.cause.keeps);
      beside = c.read_from.ensures.beside ∙ inv.beside;
    }
