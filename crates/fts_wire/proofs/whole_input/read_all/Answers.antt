-- Each end of the reading, by what was taken so far.
use Rattle.std.proofs.Common.{◌≡◌, ℕ, ◌≤◌, ◌<◌, List, ◌++◌, length, take, ap, sym, ◌∙◌, subst, arith}
use Rattle.fts_wire.specs.Outside.{IsTakenOf}
use Rattle.fts_wire.specs.declared.outside.SourceFailed.{SourceFailed}
use Rattle.fts_wire.proofs.WholeInput.{piece_taken, all_taken, too_many, part_taken, lost, rose_since, cut_piece, few_more, one_over, read_more}
use Rattle.fts_wire.proofs.whole_input.read_all.Goals as goal

pub returns-in-Err-clause-refused : goal.returns-in-Err-clause-refused
returns-in-Err-clause-refused g c =
    part_taken SourceFailed c.in-Err.field-0 c.args.limit _ _ _ c.reading.bytes.items c.read_piece.new.piece.items c.reading.invariant.few c.reading.invariant.taken c.in-Err.ensures.read

pub returns-in-Err-clause-failed : goal.returns-in-Err-clause-failed
returns-in-Err-clause-failed g c = λ same. rose_since SourceFailed c.in-Err.field-0 _ _ _ c.reading.invariant.faults c.in-Err.ensures.cause

pub returns-then-n-eq0-clause-all : goal.returns-then-n-eq0-clause-all
returns-then-n-eq0-clause-all g c =
    let cut = cut_piece c.args.limit c.len.result c.saturating_add.result c.reading.piece.items c.truncate.new.self.items c.saturating_add.ensures c.truncate.ensures.items c.reading.invariant.some in
    let some : 0 < length c.read_piece.new.piece.items = subst (λ n. 0 < n) (sym c.read_piece.ensures.room) cut.0 in
    all_taken SourceFailed c.args.limit _ _ _ c.reading.bytes.items c.read_piece.new.piece.items c.in-Ok.n c.if-n-eq0.true some c.reading.invariant.few c.reading.invariant.taken c.in-Ok.ensures.read

pub returns-then-n-room-clause-refused : goal.returns-then-n-room-clause-refused
returns-then-n-room-clause-refused g c =
    let held : c.len.result ≡ length c.reading.bytes.items = omega (arith, c.len.ensures, c.reading.bytes.ok.0) in
    let cut = cut_piece c.args.limit c.len.result c.saturating_add.result c.reading.piece.items c.truncate.new.self.items c.saturating_add.ensures c.truncate.ensures.items c.reading.invariant.some in
    let within : c.in-Ok.n ≤ length c.truncate.new.self.items = subst (λ k. c.in-Ok.n ≤ k) c.read_piece.ensures.room c.in-Ok.ensures.bound in
    let over = one_over c.args.limit c.len.result c.in-Ok.n (length c.truncate.new.self.items) c.reading.bytes.items held c.reading.invariant.few c.if-n-room.true within cut.1 in
    too_many SourceFailed c.args.limit _ _ _ c.reading.bytes.items c.read_piece.new.piece.items c.in-Ok.n over c.reading.invariant.taken c.in-Ok.ensures.read

pub returns-in-Err-extend_from_slice-clause-refused : goal.returns-in-Err-extend_from_slice-clause-refused
returns-in-Err-extend_from_slice-clause-refused g c =
    let held : c.len.result ≡ length c.reading.bytes.items = omega (arith, c.len.ensures, c.reading.bytes.ok.0) in
    let taken = piece_taken SourceFailed _ _ _ c.reading.bytes.items c.read_piece.new.piece.items c.in-Ok.n c.reading.invariant.taken c.in-Ok.ensures.read in
    lost c.args.limit _ _ (c.reading.bytes.items ++ take c.in-Ok.n c.read_piece.new.piece.items)
    (few_more c.args.limit c.len.result c.in-Ok.n c.reading.bytes.items c.read_piece.new.piece.items held c.reading.invariant.few c.if-n-room.false) taken

pub reading-preserved : goal.reading-preserved
reading-preserved g c =
    let held : c.len.result ≡ length c.reading.bytes.items = omega (arith, c.len.ensures, c.reading.bytes.ok.0) in
    let cut = cut_piece c.args.limit c.len.result c.saturating_add.result c.reading.piece.items c.truncate.new.self.items c.saturating_add.ensures c.truncate.ensures.items c.reading.invariant.some in
    let more : c.extend_from_slice.new.self.items ≡ c.reading.bytes.items ++ take c.in-Ok.n c.read_piece.new.piece.items =
    c.in-Ok-extend_from_slice.ensures.items ∙ ap (λ (into : List ℕ). c.reading.bytes.items ++ take c.in-Ok.n into) c.deref.ensures.value in
    let taken = piece_taken SourceFailed _ _ _ c.reading.bytes.items c.read_piece.new.piece.items c.in-Ok.n c.reading.invariant.taken c.in-Ok.ensures.read in
    let few = few_more c.args.limit c.len.result c.in-Ok.n c.reading.bytes.items c.read_piece.new.piece.items held c.reading.invariant.few c.if-n-room.false in
    record {
      taken = subst (λ (bytes : List ℕ). IsTakenOf (g.S.Source.left c.args.source.now) (g.S.Source.left c.read_piece.new.source) bytes) (sym more) taken;
      few = subst (λ (bytes : List ℕ). length bytes ≤ c.args.limit) (sym more) few;
      some = subst (λ n. 0 < n) (sym c.read_piece.ensures.room) cut.0;
      faults = omega (arith, c.reading.invariant.faults, c.read_piece.ensures.cause.keeps);
      reads = read_more _ _ _ c.in-Ok.n c.reading.bytes.items c.read_piece.new.piece.items _ c.reading.invariant.reads c.read_piece.ensures.counted c.if-n-eq0.false c.in-Ok.ensures.bound more;
      beside = c.read_piece.ensures.beside ∙ c.reading.invariant.beside;
    }
