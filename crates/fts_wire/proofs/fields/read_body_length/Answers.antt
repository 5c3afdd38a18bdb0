-- The first field of the name is kept, and a second one settles the answer.
use Rattle.std.proofs.Common.{arith, sym, ◌∙◌, subst, take, map, ◌+◌}
use Rattle.std.specs.Prelude.{codes}
use Rattle.httparse.specs.Spans.{header_bytes}
use Rattle.fts_wire.specs.Fields.{values_of}
use Rattle.fts_wire.proofs.Values.{IsOnly, only_first, only_twice, values_past, no_header}
use Rattle.fts_wire.proofs.fields.read_body_length.Goals as goal
use Rattle.fts_wire.proofs.fields.read_body_length.Goals.{then-is_named+else-is_some, else-is_named}

pub returns-then-is_some : goal.returns-then-is_some
returns-then-is_some c =
    only_twice (codes "content-length") c.args.head.now c.args.headers.now c.loop-header.header-index c.loop-header.found (omega arith)
    (sym c.is_named.ensures ∙ c.if-is_named.true) (sym c.is_some.ensures ∙ c.if-is_some.true) c.loop-header.invariant

pub loop-header-preserved : goal.loop-header-preserved
loop-header-preserved c =
    let head = c.args.head.now in
    let headers = c.args.headers.now in
    let i = c.loop-header.header-index in
    let values = values_of (codes "content-length") (map (header_bytes head) (take (i + 1) headers)) in
    elim c.if-is_named.branch [
      | then-is_named+else-is_some w ↦ subst (IsOnly head values) (sym w.found-is)
          (only_first (codes "content-length") head headers i c.loop-header.found (omega arith) (sym c.is_named.ensures ∙ w.if-is_named.true)
          (c.requires.within i no_header (omega arith)).1 (sym w.is_some.ensures ∙ w.if-is_some.false) c.loop-header.invariant)
      | else-is_named w ↦ subst (IsOnly head values) (sym w.found-is)
          (subst (λ vs. IsOnly head vs c.loop-header.found)
          (sym (values_past (codes "content-length") (header_bytes head) headers i no_header (omega arith) (sym c.is_named.ensures
          ∙ w.if-is_named.false))) c.loop-header.invariant)
    ]
