-- A field of the name settles the answer.
use Rattle.std.proofs.Common.{arith, sym, ◌∙◌}
use Rattle.httparse.specs.Spans.{header_bytes}
use Rattle.fts_wire.specs.Fields.{is_named}
use Rattle.fts_wire.proofs.Values.{any_here, no_header}
use Rattle.fts_wire.proofs.fields.has_field.Goals as goal

pub returns-then-is_named : goal.returns-then-is_named
returns-then-is_named c =
    sym (any_here (is_named c.args.name.now) (header_bytes c.args.head.now) c.args.headers.now c.loop-header.header-index no_header (omega arith)
    (sym c.is_named.ensures ∙ c.if-is_named.true))
