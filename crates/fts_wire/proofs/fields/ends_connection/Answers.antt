-- A field of the name with the word settles the answer.
use Rattle.std.proofs.Common.{arith, sym, ◌∙◌, ap}
use Rattle.std.specs.Prelude.{codes, ◌==◌}
use Rattle.std.proofs.lemmas.Bool.{or_right}
use Rattle.httparse.specs.Spans.{header_bytes}
use Rattle.fts_wire.specs.Fields.{is_close}
use Rattle.fts_wire.proofs.Values.{value_here, no_header}
use Rattle.fts_wire.proofs.fields.ends_connection.Goals as goal

pub returns-then-is_close : goal.returns-then-is_close
returns-then-is_close c =
    sym (or_right (c.args.minor == 0) _ (value_here is_close (codes "connection")
    (header_bytes c.args.head.now) c.args.headers.now c.loop-header.header-index no_header (omega arith)
    (sym c.is_named.ensures ∙ c.if-is_named.true) (ap is_close (sym c.of.ensures) ∙ sym c.is_close.ensures ∙ c.if-is_close.true)))
