-- The parser's answer is a whole head, or none.
use Rattle.std.proofs.Common.{Ok, Err}
use Rattle.httparse.specs.declared.Status.TheVariants.{Complete, Partial}
use Rattle.fts_wire.proofs.Parts.{parts_of, no_head}
use Rattle.fts_wire.proofs.look.parse_head.Goals as goal

pub returns-then-spans-own : goal.returns-then-spans-own
returns-then-spans-own c =
    parts_of c.args.own.now c.parse_request.new.headers c.in-Ok-Complete.spans c.requires.head
    (rw c.in-Ok-Complete.field-0-is at c.in-Ok-Complete.ensures.complete)
    (rw c.in-Ok-Complete.field-0-is at c.in-Ok-Complete.ensures.within) c.if-spans-own.true

pub returns-else-spans-own : goal.returns-else-spans-own
returns-else-spans-own c =
    no_head c.args.own.now _ c.parse_request.new.headers (Ok (Complete c.in-Ok-Complete.spans)) c.requires.head c.requires.room
    (rw c.in-Ok-Complete.field-0-is at c.in-Ok-Complete.ensures.found) c.if-spans-own.false

pub returns-in-Ok-Partial : goal.returns-in-Ok-Partial
returns-in-Ok-Partial c =
    no_head c.args.own.now _ c.parse_request.new.headers (Ok Partial) c.requires.head c.requires.room
    (rw c.in-Ok-Partial.field-0-is at c.in-Ok-Partial.ensures.found) tt

pub returns-in-Err : goal.returns-in-Err
returns-in-Err c = no_head c.args.own.now _ c.parse_request.new.headers (Err c.in-Err.field-0) c.requires.head c.requires.room c.in-Err.ensures.found tt
