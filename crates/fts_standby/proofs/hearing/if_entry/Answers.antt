-- Bytes of which an entry was read, and of which none was.
use Rattle.std.proofs.Common.{◌≡◌, Ok, Err, sym, subst, List, ℕ}
use Rattle.fts_record.specs.Reading.{entry_in as entry_of_bytes}
use Rattle.fts_standby.proofs.Bodies.{entry-read, entry-refused}
use Rattle.fts_standby.proofs.hearing.if_entry.Goals as goal

pub returns-in-Ok : goal.returns-in-Ok
returns-in-Ok c = sym (entry-read c.args.bytes.items c.in-Ok.field-0
    (subst (λ (bytes : List ℕ). entry_of_bytes bytes ≡ Ok c.in-Ok.field-0) c.deref.ensures.value c.in-Ok.ensures.exact))

pub returns-in-Err-BadEntry : goal.returns-in-Err-BadEntry
returns-in-Err-BadEntry c = sym (entry-refused c.args.bytes.items c.in-Err-BadEntry.field-0-0
    (subst (λ (bytes : List ℕ). entry_of_bytes bytes ≡ Err c.in-Err-BadEntry.field-0-0) c.deref.ensures.value
    (rw c.in-Err-BadEntry.field-0-is at c.in-Err-BadEntry.ensures.exact)))
