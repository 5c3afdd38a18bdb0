-- The bytes of an entry are a body.
use Rattle.std.proofs.Common.{arith}
use Rattle.fts_record.specs.Laws.{AreBytes}
use Rattle.fts_record.specs.Reading.{read_of}
use Rattle.fts_standby.proofs.NextEntries.{read_some}
use Rattle.fts_standby.proofs.following.append.Goals as goal

pub append-requires-clause-body : goal.append-requires-clause-body
append-requires-clause-body g c =
    let are : AreBytes c.args.entry.now = λ i. omega (arith, c.type_inv.entry i) in
    let read = read_some (read_of c.args.entry.now) c.requires.entry in
    record {
      some = c.what_is_read_is_a_body.ensures.some c.args.entry.now read.0 are read.1;
      most = c.what_is_read_is_a_body.ensures.short c.args.entry.now read.0 are read.1;
    }
