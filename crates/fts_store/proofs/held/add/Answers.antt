use Rattle.std.proofs.Common.{◌≡◌, length, arith}
use Rattle.fts_store.proofs.Entries.{entry-push}
use Rattle.fts_store.proofs.held.add.Goals as goal

pub returns-clause-entry : goal.returns-clause-entry
returns-clause-entry c =
    let place : c.len-place.result ≡ length c.args.made.now.items = omega arith in
    rw (place, c.push_reserved.ensures.items, c.reserve.ensures.items) (entry-push c.args.made.now.items c.args.entry c.requires)
