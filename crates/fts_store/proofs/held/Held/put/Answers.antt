use Rattle.fts_store.specs.Held.{files_over, kept_file}
use Rattle.fts_store.specs.Store.{place_at}
use Rattle.fts_store.proofs.Places.{put_over}
use Rattle.fts_store.proofs.Entries.{entry_inside}
use Rattle.fts_store.proofs.held.Held.put.Goals as goal

pub exchange-requires : goal.exchange-requires
exchange-requires c = entry_inside c.own.new.made.items c.in_ok-n.n (place_at c.args.at) c.in_ok-n.ensures.entry

pub returns-clause-ok : goal.returns-clause-ok
returns-clause-ok c =
    put_over (files_over c.args.self.now.given c.args.self.now.made.items) (files_over c.args.self.now.given c.own.new.made.items)
    (files_over c.args.self.now.given c.exchange.new.made.items) (place_at c.args.at) (kept_file c.args.file)
    c.own.ensures.same (c.exchange.ensures.put c.args.self.now.given (place_at c.args.at) c.in_ok-n.ensures.entry)
