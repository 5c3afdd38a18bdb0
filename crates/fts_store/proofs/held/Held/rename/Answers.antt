use Rattle.std.proofs.Common.{◌∙◌}
use Rattle.fts_store.specs.Held.{files_over, kept_file, IsEntryOf}
use Rattle.fts_store.specs.Store.{place_at}
use Rattle.fts_tables.specs.declared.places.Place.{Place}
use Rattle.fts_store.proofs.Places.{move_over}
use Rattle.fts_store.proofs.Entries.{entry_inside}
use Rattle.fts_store.proofs.held.Held.rename.Goals as goal

pub exchange-file-requires : goal.exchange-file-requires
exchange-file-requires c = entry_inside c.own-2.new.made.items c.in_ok-source.source (place_at c.args.from)
    (c.own-2.ensures.stay (place_at c.args.from) c.in_ok-source.source c.in_ok-source.ensures.entry)

pub exchange-requires : goal.exchange-requires
exchange-requires c = entry_inside c.exchange-file.new.made.items c.in_ok-target.target (place_at c.args.to)
    (c.exchange-file.ensures.stay (place_at c.args.to) ∙ c.in_ok-target.ensures.entry)

pub returns-clause-ok : goal.returns-clause-ok
returns-clause-ok c =
    let given = c.args.self.now.given in
    let from : Place = place_at c.args.from in
    let to : Place = place_at c.args.to in
    let source : IsEntryOf c.own-2.new.made.items c.in_ok-source.source from = c.own-2.ensures.stay from c.in_ok-source.source c.in_ok-source.ensures.entry in
    let target : IsEntryOf c.exchange-file.new.made.items c.in_ok-target.target to = c.exchange-file.ensures.stay to ∙ c.in_ok-target.ensures.entry in
    move_over (files_over given c.args.self.now.made.items) (files_over given c.own.new.made.items) (files_over given c.own-2.new.made.items)
    (files_over given c.exchange-file.new.made.items) (files_over given c.exchange.new.made.items) from to (kept_file c.exchange-file.result)
    (c.exchange-file.ensures.given given from source) c.own.ensures.same c.own-2.ensures.same
    (c.exchange-file.ensures.put given from source) (c.exchange.ensures.put given to target)
