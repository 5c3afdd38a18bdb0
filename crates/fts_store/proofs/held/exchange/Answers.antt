use Rattle.std.proofs.Common.{sym, ◌∙◌, ap}
use Rattle.fts_store.specs.Held.{given_at, kept_file, entry_place}
use Rattle.fts_store.specs.declared.held.Entry.{Entry}
use Rattle.fts_store.proofs.Entries.{over-entry, over-set}
use Rattle.fts_store.proofs.held.exchange.Goals as goal

pub returns-clause-given : goal.returns-clause-given
returns-clause-given c files place is =
    ap kept_file c.replace.ensures.value ∙ ap (λ (e : Entry). kept_file e.file) c.index_mut.ensures.value
    ∙ sym (over-entry (given_at files) c.args.made.now.items c.args.n c.index_mut.result.now place c.requires is)

pub returns-clause-put : goal.returns-clause-put
returns-clause-put c files place is =
    rw (← c.replace.ensures.after)
    (over-set (given_at files) c.args.made.now.items c.args.n c.index_mut.result.now
    (record { endpoint = c.index_mut.result.now.endpoint; path = c.index_mut.result.now.path; file = c.replace.new.dest })
    place is (ap entry_place c.index_mut.ensures.value))
