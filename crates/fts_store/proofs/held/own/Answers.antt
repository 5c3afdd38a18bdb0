use Rattle.std.proofs.Common.{◌≡◌, sym, ◌∙◌, None, List, subst}
use Rattle.std.specs.List.{position}
use Rattle.fts_store.specs.Store.{place_at}
use Rattle.fts_store.specs.Held.{given_at, is_entry_at}
use Rattle.fts_store.specs.declared.held.Entry.{Entry}
use Rattle.fts_store.proofs.Entries.{over-added}
use Rattle.fts_store.proofs.held.own.Goals as goal

pub returns-in_ok-entry_for-in-None-clause-same : goal.returns-in_ok-entry_for-in-None-clause-same
returns-in_ok-entry_for-in-None-clause-same c =
    let none : position (is_entry_at (place_at c.args.at)) c.args.made.now.items ≡ None =
    subst (λ (l : List Entry). position (is_entry_at (place_at c.args.at)) l ≡ None) c.deref.ensures.value (sym c.entry_of.ensures ∙ c.in-None.is) in
    over-added (given_at c.args.files.now) c.args.made.now.items c.add.new.made.items c.in_ok-entry_for-in-None.field-0 (place_at c.args.at) c.add.result
    c.add.ensures.added c.add.ensures.err none c.in_ok-entry_for-in-None.ensures.place c.in_ok-entry_for-in-None.ensures.file
