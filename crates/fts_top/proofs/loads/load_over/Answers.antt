-- A session ran behind the making of the files.
use Rattle.std.proofs.Common.{List, ℕ, Some, Ok, inr, subst}
use Rattle.fts_store.specs.declared.store.StoreFailed.{StoreFailed}
use Rattle.fts_load.specs.Made.{MakesSources}
use Rattle.fts_session.specs.Connections.{reading_of}
use Rattle.fts_top.proofs.loads.load_over.Goals as goal

pub hold_session-done-requires : goal.hold_session-done-requires
hold_session-done-requires g c = record { ready = c.requires.ready c.make_sources.new.store }

pub returns-clause-load : goal.returns-clause-load
returns-clause-load g c = inr (record {
  made = c.make_sources.new.store;
  sources = subst (λ (source : List ℕ). MakesSources {E = StoreFailed} source c.args.number (g.E.Store.state c.args.store.now) (g.E.Store.state c.make_sources.new.store)
      (g.E.Store.calls c.args.store.now) (g.E.Store.calls c.make_sources.new.store) (g.E.Store.faults c.args.store.now) (g.E.Store.faults c.make_sources.new.store) (Ok tt))
      c.as_str.ensures.text c.in-Ok.ensures;
  rest = reading_of (Some c.hold_session-done.new.input.left) c.hold_session-done.new.input.reads;
  ran_end = c.hold_session-done.result.end;
  serves = c.hold_session-done.ensures.serves;
  ends = c.end_load-end.ensures.ends;
})
