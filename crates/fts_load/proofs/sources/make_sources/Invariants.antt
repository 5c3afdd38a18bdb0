use Rattle.std.proofs.Common.{◌≡◌, ◌≤◌}
use Rattle.fts_store.specs.Store.{IsTold, IsFaithful, Stays, Same}
use Rattle.fts_load.specs.Sources.{generator_behind, first_sources}
use Rattle.fts_load.specs.Made.{with_sources, with_calls_of, SameButSources}
use Rattle.fts_load.proofs.sources.make_sources.Given as goal

-- so many files were made, and drew their words
abbrev pub invariant-loop-made : goal.invariant-loop-made
invariant-loop-made g l = record {
  random : l.random ≡ generator_behind l.number l.made;
  stays : Stays (g.E.Store.state l.fn.store) (g.E.Store.state l.store);
  files : IsTold (g.E.Store.state l.fn.store) → IsFaithful (g.E.Store.state l.fn.store)
      → Same (g.E.Store.state l.store).files (with_sources (g.E.Store.state l.fn.store).files (first_sources l.endpoint l.number l.made));
  others : IsTold (g.E.Store.state l.fn.store) → SameButSources l.endpoint (g.E.Store.state l.fn.store).files (g.E.Store.state l.store).files;
  calls : g.E.Store.calls l.store ≡ with_calls_of (g.E.Store.calls l.fn.store) (first_sources l.endpoint l.number l.made);
  counts : g.E.Store.faults l.fn.store ≤ g.E.Store.faults l.store;
}
