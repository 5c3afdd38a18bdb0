use Rattle.std.proofs.Common.{◌≤◌, ◌-◌, ◌*◌, ℕ, Ok, List, []}
use Rattle.md5.specs.Md5.{Holds}
use Rattle.std.specs.Prelude.{min}
use Rattle.fts_store.specs.Store.{IsTold, SameBut, Stays}
use Rattle.fts_copy.specs.declared.pieces.TheConstants.{PIECE_BYTES}
use Rattle.fts_copy.specs.Copy.{part_of}
use Rattle.fts_copy.specs.Steps.{KnowsSource, PutSoFar}
use Rattle.fts_copy.specs.Script.{Script, LeadsTo, log_of, writes}
use Rattle.fts_copy.specs.Watch.{Watched, pieces}
use Rattle.fts_copy.proofs.writing.put_pieces.Given as goal

-- the pieces before this one were put, and the watch was asked as often
abbrev pub invariant-loop-piece : goal.invariant-loop-piece
invariant-loop-piece g l = record {
  stays : Stays (g.E.Store.state l.initial.store) (g.E.Store.state l.store);
  others : IsTold (g.E.Store.state l.initial.store) → SameBut (part_of l.order) (g.E.Store.state l.initial.store).files (g.E.Store.state l.store).files;
  puts : KnowsSource l.order (g.E.Store.state l.initial.store) l.size
      → PutSoFar l.order (g.E.Store.state l.initial.store) (g.E.Store.state l.store) l.hasher (min (l.piece * PIECE_BYTES) l.size);
  no_fewer : g.E.Store.faults l.initial.store ≤ g.E.Store.faults l.store;
  watched : Watched g.V.Watch.noes g.V.Watch.askings g.V.Watch.later l.piece l.initial.watch l.watch (Ok l.piece);
  -- what was written so far, and what is left to write
  written : List ℕ;
  holds : Holds l.hasher written;
  script : (next : List ℕ → Script) → LeadsTo (writes l.order l.size next (pieces l.size) 0 []) (log_of (g.E.Store.calls l.initial.store) (g.V.Watch.answers l.initial.watch))
      (writes l.order l.size next (pieces l.size - l.piece) (l.piece * PIECE_BYTES) written) (log_of (g.E.Store.calls l.store) (g.V.Watch.answers l.watch));
}
