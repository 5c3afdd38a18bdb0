use Rattle.std.proofs.Common.{◌≡◌, ◌≤◌, ◌-◌, ◌*◌, ℕ, Ok, List, []}
use Rattle.md5.specs.Md5.{Holds}
use Rattle.std.specs.Prelude.{min}
use Rattle.fts_copy.specs.declared.pieces.TheConstants.{PIECE_BYTES}
use Rattle.fts_copy.specs.Steps.{KnowsSource, MatchedSoFar}
use Rattle.fts_copy.specs.Script.{Script, LeadsTo, log_of, matches}
use Rattle.fts_copy.specs.Watch.{Watched, pieces}
use Rattle.fts_copy.proofs.read_back.match_pieces.Given as goal

-- the pieces before this one are the same, and the watch was asked as often
abbrev pub invariant-loop-piece : goal.invariant-loop-piece
invariant-loop-piece g l = record {
  same : g.E.Store.state l.store ≡ g.E.Store.state l.initial.store;
  matched : KnowsSource l.order (g.E.Store.state l.initial.store) l.size
      → MatchedSoFar l.order (g.E.Store.state l.initial.store) l.hasher (min (l.piece * PIECE_BYTES) l.size);
  no_fewer : g.E.Store.faults l.initial.store ≤ g.E.Store.faults l.store;
  watched : Watched g.V.Watch.noes g.V.Watch.askings g.V.Watch.later l.piece l.initial.watch l.watch (Ok l.piece);
  -- what was read back so far, and what is left to read
  read : List ℕ;
  holds : Holds l.hasher read;
  script : (next : List ℕ → Script) → LeadsTo (matches l.order l.size next (pieces l.size) 0 []) (log_of (g.E.Store.calls l.initial.store) (g.V.Watch.answers l.initial.watch))
      (matches l.order l.size next (pieces l.size - l.piece) (l.piece * PIECE_BYTES) read) (log_of (g.E.Store.calls l.store) (g.V.Watch.answers l.watch));
}
