use Rattle.std.proofs.Common.{◌≡◌, ◌∙◌, ◌+◌, ◌-◌, ◌*◌, Ok, Err, [], ◌++◌, take, refl, sym, subst, arith, rules}
use Rattle.fts_store.specs.Store.{StoreState, IsTold}
use Rattle.fts_copy.specs.Steps.{MatchedSoFar, MatchesPiece}
use Rattle.fts_copy.specs.declared.pieces.TheConstants.{PIECE_BYTES}
use Rattle.fts_copy.specs.Watch.{pieces}
use Rattle.fts_copy.specs.Script.{log_of, matches}
use Rattle.fts_copy.proofs.Playing.{then_leads}
use Rattle.fts_copy.proofs.Following.{first_matches, more_matches, all_matches}
use Rattle.fts_copy.proofs.Putting.{piece_end, piece_at_start}
use Rattle.fts_copy.proofs.Matching.{more_matched, matching_ends}
use Rattle.fts_copy.proofs.Watching.{then_watched, again_watched}
use Rattle.fts_copy.proofs.read_back.match_pieces.Goals as goal

pub returns-in_err-match_piece-clause-matches : goal.returns-in_err-match_piece-clause-matches
returns-in_err-match_piece-clause-matches g c =
    let is : c.from_residual.result ≡ Err c.in_err-match_piece.field-0.0 = search rules in
    let start = piece_at_start c.loop-piece.piece c.args.size c.piece_start-offset.result c.piece_start-offset.ensures.start c.piece_start-offset.ensures.inside in
    let here : MatchesPiece c.args.order.now (g.E.Store.state c.args.store.now) c.loop-piece.hasher c.match_piece.new.hasher c.piece_start-offset.result c.piece_len-wanted.result (Err c.in_err-match_piece.field-0.0) =
    subst (λ (store : StoreState). MatchesPiece c.args.order.now store c.loop-piece.hasher c.match_piece.new.hasher c.piece_start-offset.result c.piece_len-wanted.result (Err c.in_err-match_piece.field-0.0))
    c.loop-piece.invariant.same c.in_err-match_piece.ensures.matches in
    rw is (matching_ends c.args.order.now (g.E.Store.state c.args.store.now) c.loop-piece.hasher c.match_piece.new.hasher c.piece_start-offset.result c.piece_len-wanted.result c.args.size
    c.in_err-match_piece.field-0.0 (omega (arith, c.piece_start-offset.ensures.inside))
    (λ knows. subst (MatchedSoFar c.args.order.now (g.E.Store.state c.args.store.now) c.loop-piece.hasher) start (c.loop-piece.invariant.matched knows)) here)

pub loop-piece-preserved : goal.loop-piece-preserved
loop-piece-preserved g c =
    let same : g.E.Store.state c.loop-piece.store ≡ g.E.Store.state c.args.store.now = c.loop-piece.invariant.same in
    record {
      same = c.match_piece.ensures.same ∙ same;
      matched = λ knows.
          let told_now : IsTold (g.E.Store.state c.loop-piece.store) = rw same knows.told in
          let start = piece_at_start c.loop-piece.piece c.args.size c.piece_start-offset.result c.piece_start-offset.ensures.start c.piece_start-offset.ensures.inside in
          let end = piece_end c.loop-piece.piece c.args.size c.piece_start-offset.result c.piece_len-wanted.result c.piece_start-offset.ensures.start c.piece_start-offset.ensures.inside c.piece_len-wanted.ensures in
          let here : MatchesPiece c.args.order.now (g.E.Store.state c.args.store.now) c.loop-piece.hasher c.match_piece.new.hasher c.piece_start-offset.result c.piece_len-wanted.result (Ok c.in_ok-match_piece.field-0) =
          rw same at c.in_ok-match_piece.ensures.matches in
          subst (MatchedSoFar c.args.order.now (g.E.Store.state c.args.store.now) c.match_piece.new.hasher) (sym end)
          (more_matched c.args.order.now (g.E.Store.state c.args.store.now) c.loop-piece.hasher c.match_piece.new.hasher c.piece_start-offset.result c.piece_len-wanted.result
          (subst (MatchedSoFar c.args.order.now (g.E.Store.state c.args.store.now) c.loop-piece.hasher) start (c.loop-piece.invariant.matched knows))
          (here knows.told).0 (here knows.told).1);
      no_fewer = omega (arith, c.match_piece.ensures.counted.no_fewer, c.loop-piece.invariant.no_fewer);
      watched = again_watched g.V.Watch.noes g.V.Watch.askings g.V.Watch.later (c.loop-piece.piece + 1) c.args.watch.now c.match_piece.new.watch c.in_ok-match_piece.field-0 (c.loop-piece.piece + 1)
          (then_watched g.V.Watch.noes g.V.Watch.askings g.V.Watch.later c.loop-piece.piece 1 c.args.watch.now c.loop-piece.watch c.match_piece.new.watch c.loop-piece.piece (Ok c.in_ok-match_piece.field-0)
          g.met.V.Watch.passes c.loop-piece.invariant.watched c.in_ok-match_piece.ensures.watched);
      read = c.loop-piece.invariant.read ++ take c.in_ok-match_piece.field-0 c.match_piece.new.second;
      holds = c.in_ok-match_piece.ensures.hashed c.loop-piece.invariant.read c.loop-piece.invariant.holds;
      script = λ next. then_leads (c.loop-piece.invariant.script next) (then_leads (more_matches c.args.order.now c.args.size (pieces c.args.size) c.loop-piece.piece c.piece_start-offset.result c.piece_len-wanted.result next c.loop-piece.invariant.read (log_of (g.E.Store.calls c.loop-piece.store) (g.V.Watch.answers c.loop-piece.watch)) (omega arith) c.piece_start-offset.ensures.start c.piece_len-wanted.ensures)
          (c.in_ok-match_piece.ensures.script (λ bytes. matches c.args.order.now c.args.size next (pieces c.args.size - (c.loop-piece.piece + 1)) ((c.loop-piece.piece + 1) * PIECE_BYTES) (c.loop-piece.invariant.read ++ bytes))));
    }

pub loop-piece-init : goal.loop-piece-init
loop-piece-init g c = record {
  same = refl;
  matched = search rules;
  no_fewer = omega arith;
  watched = search rules;
  read = [];
  holds = search rules;
  script = λ next. first_matches c.args.order.now c.args.size (pieces c.args.size) next (log_of (g.E.Store.calls c.args.store.now) (g.V.Watch.answers c.args.watch.now));
}

pub returns-in_err-match_piece-clause-script : goal.returns-in_err-match_piece-clause-script
returns-in_err-match_piece-clause-script g c next =
    let is : c.from_residual.result ≡ Err c.in_err-match_piece.field-0.0 = search rules in
    rw is (then_leads (c.loop-piece.invariant.script next) (then_leads (more_matches c.args.order.now c.args.size (pieces c.args.size) c.loop-piece.piece c.piece_start-offset.result c.piece_len-wanted.result next c.loop-piece.invariant.read (log_of (g.E.Store.calls c.loop-piece.store) (g.V.Watch.answers c.loop-piece.watch)) (omega arith) c.piece_start-offset.ensures.start c.piece_len-wanted.ensures)
    (c.in_err-match_piece.ensures.script (λ bytes. matches c.args.order.now c.args.size next (pieces c.args.size - (c.loop-piece.piece + 1)) ((c.loop-piece.piece + 1) * PIECE_BYTES) (c.loop-piece.invariant.read ++ bytes)))))

pub returns-clause-script : goal.returns-clause-script
returns-clause-script g c next =
    then_leads (c.loop-piece.invariant.script next)
    (all_matches c.args.order.now c.args.size (pieces c.args.size) c.loop-piece.piece next c.loop-piece.invariant.read c.finalize.result (log_of (g.E.Store.calls c.loop-piece.store) (g.V.Watch.answers c.loop-piece.watch)) (omega arith)
    (c.finalize.ensures c.loop-piece.invariant.read c.loop-piece.invariant.holds))
