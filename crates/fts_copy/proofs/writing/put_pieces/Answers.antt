use Rattle.std.proofs.Common.{◌≡◌, ◌∙◌, ◌+◌, ◌-◌, ◌*◌, Ok, Err, [], ◌++◌, length, take, refl, sym, subst, arith, rules}
use Rattle.std.proofs.lemmas.List.{length-take-le}
use Rattle.fts_store.specs.Store.{IsTold}
use Rattle.fts_copy.specs.Copy.{part_of}
use Rattle.fts_copy.specs.Steps.{PutSoFar, PutsPiece}
use Rattle.fts_copy.specs.declared.pieces.TheConstants.{PIECE_BYTES}
use Rattle.fts_copy.specs.Watch.{pieces}
use Rattle.fts_copy.specs.Script.{log_of, unless_short, writes}
use Rattle.fts_copy.proofs.Playing.{then_leads}
use Rattle.fts_copy.proofs.Following.{first_writes, more_writes, all_writes, short_leads, whole_leads}
use Rattle.fts_copy.proofs.Putting.{but_more, more_put, piece_end, piece_at_start, piece_is_whole}
use Rattle.fts_copy.proofs.Watching.{both_stay, then_watched, again_watched}
use Rattle.fts_copy.proofs.writing.put_pieces.Goals as goal

pub loop-piece-preserved : goal.loop-piece-preserved
loop-piece-preserved g c =
    let old = g.E.Store.state c.args.store.now in
    let now = g.E.Store.state c.loop-piece.store in
    let new = g.E.Store.state c.put_piece.new.store in
    record {
      stays = both_stay old now new c.loop-piece.invariant.stays c.put_piece.ensures.stays;
      others = λ told.
          let told_now : IsTold now = c.loop-piece.invariant.stays.told ∙ told in
          let puts : PutsPiece c.args.order.now now new c.loop-piece.hasher c.put_piece.new.hasher c.piece_start-offset.result c.piece_len-wanted.result (Ok c.in_ok-count.count) = c.in_ok-count.ensures.puts told_now in
          but_more (part_of c.args.order.now) old.files now.files new.files (c.loop-piece.invariant.others told) puts.others;
      puts = λ knows.
          let told_now : IsTold now = c.loop-piece.invariant.stays.told ∙ knows.told in
          let start = piece_at_start c.loop-piece.piece c.args.size c.piece_start-offset.result c.piece_start-offset.ensures.start c.piece_start-offset.ensures.inside in
          let end = piece_end c.loop-piece.piece c.args.size c.piece_start-offset.result c.piece_len-wanted.result c.piece_start-offset.ensures.start c.piece_start-offset.ensures.inside c.piece_len-wanted.ensures in
          subst (PutSoFar c.args.order.now old new c.put_piece.new.hasher) (sym end)
          (more_put c.args.order.now old now new c.loop-piece.hasher c.put_piece.new.hasher c.piece_start-offset.result c.piece_len-wanted.result c.in_ok-count.count
          c.requires.apart.source c.loop-piece.invariant.stays (c.loop-piece.invariant.others knows.told)
          (subst (PutSoFar c.args.order.now old now c.loop-piece.hasher) start (c.loop-piece.invariant.puts knows)) (c.in_ok-count.ensures.puts told_now));
      no_fewer = omega (arith, c.put_piece.ensures.counted.no_fewer, c.loop-piece.invariant.no_fewer);
      watched = again_watched g.V.Watch.noes g.V.Watch.askings g.V.Watch.later (c.loop-piece.piece + 1) c.args.watch.now c.put_piece.new.watch c.in_ok-count.count (c.loop-piece.piece + 1)
          (then_watched g.V.Watch.noes g.V.Watch.askings g.V.Watch.later c.loop-piece.piece 1 c.args.watch.now c.loop-piece.watch c.put_piece.new.watch c.loop-piece.piece (Ok c.in_ok-count.count)
          g.met.V.Watch.passes c.loop-piece.invariant.watched c.in_ok-count.ensures.watched);
      written = c.loop-piece.invariant.written ++ take c.in_ok-count.count c.put_piece.new.buffer;
      holds = c.in_ok-count.ensures.hashed c.loop-piece.invariant.written c.loop-piece.invariant.holds;
      script = λ next.
          let long : length (take c.in_ok-count.count c.put_piece.new.buffer) ≡ c.in_ok-count.count = length-take-le c.in_ok-count.count c.put_piece.new.buffer (omega (arith, c.in_ok-count.ensures.within)) in
          then_leads (c.loop-piece.invariant.script next) (then_leads (more_writes c.args.order.now c.args.size (pieces c.args.size) c.loop-piece.piece c.piece_start-offset.result c.piece_len-wanted.result next c.loop-piece.invariant.written (log_of (g.E.Store.calls c.loop-piece.store) (g.V.Watch.answers c.loop-piece.watch)) (omega arith) c.piece_start-offset.ensures.start c.piece_len-wanted.ensures)
          (then_leads (c.in_ok-count.ensures.script (λ bytes. unless_short c.piece_start-offset.result c.piece_len-wanted.result bytes (writes c.args.order.now c.args.size next (pieces c.args.size - (c.loop-piece.piece + 1)) ((c.loop-piece.piece + 1) * PIECE_BYTES) (c.loop-piece.invariant.written ++ bytes))))
          (whole_leads c.piece_start-offset.result c.piece_len-wanted.result c.in_ok-count.count (take c.in_ok-count.count c.put_piece.new.buffer) (writes c.args.order.now c.args.size next (pieces c.args.size - (c.loop-piece.piece + 1)) ((c.loop-piece.piece + 1) * PIECE_BYTES) (c.loop-piece.invariant.written ++ take c.in_ok-count.count c.put_piece.new.buffer))
          (log_of (g.E.Store.calls c.put_piece.new.store) (g.V.Watch.answers c.put_piece.new.watch)) long c.if-count-wanted.false)));
    }

pub loop-piece-init : goal.loop-piece-init
loop-piece-init g c = record {
  stays = record { told = refl; faithful = refl };
  others = λ told place apart. refl;
  puts = search rules;
  no_fewer = omega arith;
  watched = search rules;
  written = [];
  holds = search rules;
  script = λ next. first_writes c.args.order.now c.args.size (pieces c.args.size) next (log_of (g.E.Store.calls c.args.store.now) (g.V.Watch.answers c.args.watch.now));
}

pub returns-in_err-count-clause-script : goal.returns-in_err-count-clause-script
returns-in_err-count-clause-script g c next =
    let is : c.from_residual.result ≡ Err c.in_err-count.field-0.0 = search rules in
    rw is (then_leads (c.loop-piece.invariant.script next) (then_leads (more_writes c.args.order.now c.args.size (pieces c.args.size) c.loop-piece.piece c.piece_start-offset.result c.piece_len-wanted.result next c.loop-piece.invariant.written (log_of (g.E.Store.calls c.loop-piece.store) (g.V.Watch.answers c.loop-piece.watch)) (omega arith) c.piece_start-offset.ensures.start c.piece_len-wanted.ensures)
    (c.in_err-count.ensures.script (λ bytes. unless_short c.piece_start-offset.result c.piece_len-wanted.result bytes (writes c.args.order.now c.args.size next (pieces c.args.size - (c.loop-piece.piece + 1)) ((c.loop-piece.piece + 1) * PIECE_BYTES) (c.loop-piece.invariant.written ++ bytes))))))

pub returns-then-count-wanted-clause-script : goal.returns-then-count-wanted-clause-script
returns-then-count-wanted-clause-script g c next =
    let long : length (take c.in_ok-count.count c.put_piece.new.buffer) ≡ c.in_ok-count.count = length-take-le c.in_ok-count.count c.put_piece.new.buffer (omega (arith, c.in_ok-count.ensures.within)) in
    then_leads (c.loop-piece.invariant.script next) (then_leads (more_writes c.args.order.now c.args.size (pieces c.args.size) c.loop-piece.piece c.piece_start-offset.result c.piece_len-wanted.result next c.loop-piece.invariant.written (log_of (g.E.Store.calls c.loop-piece.store) (g.V.Watch.answers c.loop-piece.watch)) (omega arith) c.piece_start-offset.ensures.start c.piece_len-wanted.ensures)
    (then_leads (c.in_ok-count.ensures.script (λ bytes. unless_short c.piece_start-offset.result c.piece_len-wanted.result bytes (writes c.args.order.now c.args.size next (pieces c.args.size - (c.loop-piece.piece + 1)) ((c.loop-piece.piece + 1) * PIECE_BYTES) (c.loop-piece.invariant.written ++ bytes))))
    (short_leads c.piece_start-offset.result c.piece_len-wanted.result c.in_ok-count.count (take c.in_ok-count.count c.put_piece.new.buffer) (writes c.args.order.now c.args.size next (pieces c.args.size - (c.loop-piece.piece + 1)) ((c.loop-piece.piece + 1) * PIECE_BYTES) (c.loop-piece.invariant.written ++ take c.in_ok-count.count c.put_piece.new.buffer))
    (log_of (g.E.Store.calls c.put_piece.new.store) (g.V.Watch.answers c.put_piece.new.watch)) long c.if-count-wanted.true)))

pub returns-clause-script : goal.returns-clause-script
returns-clause-script g c next =
    then_leads (c.loop-piece.invariant.script next)
    (all_writes c.args.order.now c.args.size (pieces c.args.size) c.loop-piece.piece next c.loop-piece.invariant.written c.finalize.result (log_of (g.E.Store.calls c.loop-piece.store) (g.V.Watch.answers c.loop-piece.watch)) (omega arith)
    (c.finalize.ensures c.loop-piece.invariant.written c.loop-piece.invariant.holds))

pub returns-then-count-wanted-clause-puts : goal.returns-then-count-wanted-clause-puts
returns-then-count-wanted-clause-puts g c knows =
    let old = g.E.Store.state c.args.store.now in
    let now = g.E.Store.state c.loop-piece.store in
    let told_now : IsTold now = c.loop-piece.invariant.stays.told ∙ knows.told in
    let whole : c.in_ok-count.count ≡ c.piece_len-wanted.result =
    piece_is_whole c.args.order.now old now (g.E.Store.state c.put_piece.new.store) c.loop-piece.hasher c.put_piece.new.hasher c.piece_start-offset.result c.piece_len-wanted.result c.args.size
    c.in_ok-count.count c.requires.apart.source (c.loop-piece.invariant.others knows.told) knows (omega arith) (c.in_ok-count.ensures.puts told_now) in
    absurd (omega (arith, whole, c.if-count-wanted.true))
