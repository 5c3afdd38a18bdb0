use Rattle.std.proofs.Common.{◌≡◌, ◌-◌, ◌∙◌, Ok, Err, take, length, refl, subst, arith, rules}
use Rattle.std.proofs.lemmas.List.{length-take-le}
use Rattle.fts_store.specs.Store.{IsTold, bytes_of, place_at}
use Rattle.fts_copy.specs.Script.{LeadsTo, log_of, reads_piece}
use Rattle.fts_copy.proofs.Filling.{none_filled, more_filled}
use Rattle.fts_copy.proofs.Playing.{piece_leads, then_leads, read_enough, read_goes_on, read_finds_end, read_fails}
use Rattle.fts_copy.proofs.reading.fill.Goals as goal

pub loop-filled-init : goal.loop-filled-init
loop-filled-init g c = record {
  inside = omega arith;
  same = refl;
  no_fewer = omega arith;
  times = c.args.wanted;
  enough = omega arith;
  script = λ answers next. piece_leads (place_at c.args.at) c.args.offset c.args.wanted next (log_of (g.E.Store.calls c.args.store.now) answers);
  read = λ told. none_filled (bytes_of ((g.E.Store.state c.args.store.now).files (place_at c.args.at))) c.args.offset c.args.buffer.now;
}

pub loop-filled-preserved : goal.loop-filled-preserved
loop-filled-preserved g c =
    let same : g.E.Store.state c.loop-filled.store ≡ g.E.Store.state c.args.store.now = c.loop-filled.invariant.same in
    let gave : c.read_more.result ≡ Ok c.in_ok-count.count = search rules in
    record {
      inside = c.in_ok-count.ensures.within;
      same = c.read_more.ensures.same ∙ same;
      no_fewer = omega (arith, c.read_more.ensures.cause.keeps, c.loop-filled.invariant.no_fewer);
      times = c.loop-filled.invariant.times - 1;
      enough = omega (arith, c.loop-filled.invariant.enough, c.if-count-eq0.false);
      script = λ answers next. then_leads (c.loop-filled.invariant.script answers next)
          (read_goes_on (place_at c.args.at) c.args.offset c.args.wanted c.loop-filled.invariant.times next c.loop-filled.buffer c.read_more.new.buffer c.loop-filled.filled c.in_ok-count.count
          (g.E.Store.calls c.loop-filled.store) (g.E.Store.calls c.read_more.new.store) answers c.read_more.result gave (omega (arith, c.loop-filled.invariant.enough)) (omega arith) (omega arith) (omega arith)
          c.read_more.ensures.kept c.read_more.ensures.called c.in_ok-count.ensures.within c.if-count-eq0.false);
      read = λ told.
          let now : IsTold (g.E.Store.state c.loop-filled.store) = rw same told in
          more_filled (bytes_of ((g.E.Store.state c.args.store.now).files (place_at c.args.at))) c.args.offset c.loop-filled.buffer c.read_more.new.buffer c.loop-filled.filled c.in_ok-count.count
          (c.loop-filled.invariant.read told) (rw same at (c.in_ok-count.ensures.bytes now));
    }

pub returns-in_err-count-clause-script : goal.returns-in_err-count-clause-script
returns-in_err-count-clause-script g c answers next =
    let gave : c.read_more.result ≡ Err c.in_err-count.field-0.0 = search rules in
    let is : c.from_residual.result ≡ Err c.in_err-count.field-0.0 = search rules in
    rw is (then_leads (c.loop-filled.invariant.script answers next)
    (read_fails (place_at c.args.at) c.args.offset c.args.wanted c.loop-filled.invariant.times next c.loop-filled.buffer c.read_more.new.buffer c.loop-filled.filled c.in_err-count.field-0.0
    (g.E.Store.calls c.loop-filled.store) (g.E.Store.calls c.read_more.new.store) answers c.read_more.result gave (omega (arith, c.loop-filled.invariant.enough)) (omega arith) (omega arith) c.read_more.ensures.called))

pub returns-then-count-eq0-clause-script : goal.returns-then-count-eq0-clause-script
returns-then-count-eq0-clause-script g c answers next =
    let gave : c.read_more.result ≡ Ok c.in_ok-count.count = search rules in
    then_leads (c.loop-filled.invariant.script answers next)
    (read_finds_end (place_at c.args.at) c.args.offset c.args.wanted c.loop-filled.invariant.times next c.loop-filled.buffer c.read_more.new.buffer c.loop-filled.filled c.in_ok-count.count
    (g.E.Store.calls c.loop-filled.store) (g.E.Store.calls c.read_more.new.store) answers c.read_more.result gave (omega (arith, c.loop-filled.invariant.enough)) (omega arith) (omega arith)
    c.read_more.ensures.kept c.read_more.ensures.called c.if-count-eq0.true)

pub returns-clause-script : goal.returns-clause-script
returns-clause-script g c answers next =
    let long : length (take c.loop-filled.filled c.loop-filled.buffer) ≡ c.loop-filled.filled = length-take-le c.loop-filled.filled c.loop-filled.buffer (omega arith) in
    subst (λ s. LeadsTo (reads_piece (place_at c.args.at) c.args.offset c.args.wanted next) (log_of (g.E.Store.calls c.args.store.now) answers) s
    (log_of (g.E.Store.calls c.loop-filled.store) answers))
    (read_enough (place_at c.args.at) c.args.offset c.args.wanted next c.loop-filled.invariant.times (take c.loop-filled.filled c.loop-filled.buffer) (omega arith))
    (c.loop-filled.invariant.script answers next)
