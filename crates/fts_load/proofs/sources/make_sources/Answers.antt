-- One file more: what it drew, and what the store is then.
use Rattle.std.proofs.Common.{◌≡◌, ◌+◌, refl, ap, sym, ◌∙◌, arith}
use Rattle.fts_load.specs.Sources.{rising_bytes, source_bytes}
use Rattle.fts_load.proofs.Drawing.{none_drawn, drawn_on, drawn_bytes}
use Rattle.fts_load.proofs.Making.{calls_none, files_more, others_more, calls_more, rose_from}
use Rattle.fts_load.proofs.sources.make_sources.Goals as goal

pub loop-made-init : goal.loop-made-init
loop-made-init g c = record {
  random = c.new-random.ensures ∙ none_drawn c.args.number;
  stays = record { told = refl; faithful = refl };
  files = λ told faithful place. refl;
  others = λ told place none. refl;
  calls = calls_none (g.E.Store.calls c.args.store.now);
  counts = omega arith;
}

pub piece-bytes-requires-clause-rising : goal.piece-bytes-requires-clause-rising
piece-bytes-requires-clause-rising g c = c.fill.ensures ∙ ap (rising_bytes 0) (sym c.fill.auto.buffer)

pub returns-in-Err : goal.returns-in-Err
returns-in-Err g c =
    let inv = c.loop-made.invariant in
    let made = c.loop-made.made in
    record {
      stays = record { told = c.make_source.ensures.stays.told ∙ inv.stays.told; faithful = c.make_source.ensures.stays.faithful ∙ inv.stays.faithful };
      files = λ told faithful. record {
        made = made;
        few = omega (arith, c.loop-made-test.true, c.files-count.ensures.count);
        files = λ place apart. c.make_source.ensures.others (inv.stays.told ∙ told) place apart ∙ inv.files told faithful place;
      };
      others = λ told. others_more c.args.endpoint.now (made + 1) (g.E.Store.state c.args.store.now).files (g.E.Store.state c.loop-made.store).files
          (g.E.Store.state c.make_source.new.store).files
          (λ place none. none (made + 1) (omega arith) (omega (arith, c.loop-made-test.true, c.files-count.ensures.count)))
          (inv.others told) (c.make_source.ensures.others (inv.stays.told ∙ told));
      calls = λ done is. absurd cc;
      counts = record {
        keeps = omega (arith, inv.counts, c.in-Err.ensures.cause.keeps);
        cause = λ failed. rose_from (g.E.Store.faults c.args.store.now) (g.E.Store.faults c.loop-made.store) (g.E.Store.faults c.make_source.new.store) inv.counts
            (c.in-Err.ensures.cause.cause failed);
      };
    }

pub loop-made-preserved : goal.loop-made-preserved
loop-made-preserved g c =
    let inv = c.loop-made.invariant in
    let made = c.loop-made.made in
    let bytes : c.piece-bytes.result.now ≡ source_bytes c.args.number (made + 1) = drawn_bytes c.args.number made c.next_word.result c.next_word-in-loop-made.result
    c.loop-made.random c.next_word.new.self c.next_word-in-loop-made.new.self c.piece-bytes.result.now inv.random c.next_word.ensures c.next_word-in-loop-made.ensures
    c.piece-bytes.ensures in
    record {
      random = drawn_on c.args.number made c.next_word.result c.next_word-in-loop-made.result c.loop-made.random c.next_word.new.self c.next_word-in-loop-made.new.self
          inv.random c.next_word.ensures c.next_word-in-loop-made.ensures;
      stays = record { told = c.make_source.ensures.stays.told ∙ inv.stays.told; faithful = c.make_source.ensures.stays.faithful ∙ inv.stays.faithful };
      files = λ told faithful. files_more c.args.endpoint.now c.args.number made (g.E.Store.state c.args.store.now).files (g.E.Store.state c.loop-made.store).files
          (g.E.Store.state c.make_source.new.store).files c.piece-bytes.result.now (inv.files told faithful) bytes
          (c.in-Ok.ensures.made (inv.stays.told ∙ told) (inv.stays.faithful ∙ faithful));
      others = λ told. others_more c.args.endpoint.now (made + 1) (g.E.Store.state c.args.store.now).files (g.E.Store.state c.loop-made.store).files
          (g.E.Store.state c.make_source.new.store).files
          (λ place none. none (made + 1) (omega arith) (omega (arith, c.loop-made-test.true, c.files-count.ensures.count)))
          (inv.others told) (c.make_source.ensures.others (inv.stays.told ∙ told));
      calls = calls_more c.args.endpoint.now c.args.number made (g.E.Store.calls c.args.store.now) (g.E.Store.calls c.loop-made.store) (g.E.Store.calls c.make_source.new.store)
          c.piece-bytes.result.now inv.calls bytes c.in-Ok.ensures.called;
      counts = omega (arith, inv.counts, c.make_source.ensures.cause.keeps);
    }
