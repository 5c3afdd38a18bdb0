-- The loop that reads the items of a list: at a bad URL, and behind a good item.
use Rattle.std.proofs.lemmas.Result.{err_from_is_err_and}
use Rattle.fts_config.proofs.BadUrls.{bad_here, good_here, read_here, gives_bad, gives_good}
use Rattle.fts_config.proofs.reading.read_all.Goals as goal

pub returns-in_err-read : goal.returns-in_err-read
returns-in_err-read g c =
    let p = err_from_is_err_and c.from_residual.result c.from_residual.ensures.1 in
    rw (p.1, p.2) (gives_bad _ _ _ _ _ c.in_err-read.ensures
    (λ fault bad. bad_here g.T.Entry.urls c.args.entries.now c.loop-entry.entry-index c.entry-item.result fault c.loop-entry-test.true c.entry-item.is
    c.loop-entry.invariant.left bad))

pub loop-entry-preserved : goal.loop-entry-preserved
loop-entry-preserved g c =
    let good = gives_good _ _ c.in_ok-read.field-0 c.in_ok-read.ensures in
    record {
      left = good_here g.T.Entry.urls c.args.entries.now c.loop-entry.entry-index c.entry-item.result c.loop-entry-test.true c.entry-item.is
          c.loop-entry.invariant.left good.0;
      read = read_here g.T.Entry.value c.args.entries.now c.loop-entry.entry-index c.entry-item.result c.loop-entry.items c.push.new.self
          c.in_ok-read.field-0 c.loop-entry-test.true c.entry-item.is c.loop-entry.invariant.read good.1 c.in-Ok.ensures.ok;
    }
