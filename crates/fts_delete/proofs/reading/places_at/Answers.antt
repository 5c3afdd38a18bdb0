-- The loop that reads places: where one is not read, after each place, and at the end.
use Rattle.std.proofs.lemmas.Result.{err_from_is_err_and}
use Rattle.fts_record.specs.Reading.{items_at}
use Rattle.fts_record.proofs.ListLoop.{goes_on, stops, is_done}
use Rattle.fts_delete.specs.Spelling.{place_at}
use Rattle.fts_delete.specs.Answers.{stop_of}
use Rattle.fts_delete.proofs.reading.places_at.Goals as goal

pub returns-in_err-place : goal.returns-in_err-place
returns-in_err-place c =
    let p = err_from_is_err_and c.from_residual.result c.from_residual.ensures.1 in
    rw (p.1, p.2) (stops place_at (stop_of c.in_err-place.field-0.0) c.loop.places c.args.count c.loop.counter c.loop.rest.now
    (items_at place_at c.args.count c.args.bytes.now) c.loop-test.true c.in_err-place.ensures c.loop.invariant)

pub loop-preserved : goal.loop-preserved
loop-preserved c =
    rw c.in-Ok.ensures.ok
    (goes_on place_at c.loop.places c.args.count c.loop.counter c.loop.rest.now c.in_ok-place.place c.in_ok-place.after.now
    (items_at place_at c.args.count c.args.bytes.now) c.loop-test.true c.in_ok-place.ensures c.loop.invariant)

pub returns : goal.returns
returns c = is_done place_at c.loop.places c.args.count c.loop.counter c.loop.rest.now
    (items_at place_at c.args.count c.args.bytes.now) c.loop-test.false c.loop.invariant
