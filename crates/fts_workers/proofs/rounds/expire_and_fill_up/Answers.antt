-- An expiry is tried, and then others are claimed.
use Rattle.std.proofs.Common.{◌++◌}
use Rattle.fts_workers.specs.Steps.{stand}
use Rattle.fts_workers.proofs.Accepted.{keeps_more}
use Rattle.fts_workers.proofs.Parts.{expires_then}
use Rattle.fts_workers.proofs.rounds.expire_and_fill_up.Goals as goal

pub fill_up-requires-clause-order : goal.fill_up-requires-clause-order
fill_up-requires-clause-order g c =
    let entries = c.requires.order.0 in
    let over = c.requires.order.1 in
    let walks = (c.in_default.ensures.part c.args.bench.now (g.W.Words.words c.args.words.now) entries over c.requires.none).walks in
    (entries ++ walks.added, walks.over entries over)

pub returns-in-Err-clause-part : goal.returns-in-Err-clause-part
returns-in-Err-clause-part g c =
    c.in-Err.ensures.part c.args.bench.now (g.W.Words.words c.args.words.now) c.requires.order.0 c.requires.order.1 c.requires.none

pub returns-clause-part : goal.returns-clause-part
returns-clause-part g c =
    let entries = c.requires.order.0 in
    let over = c.requires.order.1 in
    expires_then g.D.Disk.state g.D.Disk.faults c.args.bench.now.places c.fill_up.result
    (stand c.args.keep.now c.args.bench.now (g.C.Clock.moments c.args.clock.now) (g.W.Words.words c.args.words.now))
    (stand c.expire_once.new.keep c.args.bench.now (g.C.Clock.moments c.expire_once.new.clock) (g.W.Words.words c.args.words.now))
    (stand c.fill_up.new.keep c.fill_up.new.bench (g.C.Clock.moments c.fill_up.new.clock) (g.W.Words.words c.fill_up.new.words))
    (c.in_default.ensures.part c.args.bench.now (g.W.Words.words c.args.words.now) entries over c.requires.none) c.fill_up.ensures.part

pub returns-clause-keeps : goal.returns-clause-keeps
returns-clause-keeps g c = keeps_more g.D.Disk.state g.D.Disk.faults c.args.keep.now c.expire_once.new.keep c.fill_up.new.keep
    c.expire_once.ensures.keeps c.fill_up.ensures.keeps
