-- What is held is worked off, and then an expiry is tried and others are claimed.
use Rattle.std.proofs.Common.{ap, subst, ◌++◌}
use Rattle.fts_workers.specs.Benches.{kept_of}
use Rattle.fts_workers.specs.Steps.{ExpiresAndFills, MakesNoCopy, stand}
use Rattle.fts_workers.proofs.Accepted.{keeps_more}
use Rattle.fts_workers.proofs.Rounded.{none_keeps, round_joined}
use Rattle.fts_workers.proofs.rounds.work_round.Goals as goal

pub expire_and_fill_up-requires-clause-order : goal.expire_and_fill_up-requires-clause-order
expire_and_fill_up-requires-clause-order g c =
    let walks = (c.in-Ok.ensures.part (g.W.Words.words c.args.words.now) c.args.bench.now.places).walks in
    let entries = c.requires.order.0 ++ walks.added in
    let over = walks.over c.requires.order.0 c.requires.order.1 in
    (entries, over)

pub expire_and_fill_up-requires-clause-none : goal.expire_and_fill_up-requires-clause-none
expire_and_fill_up-requires-clause-none g c = ap kept_of c.in-Ok.ensures.none

pub returns-in-Ok-clause-part : goal.returns-in-Ok-clause-part
returns-in-Ok-clause-part g c =
    let before = (stand c.args.keep.now c.args.bench.now (g.C.Clock.moments c.args.clock.now) (g.W.Words.words c.args.words.now)) in
    let mid = (stand c.work_off.new.keep c.work_off.new.bench (g.C.Clock.moments c.work_off.new.clock) (g.W.Words.words c.args.words.now)) in
    let after = (stand c.expire_and_fill_up.new.keep c.expire_and_fill_up.new.bench (g.C.Clock.moments c.expire_and_fill_up.new.clock)
    (g.W.Words.words c.expire_and_fill_up.new.words)) in
    round_joined g.D.Disk.state g.D.Disk.faults g.E.Store.state g.E.Store.calls g.E.Store.faults c.args.bench.now.places c.expire_and_fill_up.result
    before mid after c.args.store.now c.work_off.new.store c.in-Ok.ensures.none (c.in-Ok.ensures.part (g.W.Words.words c.args.words.now) c.args.bench.now.places)
    (subst (λ n. MakesNoCopy g.D.Disk.state g.D.Disk.faults (ExpiresAndFills n c.expire_and_fill_up.result) mid after) c.work_off.ensures.places
    c.expire_and_fill_up.ensures.part)

pub returns-in-Ok-clause-kept : goal.returns-in-Ok-clause-kept
returns-in-Ok-clause-kept g c =
    let walks = (c.in-Ok.ensures.part (g.W.Words.words c.args.words.now) c.args.bench.now.places).walks in
    let entries = c.requires.order.0 ++ walks.added in
    let over = walks.over c.requires.order.0 c.requires.order.1 in
    let more = c.expire_and_fill_up.ensures.part.walks in
    none_keeps (entries ++ more.added) c.expire_and_fill_up.new.bench.held (more.over entries over).held c.expire_and_fill_up.ensures.none

pub returns-in-Ok-clause-keeps : goal.returns-in-Ok-clause-keeps
returns-in-Ok-clause-keeps g c = keeps_more g.D.Disk.state g.D.Disk.faults c.args.keep.now c.work_off.new.keep c.expire_and_fill_up.new.keep
    c.work_off.ensures.keeps c.expire_and_fill_up.ensures.keeps

pub returns-in-Err-clause-part : goal.returns-in-Err-clause-part
returns-in-Err-clause-part g c = c.in-Err.ensures.part (g.W.Words.words c.args.words.now) c.args.bench.now.places
