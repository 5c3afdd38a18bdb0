-- What a round promises, from its walk.
use Rattle.std.proofs.Common.{◌++◌}
use Rattle.fts_workers.proofs.Copied.{copied_counts, copied_stays}
use Rattle.fts_workers.proofs.Rounded.{active_over, round_cause, round_ends, round_limit, round_made}
use Rattle.fts_workers.proofs.rounds.round.Goals as goal

pub returns-clause-round : goal.returns-clause-round
returns-clause-round g c =
    round_made g.D.Disk.state g.D.Disk.faults g.E.Store.state g.E.Store.calls g.E.Store.faults c.args.keep.now c.work_round.new.keep
    c.args.bench.now c.work_round.new.bench c.args.store.now c.work_round.new.store (g.C.Clock.moments c.args.clock.now)
    (g.C.Clock.moments c.work_round.new.clock) (g.W.Words.words c.args.words.now) (g.W.Words.words c.work_round.new.words) c.work_round.result
    c.work_round.ensures.part c.requires.order.0 c.requires.order.1 c.files_out_are_the_active_rows.ensures.out c.claimed_files_were_in.ensures.lists

pub returns-clause-active : goal.returns-clause-active
returns-clause-active g c =
    let walks = c.work_round.ensures.part.walks in
    active_over c.files_out_are_the_active_rows.ensures.out c.active_rows_have_known_ends.ensures.lists c.work_round.new.keep c.work_round.new.bench
    (c.requires.order.0 ++ walks.added) (walks.over c.requires.order.0 c.requires.order.1) c.work_round.ensures.kept c.work_round.ensures.few

pub returns-clause-end : goal.returns-clause-end
returns-clause-end g c =
    round_ends g.D.Disk.state g.D.Disk.faults g.E.Store.state g.E.Store.calls g.E.Store.faults c.args.keep.now c.work_round.new.keep
    c.args.bench.now c.work_round.new.bench c.args.store.now c.work_round.new.store (g.C.Clock.moments c.args.clock.now)
    (g.C.Clock.moments c.work_round.new.clock) (g.W.Words.words c.args.words.now) (g.W.Words.words c.work_round.new.words) c.work_round.result
    c.work_round.ensures.part c.requires.order.0 c.requires.order.1

pub returns-clause-disk_failed : goal.returns-clause-disk_failed
returns-clause-disk_failed g c =
    round_cause g.D.Disk.state g.D.Disk.faults g.E.Store.state g.E.Store.calls g.E.Store.faults c.args.keep.now c.work_round.new.keep
    c.args.bench.now c.work_round.new.bench c.args.store.now c.work_round.new.store (g.C.Clock.moments c.args.clock.now)
    (g.C.Clock.moments c.work_round.new.clock) (g.W.Words.words c.args.words.now) (g.W.Words.words c.work_round.new.words) c.work_round.result
    c.work_round.ensures.part c.requires.order.0 c.requires.order.1

pub returns-clause-journal_full : goal.returns-clause-journal_full
returns-clause-journal_full g c =
    round_limit g.D.Disk.state g.D.Disk.faults g.E.Store.state g.E.Store.calls g.E.Store.faults c.args.keep.now c.work_round.new.keep
    c.args.bench.now c.work_round.new.bench c.args.store.now c.work_round.new.store (g.C.Clock.moments c.args.clock.now)
    (g.C.Clock.moments c.work_round.new.clock) (g.W.Words.words c.args.words.now) (g.W.Words.words c.work_round.new.words) c.work_round.result
    c.work_round.ensures.part c.requires.order.0 c.requires.order.1

pub returns-clause-stays : goal.returns-clause-stays
returns-clause-stays g c =
    let follows = c.work_round.ensures.part.follows in
    copied_stays g.E.Store.state g.E.Store.calls g.E.Store.faults c.args.store.now c.work_round.new.store follows.made follows.copied

pub returns-clause-no_fewer_faults : goal.returns-clause-no_fewer_faults
returns-clause-no_fewer_faults g c =
    let follows = c.work_round.ensures.part.follows in
    copied_counts g.E.Store.state g.E.Store.calls g.E.Store.faults c.args.store.now c.work_round.new.store follows.made follows.copied
