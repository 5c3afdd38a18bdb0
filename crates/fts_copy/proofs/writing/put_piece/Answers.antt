use Rattle.std.proofs.Common.{take}
use Rattle.fts_tables.specs.declared.rows.Outcome.TheVariants.{StoreFailed}
use Rattle.fts_store.specs.Store.{place_at}
use Rattle.fts_copy.specs.Copy.{part_of}
use Rattle.fts_copy.specs.Script.{Ends, Appends, log_of, reads_piece, writes_piece}
use Rattle.fts_copy.proofs.Playing.{then_leads, appends_leads, same_place, stopped_leads, wanted_leads, done_leads, failed_leads}
use Rattle.fts_copy.proofs.Following.{piece_writes}
use Rattle.fts_copy.proofs.writing.put_piece.Goals as goal

pub returns-then-not-wanted-clause-script : goal.returns-then-not-wanted-clause-script
returns-then-not-wanted-clause-script g c next =
    let order = c.args.piece.order.now in
    let calls = g.E.Store.calls c.args.store.now in
    let before = g.V.Watch.answers c.args.watch.now in
    let after = g.V.Watch.answers c.wanted.new.self in
    stopped_leads (writes_piece order c.args.piece.offset c.args.piece.wanted next) (log_of calls before) (log_of calls after) (reads_piece order.source c.args.piece.offset c.args.piece.wanted (λ piece. Appends (part_of order) piece (next piece))) c.wanted.result c.if-not-wanted.true (piece_writes order c.args.piece.offset c.args.piece.wanted next calls before after c.wanted.result c.wanted.ensures.told)

pub returns-in_default-clause-script : goal.returns-in_default-clause-script
returns-in_default-clause-script g c next =
    let order = c.args.piece.order.now in
    let calls = g.E.Store.calls c.args.store.now in
    let before = g.V.Watch.answers c.args.watch.now in
    let after = g.V.Watch.answers c.wanted.new.self in
    then_leads (wanted_leads (writes_piece order c.args.piece.offset c.args.piece.wanted next) (log_of calls before) (log_of calls after) (reads_piece order.source c.args.piece.offset c.args.piece.wanted (λ piece. Appends (part_of order) piece (next piece))) c.wanted.result c.if-not-wanted.false (piece_writes order c.args.piece.offset c.args.piece.wanted next calls before after c.wanted.result c.wanted.ensures.told))
    (same_place (place_at c.source.result) order.source c.args.piece.offset c.args.piece.wanted (λ piece. Appends (part_of order) piece (next piece)) (log_of calls after) (log_of (g.E.Store.calls c.fill.new.store) after) (Ends StoreFailed) c.source.ensures.place (c.in_default.ensures.script after (λ piece. Appends (part_of order) piece (next piece))))

pub returns-in_default-append-clause-script : goal.returns-in_default-append-clause-script
returns-in_default-append-clause-script g c next =
    let order = c.args.piece.order.now in
    let calls = g.E.Store.calls c.args.store.now in
    let before = g.V.Watch.answers c.args.watch.now in
    let after = g.V.Watch.answers c.wanted.new.self in
    then_leads (wanted_leads (writes_piece order c.args.piece.offset c.args.piece.wanted next) (log_of calls before) (log_of calls after) (reads_piece order.source c.args.piece.offset c.args.piece.wanted (λ piece. Appends (part_of order) piece (next piece))) c.wanted.result c.if-not-wanted.false (piece_writes order c.args.piece.offset c.args.piece.wanted next calls before after c.wanted.result c.wanted.ensures.told))
    (then_leads (same_place (place_at c.source.result) order.source c.args.piece.offset c.args.piece.wanted (λ piece. Appends (part_of order) piece (next piece)) (log_of calls after) (log_of (g.E.Store.calls c.fill.new.store) after) (Appends (part_of order) (take c.in-Ok.count c.fill.new.buffer) (next (take c.in-Ok.count c.fill.new.buffer))) c.source.ensures.place (c.in-Ok.ensures.script after (λ piece. Appends (part_of order) piece (next piece))))
    (failed_leads (Appends (part_of order) (take c.in-Ok.count c.fill.new.buffer) (next (take c.in-Ok.count c.fill.new.buffer))) (log_of (g.E.Store.calls c.fill.new.store) after) (log_of (g.E.Store.calls c.append.new.self) after) (λ done. next (take c.in-Ok.count c.fill.new.buffer)) c.append.result c.in_default-append.field-0 c.in_default-append.is
    (appends_leads (place_at c.part.result) (part_of order) (take c.in-Ok.count c.fill.new.buffer) (next (take c.in-Ok.count c.fill.new.buffer)) (g.E.Store.calls c.fill.new.store) (g.E.Store.calls c.append.new.self) after c.append.result c.part.ensures c.append.ensures.called)))

pub returns-clause-script : goal.returns-clause-script
returns-clause-script g c next =
    let order = c.args.piece.order.now in
    let calls = g.E.Store.calls c.args.store.now in
    let before = g.V.Watch.answers c.args.watch.now in
    let after = g.V.Watch.answers c.wanted.new.self in
    then_leads (wanted_leads (writes_piece order c.args.piece.offset c.args.piece.wanted next) (log_of calls before) (log_of calls after) (reads_piece order.source c.args.piece.offset c.args.piece.wanted (λ piece. Appends (part_of order) piece (next piece))) c.wanted.result c.if-not-wanted.false (piece_writes order c.args.piece.offset c.args.piece.wanted next calls before after c.wanted.result c.wanted.ensures.told))
    (then_leads (same_place (place_at c.source.result) order.source c.args.piece.offset c.args.piece.wanted (λ piece. Appends (part_of order) piece (next piece)) (log_of calls after) (log_of (g.E.Store.calls c.fill.new.store) after) (Appends (part_of order) (take c.in-Ok.count c.fill.new.buffer) (next (take c.in-Ok.count c.fill.new.buffer))) c.source.ensures.place (c.in-Ok.ensures.script after (λ piece. Appends (part_of order) piece (next piece))))
    (done_leads (Appends (part_of order) (take c.in-Ok.count c.fill.new.buffer) (next (take c.in-Ok.count c.fill.new.buffer))) (log_of (g.E.Store.calls c.fill.new.store) after) (log_of (g.E.Store.calls c.append.new.self) after) (λ done. next (take c.in-Ok.count c.fill.new.buffer)) c.append.result tt c.in-Ok-append.is
    (appends_leads (place_at c.part.result) (part_of order) (take c.in-Ok.count c.fill.new.buffer) (next (take c.in-Ok.count c.fill.new.buffer)) (g.E.Store.calls c.fill.new.store) (g.E.Store.calls c.append.new.self) after c.append.result c.part.ensures c.append.ensures.called)))
