use Rattle.fts_store.specs.Store.{place_at}
use Rattle.fts_copy.specs.Copy.{part_of}
use Rattle.fts_copy.specs.Script.{Script, Asks, Renames, log_of}
use Rattle.fts_copy.proofs.Playing.{then_leads, asks_leads, renames_leads, stopped_leads, wanted_leads, done_leads, failed_leads}
use Rattle.fts_copy.proofs.copy.put_in_place.Goals as goal

pub returns-then-not-wanted-clause-script : goal.returns-then-not-wanted-clause-script
returns-then-not-wanted-clause-script g c next =
    let order = c.args.order.now in
    let calls = g.E.Store.calls c.args.store.now in
    let before = g.V.Watch.answers c.args.watch.now in
    let after = g.V.Watch.answers c.wanted.new.self in
    let script : Script = Renames (part_of order) order.dest next in
    stopped_leads (Asks script) (log_of calls before) (log_of calls after) script c.wanted.result c.if-not-wanted.true (asks_leads script calls before after c.wanted.result c.wanted.ensures.told)

pub returns-in-Ok-clause-script : goal.returns-in-Ok-clause-script
returns-in-Ok-clause-script g c next =
    let order = c.args.order.now in
    let calls = g.E.Store.calls c.args.store.now in
    let moved = g.E.Store.calls c.rename.new.self in
    let before = g.V.Watch.answers c.args.watch.now in
    let after = g.V.Watch.answers c.wanted.new.self in
    let script : Script = Renames (part_of order) order.dest next in
    then_leads (wanted_leads (Asks script) (log_of calls before) (log_of calls after) script c.wanted.result c.if-not-wanted.false (asks_leads script calls before after c.wanted.result c.wanted.ensures.told))
    (done_leads script (log_of calls after) (log_of moved after) (λ done. next) c.rename.result c.in-Ok.field-0 c.in-Ok.is
    (renames_leads (place_at c.part.result) (part_of order) (place_at c.dest.result) order.dest next calls moved after c.rename.result c.part.ensures c.dest.ensures c.rename.ensures.called))

pub returns-in-Err-clause-script : goal.returns-in-Err-clause-script
returns-in-Err-clause-script g c next =
    let order = c.args.order.now in
    let calls = g.E.Store.calls c.args.store.now in
    let moved = g.E.Store.calls c.rename.new.self in
    let before = g.V.Watch.answers c.args.watch.now in
    let after = g.V.Watch.answers c.wanted.new.self in
    let script : Script = Renames (part_of order) order.dest next in
    then_leads (wanted_leads (Asks script) (log_of calls before) (log_of calls after) script c.wanted.result c.if-not-wanted.false (asks_leads script calls before after c.wanted.result c.wanted.ensures.told))
    (failed_leads script (log_of calls after) (log_of moved after) (λ done. next) c.rename.result c.in-Err.field-0 c.in-Err.is
    (renames_leads (place_at c.part.result) (part_of order) (place_at c.dest.result) order.dest next calls moved after c.rename.result c.part.ensures c.dest.ensures c.rename.ensures.called))
