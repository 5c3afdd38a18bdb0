use Rattle.std.proofs.Common.{◌≡◌, Err, [], sym, ◌∙◌, rules}
use Rattle.fts_store.specs.Store.{place_at}
use Rattle.fts_copy.specs.Watch.{pieces}
use Rattle.fts_copy.specs.Script.{log_of, digests, writes, writes_part}
use Rattle.fts_copy.proofs.Playing.{then_leads, done_leads, failed_leads}
use Rattle.fts_copy.proofs.Following.{part_leads, misdigest_leads, digest_leads}
use Rattle.fts_copy.proofs.writing.write_part.Goals as goal

pub returns-in_default-clause-script : goal.returns-in_default-clause-script
returns-in_default-clause-script g c next =
    failed_leads (writes_part c.args.order.now c.args.size next) (log_of (g.E.Store.calls c.args.store.now) (g.V.Watch.answers c.args.watch.now)) (log_of (g.E.Store.calls c.create.new.self) (g.V.Watch.answers c.args.watch.now)) (λ done. writes c.args.order.now c.args.size (digests c.args.order.now next) (pieces c.args.size) 0 []) c.create.result c.in_default.field-0 c.in_default.is
    (part_leads c.args.order.now c.args.size next (g.E.Store.calls c.args.store.now) (g.E.Store.calls c.create.new.self) (g.V.Watch.answers c.args.watch.now) (place_at c.part.result) c.create.result c.part.ensures c.create.ensures.called)

pub returns-in_err-digest-clause-script : goal.returns-in_err-digest-clause-script
returns-in_err-digest-clause-script g c next =
    let is : c.from_residual.result ≡ Err c.in_err-digest.field-0.0 = search rules in
    rw is (then_leads (done_leads (writes_part c.args.order.now c.args.size next) (log_of (g.E.Store.calls c.args.store.now) (g.V.Watch.answers c.args.watch.now)) (log_of (g.E.Store.calls c.create.new.self) (g.V.Watch.answers c.args.watch.now)) (λ done. writes c.args.order.now c.args.size (digests c.args.order.now next) (pieces c.args.size) 0 []) c.create.result tt c.in-Ok.is
    (part_leads c.args.order.now c.args.size next (g.E.Store.calls c.args.store.now) (g.E.Store.calls c.create.new.self) (g.V.Watch.answers c.args.watch.now) (place_at c.part.result) c.create.result c.part.ensures c.create.ensures.called))
    (c.in_err-digest.ensures.script (digests c.args.order.now next)))

pub returns-then-wants_other_digest-clause-script : goal.returns-then-wants_other_digest-clause-script
returns-then-wants_other_digest-clause-script g c next =
    then_leads (then_leads (done_leads (writes_part c.args.order.now c.args.size next) (log_of (g.E.Store.calls c.args.store.now) (g.V.Watch.answers c.args.watch.now)) (log_of (g.E.Store.calls c.create.new.self) (g.V.Watch.answers c.args.watch.now)) (λ done. writes c.args.order.now c.args.size (digests c.args.order.now next) (pieces c.args.size) 0 []) c.create.result tt c.in-Ok.is
    (part_leads c.args.order.now c.args.size next (g.E.Store.calls c.args.store.now) (g.E.Store.calls c.create.new.self) (g.V.Watch.answers c.args.watch.now) (place_at c.part.result) c.create.result c.part.ensures c.create.ensures.called))
    (c.in_ok-digest.ensures.script (digests c.args.order.now next)))
    (misdigest_leads c.args.order.now next (log_of (g.E.Store.calls c.put_pieces.new.store) (g.V.Watch.answers c.put_pieces.new.watch)) c.in_ok-digest.digest (sym c.wants_other_digest.ensures ∙ c.if-wants_other_digest.true))

pub returns-clause-script : goal.returns-clause-script
returns-clause-script g c next =
    then_leads (then_leads (done_leads (writes_part c.args.order.now c.args.size next) (log_of (g.E.Store.calls c.args.store.now) (g.V.Watch.answers c.args.watch.now)) (log_of (g.E.Store.calls c.create.new.self) (g.V.Watch.answers c.args.watch.now)) (λ done. writes c.args.order.now c.args.size (digests c.args.order.now next) (pieces c.args.size) 0 []) c.create.result tt c.in-Ok.is
    (part_leads c.args.order.now c.args.size next (g.E.Store.calls c.args.store.now) (g.E.Store.calls c.create.new.self) (g.V.Watch.answers c.args.watch.now) (place_at c.part.result) c.create.result c.part.ensures c.create.ensures.called))
    (c.in_ok-digest.ensures.script (digests c.args.order.now next)))
    (digest_leads c.args.order.now next (log_of (g.E.Store.calls c.put_pieces.new.store) (g.V.Watch.answers c.put_pieces.new.watch)) c.in_ok-digest.digest (sym c.wants_other_digest.ensures ∙ c.if-wants_other_digest.false))
