use Rattle.std.proofs.Common.{◌≡◌, Ok, Err, ap, sym, subst, rules}
use Rattle.fts_tables.specs.declared.rows.Outcome.{Outcome}
use Rattle.fts_copy.specs.Copy.{IsCopy, ended}
use Rattle.fts_tables.specs.declared.rows.Outcome.TheVariants.{Verified}
use Rattle.fts_copy.specs.Script.{Ends, log_of, agrees, puts_in_place, reads_back, transfers}
use Rattle.fts_copy.proofs.Playing.{then_leads, ended_plays, over_leads, onward_leads}
use Rattle.fts_copy.proofs.Following.{copy_leads, transfer_leads, agree_leads, last_leads}
use Rattle.fts_copy.proofs.Ending.{Ready, make_ready, read_ends, put_ends, verified_ends}
use Rattle.fts_copy.proofs.copy.attempt.Goals as goal

pub returns-in_err-again-clause-copy : goal.returns-in_err-again-clause-copy
returns-in_err-again-clause-copy g c told =
    let old = g.E.Store.state c.args.store.now in
    let looked = g.E.Store.state c.look.new.store in
    let now = g.E.Store.state c.write_part.new.store in
    let ready : Ready c.args.order.now old now c.in_ok-size.size c.in_ok-digest.digest =
    make_ready c.args.order.now old looked now c.in_ok-size.size c.in_ok-digest.digest c.look.ensures.same told c.in_ok-size.ensures.look c.look.ensures.apart.source
    c.write_part.ensures.stays c.write_part.ensures.others c.in_ok-digest.ensures.written in
    let is : c.from_residual-in_err-again.result ≡ Err c.in_err-again.field-0.0 = search rules in
    subst (λ (outcome : Outcome). IsCopy c.args.order.now old (g.E.Store.state c.read_back.new.store) outcome) (sym (ap ended is))
    (read_ends c.args.order.now old now (g.E.Store.state c.read_back.new.store) c.in_ok-size.size c.in_ok-digest.digest c.in_err-again.field-0.0 ready c.read_back.ensures.same c.in_err-again.ensures.read)

pub returns-in_err-put_in_place-clause-copy : goal.returns-in_err-put_in_place-clause-copy
returns-in_err-put_in_place-clause-copy g c told =
    let old = g.E.Store.state c.args.store.now in
    let looked = g.E.Store.state c.look.new.store in
    let now = g.E.Store.state c.write_part.new.store in
    let ready : Ready c.args.order.now old now c.in_ok-size.size c.in_ok-digest.digest =
    make_ready c.args.order.now old looked now c.in_ok-size.size c.in_ok-digest.digest c.look.ensures.same told c.in_ok-size.ensures.look c.look.ensures.apart.source
    c.write_part.ensures.stays c.write_part.ensures.others c.in_ok-digest.ensures.written in
    let is : c.from_residual-in_err-put_in_place.result ≡ Err c.in_err-put_in_place.field-0.0 = search rules in
    subst (λ (outcome : Outcome). IsCopy c.args.order.now old (g.E.Store.state c.put_in_place.new.store) outcome) (sym (ap ended is))
    (put_ends c.args.order.now old now (g.E.Store.state c.read_back.new.store) (g.E.Store.state c.put_in_place.new.store) c.in_ok-size.size c.in_ok-digest.digest c.in_err-put_in_place.field-0.0
    ready c.read_back.ensures.same c.in_err-put_in_place.ensures.put)

pub returns-clause-copy : goal.returns-clause-copy
returns-clause-copy g c told =
    let old = g.E.Store.state c.args.store.now in
    let looked = g.E.Store.state c.look.new.store in
    let now = g.E.Store.state c.write_part.new.store in
    let ready : Ready c.args.order.now old now c.in_ok-size.size c.in_ok-digest.digest =
    make_ready c.args.order.now old looked now c.in_ok-size.size c.in_ok-digest.digest c.look.ensures.same told c.in_ok-size.ensures.look c.look.ensures.apart.source
    c.write_part.ensures.stays c.write_part.ensures.others c.in_ok-digest.ensures.written in
    verified_ends c.args.order.now old now (g.E.Store.state c.read_back.new.store) (g.E.Store.state c.put_in_place.new.store) c.in_ok-size.size c.in_ok-digest.digest c.in_ok-again.again
    ready c.read_back.ensures.same c.in_ok-again.ensures.read c.in_ok-put_in_place.ensures.put

pub returns-in_err-size-clause-script : goal.returns-in_err-size-clause-script
returns-in_err-size-clause-script g c =
    let is : c.from_residual.result ≡ Err c.in_err-size.field-0.0 = search rules in
    rw is (ended_plays _ _ _ _ (then_leads (copy_leads c.args.order.now (log_of (g.E.Store.calls c.args.store.now) (g.V.Watch.answers c.args.watch.now))) (c.in_err-size.ensures.script (g.V.Watch.answers c.args.watch.now) (transfers c.args.order.now))))

pub returns-in_err-digest-clause-script : goal.returns-in_err-digest-clause-script
returns-in_err-digest-clause-script g c =
    let is : c.from_residual-in_err-digest.result ≡ Err c.in_err-digest.field-0.0 = search rules in
    rw is (ended_plays _ _ _ _ (then_leads (then_leads (copy_leads c.args.order.now (log_of (g.E.Store.calls c.args.store.now) (g.V.Watch.answers c.args.watch.now))) (then_leads (c.in_ok-size.ensures.script (g.V.Watch.answers c.args.watch.now) (transfers c.args.order.now))
    (transfer_leads c.args.order.now c.in_ok-size.size (log_of (g.E.Store.calls c.look.new.store) (g.V.Watch.answers c.args.watch.now))))) (c.in_err-digest.ensures.script (λ digest. reads_back c.args.order.now c.in_ok-size.size (agrees c.args.order.now c.in_ok-size.size digest)))))

pub returns-in_err-again-clause-script : goal.returns-in_err-again-clause-script
returns-in_err-again-clause-script g c =
    let is : c.from_residual-in_err-again.result ≡ Err c.in_err-again.field-0.0 = search rules in
    rw is (ended_plays _ _ _ _ (then_leads (then_leads (then_leads (copy_leads c.args.order.now (log_of (g.E.Store.calls c.args.store.now) (g.V.Watch.answers c.args.watch.now))) (then_leads (c.in_ok-size.ensures.script (g.V.Watch.answers c.args.watch.now) (transfers c.args.order.now))
    (transfer_leads c.args.order.now c.in_ok-size.size (log_of (g.E.Store.calls c.look.new.store) (g.V.Watch.answers c.args.watch.now))))) (c.in_ok-digest.ensures.script (λ digest. reads_back c.args.order.now c.in_ok-size.size (agrees c.args.order.now c.in_ok-size.size digest)))) (c.in_err-again.ensures.script (agrees c.args.order.now c.in_ok-size.size c.in_ok-digest.digest))))

pub returns-in_err-agree-clause-script : goal.returns-in_err-agree-clause-script
returns-in_err-agree-clause-script g c =
    let is : c.from_residual-in_err-agree.result ≡ Err c.in_err-agree.field-0.0 = search rules in
    let apart : c.agree.result ≡ Err c.in_err-agree.field-0.0 = search rules in
    rw is (ended_plays _ _ _ _ (then_leads (then_leads (then_leads (then_leads (copy_leads c.args.order.now (log_of (g.E.Store.calls c.args.store.now) (g.V.Watch.answers c.args.watch.now))) (then_leads (c.in_ok-size.ensures.script (g.V.Watch.answers c.args.watch.now) (transfers c.args.order.now))
    (transfer_leads c.args.order.now c.in_ok-size.size (log_of (g.E.Store.calls c.look.new.store) (g.V.Watch.answers c.args.watch.now))))) (c.in_ok-digest.ensures.script (λ digest. reads_back c.args.order.now c.in_ok-size.size (agrees c.args.order.now c.in_ok-size.size digest)))) (c.in_ok-again.ensures.script (agrees c.args.order.now c.in_ok-size.size c.in_ok-digest.digest))) (over_leads (agrees c.args.order.now c.in_ok-size.size c.in_ok-digest.digest c.in_ok-again.again) (log_of (g.E.Store.calls c.read_back.new.store) (g.V.Watch.answers c.read_back.new.watch)) (log_of (g.E.Store.calls c.read_back.new.store) (g.V.Watch.answers c.read_back.new.watch)) (λ done. puts_in_place c.args.order.now c.in_ok-size.size c.in_ok-digest.digest) c.agree.result c.in_err-agree.field-0.0 apart
    (agree_leads c.args.order.now c.in_ok-size.size c.in_ok-digest.digest c.in_ok-again.again (log_of (g.E.Store.calls c.read_back.new.store) (g.V.Watch.answers c.read_back.new.watch)) c.agree.result c.agree.ensures))))

pub returns-in_err-put_in_place-clause-script : goal.returns-in_err-put_in_place-clause-script
returns-in_err-put_in_place-clause-script g c =
    let is : c.from_residual-in_err-put_in_place.result ≡ Err c.in_err-put_in_place.field-0.0 = search rules in
    let agreed : c.agree.result ≡ Ok tt = search rules in
    rw is (ended_plays _ _ _ _ (then_leads (then_leads (then_leads (then_leads (then_leads (copy_leads c.args.order.now (log_of (g.E.Store.calls c.args.store.now) (g.V.Watch.answers c.args.watch.now))) (then_leads (c.in_ok-size.ensures.script (g.V.Watch.answers c.args.watch.now) (transfers c.args.order.now))
    (transfer_leads c.args.order.now c.in_ok-size.size (log_of (g.E.Store.calls c.look.new.store) (g.V.Watch.answers c.args.watch.now))))) (c.in_ok-digest.ensures.script (λ digest. reads_back c.args.order.now c.in_ok-size.size (agrees c.args.order.now c.in_ok-size.size digest)))) (c.in_ok-again.ensures.script (agrees c.args.order.now c.in_ok-size.size c.in_ok-digest.digest))) (then_leads (onward_leads (agrees c.args.order.now c.in_ok-size.size c.in_ok-digest.digest c.in_ok-again.again) (log_of (g.E.Store.calls c.read_back.new.store) (g.V.Watch.answers c.read_back.new.watch)) (log_of (g.E.Store.calls c.read_back.new.store) (g.V.Watch.answers c.read_back.new.watch)) (λ done. puts_in_place c.args.order.now c.in_ok-size.size c.in_ok-digest.digest) c.agree.result tt agreed
    (agree_leads c.args.order.now c.in_ok-size.size c.in_ok-digest.digest c.in_ok-again.again (log_of (g.E.Store.calls c.read_back.new.store) (g.V.Watch.answers c.read_back.new.watch)) c.agree.result c.agree.ensures))
    (last_leads c.args.order.now c.in_ok-size.size c.in_ok-digest.digest (log_of (g.E.Store.calls c.read_back.new.store) (g.V.Watch.answers c.read_back.new.watch))))) (c.in_err-put_in_place.ensures.script (Ends (Verified c.in_ok-size.size c.in_ok-digest.digest)))))

pub returns-clause-script : goal.returns-clause-script
returns-clause-script g c =
    let agreed : c.agree.result ≡ Ok tt = search rules in
    ended_plays _ _ _ _ (then_leads (then_leads (then_leads (then_leads (then_leads (copy_leads c.args.order.now (log_of (g.E.Store.calls c.args.store.now) (g.V.Watch.answers c.args.watch.now))) (then_leads (c.in_ok-size.ensures.script (g.V.Watch.answers c.args.watch.now) (transfers c.args.order.now))
    (transfer_leads c.args.order.now c.in_ok-size.size (log_of (g.E.Store.calls c.look.new.store) (g.V.Watch.answers c.args.watch.now))))) (c.in_ok-digest.ensures.script (λ digest. reads_back c.args.order.now c.in_ok-size.size (agrees c.args.order.now c.in_ok-size.size digest)))) (c.in_ok-again.ensures.script (agrees c.args.order.now c.in_ok-size.size c.in_ok-digest.digest))) (then_leads (onward_leads (agrees c.args.order.now c.in_ok-size.size c.in_ok-digest.digest c.in_ok-again.again) (log_of (g.E.Store.calls c.read_back.new.store) (g.V.Watch.answers c.read_back.new.watch)) (log_of (g.E.Store.calls c.read_back.new.store) (g.V.Watch.answers c.read_back.new.watch)) (λ done. puts_in_place c.args.order.now c.in_ok-size.size c.in_ok-digest.digest) c.agree.result tt agreed
    (agree_leads c.args.order.now c.in_ok-size.size c.in_ok-digest.digest c.in_ok-again.again (log_of (g.E.Store.calls c.read_back.new.store) (g.V.Watch.answers c.read_back.new.watch)) c.agree.result c.agree.ensures))
    (last_leads c.args.order.now c.in_ok-size.size c.in_ok-digest.digest (log_of (g.E.Store.calls c.read_back.new.store) (g.V.Watch.answers c.read_back.new.watch))))) (c.in_ok-put_in_place.ensures.script (Ends (Verified c.in_ok-size.size c.in_ok-digest.digest))))
