use Rattle.std.proofs.Common.{◌≡◌, true, false, Err, subst, arith, rules}
use Rattle.fts_store.specs.Store.{bytes_of, place_at}
use Rattle.fts_copy.specs.Script.{LeadsTo, log_of, reads_piece, unless_none}
use Rattle.fts_copy.proofs.Filling.{longer_by}
use Rattle.fts_copy.proofs.Playing.{then_leads, behind_leads, byte_behind}
use Rattle.fts_copy.proofs.reading.is_longer.Goals as goal

pub returns-clause-script : goal.returns-clause-script
returns-clause-script g c answers next =
    then_leads (behind_leads (place_at c.args.at) c.args.size next (log_of (g.E.Store.calls c.args.store.now) answers))
    (subst (λ s. LeadsTo (reads_piece (place_at c.args.at) c.args.size 1 (λ bytes. unless_none bytes (next false) (next true))) (log_of (g.E.Store.calls c.args.store.now) answers) s (log_of (g.E.Store.calls c.fill.new.store) answers))
    (byte_behind c.in_ok-count.count c.fill.new.buffer next (omega (arith, c.in_ok-count.ensures.within)))
    (c.in_ok-count.ensures.script answers (λ bytes. unless_none bytes (next false) (next true))))

pub returns-clause-longer : goal.returns-clause-longer
returns-clause-longer g c told =
    longer_by (bytes_of ((g.E.Store.state c.args.store.now).files (place_at c.args.at))) c.fill.new.buffer c.args.size c.in_ok-count.count
    c.in_ok-count.ensures.within (omega arith) (c.in_ok-count.ensures.bytes told)

pub returns-in_err-count-clause-script : goal.returns-in_err-count-clause-script
returns-in_err-count-clause-script g c answers next =
    let is : c.from_residual.result ≡ Err c.in_err-count.field-0.0 = search rules in
    rw is (then_leads (behind_leads (place_at c.args.at) c.args.size next (log_of (g.E.Store.calls c.args.store.now) answers))
    (c.in_err-count.ensures.script answers (λ bytes. unless_none bytes (next false) (next true))))
