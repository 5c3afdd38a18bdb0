-- An append that failed, and one that was done.
use Rattle.std.proofs.Common.{◌≡◌, rules, arith, sym, subst, Err, ap, length}
use Rattle.fts_delete.specs.Faults.{fault_of}
use Rattle.fts_delete.specs.Views.{deletes_of}
use Rattle.fts_delete.specs.Recording.{Added}
use Rattle.fts_delete.proofs.Forming.{legal_rows_are_formed}
use Rattle.fts_delete.proofs.Sizes.{body_some, body_short}
use Rattle.fts_delete.proofs.Exits.{failed_tied, failed_added, done_tied, done_added}
use Rattle.fts_delete.proofs.recording.add.Goals as goal

pub append-requires-clause-body : goal.append-requires-clause-body
append-requires-clause-body g c = record {
  some = omega (arith, ap length c.requires.spelled, body_some c.args.event);
  most = omega (arith, ap length c.requires.spelled, body_short c.args.event c.requires.proper);
}

pub returns-in_err-append-clause-tied : goal.returns-in_err-append-clause-tied
returns-in_err-append-clause-tied g c =
    failed_tied g.D.Disk.state g.D.Disk.faults g.met.D.Disk.lawful c.args.rows.now.items c.args.journal.now c.requires.tied c.requires.sure c.args.event
    c.args.body.now c.requires.spelled c.requires.proper c.requires.legal c.requires.fits c.append.new.journal c.in_err-append.field-0.0 c.in_err-append.ensures

pub returns-in_err-append-clause-added : goal.returns-in_err-append-clause-added
returns-in_err-append-clause-added g c =
    let is : c.from_residual.result ≡ Err (fault_of c.in_err-append.field-0.0) = search rules in
    subst (λ r. Added g.D.Disk.state g.D.Disk.faults (deletes_of g.D.Disk.state c.args.rows.now.items c.args.journal.now)
    (deletes_of g.D.Disk.state c.args.rows.now.items c.append.new.journal) c.args.event r) (sym is)
    (failed_added g.D.Disk.state g.D.Disk.faults g.met.D.Disk.lawful c.args.rows.now.items c.args.journal.now c.requires.tied c.requires.sure c.args.event
    c.args.body.now c.requires.spelled c.requires.proper c.requires.legal c.requires.fits c.append.new.journal c.in_err-append.field-0.0 c.in_err-append.ensures)

pub take_event-requires-clause-formed : goal.take_event-requires-clause-formed
take_event-requires-clause-formed g c = legal_rows_are_formed c.requires.tied.events c.args.rows.now.items c.requires.tied.held.folded

pub returns-clause-tied : goal.returns-clause-tied
returns-clause-tied g c =
    done_tied g.D.Disk.state g.D.Disk.faults g.met.D.Disk.lawful c.args.rows.now.items c.args.journal.now c.requires.tied c.requires.sure c.args.event
    c.args.body.now c.requires.spelled c.requires.proper c.requires.legal c.requires.fits c.append.new.journal
    c.in_ok-append.ensures c.take_event.new.rows.items c.take_event.ensures

pub returns-clause-added : goal.returns-clause-added
returns-clause-added g c =
    done_added g.D.Disk.state g.D.Disk.faults g.met.D.Disk.lawful c.args.rows.now.items c.args.journal.now c.requires.tied c.requires.sure c.args.event
    c.args.body.now c.requires.spelled c.requires.proper c.requires.legal c.requires.fits c.append.new.journal
    c.in_ok-append.ensures c.take_event.new.rows.items c.take_event.ensures
