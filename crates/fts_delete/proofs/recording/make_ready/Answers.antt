-- No room, a doubt that couldn't be ended, and a journal that is ready.
use Rattle.std.proofs.Common.{◌≡◌, false, true, rules, arith, sym, subst, Err}
use Rattle.fts_delete.specs.Faults.{fault_of}
use Rattle.fts_delete.specs.declared.fault.DeleteFault.TheVariants.{JournalFull}
use Rattle.fts_delete.specs.Views.{deletes_of}
use Rattle.fts_delete.specs.Recording.{has_room, Readied}
use Rattle.fts_delete.proofs.Exits.{no_room_at, room_at, readied_full, readied_not, readied, unsettled_tied, settled_tied}
use Rattle.fts_delete.proofs.recording.make_ready.Goals as goal

pub returns-then-used-size-gt-JOURNAL_END-clause-readied : goal.returns-then-used-size-gt-JOURNAL_END-clause-readied
returns-then-used-size-gt-JOURNAL_END-clause-readied g c = λ rows tied.
    let full : has_room c.args.journal.now.used c.args.size ≡ false =
    no_room_at c.args.journal.now.used c.args.size (omega (arith, c.if-used-size-gt-JOURNAL_END.true, c.used-used.ensures.used)) in
    subst (λ n. Readied g.D.Disk.state g.D.Disk.faults (deletes_of g.D.Disk.state rows c.args.journal.now)
    (deletes_of g.D.Disk.state rows c.args.journal.now) c.args.size (Err (JournalFull n))) (sym c.used-used.ensures.used)
    (readied_full g.D.Disk.state g.D.Disk.faults g.met.D.Disk.lawful rows c.args.journal.now tied c.args.size full)

pub returns-in_err-end_doubt-clause-readied : goal.returns-in_err-end_doubt-clause-readied
returns-in_err-end_doubt-clause-readied g c = λ rows tied.
    let room : has_room c.args.journal.now.used c.args.size ≡ true =
    room_at c.args.journal.now.used c.args.size (omega (arith, c.if-used-size-gt-JOURNAL_END.false, c.used-used.ensures.used)) in
    let is : c.from_residual.result ≡ Err (fault_of c.in_err-end_doubt.field-0.0) = search rules in
    subst (λ r. Readied g.D.Disk.state g.D.Disk.faults (deletes_of g.D.Disk.state rows c.args.journal.now)
    (deletes_of g.D.Disk.state rows c.end_doubt.new.journal) c.args.size r) (sym is)
    (readied_not g.D.Disk.state g.D.Disk.faults g.met.D.Disk.lawful rows c.args.journal.now tied c.end_doubt.new.journal c.args.size c.in_err-end_doubt.field-0.0 room
    c.in_err-end_doubt.ensures)

pub returns-in_err-end_doubt-clause-tied : goal.returns-in_err-end_doubt-clause-tied
returns-in_err-end_doubt-clause-tied g c = λ rows tied.
    unsettled_tied g.D.Disk.state g.D.Disk.faults g.met.D.Disk.lawful rows c.args.journal.now tied c.end_doubt.new.journal c.in_err-end_doubt.field-0.0
    c.in_err-end_doubt.ensures

pub returns-clause-tied : goal.returns-clause-tied
returns-clause-tied g c = λ rows tied.
    settled_tied g.D.Disk.state g.D.Disk.faults g.met.D.Disk.lawful rows c.args.journal.now tied c.end_doubt.new.journal
    c.in_ok-end_doubt.ensures

pub returns-clause-readied : goal.returns-clause-readied
returns-clause-readied g c = λ rows tied.
    let room : has_room c.args.journal.now.used c.args.size ≡ true =
    room_at c.args.journal.now.used c.args.size (omega (arith, c.if-used-size-gt-JOURNAL_END.false, c.used-used.ensures.used)) in
    readied g.D.Disk.state g.D.Disk.faults g.met.D.Disk.lawful rows c.args.journal.now tied c.end_doubt.new.journal c.args.size room
    c.in_ok-end_doubt.ensures
