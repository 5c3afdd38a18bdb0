-- An expiry: accepted, idle, or stopped.
use Rattle.std.proofs.Common.{refl, subst, Err}
use Rattle.fts_tables.specs.declared.commands.Command.TheVariants.{Expire}
use Rattle.fts_keep.specs.Applied.{Applied, entry_by}
use Rattle.fts_keep.specs.declared.fault.KeepFault.TheVariants.{DiskFailed, JournalFull, Memory}
use Rattle.fts_workers.specs.ClaimSteps.{IsExpiry}
use Rattle.fts_workers.specs.declared.ends.RoundEnd.TheVariants.{DiskFailed as EndsByDisk, JournalFull as EndsByLimit, Memory as EndsByMemory}
use Rattle.fts_workers.proofs.Expired.{expired_part, expired_none, expiry_stops}
use Rattle.fts_workers.proofs.rounds.expire_once.Goals as goal

pub returns-in-Ok-clause-part : goal.returns-in-Ok-clause-part
returns-in-Ok-clause-part g c = λ bench words entries over none.
    expired_part g.D.Disk.state g.D.Disk.faults c.tables_are_well_formed.ensures.formed c.files_out_are_the_active_rows.ensures.out
    c.args.keep.now c.expire.new.keep bench none (g.C.Clock.moments c.args.clock.now) (g.C.Clock.moments c.now-now.new.self) words c.now-now.result
    c.now-now.ensures c.expire.ensures.tried.keeps.grows.counts c.in-Ok.field-0 c.in-Ok.ensures.tried.applied entries over

pub returns-in-Err-Rule-clause-part : goal.returns-in-Err-Rule-clause-part
returns-in-Err-Rule-clause-part g c = λ bench words entries over none.
    let so = subst (λ f. IsExpiry g.D.Disk.state g.D.Disk.faults 0 c.args.keep.now c.expire.new.keep c.now-now.result (Err f)) c.in-Err-Rule.field-0-is
    c.in-Err-Rule.ensures in
    expired_none g.D.Disk.state g.D.Disk.faults c.tables_are_well_formed.ensures.formed c.files_out_are_the_active_rows.ensures.out
    c.args.keep.now c.expire.new.keep bench none (g.C.Clock.moments c.args.clock.now) (g.C.Clock.moments c.now-now.new.self) words c.now-now.result
    c.now-now.ensures c.expire.ensures.tried.keeps.grows.counts c.in-Err-Rule.field-0-0 so.answers so.tried.applied

pub returns-in-Err-DiskFailed-clause-part : goal.returns-in-Err-DiskFailed-clause-part
returns-in-Err-DiskFailed-clause-part g c = λ bench words entries over none.
    expiry_stops g.D.Disk.state g.D.Disk.faults c.tables_are_well_formed.ensures.formed c.files_out_are_the_active_rows.ensures.out
    c.args.keep.now c.expire.new.keep bench none (g.C.Clock.moments c.args.clock.now) (g.C.Clock.moments c.now-now.new.self) words c.now-now.result
    c.now-now.ensures c.expire.ensures.tried.keeps.grows.counts DiskFailed EndsByDisk
    (subst (λ f. Applied g.D.Disk.state g.D.Disk.faults c.args.keep.now c.expire.new.keep (entry_by 0 (Expire c.now-now.result)) (Err f))
    c.in-Err-DiskFailed.field-0-is c.in-Err-DiskFailed.ensures.tried.applied) refl

pub returns-in-Err-JournalFull-clause-part : goal.returns-in-Err-JournalFull-clause-part
returns-in-Err-JournalFull-clause-part g c = λ bench words entries over none.
    expiry_stops g.D.Disk.state g.D.Disk.faults c.tables_are_well_formed.ensures.formed c.files_out_are_the_active_rows.ensures.out
    c.args.keep.now c.expire.new.keep bench none (g.C.Clock.moments c.args.clock.now) (g.C.Clock.moments c.now-now.new.self) words c.now-now.result
    c.now-now.ensures c.expire.ensures.tried.keeps.grows.counts (JournalFull c.in-Err-JournalFull.used) (EndsByLimit c.in-Err-JournalFull.used)
    (subst (λ f. Applied g.D.Disk.state g.D.Disk.faults c.args.keep.now c.expire.new.keep (entry_by 0 (Expire c.now-now.result)) (Err f))
    c.in-Err-JournalFull.field-0-is c.in-Err-JournalFull.ensures.tried.applied) refl

pub returns-in-Err-Memory-clause-part : goal.returns-in-Err-Memory-clause-part
returns-in-Err-Memory-clause-part g c = λ bench words entries over none.
    expiry_stops g.D.Disk.state g.D.Disk.faults c.tables_are_well_formed.ensures.formed c.files_out_are_the_active_rows.ensures.out
    c.args.keep.now c.expire.new.keep bench none (g.C.Clock.moments c.args.clock.now) (g.C.Clock.moments c.now-now.new.self) words c.now-now.result
    c.now-now.ensures c.expire.ensures.tried.keeps.grows.counts Memory EndsByMemory
    (subst (λ f. Applied g.D.Disk.state g.D.Disk.faults c.args.keep.now c.expire.new.keep (entry_by 0 (Expire c.now-now.result)) (Err f))
    c.in-Err-Memory.field-0-is c.in-Err-Memory.ensures.tried.applied) refl
