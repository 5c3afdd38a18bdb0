-- A claim: accepted, idle, or stopped.
use Rattle.std.proofs.Common.{refl, sym, subst, true, Ok, Err}
use Rattle.fts_tables.specs.declared.commands.Command.TheVariants.{Claim}
use Rattle.fts_keep.specs.Applied.{Applied, entry_by}
use Rattle.fts_keep.specs.declared.fault.KeepFault.TheVariants.{DiskFailed, JournalFull, Memory}
use Rattle.fts_workers.specs.Benches.{BenchData}
use Rattle.fts_workers.specs.Steps.{MakesNoCopy, FillsOn, stand}
use Rattle.fts_workers.specs.declared.ends.RoundEnd.TheVariants.{DiskFailed as EndsByDisk, JournalFull as EndsByLimit, Memory as EndsByMemory}
use Rattle.fts_workers.proofs.Claimed.{claimed_part, claim_found_none, claim_stops}
use Rattle.fts_workers.proofs.rounds.claim_next.Goals as goal

pub returns-in-Ok-clause-part : goal.returns-in-Ok-clause-part
returns-in-Ok-clause-part g c =
    subst (λ (b : BenchData). MakesNoCopy g.D.Disk.state g.D.Disk.faults (FillsOn c.args.bench.now.places (Ok true))
    (stand c.args.keep.now c.args.bench.now (g.C.Clock.moments c.args.clock.now) (g.W.Words.words c.args.words.now))
    (stand c.claim.new.keep b (g.C.Clock.moments c.now-now.new.self) (g.W.Words.words c.next-word.new.self)))
    (sym c.hold.ensures.held)
    (claimed_part g.D.Disk.state g.D.Disk.faults c.tables_are_well_formed.ensures.formed c.picked_rows_stand.ensures.place
    c.claimed_files_were_in.ensures.lists
    c.args.keep.now c.claim.new.keep c.args.bench.now c.requires.none c.requires.free
    (g.C.Clock.moments c.args.clock.now) (g.C.Clock.moments c.now-now.new.self) (g.W.Words.words c.args.words.now) (g.W.Words.words c.next-word.new.self)
    c.now-now.result c.next-word.result c.now-now.ensures c.next-word.ensures c.claim.ensures.tried.keeps.grows.counts
    c.in-Ok.answer c.in-Ok.ensures.tried.applied c.held_of.result c.held_of.ensures c.requires.order.0 c.requires.order.1)

pub returns-in-Err-Rule-clause-part : goal.returns-in-Err-Rule-clause-part
returns-in-Err-Rule-clause-part g c =
    claim_found_none g.D.Disk.state g.D.Disk.faults c.tables_are_well_formed.ensures.formed c.picked_rows_stand.ensures.place
    c.claimed_files_were_in.ensures.lists
    c.args.keep.now c.claim.new.keep c.args.bench.now c.requires.none c.requires.free
    (g.C.Clock.moments c.args.clock.now) (g.C.Clock.moments c.now-now.new.self) (g.W.Words.words c.args.words.now) (g.W.Words.words c.next-word.new.self)
    c.now-now.result c.next-word.result c.now-now.ensures c.next-word.ensures c.claim.ensures.tried.keeps.grows.counts
    c.in-Err-Rule.field-0-0 (subst (λ f. Applied g.D.Disk.state g.D.Disk.faults c.args.keep.now c.claim.new.keep (entry_by 0
    (Claim c.now-now.result c.next-word.result)) (Err f))
    c.in-Err-Rule.field-0-is c.in-Err-Rule.ensures.tried.applied)

pub returns-in-Err-DiskFailed-clause-part : goal.returns-in-Err-DiskFailed-clause-part
returns-in-Err-DiskFailed-clause-part g c =
    claim_stops g.D.Disk.state g.D.Disk.faults c.tables_are_well_formed.ensures.formed c.picked_rows_stand.ensures.place c.claimed_files_were_in.ensures.lists
    c.args.keep.now c.claim.new.keep c.args.bench.now c.requires.none c.requires.free
    (g.C.Clock.moments c.args.clock.now) (g.C.Clock.moments c.now-now.new.self) (g.W.Words.words c.args.words.now) (g.W.Words.words c.next-word.new.self)
    c.now-now.result c.next-word.result c.now-now.ensures c.next-word.ensures c.claim.ensures.tried.keeps.grows.counts
    DiskFailed EndsByDisk (subst (λ f. Applied g.D.Disk.state g.D.Disk.faults c.args.keep.now c.claim.new.keep (entry_by 0
    (Claim c.now-now.result c.next-word.result)) (Err f))
    c.in-Err-DiskFailed.field-0-is c.in-Err-DiskFailed.ensures.tried.applied) refl

pub returns-in-Err-JournalFull-clause-part : goal.returns-in-Err-JournalFull-clause-part
returns-in-Err-JournalFull-clause-part g c =
    claim_stops g.D.Disk.state g.D.Disk.faults c.tables_are_well_formed.ensures.formed c.picked_rows_stand.ensures.place c.claimed_files_were_in.ensures.lists
    c.args.keep.now c.claim.new.keep c.args.bench.now c.requires.none c.requires.free
    (g.C.Clock.moments c.args.clock.now) (g.C.Clock.moments c.now-now.new.self) (g.W.Words.words c.args.words.now) (g.W.Words.words c.next-word.new.self)
    c.now-now.result c.next-word.result c.now-now.ensures c.next-word.ensures c.claim.ensures.tried.keeps.grows.counts
    (JournalFull c.in-Err-JournalFull.used) (EndsByLimit c.in-Err-JournalFull.used) (subst
    (λ f. Applied g.D.Disk.state g.D.Disk.faults c.args.keep.now c.claim.new.keep (entry_by 0 (Claim c.now-now.result c.next-word.result)) (Err f))
    c.in-Err-JournalFull.field-0-is c.in-Err-JournalFull.ensures.tried.applied) refl

pub returns-in-Err-Memory-clause-part : goal.returns-in-Err-Memory-clause-part
returns-in-Err-Memory-clause-part g c =
    claim_stops g.D.Disk.state g.D.Disk.faults c.tables_are_well_formed.ensures.formed c.picked_rows_stand.ensures.place c.claimed_files_were_in.ensures.lists
    c.args.keep.now c.claim.new.keep c.args.bench.now c.requires.none c.requires.free
    (g.C.Clock.moments c.args.clock.now) (g.C.Clock.moments c.now-now.new.self) (g.W.Words.words c.args.words.now) (g.W.Words.words c.next-word.new.self)
    c.now-now.result c.next-word.result c.now-now.ensures c.next-word.ensures c.claim.ensures.tried.keeps.grows.counts
    Memory EndsByMemory (subst (λ f. Applied g.D.Disk.state g.D.Disk.faults c.args.keep.now c.claim.new.keep (entry_by 0
    (Claim c.now-now.result c.next-word.result)) (Err f))
    c.in-Err-Memory.field-0-is c.in-Err-Memory.ensures.tried.applied) refl
