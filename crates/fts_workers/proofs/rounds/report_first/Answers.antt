-- The report of the first file: accepted, or stopped with its outcome kept.
use Rattle.std.proofs.Common.{sym, subst, get_or, None, Ok}
use Rattle.fts_workers.specs.Benches.{BenchData, KeepsOne}
use Rattle.fts_workers.specs.Steps.{MakesNoCopy, WorksOn, stand}
use Rattle.fts_workers.specs.declared.held.Held.{Held}
use Rattle.fts_workers.proofs.FirstCopied.{head_of, copied_keeps, others_keep}
use Rattle.fts_workers.proofs.Reported.{reported_part, report_stops, report_stop}
use Rattle.fts_workers.proofs.rounds.report_first.Goals as goal

pub end_by-requires : goal.end_by-requires
end_by-requires g c =
    let default : Held = record { file = 0; attempt = 0; outcome = None } in
    let first = get_or c.held.result.now 0 default in
    let outcome = c.in-Some.outcome in
    let head = head_of c.args.bench.now.held c.held.result.now default outcome c.held.ensures.held c.requires.copied c.in-Some.is in
    report_stop g.D.Disk.state g.D.Disk.faults c.tables_are_well_formed.ensures.formed c.files_out_are_the_active_rows.ensures.out
    c.args.keep.now c.apply.new.self c.args.bench.now first head.others outcome head.is c.in-Some.is head.wanted
    (g.C.Clock.moments c.args.clock.now) (g.C.Clock.moments c.now-now.new.self) None c.now-now.result c.now-now.ensures c.apply.ensures.grows.counts 0
    c.requires.order.0 c.requires.order.1 c.in-Err.fault c.in-Err.ensures.applied

pub returns-in-Ok-clause-part : goal.returns-in-Ok-clause-part
returns-in-Ok-clause-part g c = λ words workers.
    let default : Held = record { file = 0; attempt = 0; outcome = None } in
    let first = get_or c.held.result.now 0 default in
    let outcome = c.in-Some.outcome in
    let head = head_of c.args.bench.now.held c.held.result.now default outcome c.held.ensures.held c.requires.copied c.in-Some.is in
    subst (λ (b : BenchData). MakesNoCopy g.D.Disk.state g.D.Disk.faults (WorksOn workers (Ok tt))
    (stand c.args.keep.now c.args.bench.now (g.C.Clock.moments c.args.clock.now) words) (stand c.apply.new.self b (g.C.Clock.moments c.now-now.new.self) words))
    (sym (c.drop_first.ensures.dropped first head.others head.is))
    (reported_part g.D.Disk.state g.D.Disk.faults c.tables_are_well_formed.ensures.formed c.files_out_are_the_active_rows.ensures.out
    c.args.keep.now c.apply.new.self c.args.bench.now first head.others outcome head.is c.in-Some.is head.wanted
    (g.C.Clock.moments c.args.clock.now) (g.C.Clock.moments c.now-now.new.self) words c.now-now.result c.now-now.ensures c.apply.ensures.grows.counts workers
    c.in-Ok.field-0 c.in-Ok.ensures.applied c.requires.order.0 c.requires.order.1)

pub returns-in-Ok-clause-kept : goal.returns-in-Ok-clause-kept
returns-in-Ok-clause-kept g c =
    let default : Held = record { file = 0; attempt = 0; outcome = None } in
    let first = get_or c.held.result.now 0 default in
    let outcome = c.in-Some.outcome in
    let head = head_of c.args.bench.now.held c.held.result.now default outcome c.held.ensures.held c.requires.copied c.in-Some.is in
    subst (λ (b : BenchData). KeepsOne b.held) (sym (c.drop_first.ensures.dropped first head.others head.is))
    (others_keep c.requires.order.0 c.args.bench.now.held first head.others c.requires.order.1.held head.is)

pub returns-in-Err-clause-part : goal.returns-in-Err-clause-part
returns-in-Err-clause-part g c = λ words workers.
    let default : Held = record { file = 0; attempt = 0; outcome = None } in
    let first = get_or c.held.result.now 0 default in
    let outcome = c.in-Some.outcome in
    let head = head_of c.args.bench.now.held c.held.result.now default outcome c.held.ensures.held c.requires.copied c.in-Some.is in
    report_stops g.D.Disk.state g.D.Disk.faults c.tables_are_well_formed.ensures.formed c.files_out_are_the_active_rows.ensures.out
    c.args.keep.now c.apply.new.self c.args.bench.now first head.others outcome head.is c.in-Some.is head.wanted
    (g.C.Clock.moments c.args.clock.now) (g.C.Clock.moments c.now-now.new.self) words c.now-now.result c.now-now.ensures c.apply.ensures.grows.counts workers
    c.in-Err.fault c.end_by.result c.in-Err.ensures.applied c.end_by.ensures

pub returns-in-Err-clause-kept : goal.returns-in-Err-clause-kept
returns-in-Err-clause-kept g c =
    let default : Held = record { file = 0; attempt = 0; outcome = None } in
    let first = get_or c.held.result.now 0 default in
    let outcome = c.in-Some.outcome in
    let head = head_of c.args.bench.now.held c.held.result.now default outcome c.held.ensures.held c.requires.copied c.in-Some.is in
    copied_keeps c.requires.order.0 c.args.bench.now.held first outcome c.requires.order.1.held head c.in-Some.is
