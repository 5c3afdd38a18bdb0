-- The first file that is held is copied, and then reported.
use Rattle.std.proofs.Common.{◌≡◌, sym, ◌∙◌, subst, ◌+◌, length, OnOk}
use Rattle.fts_tables.specs.Tables.{AreWellFormed}
use Rattle.fts_workers.specs.FirstFile.{HasFirst, CopiesFirst}
use Rattle.fts_workers.proofs.FirstCopied.{first_there, front_of, mid_copied, mid_length, mid_places, over_mid, worked_part}
use Rattle.fts_workers.proofs.rounds.work_first.Goals as goal

pub copy_first-requires-clause-formed : goal.copy_first-requires-clause-formed
copy_first-requires-clause-formed g c =
    let list = c.requires.order.1.list in
    subst (λ t. AreWellFormed t) (sym (c.desk.ensures.tables ∙ list.folded)) (c.tables_are_well_formed.ensures.formed c.requires.order.0 list.legal)

pub copy_first-requires-clause-first : goal.copy_first-requires-clause-first
copy_first-requires-clause-first g c =
    let list = c.requires.order.1.list in
    subst (λ t. HasFirst t c.args.bench.now.held) (sym (c.desk.ensures.tables ∙ list.folded))
    (first_there c.tables_are_well_formed.ensures.formed c.files_out_are_the_active_rows.ensures.out c.requires.order.0 list.legal
    c.args.bench.now.held c.requires.order.1.held c.requires.some)

pub report_first-requires-clause-order : goal.report_first-requires-clause-order
report_first-requires-clause-order g c =
    let front = front_of c.args.bench.now.held c.requires.some in
    let copies = c.copy_first.ensures.copied front.first front.others front.is in
    let counted = subst (λ t. CopiesFirst g.E.Store.state g.E.Store.calls g.E.Store.faults t front.first front.others c.args.bench.now
    c.copy_first.new.self c.args.store.now c.copy_first.new.store) c.desk.ensures.tables copies in (
      c.requires.order.0,
      over_mid g.D.Disk.state g.D.Disk.faults g.E.Store.state g.E.Store.calls g.E.Store.faults c.args.keep.now c.args.keep.now c.args.bench.now
          c.copy_first.new.self c.args.bench.now
          front.first front.others c.args.store.now c.copy_first.new.store front.is counted c.requires.order.0 c.requires.order.1,
    )

pub report_first-requires-clause-copied : goal.report_first-requires-clause-copied
report_first-requires-clause-copied g c =
    let front = front_of c.args.bench.now.held c.requires.some in
    let copies = c.copy_first.ensures.copied front.first front.others front.is in
    let counted = subst (λ t. CopiesFirst g.E.Store.state g.E.Store.calls g.E.Store.faults t front.first front.others c.args.bench.now
    c.copy_first.new.self c.args.store.now c.copy_first.new.store) c.desk.ensures.tables copies in
    mid_copied g.D.Disk.state g.D.Disk.faults g.E.Store.state g.E.Store.calls g.E.Store.faults c.args.keep.now c.args.keep.now c.args.bench.now
    c.copy_first.new.self c.args.bench.now
    front.first front.others c.args.store.now c.copy_first.new.store front.is counted

pub returns-clause-part : goal.returns-clause-part
returns-clause-part g c = λ words workers.
    let front = front_of c.args.bench.now.held c.requires.some in
    let copies = c.copy_first.ensures.copied front.first front.others front.is in
    let counted = subst (λ t. CopiesFirst g.E.Store.state g.E.Store.calls g.E.Store.faults t front.first front.others c.args.bench.now
    c.copy_first.new.self c.args.store.now c.copy_first.new.store) c.desk.ensures.tables copies in
    worked_part g.D.Disk.state g.D.Disk.faults g.E.Store.state g.E.Store.calls g.E.Store.faults c.args.keep.now c.report_first.new.keep c.args.bench.now
    c.copy_first.new.self c.report_first.new.bench
    front.first front.others c.args.store.now c.copy_first.new.store front.is counted
    (g.C.Clock.moments c.args.clock.now) (g.C.Clock.moments c.report_first.new.clock) words workers c.report_first.result c.requires.order.0
    c.requires.order.1
    (c.report_first.ensures.part words workers)

pub returns-clause-places : goal.returns-clause-places
returns-clause-places g c =
    let front = front_of c.args.bench.now.held c.requires.some in
    let copies = c.copy_first.ensures.copied front.first front.others front.is in
    let counted = subst (λ t. CopiesFirst g.E.Store.state g.E.Store.calls g.E.Store.faults t front.first front.others c.args.bench.now
    c.copy_first.new.self c.args.store.now c.copy_first.new.store) c.desk.ensures.tables copies in
    c.report_first.ensures.places ∙ mid_places g.D.Disk.state g.D.Disk.faults g.E.Store.state g.E.Store.calls g.E.Store.faults c.args.keep.now
    c.args.keep.now c.args.bench.now c.copy_first.new.self c.args.bench.now
    front.first front.others c.args.store.now c.copy_first.new.store front.is counted

pub returns-clause-shorter : goal.returns-clause-shorter
returns-clause-shorter g c =
    let front = front_of c.args.bench.now.held c.requires.some in
    let copies = c.copy_first.ensures.copied front.first front.others front.is in
    let counted = subst (λ t. CopiesFirst g.E.Store.state g.E.Store.calls g.E.Store.faults t front.first front.others c.args.bench.now
    c.copy_first.new.self c.args.store.now c.copy_first.new.store) c.desk.ensures.tables copies in
    subst (λ n. OnOk c.report_first.result (length c.report_first.new.bench.held + 1 ≡ n))
    (mid_length g.D.Disk.state g.D.Disk.faults g.E.Store.state g.E.Store.calls g.E.Store.faults c.args.keep.now c.args.keep.now c.args.bench.now
    c.copy_first.new.self c.args.bench.now
    front.first front.others c.args.store.now c.copy_first.new.store front.is counted)
    c.report_first.ensures.shorter
