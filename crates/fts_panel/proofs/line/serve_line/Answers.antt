-- One load, and what follows of what it found.
use Rattle.std.proofs.Common.{ap, refl, subst, true, false, Ok, Err}
use Rattle.fts_wire.specs.Outside.{Side}
use Rattle.fts_wire.specs.RequestData.{RequestData}
use Rattle.fts_wire.specs.RoomData.{RoomData}
use Rattle.fts_wire.specs.declared.fault.WireFault.TheVariants.{EndsInside, SourceFailed}
use Rattle.fts_panel.specs.Lines.{IsAnswered, seen}
use Rattle.fts_panel.proofs.Serving.{served_by, refused}
use Rattle.fts_panel.proofs.line.serve_line.Goals as goal

pub returns-in-Ok-true : goal.returns-in-Ok-true
returns-in-Ok-true g c =
    let read : Side g.row.L.Denot = record { bytes = g.L.Source.left; faults = g.L.Source.faults; reads = g.L.Source.reads; beside = g.L.Source.beside } in
    let written : Side g.row.L.Denot = record { bytes = g.L.Sink.held; faults = g.L.Sink.faults; reads = λ _. 0; beside = g.L.Sink.beside } in
    let loaded = rw c.in-Ok-true.field-0-test at c.in-Ok-true.ensures in
    record {
      served = served_by g.D.Disk.state g.D.Disk.faults read written c.requires.line c.args.line.now c.clear.new.self.kept (ap (λ (r : RoomData). r.kept) c.clear.ensures) c.load.new.source
          c.answer.new.sink c.load.ensures.beside c.answer.ensures.beside c.load.new.self (Ok true) (seen c.args.view (g.C.Clock.moments c.args.clock.now)) (seen c.answer.result (g.C.Clock.moments c.answer.new.clock))
          (record { next = loaded.next; taken = loaded.taken })
          (subst (λ (r : RequestData). IsAnswered g.D.Disk.state g.D.Disk.faults (seen c.args.view (g.C.Clock.moments c.args.clock.now)) (seen c.answer.result (g.C.Clock.moments c.answer.new.clock)) r (g.L.Sink.held c.load.new.source) (g.L.Sink.held c.answer.new.sink)
          (g.L.Sink.faults c.load.new.source) (g.L.Sink.faults c.answer.new.sink)) c.request.ensures c.answer.ensures.answered);
    }

pub returns-in-Ok-false : goal.returns-in-Ok-false
returns-in-Ok-false g c =
    let read : Side g.row.L.Denot = record { bytes = g.L.Source.left; faults = g.L.Source.faults; reads = g.L.Source.reads; beside = g.L.Source.beside } in
    let written : Side g.row.L.Denot = record { bytes = g.L.Sink.held; faults = g.L.Sink.faults; reads = λ _. 0; beside = g.L.Sink.beside } in
    let loaded = rw c.in-Ok-false.field-0-test at c.in-Ok-false.ensures in
    record {
      served = served_by g.D.Disk.state g.D.Disk.faults read written c.requires.line c.args.line.now c.clear.new.self.kept (ap (λ (r : RoomData). r.kept) c.clear.ensures) c.load.new.source
          c.load.new.source c.load.ensures.beside refl c.load.new.self (Ok false) (seen c.args.view (g.C.Clock.moments c.args.clock.now)) (seen c.args.view (g.C.Clock.moments c.args.clock.now))
          (record { next = loaded.next; taken = loaded.taken }) (refl, refl);
    }

pub returns-in-Err-EndsInside : goal.returns-in-Err-EndsInside
returns-in-Err-EndsInside g c =
    let read : Side g.row.L.Denot = record { bytes = g.L.Source.left; faults = g.L.Source.faults; reads = g.L.Source.reads; beside = g.L.Source.beside } in
    let written : Side g.row.L.Denot = record { bytes = g.L.Sink.held; faults = g.L.Sink.faults; reads = λ _. 0; beside = g.L.Sink.beside } in
    let loaded = rw c.in-Err-EndsInside.field-0-is at c.in-Err-EndsInside.ensures in
    record {
      served = served_by g.D.Disk.state g.D.Disk.faults read written c.requires.line c.args.line.now c.clear.new.self.kept (ap (λ (r : RoomData). r.kept) c.clear.ensures) c.load.new.source
          c.load.new.source c.load.ensures.beside refl c.load.new.self (Err EndsInside) (seen c.args.view (g.C.Clock.moments c.args.clock.now)) (seen c.args.view (g.C.Clock.moments c.args.clock.now))
          (record { next = loaded.next; taken = loaded.taken }) (refl, refl);
    }

pub returns-in-Err-SourceFailed : goal.returns-in-Err-SourceFailed
returns-in-Err-SourceFailed g c =
    let read : Side g.row.L.Denot = record { bytes = g.L.Source.left; faults = g.L.Source.faults; reads = g.L.Source.reads; beside = g.L.Source.beside } in
    let written : Side g.row.L.Denot = record { bytes = g.L.Sink.held; faults = g.L.Sink.faults; reads = λ _. 0; beside = g.L.Sink.beside } in
    let loaded = rw c.in-Err-SourceFailed.field-0-is at c.in-Err-SourceFailed.ensures in
    record {
      served = served_by g.D.Disk.state g.D.Disk.faults read written c.requires.line c.args.line.now c.clear.new.self.kept (ap (λ (r : RoomData). r.kept) c.clear.ensures) c.load.new.source
          c.load.new.source c.load.ensures.beside refl c.load.new.self (Err SourceFailed) (seen c.args.view (g.C.Clock.moments c.args.clock.now)) (seen c.args.view (g.C.Clock.moments c.args.clock.now))
          (record { next = loaded.next; taken = loaded.taken }) (refl, refl);
    }

pub returns-in-Err : goal.returns-in-Err
returns-in-Err g c =
    let read : Side g.row.L.Denot = record { bytes = g.L.Source.left; faults = g.L.Source.faults; reads = g.L.Source.reads; beside = g.L.Source.beside } in
    let written : Side g.row.L.Denot = record { bytes = g.L.Sink.held; faults = g.L.Sink.faults; reads = λ _. 0; beside = g.L.Sink.beside } in
    record {
      served = served_by g.D.Disk.state g.D.Disk.faults read written c.requires.line c.args.line.now c.clear.new.self.kept (ap (λ (r : RoomData). r.kept) c.clear.ensures) c.load.new.source
          c.refuse_bytes.new.sink c.load.ensures.beside c.refuse_bytes.ensures.beside c.load.new.self (Err c.in-Err.fault) (seen c.args.view (g.C.Clock.moments c.args.clock.now)) (seen c.args.view (g.C.Clock.moments c.args.clock.now))
          (record { next = c.in-Err.ensures.next; taken = c.in-Err.ensures.taken })
          (refused g.D.Disk.state g.D.Disk.faults (seen c.args.view (g.C.Clock.moments c.args.clock.now)) c.load.new.self c.in-Err.fault (g.L.Sink.held c.load.new.source) (g.L.Sink.held c.refuse_bytes.new.sink)
          (g.L.Sink.faults c.load.new.source) (g.L.Sink.faults c.refuse_bytes.new.sink) c.refuse_bytes.ensures.refused);
    }
