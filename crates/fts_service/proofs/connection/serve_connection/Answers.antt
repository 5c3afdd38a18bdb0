-- One turn of the loop over the requests of a line, and its ends.
use Rattle.std.proofs.Common.{◌∙◌, refl, true, false, Ok, Err, ap, sym, subst, arith}
use Rattle.fts_wire.specs.RequestData.{RequestData}
use Rattle.fts_wire.specs.RoomData.{RoomData}
use Rattle.fts_wire.specs.Outside.{Side}
use Rattle.fts_wire.specs.Response.{Sends}
use Rattle.fts_wire.specs.declared.fault.WireFault.TheVariants.{EndsInside, SourceFailed}
use Rattle.fts_session.specs.Connections.{response_to, Loads}
use Rattle.fts_service.specs.Lanes.{AnswersInTurn, standing}
use Rattle.fts_service.proofs.Lines.{same_still, rose_from, reading_on, write_faults_stay, read_faults_stay, nothing_yet, ends_closed, ends_inside, ends_by_read, ends_refused, ends_by_many, one_more, ends_by_close, ends_cut}
use Rattle.fts_session.proofs.Turns.{refused_not_read}
use Rattle.fts_service.proofs.connection.serve_connection.Goals as goal

pub loop-done-init : goal.loop-done-init
loop-done-init g c =
    let read : Side g.row.L.Denot = record { bytes = g.L.Source.left; faults = g.L.Source.faults; reads = g.L.Source.reads; beside = g.L.Source.beside } in
    let written : Side g.row.L.Denot = record { bytes = g.L.Sink.held; faults = g.L.Sink.faults; reads = λ _. 0; beside = g.L.Sink.beside } in
    record {
      so_far = nothing_yet read written c.requires.line (standing c.args.pass.now (g.C.Clock.moments c.args.clock.now)) c.args.line.now c.clear.new.self.kept
          (ap (λ (r : RoomData). r.kept) c.clear.ensures);
      same = (refl, refl, refl, refl, refl, refl);
      input = omega arith;
      output = omega arith;
    }

pub returns-in-Ok-false-clause-same : goal.returns-in-Ok-false-clause-same
returns-in-Ok-false-clause-same g c = c.loop-done.invariant.same

pub returns-in-Ok-false-clause-served : goal.returns-in-Ok-false-clause-served
returns-in-Ok-false-clause-served g c =
    let read : Side g.row.L.Denot = record { bytes = g.L.Source.left; faults = g.L.Source.faults; reads = g.L.Source.reads; beside = g.L.Source.beside } in
    let written : Side g.row.L.Denot = record { bytes = g.L.Sink.held; faults = g.L.Sink.faults; reads = λ _. 0; beside = g.L.Sink.beside } in
    let loaded = rw c.in-Ok-false.field-0-test at c.in-Ok-false.ensures in
    let load : Loads c.loop-done.room.kept (reading_on read written c.loop-done.line) (reading_on read written c.load.new.source) c.load.new.self (Ok false) =
    record { next = loaded.next; taken = loaded.taken } in
    ends_closed read written c.requires.line (standing c.args.pass.now (g.C.Clock.moments c.args.clock.now)) c.args.line.now c.loop-done.done c.loop-done.room.kept c.loop-done.line
    (standing c.loop-done.pass (g.C.Clock.moments c.loop-done.clock)) c.loop-done.invariant.so_far
    c.load.new.source c.load.ensures.beside c.load.new.self c.loop-done-test.true load

pub returns-in-Err-EndsInside-clause-same : goal.returns-in-Err-EndsInside-clause-same
returns-in-Err-EndsInside-clause-same g c = c.loop-done.invariant.same

pub returns-in-Err-EndsInside-clause-served : goal.returns-in-Err-EndsInside-clause-served
returns-in-Err-EndsInside-clause-served g c =
    let read : Side g.row.L.Denot = record { bytes = g.L.Source.left; faults = g.L.Source.faults; reads = g.L.Source.reads; beside = g.L.Source.beside } in
    let written : Side g.row.L.Denot = record { bytes = g.L.Sink.held; faults = g.L.Sink.faults; reads = λ _. 0; beside = g.L.Sink.beside } in
    let loaded = rw c.in-Err-EndsInside.field-0-is at c.in-Err-EndsInside.ensures in
    let load : Loads c.loop-done.room.kept (reading_on read written c.loop-done.line) (reading_on read written c.load.new.source) c.load.new.self (Err EndsInside) =
    record { next = loaded.next; taken = loaded.taken } in
    ends_inside read written c.requires.line (standing c.args.pass.now (g.C.Clock.moments c.args.clock.now)) c.args.line.now c.loop-done.done c.loop-done.room.kept c.loop-done.line
    (standing c.loop-done.pass (g.C.Clock.moments c.loop-done.clock)) c.loop-done.invariant.so_far
    c.load.new.source c.load.ensures.beside c.load.new.self c.loop-done-test.true load

pub returns-in-Err-SourceFailed-clause-same : goal.returns-in-Err-SourceFailed-clause-same
returns-in-Err-SourceFailed-clause-same g c = c.loop-done.invariant.same

pub returns-in-Err-SourceFailed-clause-served : goal.returns-in-Err-SourceFailed-clause-served
returns-in-Err-SourceFailed-clause-served g c =
    let read : Side g.row.L.Denot = record { bytes = g.L.Source.left; faults = g.L.Source.faults; reads = g.L.Source.reads; beside = g.L.Source.beside } in
    let written : Side g.row.L.Denot = record { bytes = g.L.Sink.held; faults = g.L.Sink.faults; reads = λ _. 0; beside = g.L.Sink.beside } in
    let loaded = rw c.in-Err-SourceFailed.field-0-is at c.in-Err-SourceFailed.ensures in
    let load : Loads c.loop-done.room.kept (reading_on read written c.loop-done.line) (reading_on read written c.load.new.source) c.load.new.self (Err SourceFailed) =
    record { next = loaded.next; taken = loaded.taken } in
    ends_by_read read written c.requires.line (standing c.args.pass.now (g.C.Clock.moments c.args.clock.now)) c.args.line.now c.loop-done.done c.loop-done.room.kept c.loop-done.line
    (standing c.loop-done.pass (g.C.Clock.moments c.loop-done.clock)) c.loop-done.invariant.so_far
    c.load.new.source c.load.ensures.beside c.load.new.self c.loop-done-test.true load

pub returns-in-Err-SourceFailed-clause-input : goal.returns-in-Err-SourceFailed-clause-input
returns-in-Err-SourceFailed-clause-input g c = λ e. rose_from (g.L.Source.faults c.args.line.now) (g.L.Source.faults c.loop-done.line) (g.L.Source.faults c.load.new.source)
    c.loop-done.invariant.input (c.in-Err-SourceFailed.ensures.failed (ap (λ f. Err f) c.in-Err-SourceFailed.field-0-is))

pub returns-in-Err-clause-same : goal.returns-in-Err-clause-same
returns-in-Err-clause-same g c = c.loop-done.invariant.same

pub returns-in-Err-clause-served : goal.returns-in-Err-clause-served
returns-in-Err-clause-served g c =
    let read : Side g.row.L.Denot = record { bytes = g.L.Source.left; faults = g.L.Source.faults; reads = g.L.Source.reads; beside = g.L.Source.beside } in
    let written : Side g.row.L.Denot = record { bytes = g.L.Sink.held; faults = g.L.Sink.faults; reads = λ _. 0; beside = g.L.Sink.beside } in
    let load : Loads c.loop-done.room.kept (reading_on read written c.loop-done.line) (reading_on read written c.load.new.source) c.load.new.self (Err c.in-Err.fault) =
    record { next = c.in-Err.ensures.next; taken = c.in-Err.ensures.taken } in
    ends_refused read written c.requires.line (standing c.args.pass.now (g.C.Clock.moments c.args.clock.now)) c.args.line.now c.loop-done.done c.loop-done.room.kept c.loop-done.line
    (standing c.loop-done.pass (g.C.Clock.moments c.loop-done.clock)) c.loop-done.invariant.so_far
    c.load.new.source c.load.ensures.beside c.load.new.self c.loop-done-test.true c.refuse.new.output c.refuse.ensures.beside c.in-Err.fault c.refuse.result load c.refuse.ensures.refused

-- a refusal is no failed read
pub returns-in-Err-clause-input : goal.returns-in-Err-clause-input
returns-in-Err-clause-input g c = λ e. absurd (refused_not_read (g.L.Sink.held c.load.new.source) (g.L.Sink.held c.refuse.new.output) c.in-Err.fault c.refuse.result
    c.refuse.ensures.refused e)

pub returns-in-Err-clause-output : goal.returns-in-Err-clause-output
returns-in-Err-clause-output g c =
    let read : Side g.row.L.Denot = record { bytes = g.L.Source.left; faults = g.L.Source.faults; reads = g.L.Source.reads; beside = g.L.Source.beside } in
    let written : Side g.row.L.Denot = record { bytes = g.L.Sink.held; faults = g.L.Sink.faults; reads = λ _. 0; beside = g.L.Sink.beside } in
    λ e. rose_from (g.L.Sink.faults c.args.line.now) (g.L.Sink.faults c.load.new.source) (g.L.Sink.faults c.refuse.new.output)
    (omega (arith, c.loop-done.invariant.output, write_faults_stay read written c.requires.line c.loop-done.line c.load.new.source c.load.ensures.beside))
    (c.refuse.ensures.output e)

pub answer_in_turn-reply-requires : goal.answer_in_turn-reply-requires
answer_in_turn-reply-requires g c = record { own = c.loop-done.invariant.same.0 ∙ c.requires.own }

pub returns-in-Err-respond-clause-same : goal.returns-in-Err-respond-clause-same
returns-in-Err-respond-clause-same g c = same_still c.args.pass.now c.loop-done.pass c.answer_in_turn-reply.new.pass c.loop-done.invariant.same c.answer_in_turn-reply.ensures.answered.taken.same

pub returns-in-Err-respond-clause-served : goal.returns-in-Err-respond-clause-served
returns-in-Err-respond-clause-served g c =
    let read : Side g.row.L.Denot = record { bytes = g.L.Source.left; faults = g.L.Source.faults; reads = g.L.Source.reads; beside = g.L.Source.beside } in
    let written : Side g.row.L.Denot = record { bytes = g.L.Sink.held; faults = g.L.Sink.faults; reads = λ _. 0; beside = g.L.Sink.beside } in
    let loaded = rw c.in-Ok-true.field-0-test at c.in-Ok-true.ensures in
    let load : Loads c.loop-done.room.kept (reading_on read written c.loop-done.line) (reading_on read written c.load.new.source) c.load.new.self (Ok true) =
    record { next = loaded.next; taken = loaded.taken } in
    let answers : AnswersInTurn (standing c.loop-done.pass (g.C.Clock.moments c.loop-done.clock)) c.load.new.self.request c.answer_in_turn-reply.result (standing c.answer_in_turn-reply.new.pass (g.C.Clock.moments c.now-now.new.self)) =
    record { now = c.now-now.result; moment = c.now-now.ensures; answered = c.answer_in_turn-reply.ensures.answered } in
    let sent = subst (λ (request : RequestData). Sends (g.L.Sink.held c.load.new.source) (g.L.Sink.held c.respond.new.output)
    (response_to c.loop-done.done (record { request = request; reply = c.answer_in_turn-reply.result })) (Err c.in-Err-respond.field-0)) c.request-request.ensures c.in-Err-respond.ensures.sent in
    ends_cut read written c.requires.line (standing c.args.pass.now (g.C.Clock.moments c.args.clock.now)) c.args.line.now c.loop-done.done c.loop-done.room.kept c.loop-done.line
    (standing c.loop-done.pass (g.C.Clock.moments c.loop-done.clock)) c.loop-done.invariant.so_far
    c.load.new.source c.load.ensures.beside c.load.new.self c.loop-done-test.true c.respond.new.output c.respond.ensures.beside c.answer_in_turn-reply.result (standing c.answer_in_turn-reply.new.pass (g.C.Clock.moments c.now-now.new.self)) load answers c.in-Err-respond.field-0 sent

pub returns-in-Err-respond-clause-output : goal.returns-in-Err-respond-clause-output
returns-in-Err-respond-clause-output g c =
    let read : Side g.row.L.Denot = record { bytes = g.L.Source.left; faults = g.L.Source.faults; reads = g.L.Source.reads; beside = g.L.Source.beside } in
    let written : Side g.row.L.Denot = record { bytes = g.L.Sink.held; faults = g.L.Sink.faults; reads = λ _. 0; beside = g.L.Sink.beside } in
    λ e. rose_from (g.L.Sink.faults c.args.line.now) (g.L.Sink.faults c.load.new.source) (g.L.Sink.faults c.respond.new.output)
    (omega (arith, c.loop-done.invariant.output, write_faults_stay read written c.requires.line c.loop-done.line c.load.new.source c.load.ensures.beside))
    (c.in-Err-respond.ensures.cause.cause refl)

pub returns-then-request-clause-same : goal.returns-then-request-clause-same
returns-then-request-clause-same g c = same_still c.args.pass.now c.loop-done.pass c.answer_in_turn-reply.new.pass c.loop-done.invariant.same c.answer_in_turn-reply.ensures.answered.taken.same

pub returns-then-request-clause-served : goal.returns-then-request-clause-served
returns-then-request-clause-served g c =
    let read : Side g.row.L.Denot = record { bytes = g.L.Source.left; faults = g.L.Source.faults; reads = g.L.Source.reads; beside = g.L.Source.beside } in
    let written : Side g.row.L.Denot = record { bytes = g.L.Sink.held; faults = g.L.Sink.faults; reads = λ _. 0; beside = g.L.Sink.beside } in
    let loaded = rw c.in-Ok-true.field-0-test at c.in-Ok-true.ensures in
    let load : Loads c.loop-done.room.kept (reading_on read written c.loop-done.line) (reading_on read written c.load.new.source) c.load.new.self (Ok true) =
    record { next = loaded.next; taken = loaded.taken } in
    let answers : AnswersInTurn (standing c.loop-done.pass (g.C.Clock.moments c.loop-done.clock)) c.load.new.self.request c.answer_in_turn-reply.result (standing c.answer_in_turn-reply.new.pass (g.C.Clock.moments c.now-now.new.self)) =
    record { now = c.now-now.result; moment = c.now-now.ensures; answered = c.answer_in_turn-reply.ensures.answered } in
    let sent = subst (λ (request : RequestData). Sends (g.L.Sink.held c.load.new.source) (g.L.Sink.held c.respond.new.output)
    (response_to c.loop-done.done (record { request = request; reply = c.answer_in_turn-reply.result })) (Ok tt)) c.request-request.ensures c.in-Ok.ensures.sent in
    ends_by_close read written c.requires.line (standing c.args.pass.now (g.C.Clock.moments c.args.clock.now)) c.args.line.now c.loop-done.done c.loop-done.room.kept c.loop-done.line
    (standing c.loop-done.pass (g.C.Clock.moments c.loop-done.clock)) c.loop-done.invariant.so_far
    c.load.new.source c.load.ensures.beside c.load.new.self c.loop-done-test.true c.respond.new.output c.respond.ensures.beside c.answer_in_turn-reply.result (standing c.answer_in_turn-reply.new.pass (g.C.Clock.moments c.now-now.new.self)) load answers sent (sym (ap (λ (r : RequestData). r.close) c.request-request.ensures) ∙ c.if-request.true)

pub loop-done-preserved : goal.loop-done-preserved
loop-done-preserved g c =
    let read : Side g.row.L.Denot = record { bytes = g.L.Source.left; faults = g.L.Source.faults; reads = g.L.Source.reads; beside = g.L.Source.beside } in
    let written : Side g.row.L.Denot = record { bytes = g.L.Sink.held; faults = g.L.Sink.faults; reads = λ _. 0; beside = g.L.Sink.beside } in
    let loaded = rw c.in-Ok-true.field-0-test at c.in-Ok-true.ensures in
    let load : Loads c.loop-done.room.kept (reading_on read written c.loop-done.line) (reading_on read written c.load.new.source) c.load.new.self (Ok true) =
    record { next = loaded.next; taken = loaded.taken } in
    let answers : AnswersInTurn (standing c.loop-done.pass (g.C.Clock.moments c.loop-done.clock)) c.load.new.self.request c.answer_in_turn-reply.result (standing c.answer_in_turn-reply.new.pass (g.C.Clock.moments c.now-now.new.self)) =
    record { now = c.now-now.result; moment = c.now-now.ensures; answered = c.answer_in_turn-reply.ensures.answered } in
    let sent = subst (λ (request : RequestData). Sends (g.L.Sink.held c.load.new.source) (g.L.Sink.held c.respond.new.output)
    (response_to c.loop-done.done (record { request = request; reply = c.answer_in_turn-reply.result })) (Ok tt)) c.request-request.ensures c.in-Ok.ensures.sent in
    record {
      so_far = one_more read written c.requires.line (standing c.args.pass.now (g.C.Clock.moments c.args.clock.now)) c.args.line.now c.loop-done.done c.loop-done.room.kept c.loop-done.line
          (standing c.loop-done.pass (g.C.Clock.moments c.loop-done.clock)) c.loop-done.invariant.so_far
          c.load.new.source c.load.ensures.beside c.load.new.self c.loop-done-test.true c.respond.new.output c.respond.ensures.beside c.answer_in_turn-reply.result (standing c.answer_in_turn-reply.new.pass (g.C.Clock.moments c.now-now.new.self)) load answers sent (sym (ap (λ (r : RequestData). r.close) c.request-request.ensures) ∙ c.if-request.false);
      same = same_still c.args.pass.now c.loop-done.pass c.answer_in_turn-reply.new.pass c.loop-done.invariant.same c.answer_in_turn-reply.ensures.answered.taken.same;
      input = omega (arith, c.loop-done.invariant.input, c.load.ensures.faults, read_faults_stay read written c.requires.line c.load.new.source c.respond.new.output c.respond.ensures.beside);
      output = omega (arith, c.loop-done.invariant.output, write_faults_stay read written c.requires.line c.loop-done.line c.load.new.source c.load.ensures.beside, c.respond.ensures.cause.keeps);
    }

pub returns-clause-same : goal.returns-clause-same
returns-clause-same g c = c.loop-done.invariant.same

pub returns-clause-served : goal.returns-clause-served
returns-clause-served g c =
    let read : Side g.row.L.Denot = record { bytes = g.L.Source.left; faults = g.L.Source.faults; reads = g.L.Source.reads; beside = g.L.Source.beside } in
    let written : Side g.row.L.Denot = record { bytes = g.L.Sink.held; faults = g.L.Sink.faults; reads = λ _. 0; beside = g.L.Sink.beside } in
    ends_by_many read written c.requires.line (standing c.args.pass.now (g.C.Clock.moments c.args.clock.now)) c.args.line.now c.loop-done.done c.loop-done.room.kept c.loop-done.line
    (standing c.loop-done.pass (g.C.Clock.moments c.loop-done.clock)) c.loop-done.invariant.so_far
    (omega (arith, c.loop-done-test.false, c.loop-done.auto.done-end))
