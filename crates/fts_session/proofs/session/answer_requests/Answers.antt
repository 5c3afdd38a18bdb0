-- One turn of a connection's loop, and its ends.
use Rattle.std.proofs.Common.{◌∙◌, true, false, Ok, Err, ap, sym, subst, arith}
use Rattle.fts_wire.specs.RequestData.{RequestData}
use Rattle.fts_wire.specs.Response.{Sends}
use Rattle.fts_wire.specs.declared.fault.WireFault.TheVariants.{EndsInside, SourceFailed}
use Rattle.fts_routes.specs.Replies.{Answers}
use Rattle.fts_session.specs.Connections.{reading_of, response_to, Loads}
use Rattle.fts_session.specs.Sessions.{thread}
use Rattle.fts_session.proofs.Worked.{LeavesBench}
use Rattle.fts_session.proofs.Serving.{nothing_yet, ends_closed, ends_inside, ends_by_read, ends_refused, ends_by_many, one_more, ends_by_close, ends_cut, is_ready}
use Rattle.fts_session.proofs.Turns.{refused_not_read}
use Rattle.fts_session.proofs.session.answer_requests.Goals as goal

pub loop-done-init : goal.loop-done-init
loop-done-init g c = record {
  so_far = nothing_yet g.D.Disk g.E.Store c.args.working.now.bench.places c.args.room.now.kept (reading_of (g.S.Source.left c.args.input.now) (g.S.Source.reads c.args.input.now)) (g.K.Sink.held c.args.output.now) (thread c.args.working.now.keep c.args.working.now.bench c.args.working.now.claims c.args.store.now (g.C.Clock.moments c.args.clock.now) (g.W.Words.words c.args.words.now))
      c.requires.ready c.desk.ensures.kept (g.met.D.Disk.lawful c.args.working.now.keep.disk);
  input = omega arith;
  output = omega arith;
}

pub returns-in-Ok-false-clause-works : goal.returns-in-Ok-false-clause-works
returns-in-Ok-false-clause-works g c =
    let before = reading_of (g.S.Source.left c.loop-done.input) (g.S.Source.reads c.loop-done.input) in
    let input = reading_of (g.S.Source.left c.load.new.source) (g.S.Source.reads c.load.new.source) in
    let loaded = rw c.in-Ok-false.field-0-test at c.in-Ok-false.ensures in
    let load : Loads c.loop-done.room.kept before input c.load.new.self (Ok false) = record { next = loaded.next; taken = loaded.taken } in
    ends_closed g.D.Disk g.E.Store c.args.working.now.bench.places c.args.room.now.kept
    (reading_of (g.S.Source.left c.args.input.now) (g.S.Source.reads c.args.input.now)) (g.K.Sink.held c.args.output.now)
    (thread c.args.working.now.keep c.args.working.now.bench c.args.working.now.claims c.args.store.now (g.C.Clock.moments c.args.clock.now) (g.W.Words.words c.args.words.now))
    c.loop-done.done c.loop-done.room.kept (reading_of (g.S.Source.left c.loop-done.input) (g.S.Source.reads c.loop-done.input)) (g.K.Sink.held c.loop-done.output)
    (thread c.loop-done.working.keep c.loop-done.working.bench c.loop-done.working.claims c.loop-done.store (g.C.Clock.moments c.loop-done.clock) (g.W.Words.words c.loop-done.words))
    c.loop-done.invariant.so_far
    input c.load.new.self c.loop-done-test.true load

pub returns-in-Err-EndsInside-clause-works : goal.returns-in-Err-EndsInside-clause-works
returns-in-Err-EndsInside-clause-works g c =
    let before = reading_of (g.S.Source.left c.loop-done.input) (g.S.Source.reads c.loop-done.input) in
    let input = reading_of (g.S.Source.left c.load.new.source) (g.S.Source.reads c.load.new.source) in
    let loaded = rw c.in-Err-EndsInside.field-0-is at c.in-Err-EndsInside.ensures in
    let load : Loads c.loop-done.room.kept before input c.load.new.self (Err EndsInside) = record { next = loaded.next; taken = loaded.taken } in
    ends_inside g.D.Disk g.E.Store c.args.working.now.bench.places c.args.room.now.kept
    (reading_of (g.S.Source.left c.args.input.now) (g.S.Source.reads c.args.input.now)) (g.K.Sink.held c.args.output.now)
    (thread c.args.working.now.keep c.args.working.now.bench c.args.working.now.claims c.args.store.now (g.C.Clock.moments c.args.clock.now) (g.W.Words.words c.args.words.now))
    c.loop-done.done c.loop-done.room.kept (reading_of (g.S.Source.left c.loop-done.input) (g.S.Source.reads c.loop-done.input)) (g.K.Sink.held c.loop-done.output)
    (thread c.loop-done.working.keep c.loop-done.working.bench c.loop-done.working.claims c.loop-done.store (g.C.Clock.moments c.loop-done.clock) (g.W.Words.words c.loop-done.words))
    c.loop-done.invariant.so_far
    input c.load.new.self c.loop-done-test.true load

pub returns-in-Err-SourceFailed-clause-works : goal.returns-in-Err-SourceFailed-clause-works
returns-in-Err-SourceFailed-clause-works g c =
    let before = reading_of (g.S.Source.left c.loop-done.input) (g.S.Source.reads c.loop-done.input) in
    let input = reading_of (g.S.Source.left c.load.new.source) (g.S.Source.reads c.load.new.source) in
    let loaded = rw c.in-Err-SourceFailed.field-0-is at c.in-Err-SourceFailed.ensures in
    let load : Loads c.loop-done.room.kept before input c.load.new.self (Err SourceFailed) = record { next = loaded.next; taken = loaded.taken } in
    ends_by_read g.D.Disk g.E.Store c.args.working.now.bench.places c.args.room.now.kept
    (reading_of (g.S.Source.left c.args.input.now) (g.S.Source.reads c.args.input.now)) (g.K.Sink.held c.args.output.now)
    (thread c.args.working.now.keep c.args.working.now.bench c.args.working.now.claims c.args.store.now (g.C.Clock.moments c.args.clock.now) (g.W.Words.words c.args.words.now))
    c.loop-done.done c.loop-done.room.kept (reading_of (g.S.Source.left c.loop-done.input) (g.S.Source.reads c.loop-done.input)) (g.K.Sink.held c.loop-done.output)
    (thread c.loop-done.working.keep c.loop-done.working.bench c.loop-done.working.claims c.loop-done.store (g.C.Clock.moments c.loop-done.clock) (g.W.Words.words c.loop-done.words))
    c.loop-done.invariant.so_far
    input c.load.new.self c.loop-done-test.true load

pub returns-in-Err-clause-works : goal.returns-in-Err-clause-works
returns-in-Err-clause-works g c =
    let before = reading_of (g.S.Source.left c.loop-done.input) (g.S.Source.reads c.loop-done.input) in
    let input = reading_of (g.S.Source.left c.load.new.source) (g.S.Source.reads c.load.new.source) in
    let load : Loads c.loop-done.room.kept before input c.load.new.self (Err c.in-Err.fault) = record { next = c.in-Err.ensures.next; taken = c.in-Err.ensures.taken } in
    ends_refused g.D.Disk g.E.Store c.args.working.now.bench.places c.args.room.now.kept
    (reading_of (g.S.Source.left c.args.input.now) (g.S.Source.reads c.args.input.now)) (g.K.Sink.held c.args.output.now)
    (thread c.args.working.now.keep c.args.working.now.bench c.args.working.now.claims c.args.store.now (g.C.Clock.moments c.args.clock.now) (g.W.Words.words c.args.words.now))
    c.loop-done.done c.loop-done.room.kept (reading_of (g.S.Source.left c.loop-done.input) (g.S.Source.reads c.loop-done.input)) (g.K.Sink.held c.loop-done.output)
    (thread c.loop-done.working.keep c.loop-done.working.bench c.loop-done.working.claims c.loop-done.store (g.C.Clock.moments c.loop-done.clock) (g.W.Words.words c.loop-done.words))
    c.loop-done.invariant.so_far
    input (g.K.Sink.held c.refuse.new.output) c.load.new.self c.in-Err.fault c.refuse.result c.loop-done-test.true load c.refuse.ensures.refused

-- a refusal is no failed read
pub returns-in-Err-clause-input : goal.returns-in-Err-clause-input
returns-in-Err-clause-input g c = λ e. absurd (refused_not_read (g.K.Sink.held c.loop-done.output) (g.K.Sink.held c.refuse.new.output) c.in-Err.fault c.refuse.result
    c.refuse.ensures.refused e)

pub returns-in-Err-respond-clause-works : goal.returns-in-Err-respond-clause-works
returns-in-Err-respond-clause-works g c =
    let before = reading_of (g.S.Source.left c.loop-done.input) (g.S.Source.reads c.loop-done.input) in
    let input = reading_of (g.S.Source.left c.load.new.source) (g.S.Source.reads c.load.new.source) in
    let loaded = rw c.in-Ok-true.field-0-test at c.in-Ok-true.ensures in
    let load : Loads c.loop-done.room.kept before input c.load.new.self (Ok true) = record { next = loaded.next; taken = loaded.taken } in
    let answered = subst (λ (request : RequestData). Answers g.D.Disk.state g.D.Disk.faults c.loop-done.working.keep c.answer-reply.new.keep 0 request c.now-now.result c.answer-reply.result)
    c.request-request.ensures c.answer-reply.ensures.answers in
    let law : LeavesBench = record { held = c.requests_leave_the_bench.ensures.held; copies = c.requests_leave_the_bench.ensures.copies } in
    let sent = subst (λ (request : RequestData). Sends (g.K.Sink.held c.loop-done.output) (g.K.Sink.held c.respond.new.output)
    (response_to c.loop-done.done (record { request = request; reply = c.answer-reply.result })) (Err c.in-Err-respond.field-0)) c.request-request.ensures c.in-Err-respond.ensures.sent in
    ends_cut g.D.Disk g.E.Store c.args.working.now.bench.places c.args.room.now.kept
    (reading_of (g.S.Source.left c.args.input.now) (g.S.Source.reads c.args.input.now)) (g.K.Sink.held c.args.output.now)
    (thread c.args.working.now.keep c.args.working.now.bench c.args.working.now.claims c.args.store.now (g.C.Clock.moments c.args.clock.now) (g.W.Words.words c.args.words.now))
    c.loop-done.done c.loop-done.room.kept (reading_of (g.S.Source.left c.loop-done.input) (g.S.Source.reads c.loop-done.input)) (g.K.Sink.held c.loop-done.output)
    (thread c.loop-done.working.keep c.loop-done.working.bench c.loop-done.working.claims c.loop-done.store (g.C.Clock.moments c.loop-done.clock) (g.W.Words.words c.loop-done.words))
    c.loop-done.invariant.so_far
    law c.answer-reply.new.keep input (g.K.Sink.held c.respond.new.output) (g.C.Clock.moments c.now-now.new.self) c.load.new.self c.now-now.result c.answer-reply.result
    load c.now-now.ensures answered c.answer-reply.ensures.grows c.answer-reply.ensures.images c.answer-reply.ensures.doubt
    c.in-Err-respond.field-0 c.loop-done-test.true sent

pub make_round-requires : goal.make_round-requires
make_round-requires g c =
    let before = reading_of (g.S.Source.left c.loop-done.input) (g.S.Source.reads c.loop-done.input) in
    let input = reading_of (g.S.Source.left c.load.new.source) (g.S.Source.reads c.load.new.source) in
    let loaded = rw c.in-Ok-true.field-0-test at c.in-Ok-true.ensures in
    let load : Loads c.loop-done.room.kept before input c.load.new.self (Ok true) = record { next = loaded.next; taken = loaded.taken } in
    let answered = subst (λ (request : RequestData). Answers g.D.Disk.state g.D.Disk.faults c.loop-done.working.keep c.answer-reply.new.keep 0 request c.now-now.result c.answer-reply.result)
    c.request-request.ensures c.answer-reply.ensures.answers in
    let law : LeavesBench = record { held = c.requests_leave_the_bench.ensures.held; copies = c.requests_leave_the_bench.ensures.copies } in
    record {
      ready = is_ready g.D.Disk g.E.Store c.args.working.now.bench.places c.args.room.now.kept
          (reading_of (g.S.Source.left c.args.input.now) (g.S.Source.reads c.args.input.now)) (g.K.Sink.held c.args.output.now)
          (thread c.args.working.now.keep c.args.working.now.bench c.args.working.now.claims c.args.store.now (g.C.Clock.moments c.args.clock.now) (g.W.Words.words c.args.words.now))
          c.loop-done.done c.loop-done.room.kept (reading_of (g.S.Source.left c.loop-done.input) (g.S.Source.reads c.loop-done.input)) (g.K.Sink.held c.loop-done.output)
          (thread c.loop-done.working.keep c.loop-done.working.bench c.loop-done.working.claims c.loop-done.store (g.C.Clock.moments c.loop-done.clock) (g.W.Words.words c.loop-done.words))
          c.loop-done.invariant.so_far
          law c.answer-reply.new.keep input (g.K.Sink.held c.respond.new.output) (g.C.Clock.moments c.now-now.new.self) c.load.new.self c.now-now.result c.answer-reply.result
          load c.now-now.ensures answered c.answer-reply.ensures.grows c.answer-reply.ensures.images c.answer-reply.ensures.doubt;
    }

pub returns-then-request-clause-works : goal.returns-then-request-clause-works
returns-then-request-clause-works g c =
    let before = reading_of (g.S.Source.left c.loop-done.input) (g.S.Source.reads c.loop-done.input) in
    let input = reading_of (g.S.Source.left c.load.new.source) (g.S.Source.reads c.load.new.source) in
    let loaded = rw c.in-Ok-true.field-0-test at c.in-Ok-true.ensures in
    let load : Loads c.loop-done.room.kept before input c.load.new.self (Ok true) = record { next = loaded.next; taken = loaded.taken } in
    let answered = subst (λ (request : RequestData). Answers g.D.Disk.state g.D.Disk.faults c.loop-done.working.keep c.answer-reply.new.keep 0 request c.now-now.result c.answer-reply.result)
    c.request-request.ensures c.answer-reply.ensures.answers in
    let law : LeavesBench = record { held = c.requests_leave_the_bench.ensures.held; copies = c.requests_leave_the_bench.ensures.copies } in
    let sent = subst (λ (request : RequestData). Sends (g.K.Sink.held c.loop-done.output) (g.K.Sink.held c.respond.new.output)
    (response_to c.loop-done.done (record { request = request; reply = c.answer-reply.result })) (Ok tt)) c.request-request.ensures c.in-Ok.ensures.sent in
    ends_by_close g.D.Disk g.E.Store c.args.working.now.bench.places c.args.room.now.kept
    (reading_of (g.S.Source.left c.args.input.now) (g.S.Source.reads c.args.input.now)) (g.K.Sink.held c.args.output.now)
    (thread c.args.working.now.keep c.args.working.now.bench c.args.working.now.claims c.args.store.now (g.C.Clock.moments c.args.clock.now) (g.W.Words.words c.args.words.now))
    c.loop-done.done c.loop-done.room.kept (reading_of (g.S.Source.left c.loop-done.input) (g.S.Source.reads c.loop-done.input)) (g.K.Sink.held c.loop-done.output)
    (thread c.loop-done.working.keep c.loop-done.working.bench c.loop-done.working.claims c.loop-done.store (g.C.Clock.moments c.loop-done.clock) (g.W.Words.words c.loop-done.words))
    c.loop-done.invariant.so_far
    law c.answer-reply.new.keep input (g.K.Sink.held c.respond.new.output) (g.C.Clock.moments c.now-now.new.self) c.load.new.self c.now-now.result c.answer-reply.result
    load c.now-now.ensures answered c.answer-reply.ensures.grows c.answer-reply.ensures.images c.answer-reply.ensures.doubt
    c.make_round.result
    (thread c.make_round.new.working.keep c.make_round.new.working.bench c.make_round.new.working.claims c.make_round.new.store (g.C.Clock.moments c.make_round.new.clock)
    (g.W.Words.words c.make_round.new.words))
    c.loop-done-test.true c.loop-done.invariant.so_far.places sent c.make_round.ensures.works
    (sym (ap (λ (r : RequestData). r.close) c.request-request.ensures) ∙ c.if-request.true)

pub loop-done-preserved : goal.loop-done-preserved
loop-done-preserved g c =
    let before = reading_of (g.S.Source.left c.loop-done.input) (g.S.Source.reads c.loop-done.input) in
    let input = reading_of (g.S.Source.left c.load.new.source) (g.S.Source.reads c.load.new.source) in
    let loaded = rw c.in-Ok-true.field-0-test at c.in-Ok-true.ensures in
    let load : Loads c.loop-done.room.kept before input c.load.new.self (Ok true) = record { next = loaded.next; taken = loaded.taken } in
    let answered = subst (λ (request : RequestData). Answers g.D.Disk.state g.D.Disk.faults c.loop-done.working.keep c.answer-reply.new.keep 0 request c.now-now.result c.answer-reply.result)
    c.request-request.ensures c.answer-reply.ensures.answers in
    let law : LeavesBench = record { held = c.requests_leave_the_bench.ensures.held; copies = c.requests_leave_the_bench.ensures.copies } in
    let sent = subst (λ (request : RequestData). Sends (g.K.Sink.held c.loop-done.output) (g.K.Sink.held c.respond.new.output)
    (response_to c.loop-done.done (record { request = request; reply = c.answer-reply.result })) (Ok tt)) c.request-request.ensures c.in-Ok.ensures.sent in
    record {
      so_far = one_more g.D.Disk g.E.Store c.args.working.now.bench.places c.args.room.now.kept
          (reading_of (g.S.Source.left c.args.input.now) (g.S.Source.reads c.args.input.now)) (g.K.Sink.held c.args.output.now)
          (thread c.args.working.now.keep c.args.working.now.bench c.args.working.now.claims c.args.store.now (g.C.Clock.moments c.args.clock.now) (g.W.Words.words c.args.words.now))
          c.loop-done.done c.loop-done.room.kept (reading_of (g.S.Source.left c.loop-done.input) (g.S.Source.reads c.loop-done.input)) (g.K.Sink.held c.loop-done.output)
          (thread c.loop-done.working.keep c.loop-done.working.bench c.loop-done.working.claims c.loop-done.store (g.C.Clock.moments c.loop-done.clock) (g.W.Words.words c.loop-done.words))
          c.loop-done.invariant.so_far
          law c.answer-reply.new.keep input (g.K.Sink.held c.respond.new.output) (g.C.Clock.moments c.now-now.new.self) c.load.new.self c.now-now.result c.answer-reply.result
          load c.now-now.ensures answered c.answer-reply.ensures.grows c.answer-reply.ensures.images c.answer-reply.ensures.doubt
          c.make_round.result
          (thread c.make_round.new.working.keep c.make_round.new.working.bench c.make_round.new.working.claims c.make_round.new.store (g.C.Clock.moments c.make_round.new.clock)
          (g.W.Words.words c.make_round.new.words))
          c.loop-done.invariant.so_far.places sent c.make_round.ensures.works
          (sym (ap (λ (r : RequestData). r.close) c.request-request.ensures) ∙ c.if-request.false);
      input = omega (arith, c.loop-done.invariant.input, c.load.ensures.faults);
      output = omega (arith, c.loop-done.invariant.output, c.respond.ensures.cause.keeps);
    }

pub returns-clause-works : goal.returns-clause-works
returns-clause-works g c = ends_by_many g.D.Disk g.E.Store c.args.working.now.bench.places c.args.room.now.kept
    (reading_of (g.S.Source.left c.args.input.now) (g.S.Source.reads c.args.input.now)) (g.K.Sink.held c.args.output.now)
    (thread c.args.working.now.keep c.args.working.now.bench c.args.working.now.claims c.args.store.now (g.C.Clock.moments c.args.clock.now) (g.W.Words.words c.args.words.now))
    c.loop-done.done c.loop-done.room.kept (reading_of (g.S.Source.left c.loop-done.input) (g.S.Source.reads c.loop-done.input)) (g.K.Sink.held c.loop-done.output)
    (thread c.loop-done.working.keep c.loop-done.working.bench c.loop-done.working.claims c.loop-done.store (g.C.Clock.moments c.loop-done.clock) (g.W.Words.words c.loop-done.words))
    c.loop-done.invariant.so_far
    (omega (arith, c.loop-done-test.false, c.loop-done.auto.done-end))
