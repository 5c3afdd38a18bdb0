use Rattle.std.proofs.Common.{◌≡◌, ◌<◌, false, length, ap, sym, ◌∙◌, subst, arith}
use Rattle.fts_queue.specs.WaitingData.{WaitingData, AreWaiting, waiting_in, room_of, is_waiting, with_waiter}
use Rattle.fts_queue.proofs.QueueRooms.{waiting_more}
use Rattle.fts_heads.specs.Heads.{HeadsData}
use Rattle.fts_line.specs.LineData.{LineData}
use Rattle.fts_line.specs.Keys.{AreKeyed, AreDue, waiters_of}
use Rattle.fts_line.specs.Line.{IsLine, waiting_of}
use Rattle.fts_line.proofs.Keyed.{set_length}
use Rattle.fts_line.proofs.Lines.{as_many, filled}
use Rattle.fts_line.proofs.line.Line.insert.Goals as goal

pub come_in-requires-clause-room : goal.come_in-requires-clause-room
come_in-requires-clause-room c =
    omega (
      arith,
      as_many c.self.inside.rests.items c.self.inside.heads.files,
      c.requires.room,
      ap (λ (view : LineData). length view.waiting.waiters) c.self.view_is,
      ap (λ (view : LineData). view.room) c.self.view_is,
    )

pub invariant_of-self : goal.invariant_of-self
invariant_of-self c =
    let inside = c.self.inside in
    let line = c.self.invariant in
    let waiting : WaitingData = waiting_of inside.heads inside.rests.items inside.rooms.items inside.moment in
    let heads : HeadsData = c.come_in.new.heads in
    let was : c.deref_mut.result.now ≡ inside.rests.items = c.deref_mut.ensures.value in
    let long : length c.come_in.new.rests ≡ length inside.rests.items = ap length c.come_in.ensures.rests ∙ (set_length _ _ _ ∙ ap length was) in
    let waiters : waiters_of c.come_in.new.rests heads.files ≡ with_waiter c.args.waiter waiting.waiters =
    c.come_in.ensures.waiters ∙ ap (λ rests. with_waiter c.args.waiter (waiters_of rests inside.heads.files)) was in
    let fresh : is_waiting c.args.waiter.file waiting.waiters ≡ false =
    ap (λ (view : LineData). is_waiting c.args.waiter.file view.waiting.waiters) c.self.view_is ∙ c.requires.fresh in
    let room : length (waiting_in c.args.waiter.link c.args.waiter.activity waiting.waiters) < room_of c.args.waiter.link c.args.waiter.activity waiting.rooms =
    subst (λ (some : WaitingData). length (waiting_in c.args.waiter.link c.args.waiter.activity some.waiters)
    < room_of c.args.waiter.link c.args.waiter.activity some.rooms) (sym (ap (λ (view : LineData). view.waiting) c.self.view_is)) c.requires.queue in
    subst (λ rests. IsLine heads rests inside.rooms.items inside.dests.items inside.moment)
    (sym (filled c.come_in.new.rests inside.rests.items inside.rests.len long (sym c.deref_mut.ensures.len ∙ ap length was)))
    (record {
      keys = subst (λ dests. AreKeyed dests (length heads.busy) c.come_in.new.rests heads.files) c.as_slice.ensures.value c.come_in.ensures.keys;
      due = c.come_in.ensures.due inside.moment inside.moment (omega arith) (omega arith)
          (subst (λ rests. AreDue inside.moment inside.moment rests inside.heads.files) (sym was) line.due);
      waiting = subst (λ some. AreWaiting (record { waiters = some; moment = inside.moment; rooms = inside.rooms.items })) (sym waiters)
          (waiting_more waiting c.args.waiter line.waiting fresh room);
      rows = line.rows ∙ sym (ap (λ (some : HeadsData). length some.busy) c.come_in.ensures.heads);
    })
