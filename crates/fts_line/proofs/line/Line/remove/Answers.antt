use Rattle.std.proofs.Common.{◌≡◌, List, length, ap, sym, ◌∙◌, subst}
use Rattle.std.specs.List.{list_any}
use Rattle.ordered.specs.Orders.{has_key}
use Rattle.fts_queue.specs.declared.waiter.Waiter.{Waiter}
use Rattle.fts_queue.specs.WaitingData.{WaitingData, AreWaiting, without_file}
use Rattle.fts_queue.proofs.QueueRooms.{waiting_less}
use Rattle.fts_heads.specs.RipeFiles.{goes_by_group}
use Rattle.fts_heads.specs.Heads.{HeadsData}
use Rattle.fts_heads.specs.declared.ripe_file.RipeFile.{RipeFile}
use Rattle.fts_line.specs.LineData.{LineData, is_same_waiter}
use Rattle.fts_line.specs.Keys.{AreKeyed, AreDue, waiters_of, key_of}
use Rattle.fts_line.specs.Line.{waiting_of}
use Rattle.fts_line.proofs.Lines.{has_its_key, key_number}
use Rattle.fts_line.proofs.line.Line.remove.Goals as goal

pub go_out-requires-clause-there : goal.go_out-requires-clause-there
go_out-requires-clause-there c =
    let inside = c.self.inside in
    ap (λ key. has_key goes_by_group key inside.heads.files) (c.key_of-key.ensures.key ∙ ap (λ dests. key_of inside.moment dests c.args.waiter.now) c.as_slice-dests.ensures.value)
    ∙ has_its_key inside.dests.items (length inside.heads.busy) inside.rests.items inside.moment inside.heads.files c.self.invariant.keys c.self.invariant.due
    c.args.waiter.now (ap (λ (view : LineData). list_any (is_same_waiter c.args.waiter.now) view.waiting.waiters) c.self.view_is ∙ c.requires.waits)

pub invariant_of-self : goal.invariant_of-self
invariant_of-self c =
    let inside = c.self.inside in
    let line = c.self.invariant in
    let waiting : WaitingData = waiting_of inside.heads inside.rests.items inside.rooms.items inside.moment in
    let heads : HeadsData = c.go_out.new.heads in
    let rests : c.as_slice.result.now ≡ inside.rests.items = c.as_slice.ensures.value in
    let file : c.key_of-key.result.file ≡ c.args.waiter.now.file =
    ap (λ (key : RipeFile). key.file) c.key_of-key.ensures.key ∙ key_number inside.moment c.as_slice-dests.result.now c.args.waiter.now in
    let waiters : waiters_of inside.rests.items heads.files ≡ without_file c.args.waiter.now.file waiting.waiters =
    subst (λ some. waiters_of some heads.files ≡ without_file c.key_of-key.result.file (waiters_of some inside.heads.files)) rests c.go_out.ensures.waiters
    ∙ ap (λ n. without_file n waiting.waiters) file in
    record {
      keys = subst (λ dests. AreKeyed dests (length heads.busy) inside.rests.items heads.files) c.as_slice-dests.ensures.value
          (subst (λ some. AreKeyed c.as_slice-dests.result.now (length heads.busy) some heads.files) rests c.go_out.ensures.keys);
      due = subst (λ some. AreDue inside.moment inside.moment some heads.files) rests
          (c.go_out.ensures.due inside.moment inside.moment
          (subst (λ some. AreDue inside.moment inside.moment some inside.heads.files) (sym rests) line.due));
      waiting = subst (λ (some : List Waiter). AreWaiting (record { waiters = some; moment = inside.moment; rooms = inside.rooms.items })) (sym waiters)
          (waiting_less waiting c.args.waiter.now.file line.waiting);
      rows = line.rows ∙ sym (ap (λ (some : HeadsData). length some.busy) c.go_out.ensures.heads);
    }
