use Rattle.std.proofs.Common.{◌≡◌, true, false, ℕ, List, Option, length, ap, sym, ◌∙◌, subst, arith}
use Rattle.std.specs.Prelude.{IfNone}
use Rattle.ordered.specs.Orders.{has_key}
use Rattle.fts_queue.specs.declared.waiter.Waiter.{Waiter}
use Rattle.fts_queue.specs.WaitingData.{WaitingData, AreWaiting, is_waiting, without_file}
use Rattle.fts_queue.proofs.QueueRooms.{waiting_less}
use Rattle.fts_heads.specs.RipeFiles.{goes_by_group}
use Rattle.fts_heads.specs.declared.ripe_file.RipeFile.{RipeFile}
use Rattle.fts_heads.specs.Heads.{HeadsData}
use Rattle.fts_line.specs.LineData.{LineData, waits_own}
use Rattle.fts_line.specs.Keys.{AreKeyed, AreDue, waiters_of, is_own_key}
use Rattle.fts_line.specs.Line.{waiting_of}
use Rattle.fts_line.proofs.Lines.{key_waits, own_file, own_waits, none_waits}
use Rattle.fts_line.proofs.line.Line.take_own.Goals as goal

pub invariant_of-self : goal.invariant_of-self
invariant_of-self c =
    let inside = c.self.inside in
    let line = c.self.invariant in
    let waiting : WaitingData = waiting_of inside.heads inside.rests.items inside.rooms.items inside.moment in
    let heads : HeadsData = c.go_out.new.heads in
    let rests : c.as_slice.result.now ≡ inside.rests.items = c.as_slice.ensures.value in
    let waiters : waiters_of inside.rests.items heads.files ≡ without_file c.in-Some.key.file waiting.waiters =
    subst (λ some. waiters_of some heads.files ≡ without_file c.in-Some.key.file (waiters_of some inside.heads.files)) rests c.go_out.ensures.waiters in
    record {
      keys = subst (λ dests. AreKeyed dests (length heads.busy) inside.rests.items heads.files) c.as_slice-dests.ensures.value
          (subst (λ some. AreKeyed c.as_slice-dests.result.now (length heads.busy) some heads.files) rests c.go_out.ensures.keys);
      due = subst (λ some. AreDue inside.moment inside.moment some heads.files) rests
          (c.go_out.ensures.due inside.moment inside.moment
          (subst (λ some. AreDue inside.moment inside.moment some inside.heads.files) (sym rests) line.due));
      waiting = subst (λ (some : List Waiter). AreWaiting (record { waiters = some; moment = inside.moment; rooms = inside.rooms.items })) (sym waiters)
          (waiting_less waiting c.in-Some.key.file line.waiting);
      rows = line.rows ∙ sym (ap (λ (some : HeadsData). length some.busy) c.go_out.ensures.heads);
    }

pub returns-in-Some-clause-answer : goal.returns-in-Some-clause-answer
returns-in-Some-clause-answer c =
    let inside = c.self.inside in
    sym (ap (λ (view : LineData). waits_own view c.args.file) (sym c.self.view_is)
    ∙ own_waits inside.dests.items inside.rests.items inside.moment inside.heads.files c.self.invariant.due c.args.file (omega (arith, c.ranges.file.fits))
    c.in-Some.key c.in-Some.ensures.there
    (ap (λ (dests : List ℕ). is_own_key dests c.args.file c.in-Some.key) (sym c.as_slice-dests.ensures.value) ∙ c.in-Some.ensures.own))

pub returns-in-Some-clause-waits : goal.returns-in-Some-clause-waits
returns-in-Some-clause-waits c taken =
    ap (λ n. is_waiting n c.args.self.now.waiting.waiters)
    (sym (own_file c.as_slice-dests.result.now c.args.file c.in-Some.key c.in-Some.ensures.own))
    ∙ (ap (λ (view : LineData). is_waiting c.in-Some.key.file view.waiting.waiters) (sym c.self.view_is)
    ∙ key_waits c.self.inside.rests.items c.self.inside.heads.files c.in-Some.key c.in-Some.ensures.there)

pub returns-in-None-clause-answer : goal.returns-in-None-clause-answer
returns-in-None-clause-answer c =
    let inside = c.self.inside in
    sym (ap (λ (view : LineData). waits_own view c.args.file) (sym c.self.view_is)
    ∙ none_waits inside.dests.items (length inside.heads.busy) inside.rests.items inside.moment inside.heads.files c.self.invariant.keys c.self.invariant.due
    c.args.file (subst (λ (dests : List ℕ). (key : RipeFile) → has_key goes_by_group key inside.heads.files ≡ true → is_own_key dests c.args.file key ≡ false)
    c.as_slice-dests.ensures.value
    (subst (λ (some : Option RipeFile). IfNone some ((key : RipeFile) → has_key goes_by_group key inside.heads.files ≡ true
    → is_own_key c.as_slice-dests.result.now c.args.file key ≡ false)) c.in-None.is c.own_key.ensures.none)))
