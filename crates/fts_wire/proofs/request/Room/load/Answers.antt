-- What a fill found is what the load says of all that was to come, and of what was taken.
use Rattle.std.proofs.Common.{◌≡◌, ℕ, List, true, ap, ◌∙◌, subst, Ok, Err, drop}
use Rattle.fts_wire.specs.RoomData.{RoomData}
use Rattle.fts_wire.specs.Room.{room_data}
use Rattle.fts_wire.specs.Taken.{Takes, reads_without}
use Rattle.fts_wire.proofs.Kept.{found_whole}
use Rattle.fts_wire.proofs.Next.{taken_fault, taken_asked, next_from_taken}
use Rattle.fts_wire.proofs.request.Room.load.Goals as goal

pub invariant_of-self-in-Ok-Some : goal.invariant_of-self-in-Ok-Some
invariant_of-self-in-Ok-Some g c =
    let found = rw c.in-Ok-Some.field-0-is at c.in-Ok-Some.ensures in
    found_whole c.fill.new.buffer c.in-Ok-Some.head found.look.0 found.look.1

pub returns-in-Err-clause-next : goal.returns-in-Err-clause-next
returns-in-Err-clause-next g c =
    let before = g.S.Source.left c.args.source.now in
    let after = g.S.Source.left c.fill.new.source in
    let old = g.S.Source.reads c.args.source.now in
    let new = g.S.Source.reads c.fill.new.source in
    let bytes = c.fill.new.buffer in
    let kept = c.skip.ensures ∙ ap (λ (n : ℕ). drop n c.self.inside.buffer) c.taken.ensures ∙ ap (λ (r : RoomData). r.kept) c.self.view_is in
    let takes = subst (λ (k : List ℕ). Takes k before bytes after old new (reads_without (Err c.in-Err.fault))) kept c.in-Err.ensures.takes in
    let room = room_data (record { buffer = bytes; head = c.no_head-self-inside.result }) in
    let all : room.kept ≡ bytes = ap (λ (n : ℕ). drop n bytes) c.no_head-self-inside.ensures.size in
    next_from_taken c.args.self.now.kept before after old new room (Err c.in-Err.fault)
    (taken_fault c.args.self.now.kept before after old new bytes _ _ room c.in-Err.fault takes c.in-Err.ensures.look all)

pub returns-in-Ok-Some-clause-next : goal.returns-in-Ok-Some-clause-next
returns-in-Ok-Some-clause-next g c =
    let before = g.S.Source.left c.args.source.now in
    let after = g.S.Source.left c.fill.new.source in
    let old = g.S.Source.reads c.args.source.now in
    let new = g.S.Source.reads c.fill.new.source in
    let kept = c.skip.ensures ∙ ap (λ (n : ℕ). drop n c.self.inside.buffer) c.taken.ensures ∙ ap (λ (r : RoomData). r.kept) c.self.view_is in
    let found = rw c.in-Ok-Some.field-0-is at c.in-Ok-Some.ensures in
    let takes = subst (λ (k : List ℕ). Takes k before c.fill.new.buffer after old new 0) kept found.takes in
    let room = room_data (record { buffer = c.fill.new.buffer; head = c.in-Ok-Some.head }) in
    next_from_taken c.args.self.now.kept before after old new room (Ok true)
    (taken_asked c.args.self.now.kept before after old new c.fill.new.buffer c.in-Ok-Some.head takes found.look.0 found.look.1)

pub returns-in-Ok-Some-clause-taken : goal.returns-in-Ok-Some-clause-taken
returns-in-Ok-Some-clause-taken g c =
    let before = g.S.Source.left c.args.source.now in
    let after = g.S.Source.left c.fill.new.source in
    let old = g.S.Source.reads c.args.source.now in
    let new = g.S.Source.reads c.fill.new.source in
    let kept = c.skip.ensures ∙ ap (λ (n : ℕ). drop n c.self.inside.buffer) c.taken.ensures ∙ ap (λ (r : RoomData). r.kept) c.self.view_is in
    let found = rw c.in-Ok-Some.field-0-is at c.in-Ok-Some.ensures in
    let takes = subst (λ (k : List ℕ). Takes k before c.fill.new.buffer after old new 0) kept found.takes in
    taken_asked c.args.self.now.kept before after old new c.fill.new.buffer c.in-Ok-Some.head takes found.look.0 found.look.1
