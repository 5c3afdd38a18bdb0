-- The request stands in the bytes that stay, and nothing behind it.
use Rattle.std.proofs.Common.{◌≡◌, ℕ, List, drop, take, ap, ◌∙◌}
use Rattle.fts_wire.specs.RequestData.{RequestData}
use Rattle.fts_wire.specs.RoomData.{RoomData}
use Rattle.fts_wire.specs.Room.{taken_by, request_at}
use Rattle.fts_wire.proofs.Kept.{same_request, none_behind, still_whole}
use Rattle.fts_wire.proofs.request.Room.clear.Goals as goal

pub invariant_of-self : goal.invariant_of-self
invariant_of-self c =
    let cut : c.keep.new.self ≡ take (taken_by c.self.inside.head) c.self.inside.buffer = c.keep.ensures
    ∙ ap (λ (n : ℕ). take n c.self.inside.buffer) c.taken.ensures in
    still_whole c.self.inside.buffer c.keep.new.self c.self.inside.head cut c.self.invariant

pub returns : goal.returns
returns c =
    let head = c.self.inside.head in
    let cut : c.keep.new.self ≡ take (taken_by head) c.self.inside.buffer = c.keep.ensures ∙ ap (λ (n : ℕ). take n c.self.inside.buffer) c.taken.ensures in
    let request : request_at c.keep.new.self head ≡ c.args.self.now.request =
    same_request c.self.inside.buffer c.keep.new.self head cut ∙ ap (λ (r : RoomData). r.request) c.self.view_is in
    let kept = none_behind c.self.inside.buffer c.keep.new.self (taken_by head) cut in
    ap (λ (r : RequestData). record { request = r; kept = drop (taken_by head) c.keep.new.self }) request
    ∙ ap (λ (k : List ℕ). record { request = c.args.self.now.request; kept = k }) kept
