use Rattle.std.proofs.Common.{◌≡◌, ◌<◌, ◌++◌, ◌∷◌, [], ℕ, Bool, List, false, suc, length, ap, sym, ◌∙◌, subst, arith}
use Rattle.std.specs.Prelude.{min, vec_capacity}
use Rattle.std.proofs.lemmas.List.{length_push}
use Rattle.fts_queue.specs.declared.waiter.Waiter.{Waiter}
use Rattle.fts_queue.specs.WaitingData.{WaitingData, AreWaiting}
use Rattle.fts_heads.specs.Heads.{HeadsData}
use Rattle.fts_line.specs.declared.key.TheConstants.{LATER}
use Rattle.fts_line.specs.LineData.{LineData}
use Rattle.fts_line.specs.Line.{IsLine, waiting_of}
use Rattle.fts_line.specs.Keys.{AreKeyed}
use Rattle.fts_line.proofs.Lines.{row_waiters, row_keyed, row_due, row_new}
use Rattle.fts_line.proofs.line.Line.add_row.Goals as goal
use Rattle.fts_line.proofs.line.Line.add_row.Goals.{After-self}

-- a line by its parts
abbrev view_of : WaitingData → List ℕ → List Bool → ℕ → ℕ → LineData
view_of waiting dests busy room row_room = record { waiting = waiting; dests = dests; busy = busy; room = room; row_room = row_room }

-- there are fewer rows than a number may say
few : (c : After-self) → length c.self.inside.heads.busy < LATER
few c =
    omega (
      arith,
      c.requires.room,
      c.self.invariant.rows,
      ap (λ (view : LineData). length view.dests) c.self.view_is,
      ap (λ (view : LineData). view.row_room) c.self.view_is,
    )

pub add_dest-requires-clause-new : goal.add_dest-requires-clause-new
add_dest-requires-clause-new c =
    let inside = c.self.inside in
    row_new inside.dests.items (length inside.heads.busy) inside.rests.items inside.heads.files c.self.invariant.keys c.args.dest
    (few (goal.at.add_dest-requires-clause-new c).After-self)

pub invariant_of-self : goal.invariant_of-self
invariant_of-self c =
    let inside = c.self.inside in
    let line = c.self.invariant in
    let rests : c.push_reserved.new.self.items ≡ inside.rests.items ++ 0 ∷ [] = c.push_reserved.ensures.items in
    let dests : c.push_reserved-2.new.self.items ≡ inside.dests.items ++ c.args.dest ∷ [] = c.push_reserved-2.ensures.items in
    let keyed = row_keyed inside.dests.items (length inside.heads.busy) inside.rests.items inside.heads.files line.keys c.args.dest (few (goal.at.invariant_of-self c).After-self) in
    let waiters = row_waiters inside.dests.items (length inside.heads.busy) inside.rests.items inside.heads.files line.keys c.args.dest (few (goal.at.invariant_of-self c).After-self) in
    let due = row_due inside.dests.items (length inside.heads.busy) inside.rests.items inside.heads.files line.keys c.args.dest (few (goal.at.invariant_of-self c).After-self)
    inside.moment inside.moment line.due in
    let more : length (inside.heads.busy ++ false ∷ []) ≡ suc (length inside.heads.busy) = omega (arith, length_push inside.heads.busy false) in
    subst (λ (heads : HeadsData). IsLine heads c.push_reserved.new.self.items inside.rooms.items c.push_reserved-2.new.self.items inside.moment)
    (sym c.add_dest.ensures.busy)
    (subst (λ (some : List ℕ). IsLine (record inside.heads { busy = inside.heads.busy ++ false ∷ [] }) some inside.rooms.items c.push_reserved-2.new.self.items
    inside.moment) (sym rests)
    (subst (λ (some : List ℕ). IsLine (record inside.heads { busy = inside.heads.busy ++ false ∷ [] }) (inside.rests.items ++ 0 ∷ []) inside.rooms.items some
    inside.moment) (sym dests)
    (record {
      keys = subst (λ count. AreKeyed (inside.dests.items ++ c.args.dest ∷ []) count (inside.rests.items ++ 0 ∷ []) inside.heads.files) (sym more) keyed;
      due = due;
      waiting = subst (λ (some : List Waiter). AreWaiting (record { waiters = some; moment = inside.moment; rooms = inside.rooms.items })) (sym waiters) line.waiting;
      rows = omega (arith, length_push inside.dests.items c.args.dest, more, line.rows);
    })))

pub returns : goal.returns
returns c =
    let inside = c.self.inside in
    let line = c.self.invariant in
    let waiters = row_waiters inside.dests.items (length inside.heads.busy) inside.rests.items inside.heads.files line.keys c.args.dest (few (goal.at.returns c).After-self) in
    record {
      row =
          ap (λ (heads : HeadsData). view_of (waiting_of heads c.push_reserved.new.self.items inside.rooms.items inside.moment) c.push_reserved-2.new.self.items
          heads.busy heads.room (min LATER (min heads.dest_room (min (vec_capacity c.push_reserved-2.new.self) (vec_capacity c.push_reserved.new.self)))))
          c.add_dest.ensures.busy
          ∙ (ap (λ (rests : List ℕ). view_of (waiting_of inside.heads rests inside.rooms.items inside.moment) c.push_reserved-2.new.self.items
          (inside.heads.busy ++ false ∷ []) inside.heads.room
          (min LATER (min inside.heads.dest_room (min (vec_capacity c.push_reserved-2.new.self) (vec_capacity c.push_reserved.new.self)))))
          c.push_reserved.ensures.items
          ∙ (ap (λ (some : List Waiter). view_of (record { waiters = some; moment = inside.moment; rooms = inside.rooms.items }) c.push_reserved-2.new.self.items
          (inside.heads.busy ++ false ∷ []) inside.heads.room
          (min LATER (min inside.heads.dest_room (min (vec_capacity c.push_reserved-2.new.self) (vec_capacity c.push_reserved.new.self)))))
          waiters
          ∙ (ap (λ (dests : List ℕ). view_of (waiting_of inside.heads inside.rests.items inside.rooms.items inside.moment) dests
          (inside.heads.busy ++ false ∷ []) inside.heads.room
          (min LATER (min inside.heads.dest_room (min (vec_capacity c.push_reserved-2.new.self) (vec_capacity c.push_reserved.new.self)))))
          c.push_reserved-2.ensures.items
          ∙ (ap (λ (capacity : ℕ). view_of (waiting_of inside.heads inside.rests.items inside.rooms.items inside.moment) (inside.dests.items ++ c.args.dest ∷ [])
          (inside.heads.busy ++ false ∷ []) inside.heads.room
          (min LATER (min inside.heads.dest_room (min capacity (vec_capacity c.push_reserved.new.self)))))
          c.push_reserved-2.ensures.capacity
          ∙ (ap (λ (capacity : ℕ). view_of (waiting_of inside.heads inside.rests.items inside.rooms.items inside.moment) (inside.dests.items ++ c.args.dest ∷ [])
          (inside.heads.busy ++ false ∷ []) inside.heads.room
          (min LATER (min inside.heads.dest_room (min (vec_capacity inside.dests) capacity))))
          c.push_reserved.ensures.capacity
          ∙ ap (λ (view : LineData). record view { dests = view.dests ++ c.args.dest ∷ []; busy = view.busy ++ false ∷ [] }) c.self.view_is)))));
    }
