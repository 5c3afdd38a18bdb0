-- A turn of the loop that adds rows, and its end.
use Rattle.std.proofs.Common.{◌≡◌, ◌+◌, ◌++◌, [], ◌∷◌, length, ap, sym, ◌∙◌, arith, rules, map-id, length-append}
use Rattle.std.proofs.lemmas.Iterator.Adapters.{YieldsList-from_vec}
use Rattle.std.proofs.lemmas.Iterator.Consumers.{YieldsList-turn, YieldsList-end}
use Rattle.fts_delete.specs.Rows.{asked_row, asked_rows}
use Rattle.fts_delete.proofs.Taken.{add_step}
use Rattle.fts_delete.proofs.taking.add_rows.Goals as goal

pub overflow_cast-id : goal.overflow_cast-id
overflow_cast-id c =
    let t = YieldsList-turn (YieldsList-from_vec c.args.places.items (search rules) (search rules)) c.loop-place.yielded _ c.loop-place.yielded_by _
    c.next.new.self c.in-Some.place c.in-Some.is c.next.ensures.steps in
    omega (arith, t.0, c.loop-place.invariant.count, c.loop-place.rows.ok.0, c.requires.few, c.len.ensures)

pub overflow_add-id : goal.overflow_add-id
overflow_add-id c =
    let t = YieldsList-turn (YieldsList-from_vec c.args.places.items (search rules) (search rules)) c.loop-place.yielded _ c.loop-place.yielded_by _
    c.next.new.self c.in-Some.place c.in-Some.is c.next.ensures.steps in
    omega (arith, t.0, c.loop-place.invariant.count, c.loop-place.rows.ok.0, c.requires.few, c.len.ensures)

pub push_reserved-requires : goal.push_reserved-requires
push_reserved-requires c =
    let t = YieldsList-turn (YieldsList-from_vec c.args.places.items (search rules) (search rules)) c.loop-place.yielded _ c.loop-place.yielded_by _
    c.next.new.self c.in-Some.place c.in-Some.is c.next.ensures.steps in
    omega (arith, t.0, c.loop-place.invariant.count, c.loop-place.invariant.capacity, c.loop-place.rows.ok.0, c.requires.room)

pub returns : goal.returns
returns c =
    let t = YieldsList-end (YieldsList-from_vec c.args.places.items (search rules) (search rules)) c.loop-place.yielded _ c.loop-place.yielded_by _
    c.next.new.self c.in-None.is c.next.ensures.steps in
    c.loop-place.invariant.rows ∙ ap (λ fs. c.args.rows.now.items ++ asked_rows (length c.args.rows.now.items + 1) fs)
    (sym (map-id c.loop-place.yielded) ∙ t.0)

pub loop-place-preserved : goal.loop-place-preserved
loop-place-preserved c =
    let inv = c.loop-place.invariant in
    let n : c.len.result + 1 ≡ (length c.args.rows.now.items + 1) + length c.loop-place.yielded =
    omega (arith, inv.count, c.loop-place.rows.ok.0, c.len.ensures) in
    record {
      rows = c.push_reserved.ensures.items
          ∙ add_step c.args.rows.now.items c.loop-place.rows.items c.loop-place.yielded (length c.args.rows.now.items + 1)
          (c.len.result + 1) c.in-Some.place inv.rows n;
      count = omega (
        arith,
        ap length c.push_reserved.ensures.items,
        length-append c.loop-place.rows.items (asked_row (c.len.result + 1) c.in-Some.place ∷ []),
        length-append c.loop-place.yielded (c.in-Some.place ∷ []),
        inv.count,
      );
      capacity = c.push_reserved.ensures.capacity ∙ inv.capacity;
    }
