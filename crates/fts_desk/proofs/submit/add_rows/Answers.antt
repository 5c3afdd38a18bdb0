-- A turn of the loop that adds rows, and its end.
use Rattle.std.proofs.Common.{◌≡◌, ◌+◌, ◌++◌, [], ◌∷◌, length, ap, sym, ◌∙◌, arith, rules, map-id, length-append}
use Rattle.std.proofs.lemmas.Iterator.Adapters.{YieldsList-from_vec}
use Rattle.std.proofs.lemmas.Iterator.Consumers.{YieldsList-turn, YieldsList-end}
use Rattle.fts_tables.specs.Moves.{new_rows}
use Rattle.fts_tables.specs.declared.rows.FileRow.{FileRow}
use Rattle.fts_desk.proofs.NewRows.{add_step}
use Rattle.fts_desk.proofs.submit.add_rows.Goals as goal

pub overflow_cast-id : goal.overflow_cast-id
overflow_cast-id c =
    let t = YieldsList-turn (YieldsList-from_vec c.args.files.items (search rules) (search rules)) c.loop-file.yielded _ c.loop-file.yielded_by _
    c.next.new.self c.in-Some.file c.in-Some.is c.next.ensures.steps in
    omega (arith, t.0, c.loop-file.invariant.count, c.loop-file.rows.ok.0, c.requires.few, c.len.ensures)

pub overflow_add-id : goal.overflow_add-id
overflow_add-id c =
    let t = YieldsList-turn (YieldsList-from_vec c.args.files.items (search rules) (search rules)) c.loop-file.yielded _ c.loop-file.yielded_by _
    c.next.new.self c.in-Some.file c.in-Some.is c.next.ensures.steps in
    omega (arith, t.0, c.loop-file.invariant.count, c.loop-file.rows.ok.0, c.requires.few, c.len.ensures)

pub push_reserved-requires : goal.push_reserved-requires
push_reserved-requires c =
    let t = YieldsList-turn (YieldsList-from_vec c.args.files.items (search rules) (search rules)) c.loop-file.yielded _ c.loop-file.yielded_by _
    c.next.new.self c.in-Some.file c.in-Some.is c.next.ensures.steps in
    omega (arith, t.0, c.loop-file.invariant.count, c.loop-file.invariant.capacity, c.loop-file.rows.ok.0, c.requires.room)

pub returns : goal.returns
returns c =
    let t = YieldsList-end (YieldsList-from_vec c.args.files.items (search rules) (search rules)) c.loop-file.yielded _ c.loop-file.yielded_by _ c.next.new.self
    c.in-None.is c.next.ensures.steps in
    c.loop-file.invariant.rows ∙ ap (λ fs. c.args.rows.now.items ++ new_rows c.args.job (length c.args.rows.now.items + 1) c.args.state fs)
    (sym (map-id c.loop-file.yielded) ∙ t.0)

pub loop-file-preserved : goal.loop-file-preserved
loop-file-preserved c =
    let inv = c.loop-file.invariant in
    let n : c.len.result + 1 ≡ (length c.args.rows.now.items + 1) + length c.loop-file.yielded =
    omega (arith, inv.count, c.loop-file.rows.ok.0, c.len.ensures) in
    record {
      rows = c.push_reserved.ensures.items ∙ ap (λ (row : FileRow). c.loop-file.rows.items ++ row ∷ []) c.new_row.ensures
          ∙ add_step c.args.rows.now.items c.loop-file.rows.items c.loop-file.yielded c.args.job (length c.args.rows.now.items + 1)
          (c.len.result + 1) c.args.state c.in-Some.file inv.rows n;
      count = omega (
        arith,
        ap length c.push_reserved.ensures.items,
        length-append c.loop-file.rows.items (c.new_row.result ∷ []),
        length-append c.loop-file.yielded (c.in-Some.file ∷ []),
        inv.count,
      );
      capacity = c.push_reserved.ensures.capacity ∙ inv.capacity;
    }
