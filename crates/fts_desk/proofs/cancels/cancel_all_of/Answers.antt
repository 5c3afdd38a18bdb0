-- A turn of the loop that cancels a job's rows, and what it leaves.
use Rattle.std.proofs.Common.{◌+◌, cond, List, refl, arith, ap, sym, ◌∙◌, subst}
use Rattle.std.specs.Prelude.{slice_get}
use Rattle.fts_tables.specs.Tables.{AreNumberedFrom}
use Rattle.fts_tables.specs.declared.rows.FileRow.{FileRow}
use Rattle.fts_desk.specs.Cancels.{cancelled_of, count_canceled}
use Rattle.fts_desk.proofs.CancelledParts.{id_cancelled_of, numbered-change}
use Rattle.fts_desk.proofs.CancelledRows.{cancelled_before, cancelled_turn_done, cancelled_turn_rest, cancelled_all}
use Rattle.fts_desk.proofs.cancels.cancel_all_of.Goals as goal
use Rattle.fts_desk.proofs.cancels.cancel_all_of.Goals.{then-cancel_if_of, else-cancel_if_of}

pub loop-place-init : goal.loop-place-init
loop-place-init c = record {
  done = cancelled_before c.args.reason c.args.rows.now c.args.job.now c.requires.numbered c.requires.together;
  rest = λ at behind. refl;
  numbered = c.requires.numbered;
  count = omega arith;
  beside = c.requires.beside;
  limits = refl;
}

pub loop-place-preserved : goal.loop-place-preserved
loop-place-preserved c =
    let rows = c.args.rows.now in
    let number = c.args.job.now.number in
    let place = c.loop-place.place in
    record {
      done = λ at before. ap (λ (after : List FileRow). slice_get after at) c.cancel_if_of.ensures.rows
          ∙ cancelled_turn_done c.args.reason rows c.loop-place.rows number place c.loop-place.invariant.done c.loop-place.invariant.rest at before;
      rest = λ at behind. ap (λ (after : List FileRow). slice_get after at) c.cancel_if_of.ensures.rows
          ∙ cancelled_turn_rest c.args.reason rows c.loop-place.rows number place c.loop-place.invariant.rest at behind;
      numbered = subst (λ (rows : List FileRow). AreNumberedFrom (λ row. row.id) 1 rows) (sym c.cancel_if_of.ensures.rows)
          (numbered-change 1 c.loop-place.rows place (cancelled_of c.args.reason number)
          (id_cancelled_of c.args.reason number) c.loop-place.invariant.numbered);
      count = elim c.if-cancel_if_of.branch [
        | then-cancel_if_of w ↦
            let one = c.cancel_if_of.ensures.count
            ∙ ap (λ answer. count_canceled c.loop-place.rows + cond answer 1 0) w.if-cancel_if_of.true in
            omega (arith, one, c.loop-place.invariant.count, w.canceled-is)
        | else-cancel_if_of w ↦
            let none = c.cancel_if_of.ensures.count
            ∙ ap (λ answer. count_canceled c.loop-place.rows + cond answer 1 0) w.if-cancel_if_of.false in
            omega (arith, none, c.loop-place.invariant.count, w.canceled-is)
      ];
      beside = c.cancel_if_of.ensures.beside;
      limits = c.cancel_if_of.ensures.limits ∙ c.loop-place.invariant.limits;
    }

pub returns-clause-rows : goal.returns-clause-rows
returns-clause-rows c = cancelled_all c.args.reason c.args.rows.now c.args.job.now c.requires.numbered c.requires.together c.loop-place.rows c.loop-place.place
    c.loop-place-test.false c.loop-place.invariant.done c.loop-place.invariant.rest
