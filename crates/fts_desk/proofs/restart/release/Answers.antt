-- A turn of the loop that gives up the ACTIVE rows.
use Rattle.std.proofs.Common.{◌≡◌, ◌+◌, ◌<◌, cond, length, ap, sym, subst, ◌∙◌, arith}
use Rattle.fts_tables.specs.Tables.{AreNumberedFrom}
use Rattle.fts_tables.specs.Laws.{FileOfRow}
use Rattle.fts_tables.specs.Step.{released}
use Rattle.fts_tables.specs.declared.rows.FileRow.{FileRow}
use Rattle.fts_desk.proofs.CancelledParts.{numbered-change}
use Rattle.fts_desk.proofs.Released.{turn_done, turn_counted, turn_room, turn_left, released_file}
use Rattle.fts_desk.proofs.restart.release.Goals as goal
use Rattle.fts_desk.proofs.restart.release.Goals.{then-release_at, else-release_at}

pub release_at-requires-clause-room : goal.release_at-requires-clause-room
release_at-requires-clause-room c =
    turn_room c.args.rows.now c.loop-place.rows c.loop-place.place (omega (arith, c.loop-place-test.true))
    (omega (arith, c.loop-place-test.true, c.loop-place.auto.rows)) c.loop-place.invariant.rows c.loop-place.beside.parts c.loop-place.invariant.room

pub loop-place-preserved : goal.loop-place-preserved
loop-place-preserved c =
    let all = c.args.rows.now in
    let rows = c.loop-place.rows in
    let place = c.loop-place.place in
    let inv = c.loop-place.invariant in
    let lt : place < length all = omega (arith, c.loop-place-test.true) in
    let inside : place < length rows = omega (arith, lt, c.loop-place.auto.rows) in
    let more = turn_counted all rows place lt inside inv.rows c.release_at.result c.release_at.ensures.was c.loop-place.count inv.count in
    record {
      rows = turn_done all rows place lt inside inv.rows c.release_at.new.rows c.release_at.ensures.rows;
      count = elim c.if-release_at.branch [
        | then-release_at w ↦ w.count-is
            ∙ (ap (λ answer. c.loop-place.count + cond answer 1 0) (sym w.if-release_at.true) ∙ more)
        | else-release_at w ↦ w.count-is
            ∙ ((let none : c.loop-place.count ≡ c.loop-place.count + 0 = omega arith in none)
            ∙ (ap (λ answer. c.loop-place.count + cond answer 1 0) (sym w.if-release_at.false) ∙ more))
      ];
      numbered = subst (AreNumberedFrom (λ (row : FileRow). row.id) 1) (sym c.release_at.ensures.rows)
          (numbered-change 1 rows place released (λ row. ap (λ (file : FileOfRow). file.id) (released_file row)) inv.numbered);
      beside = c.release_at.ensures.beside;
      limits = c.release_at.ensures.limits ∙ inv.limits;
      room = turn_left all rows place lt inside inv.rows c.loop-place.beside.parts c.release_at.new.beside.parts c.release_at.result
          c.release_at.ensures.was c.release_at.ensures.room inv.room;
    }
