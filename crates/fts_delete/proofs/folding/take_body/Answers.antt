-- A body that is no event, one whose event is illegal, and one that is taken.
use Rattle.std.proofs.Common.{◌≡◌, sym, ◌∙◌, ap, subst, Err, Some, rules, arith}
use Rattle.fts_record.specs.Laws.{AreBytes}
use Rattle.fts_delete.specs.Rows.{rows_after}
use Rattle.fts_delete.specs.Answers.{Tells}
use Rattle.fts_delete.specs.Spelling.{event_in}
use Rattle.fts_delete.proofs.Damaged.{place_inside}
use Rattle.fts_delete.proofs.Folded.{read_places, read_taken}
use Rattle.fts_delete.proofs.folding.take_body.Goals as goal

pub overflow_add-offset-in-Err-BadEvent : goal.overflow_add-offset-in-Err-BadEvent
overflow_add-offset-in-Err-BadEvent c =
    let tells = subst (λ f. Tells (Err f) (event_in c.args.body.now)) c.in-Err-BadEvent.field-0-is c.in-Err-BadEvent.ensures in
    let inside = place_inside c.args.body.now c.in-Err-BadEvent.at tells in
    search (rules, inside)

pub is_legal-requires-clause-places : goal.is_legal-requires-clause-places
is_legal-requires-clause-places c =
    let are : AreBytes c.args.body.now = λ i. omega (arith, c.type_inv.body i) in
    read_places c.args.body.now c.in-Ok.event are c.in-Ok.ensures

pub returns : goal.returns
returns c =
    let are : AreBytes c.args.body.now = λ i. omega (arith, c.type_inv.body i) in
    let taken : rows_after c.args.rows.now.items c.in-Ok.event ≡ Some c.take_event.new.rows.items =
    ap (λ rows. rows_after rows c.in-Ok.event) (sym c.in_ok-make_room.ensures.rows) ∙ c.take_event.ensures in
    record { takes = read_taken c.args.rows.now.items c.take_event.new.rows.items c.args.body.now c.in-Ok.event are c.in-Ok.ensures taken }
