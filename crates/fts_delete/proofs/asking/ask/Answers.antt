-- The exits of asking.
use Rattle.std.proofs.Common.{◌≡◌, ◌≤◌, ◌+◌, true, rules, arith, sym, subst, Ok, Err, ap, ◌∙◌, length, nat_lt}
use Rattle.std.proofs.lemmas.Bool.{lt-ltb}
use Rattle.fts_delete.specs.declared.events.Event.TheVariants.{Ask}
use Rattle.fts_delete.specs.declared.fault.DeleteFault.TheVariants.{RowsFull}
use Rattle.fts_delete.specs.Rows.{most_rows}
use Rattle.fts_delete.specs.Spelling.{body_of}
use Rattle.fts_delete.specs.Views.{deletes_of}
use Rattle.fts_delete.specs.Recording.{has_room, Readied, Added}
use Rattle.fts_delete.specs.Asked.{Asked}
use Rattle.fts_delete.proofs.Forming.{legal_rows_are_few}
use Rattle.fts_delete.proofs.Sizes.{body_short}
use Rattle.fts_delete.proofs.Exits.{untouched}
use Rattle.fts_delete.proofs.AskExits.{asked_many, asked_memory, asked_unready, asked_added}
use Rattle.fts_delete.proofs.asking.ask.Goals as goal

pub overflow_cast-result : goal.overflow_cast-result
overflow_cast-result g c =
    let low : c.len-then-len-places-gt-MAX_DELETE_ROWS.result ≤ 100000 = omega (
      arith,
      c.len-then-len-places-gt-MAX_DELETE_ROWS.ensures,
      c.args.rows.now.ok.0,
      legal_rows_are_few c.requires.tied.events c.args.rows.now.items c.requires.tied.held.folded,
    ) in
    search (rules, low)

pub returns-then-len-places-gt-MAX_DELETE_ROWS-clause-asked : goal.returns-then-len-places-gt-MAX_DELETE_ROWS-clause-asked
returns-then-len-places-gt-MAX_DELETE_ROWS-clause-asked g c =
    let many : nat_lt most_rows (length c.args.rows.now.items + length c.args.places.now) ≡ true =
    lt-ltb most_rows (length c.args.rows.now.items + length c.args.places.now)
    (omega (arith, c.if-len-places-gt-MAX_DELETE_ROWS.true, c.len.ensures, c.args.rows.now.ok.0)) in
    let count : length c.args.rows.now.items ≡ c.len-then-len-places-gt-MAX_DELETE_ROWS.result =
    omega (arith, c.len-then-len-places-gt-MAX_DELETE_ROWS.ensures, c.args.rows.now.ok.0) in
    subst (λ n. Asked g.D.Disk.state g.D.Disk.faults (deletes_of g.D.Disk.state c.args.rows.now.items c.args.journal.now) (deletes_of g.D.Disk.state c.args.rows.now.items c.args.journal.now) c.args.places.now (Err (RowsFull n))) count
    (asked_many g.D.Disk.state g.D.Disk.faults (deletes_of g.D.Disk.state c.args.rows.now.items c.args.journal.now) c.args.places.now many (untouched g.D.Disk.state g.D.Disk.faults g.met.D.Disk.lawful c.args.rows.now.items c.args.journal.now c.requires.tied))

pub returns-in_err-copy-clause-asked : goal.returns-in_err-copy-clause-asked
returns-in_err-copy-clause-asked g c = asked_memory g.D.Disk.state g.D.Disk.faults (deletes_of g.D.Disk.state c.args.rows.now.items c.args.journal.now)
    c.args.places.now (omega (arith, c.if-len-places-gt-MAX_DELETE_ROWS.false, c.len.ensures, c.args.rows.now.ok.0))
    (untouched g.D.Disk.state g.D.Disk.faults g.met.D.Disk.lawful c.args.rows.now.items c.args.journal.now c.requires.tied)
    c.from_residual.result (search rules)

pub returns-in_err-body-clause-asked : goal.returns-in_err-body-clause-asked
returns-in_err-body-clause-asked g c = asked_memory g.D.Disk.state g.D.Disk.faults (deletes_of g.D.Disk.state c.args.rows.now.items c.args.journal.now)
    c.args.places.now (omega (arith, c.if-len-places-gt-MAX_DELETE_ROWS.false, c.len.ensures, c.args.rows.now.ok.0))
    (untouched g.D.Disk.state g.D.Disk.faults g.met.D.Disk.lawful c.args.rows.now.items c.args.journal.now c.requires.tied)
    c.from_residual-in_err-body.result (search rules)

pub returns-in_err-make_room-clause-asked : goal.returns-in_err-make_room-clause-asked
returns-in_err-make_room-clause-asked g c =
    subst (λ rows. Asked g.D.Disk.state g.D.Disk.faults (deletes_of g.D.Disk.state c.args.rows.now.items c.args.journal.now) (deletes_of g.D.Disk.state rows c.args.journal.now) c.args.places.now c.from_residual-in_err-make_room.result)
    (sym c.in_err-make_room.ensures.rows)
    (asked_memory g.D.Disk.state g.D.Disk.faults (deletes_of g.D.Disk.state c.args.rows.now.items c.args.journal.now) c.args.places.now (omega (arith, c.if-len-places-gt-MAX_DELETE_ROWS.false, c.len.ensures, c.args.rows.now.ok.0))
    (untouched g.D.Disk.state g.D.Disk.faults g.met.D.Disk.lawful c.args.rows.now.items c.args.journal.now c.requires.tied)
    c.from_residual-in_err-make_room.result (search rules))

pub make_ready-requires : goal.make_ready-requires
make_ready-requires g c =
    let size : c.len-2.result ≡ length (body_of (Ask c.in_ok-copy.copy)) =
    omega (arith, c.len-2.ensures, c.in_ok-body.body.ok.0, ap length c.in_ok-body.ensures.0) in
    omega (arith, size, body_short (Ask c.in_ok-copy.copy) c.in_ok-body.ensures.1)

pub returns-in_err-make_ready-clause-asked : goal.returns-in_err-make_ready-clause-asked
returns-in_err-make_ready-clause-asked g c =
    let below : length c.args.rows.now.items + length c.in_ok-copy.copy ≤ most_rows = omega (arith, c.if-len-places-gt-MAX_DELETE_ROWS.false, c.len.ensures, c.args.rows.now.ok.0, ap length c.in_ok-copy.ensures) in
    let size : c.len-2.result ≡ length (body_of (Ask c.in_ok-copy.copy)) =
    omega (arith, c.len-2.ensures, c.in_ok-body.body.ok.0, ap length c.in_ok-body.ensures.0) in
    let is : c.from_residual-in_err-make_ready.result ≡ Err c.in_err-make_ready.field-0.0 = search rules in
    subst (λ rows. Asked g.D.Disk.state g.D.Disk.faults (deletes_of g.D.Disk.state c.args.rows.now.items c.args.journal.now) (deletes_of g.D.Disk.state rows c.make_ready.new.journal) c.args.places.now c.from_residual-in_err-make_ready.result)
    (sym c.in_ok-make_room.ensures.rows)
    (subst (λ r. Asked g.D.Disk.state g.D.Disk.faults (deletes_of g.D.Disk.state c.args.rows.now.items c.args.journal.now) (deletes_of g.D.Disk.state c.args.rows.now.items c.make_ready.new.journal) c.args.places.now r) (sym is)
    (subst (λ places. Asked g.D.Disk.state g.D.Disk.faults (deletes_of g.D.Disk.state c.args.rows.now.items c.args.journal.now) (deletes_of g.D.Disk.state c.args.rows.now.items c.make_ready.new.journal) places (Err c.in_err-make_ready.field-0.0)) c.in_ok-copy.ensures
    (asked_unready g.D.Disk.state g.D.Disk.faults (deletes_of g.D.Disk.state c.args.rows.now.items c.args.journal.now) c.in_ok-copy.copy below (deletes_of g.D.Disk.state c.args.rows.now.items c.make_ready.new.journal) c.in_err-make_ready.field-0.0
    (subst (λ n. Readied g.D.Disk.state g.D.Disk.faults (deletes_of g.D.Disk.state c.args.rows.now.items c.args.journal.now) (deletes_of g.D.Disk.state c.args.rows.now.items c.make_ready.new.journal) n (Err c.in_err-make_ready.field-0.0)) size
    (c.in_err-make_ready.ensures.readied c.args.rows.now.items c.requires.tied)))))

pub add-requires-clause-sure : goal.add-requires-clause-sure
add-requires-clause-sure g c = (c.in_ok-make_ready.ensures.readied c.args.rows.now.items c.requires.tied).answer.1

pub add-requires-clause-fits : goal.add-requires-clause-fits
add-requires-clause-fits g c =
    let size : c.len-2.result ≡ length (body_of (Ask c.in_ok-copy.copy)) =
    omega (arith, c.len-2.ensures, c.in_ok-body.body.ok.0, ap length c.in_ok-body.ensures.0) in
    let ready = (c.in_ok-make_ready.ensures.readied c.args.rows.now.items c.requires.tied).answer in
    ap (λ n. has_room n (length (body_of (Ask c.in_ok-copy.copy)))) ready.3.used ∙ ap (has_room c.args.journal.now.used) (sym size) ∙ ready.0

pub returns-clause-asked : goal.returns-clause-asked
returns-clause-asked g c =
    let below : length c.args.rows.now.items + length c.in_ok-copy.copy ≤ most_rows = omega (arith, c.if-len-places-gt-MAX_DELETE_ROWS.false, c.len.ensures, c.args.rows.now.ok.0, ap length c.in_ok-copy.ensures) in
    let size : c.len-2.result ≡ length (body_of (Ask c.in_ok-copy.copy)) =
    omega (arith, c.len-2.ensures, c.in_ok-body.body.ok.0, ap length c.in_ok-body.ensures.0) in
    subst (λ places. Asked g.D.Disk.state g.D.Disk.faults (deletes_of g.D.Disk.state c.args.rows.now.items c.args.journal.now) (deletes_of g.D.Disk.state c.add.new.rows.items c.add.new.journal) places c.add.result) c.in_ok-copy.ensures
    (asked_added g.D.Disk.state g.D.Disk.faults (deletes_of g.D.Disk.state c.args.rows.now.items c.args.journal.now) c.in_ok-copy.copy below (deletes_of g.D.Disk.state c.args.rows.now.items c.make_ready.new.journal) (deletes_of g.D.Disk.state c.add.new.rows.items c.add.new.journal)
    (subst (λ n. Readied g.D.Disk.state g.D.Disk.faults (deletes_of g.D.Disk.state c.args.rows.now.items c.args.journal.now) (deletes_of g.D.Disk.state c.args.rows.now.items c.make_ready.new.journal) n (Ok tt)) size
    (c.in_ok-make_ready.ensures.readied c.args.rows.now.items c.requires.tied)) c.add.result
    (subst (λ rows. Added g.D.Disk.state g.D.Disk.faults (deletes_of g.D.Disk.state rows c.make_ready.new.journal)
    (deletes_of g.D.Disk.state c.add.new.rows.items c.add.new.journal) (Ask c.in_ok-copy.copy) c.add.result) c.in_ok-make_room.ensures.rows
    c.add.ensures.added))
