-- The exits of a row of a pass.
use Rattle.std.proofs.Common.{◌≡◌, false, true, rules, arith, sym, subst, Ok, Err, ap, ◌∙◌, length, Some, refl, slice_get}
use Rattle.fts_store.specs.Store.{place_at}
use Rattle.fts_delete.specs.declared.events.Event.TheVariants.{Gone, Missed}
use Rattle.fts_delete.specs.declared.fault.DeleteFault.TheVariants.{Memory}
use Rattle.fts_delete.specs.Rows.{is_waiting, rows_after, gone_row, missed_row}
use Rattle.fts_delete.specs.Looks.{calls_of, with_calls, Visits}
use Rattle.fts_delete.specs.Spelling.{body_of}
use Rattle.fts_delete.specs.Views.{deletes_of}
use Rattle.fts_delete.specs.Recording.{has_room, Readied}
use Rattle.fts_delete.specs.Walking.{PassesRow}
use Rattle.fts_delete.proofs.Forming.{legal_rows_are_formed}
use Rattle.fts_delete.proofs.Images.{images_start}
use Rattle.fts_delete.proofs.Leaving.{by_texts}
use Rattle.fts_delete.proofs.Sizes.{body_short, same_size}
use Rattle.fts_delete.proofs.Taken.{found_row, may_change, some_there}
use Rattle.fts_delete.proofs.Tying.{kept_deletes}
use Rattle.fts_delete.proofs.RowExits.{passed_over, passed_memory, passed_unready, passed_visited}
use Rattle.fts_delete.proofs.walking.pass_row.Goals as goal

pub returns-then-not-is_waiting-clause-passes : goal.returns-then-not-is_waiting-clause-passes
returns-then-not-is_waiting-clause-passes g c =
    let at : slice_get c.args.rows.now.items c.args.at ≡ Some c.index-row.result.now =
    found_row c.args.rows.now.items c.args.at c.index-row.result.now c.requires.here c.index-row.ensures in
    passed_over g.D.Disk.state g.D.Disk.faults g.E.Store.state g.E.Store.faults g.E.Store.calls (slice_get c.args.rows.now.items c.args.at) c.index-row.result.now at (deletes_of g.D.Disk.state c.args.rows.now.items c.args.journal.now) c.args.store.now (sym c.is_waiting.ensures ∙ c.if-not-is_waiting.true)
    (images_start g.D.Disk.state (deletes_of g.D.Disk.state c.args.rows.now.items c.args.journal.now) (kept_deletes g.D.Disk.state c.args.rows.now.items c.args.journal.now c.requires.tied) (g.met.D.Disk.lawful c.args.journal.now.disk))

pub returns-in_err-gone-clause-passes : goal.returns-in_err-gone-clause-passes
returns-in_err-gone-clause-passes g c =
    let at : slice_get c.args.rows.now.items c.args.at ≡ Some c.index-row.result.now =
    found_row c.args.rows.now.items c.args.at c.index-row.result.now c.requires.here c.index-row.ensures in
    let waits : is_waiting c.index-row.result.now.state ≡ true = sym c.is_waiting.ensures ∙ c.if-not-is_waiting.false in
    let is : c.from_residual.result ≡ Err Memory = search rules in
    subst (λ r. PassesRow g.D.Disk.state g.D.Disk.faults g.E.Store.state g.E.Store.faults g.E.Store.calls (slice_get c.args.rows.now.items c.args.at) (deletes_of g.D.Disk.state c.args.rows.now.items c.args.journal.now) (deletes_of g.D.Disk.state c.args.rows.now.items c.args.journal.now) c.args.store.now c.args.store.now r) (sym is)
    (passed_memory g.D.Disk.state g.D.Disk.faults g.E.Store.state g.E.Store.faults g.E.Store.calls (slice_get c.args.rows.now.items c.args.at) c.index-row.result.now at (deletes_of g.D.Disk.state c.args.rows.now.items c.args.journal.now) c.args.store.now waits
    (images_start g.D.Disk.state (deletes_of g.D.Disk.state c.args.rows.now.items c.args.journal.now) (kept_deletes g.D.Disk.state c.args.rows.now.items c.args.journal.now c.requires.tied) (g.met.D.Disk.lawful c.args.journal.now.disk)))

pub returns-in_err-missed-clause-passes : goal.returns-in_err-missed-clause-passes
returns-in_err-missed-clause-passes g c =
    let at : slice_get c.args.rows.now.items c.args.at ≡ Some c.index-row.result.now =
    found_row c.args.rows.now.items c.args.at c.index-row.result.now c.requires.here c.index-row.ensures in
    let waits : is_waiting c.index-row.result.now.state ≡ true = sym c.is_waiting.ensures ∙ c.if-not-is_waiting.false in
    let is : c.from_residual-in_err-missed.result ≡ Err Memory = search rules in
    subst (λ r. PassesRow g.D.Disk.state g.D.Disk.faults g.E.Store.state g.E.Store.faults g.E.Store.calls (slice_get c.args.rows.now.items c.args.at) (deletes_of g.D.Disk.state c.args.rows.now.items c.args.journal.now) (deletes_of g.D.Disk.state c.args.rows.now.items c.args.journal.now) c.args.store.now c.args.store.now r) (sym is)
    (passed_memory g.D.Disk.state g.D.Disk.faults g.E.Store.state g.E.Store.faults g.E.Store.calls (slice_get c.args.rows.now.items c.args.at) c.index-row.result.now at (deletes_of g.D.Disk.state c.args.rows.now.items c.args.journal.now) c.args.store.now waits
    (images_start g.D.Disk.state (deletes_of g.D.Disk.state c.args.rows.now.items c.args.journal.now) (kept_deletes g.D.Disk.state c.args.rows.now.items c.args.journal.now c.requires.tied) (g.met.D.Disk.lawful c.args.journal.now.disk)))

pub make_ready-requires : goal.make_ready-requires
make_ready-requires g c =
    let size : c.len.result ≡ length (body_of (Gone c.index-row.result.now.id)) =
    omega (arith, c.len.ensures, c.in_ok-gone.gone.ok.0, ap length c.in_ok-gone.ensures.0) in
    omega (arith, size, body_short (Gone c.index-row.result.now.id) c.in_ok-gone.ensures.1)

pub returns-in_err-make_ready-clause-passes : goal.returns-in_err-make_ready-clause-passes
returns-in_err-make_ready-clause-passes g c =
    let at : slice_get c.args.rows.now.items c.args.at ≡ Some c.index-row.result.now =
    found_row c.args.rows.now.items c.args.at c.index-row.result.now c.requires.here c.index-row.ensures in
    let waits : is_waiting c.index-row.result.now.state ≡ true = sym c.is_waiting.ensures ∙ c.if-not-is_waiting.false in
    let size : c.len.result ≡ length (body_of (Gone c.index-row.result.now.id)) =
    omega (arith, c.len.ensures, c.in_ok-gone.gone.ok.0, ap length c.in_ok-gone.ensures.0) in
    let is : c.from_residual-in_err-make_ready.result ≡ Err c.in_err-make_ready.field-0.0 = search rules in
    subst (λ r. PassesRow g.D.Disk.state g.D.Disk.faults g.E.Store.state g.E.Store.faults g.E.Store.calls (slice_get c.args.rows.now.items c.args.at) (deletes_of g.D.Disk.state c.args.rows.now.items c.args.journal.now) (deletes_of g.D.Disk.state c.args.rows.now.items c.make_ready.new.journal) c.args.store.now c.args.store.now r) (sym is)
    (passed_unready g.D.Disk.state g.D.Disk.faults g.E.Store.state g.E.Store.faults g.E.Store.calls (slice_get c.args.rows.now.items c.args.at) c.index-row.result.now at (deletes_of g.D.Disk.state c.args.rows.now.items c.args.journal.now) (deletes_of g.D.Disk.state c.args.rows.now.items c.make_ready.new.journal) (kept_deletes g.D.Disk.state c.args.rows.now.items c.args.journal.now c.requires.tied) waits c.args.store.now c.in_err-make_ready.field-0.0
    (subst (λ n. Readied g.D.Disk.state g.D.Disk.faults (deletes_of g.D.Disk.state c.args.rows.now.items c.args.journal.now) (deletes_of g.D.Disk.state c.args.rows.now.items c.make_ready.new.journal) n (Err c.in_err-make_ready.field-0.0)) size
    (c.in_err-make_ready.ensures.readied c.args.rows.now.items c.requires.tied)))

pub add-requires-clause-sure : goal.add-requires-clause-sure
add-requires-clause-sure g c = (c.in_ok-make_ready.ensures.readied c.args.rows.now.items c.requires.tied).answer.1

pub add-requires-clause-fits : goal.add-requires-clause-fits
add-requires-clause-fits g c =
    let size : c.len.result ≡ length (body_of (Gone c.index-row.result.now.id)) =
    omega (arith, c.len.ensures, c.in_ok-gone.gone.ok.0, ap length c.in_ok-gone.ensures.0) in
    let ready = (c.in_ok-make_ready.ensures.readied c.args.rows.now.items c.requires.tied).answer in
    ap (λ n. has_room n (length (body_of (Gone c.index-row.result.now.id)))) ready.3.used ∙ ap (has_room c.args.journal.now.used) (sym size) ∙ ready.0

pub add-requires-else-saw_none-clause-sure : goal.add-requires-else-saw_none-clause-sure
add-requires-else-saw_none-clause-sure g c = (c.in_ok-make_ready.ensures.readied c.args.rows.now.items c.requires.tied).answer.1

pub add-requires-else-saw_none-clause-fits : goal.add-requires-else-saw_none-clause-fits
add-requires-else-saw_none-clause-fits g c =
    let size : c.len.result ≡ length (body_of (Gone c.index-row.result.now.id)) =
    omega (arith, c.len.ensures, c.in_ok-gone.gone.ok.0, ap length c.in_ok-gone.ensures.0) in
    let ready = (c.in_ok-make_ready.ensures.readied c.args.rows.now.items c.requires.tied).answer in
    ap (λ n. has_room n (length (body_of (Missed c.index-row.result.now.id)))) ready.3.used
    ∙ ap (has_room c.args.journal.now.used) (sym (size ∙ same_size c.index-row.result.now.id)) ∙ ready.0

pub returns-then-saw_none-clause-passes : goal.returns-then-saw_none-clause-passes
returns-then-saw_none-clause-passes g c =
    let at : slice_get c.args.rows.now.items c.args.at ≡ Some c.index-row.result.now =
    found_row c.args.rows.now.items c.args.at c.index-row.result.now c.requires.here c.index-row.ensures in
    let waits : is_waiting c.index-row.result.now.state ≡ true = sym c.is_waiting.ensures ∙ c.if-not-is_waiting.false in
    let size : c.len.result ≡ length (body_of (Gone c.index-row.result.now.id)) =
    omega (arith, c.len.ensures, c.in_ok-gone.gone.ok.0, ap length c.in_ok-gone.ensures.0) in
    let same : place_at c.of.result ≡ c.index-row.result.now.place =
    by_texts c.of.result.endpoint.now c.index-row.result.now.place.endpoint c.of.result.path.now c.index-row.result.now.place.path c.of.ensures.endpoint
    c.of.ensures.path in
    let visited : Visits g.E.Store.state g.E.Store.faults c.args.store.now c.visit-came.new.store c.index-row.result.now.place c.visit-came.result =
    subst (λ p. Visits g.E.Store.state g.E.Store.faults c.args.store.now c.visit-came.new.store p c.visit-came.result) same c.visit-came.ensures.visits in
    let called : g.E.Store.calls c.visit-came.new.store ≡ with_calls (g.E.Store.calls c.args.store.now) (calls_of c.index-row.result.now.place c.visit-came.result) =
    subst (λ p. g.E.Store.calls c.visit-came.new.store ≡ with_calls (g.E.Store.calls c.args.store.now) (calls_of p c.visit-came.result)) same c.visit-came.ensures.called in
    let next = some_there (rows_after c.args.rows.now.items (Gone c.index-row.result.now.id))
    (may_change c.args.at gone_row c.args.rows.now.items c.index-row.result.now
    (legal_rows_are_formed c.requires.tied.events c.args.rows.now.items c.requires.tied.held.folded).numbered at waits) in
    passed_visited g.D.Disk.state g.D.Disk.faults g.E.Store.state g.E.Store.faults g.E.Store.calls (slice_get c.args.rows.now.items c.args.at) c.index-row.result.now at (deletes_of g.D.Disk.state c.args.rows.now.items c.args.journal.now)
    (deletes_of g.D.Disk.state c.args.rows.now.items c.make_ready.new.journal) (kept_deletes g.D.Disk.state c.args.rows.now.items c.args.journal.now c.requires.tied) waits
    (deletes_of g.D.Disk.state c.add.new.rows.items c.add.new.journal) (kept_deletes g.D.Disk.state c.args.rows.now.items c.make_ready.new.journal (c.in_ok-make_ready.ensures.tied c.args.rows.now.items c.requires.tied))
    (subst (λ n. Readied g.D.Disk.state g.D.Disk.faults (deletes_of g.D.Disk.state c.args.rows.now.items c.args.journal.now) (deletes_of g.D.Disk.state c.args.rows.now.items c.make_ready.new.journal) n (Ok tt)) size
    (c.in_ok-make_ready.ensures.readied c.args.rows.now.items c.requires.tied))
    c.args.store.now c.visit-came.new.store c.visit-came.result visited called true (sym c.if-saw_none.true ∙ c.saw_none.ensures)
    (Gone c.index-row.result.now.id) refl next.0 next.1 c.add.result c.add.ensures.added

pub returns-clause-passes : goal.returns-clause-passes
returns-clause-passes g c =
    let at : slice_get c.args.rows.now.items c.args.at ≡ Some c.index-row.result.now =
    found_row c.args.rows.now.items c.args.at c.index-row.result.now c.requires.here c.index-row.ensures in
    let waits : is_waiting c.index-row.result.now.state ≡ true = sym c.is_waiting.ensures ∙ c.if-not-is_waiting.false in
    let size : c.len.result ≡ length (body_of (Gone c.index-row.result.now.id)) =
    omega (arith, c.len.ensures, c.in_ok-gone.gone.ok.0, ap length c.in_ok-gone.ensures.0) in
    let same : place_at c.of.result ≡ c.index-row.result.now.place =
    by_texts c.of.result.endpoint.now c.index-row.result.now.place.endpoint c.of.result.path.now c.index-row.result.now.place.path c.of.ensures.endpoint
    c.of.ensures.path in
    let visited : Visits g.E.Store.state g.E.Store.faults c.args.store.now c.visit-came.new.store c.index-row.result.now.place c.visit-came.result =
    subst (λ p. Visits g.E.Store.state g.E.Store.faults c.args.store.now c.visit-came.new.store p c.visit-came.result) same c.visit-came.ensures.visits in
    let called : g.E.Store.calls c.visit-came.new.store ≡ with_calls (g.E.Store.calls c.args.store.now) (calls_of c.index-row.result.now.place c.visit-came.result) =
    subst (λ p. g.E.Store.calls c.visit-came.new.store ≡ with_calls (g.E.Store.calls c.args.store.now) (calls_of p c.visit-came.result)) same c.visit-came.ensures.called in
    let next = some_there (rows_after c.args.rows.now.items (Missed c.index-row.result.now.id))
    (may_change c.args.at missed_row c.args.rows.now.items c.index-row.result.now
    (legal_rows_are_formed c.requires.tied.events c.args.rows.now.items c.requires.tied.held.folded).numbered at waits) in
    passed_visited g.D.Disk.state g.D.Disk.faults g.E.Store.state g.E.Store.faults g.E.Store.calls (slice_get c.args.rows.now.items c.args.at) c.index-row.result.now at (deletes_of g.D.Disk.state c.args.rows.now.items c.args.journal.now)
    (deletes_of g.D.Disk.state c.args.rows.now.items c.make_ready.new.journal) (kept_deletes g.D.Disk.state c.args.rows.now.items c.args.journal.now c.requires.tied) waits
    (deletes_of g.D.Disk.state c.add-else-saw_none.new.rows.items c.add-else-saw_none.new.journal) (kept_deletes g.D.Disk.state c.args.rows.now.items c.make_ready.new.journal (c.in_ok-make_ready.ensures.tied c.args.rows.now.items c.requires.tied))
    (subst (λ n. Readied g.D.Disk.state g.D.Disk.faults (deletes_of g.D.Disk.state c.args.rows.now.items c.args.journal.now) (deletes_of g.D.Disk.state c.args.rows.now.items c.make_ready.new.journal) n (Ok tt)) size
    (c.in_ok-make_ready.ensures.readied c.args.rows.now.items c.requires.tied))
    c.args.store.now c.visit-came.new.store c.visit-came.result visited called false (sym c.if-saw_none.false ∙ c.saw_none.ensures)
    (Missed c.index-row.result.now.id) refl next.0 next.1 c.add-else-saw_none.result c.add-else-saw_none.ensures.added
