-- Each part of a row is there, and goes with it.
use Rattle.std.proofs.Common.{◌≡◌, Some, ap, sym, ◌∙◌, subst}
use Rattle.std.specs.Prelude.{slice_get}
use Rattle.std.proofs.lemmas.Bool.{and_from, and_left, and_right}
use Rattle.fts_tables.specs.SettingsData.{IsSettings}
use Rattle.fts_tables.specs.Tables.{is_submitted, is_active}
use Rattle.fts_tables.specs.declared.settings.LinkAt.{LinkAt}
use Rattle.fts_heads.specs.Dests.{AreNumbersOf, DestsData, dests_of}
use Rattle.fts_line.specs.LineData.{LineData, IsInside}
use Rattle.fts_claims.specs.InLine.{IsInLine}
use Rattle.fts_claims.specs.Ties.{activity_of}
use Rattle.fts_claims.proofs.OneMore.{found_link, no_link, not_both}
use Rattle.fts_claims.proofs.InLineRows.{number_of_row, has_number, flag_of_row, inside_row}
use Rattle.fts_claims.proofs.InLineChanged.{freed}
use Rattle.fts_claims.proofs.Changed.{row_there, file_there, slot_there, dest_there, idle_there}
use Rattle.fts_claims.proofs.Changed.{left_nothing, left_queue, left_slot, fewer_without, other_state}
use Rattle.fts_claims.proofs.parts.ClaimParts.leave_by_names.Goals as goal
use Rattle.fts_claims.proofs.parts.ClaimParts.leave_by_names.Goals.{In-Some}

-- the row at the place
the_row : (c : In-Some) → slice_get c.args.rows.now c.args.place ≡ Some c.index-rows-place.result
the_row c = row_there c.args.rows.now c.args.place c.index-rows-place.result c.requires.inside (sym c.index-rows-place.is)

pub leave_queue-requires-clause-link : goal.leave_queue-requires-clause-link
leave_queue-requires-clause-link c =
    (found_link c.args.self.now.slots.settings c.index-rows-place.result c.in-Some.link (sym c.in-Some.is ∙ c.link_of.ensures.link)).1

pub leave_queue-requires-clause-inside : goal.leave_queue-requires-clause-inside
leave_queue-requires-clause-inside c =
    let row = c.index-rows-place.result in
    let settings = c.args.self.now.slots.settings in
    let found = found_link settings row c.in-Some.link (sym c.in-Some.is ∙ c.link_of.ensures.link) in
    subst (λ (link : LinkAt). IsInside link (activity_of settings row)) (sym found.1)
    (inside_row settings (subst IsSettings c.settings.ensures.settings c.settings_keep_their_rules.ensures.rules) row found.0)

pub leave_queue-requires-clause-waits : goal.leave_queue-requires-clause-waits
leave_queue-requires-clause-waits c =
    let row = c.index-rows-place.result in
    let old = c.args.self.now in
    let found = found_link old.slots.settings row c.in-Some.link (sym c.in-Some.is ∙ c.link_of.ensures.link) in
    file_there c.args.jobs.now c.args.rows.now c.args.place row c.requires.inside (sym c.index-rows-place.is) c.filters_keep_the_order.ensures.any old
    c.requires.tied (and_from _ _ (sym c.is_submitted.ensures ∙ c.if-is_submitted.true) found.0)

pub leave_slot-requires-clause-held : goal.leave_slot-requires-clause-held
leave_slot-requires-clause-held c =
    let row = c.index-rows-place.result in
    let old = c.args.self.now in
    let found = found_link old.slots.settings row c.in-Some.link (sym c.in-Some.is ∙ c.link_of.ensures.link) in
    slot_there c.args.jobs.now c.args.rows.now c.args.place row c.requires.inside (sym c.index-rows-place.is) old c.in-Some.link c.requires.tied
    (sym c.is_active.ensures ∙ c.if-is_active.true) found.1

pub leave_slot-requires-clause-there : goal.leave_slot-requires-clause-there
leave_slot-requires-clause-there c =
    dest_there c.args.jobs.now c.args.rows.now c.args.place c.index-rows-place.result c.requires.inside (sym c.index-rows-place.is) c.args.self.now
    c.requires.tied (sym c.is_active.ensures ∙ c.if-is_active.true)

pub leave_slot-requires-clause-known : goal.leave_slot-requires-clause-known
leave_slot-requires-clause-known c =
    (has_number c.args.rows.now c.args.self.now.line c.args.self.now.busy c.args.place c.index-rows-place.result c.requires.rows_numbered
    (the_row (goal.at.leave_slot-requires-clause-known c).In-Some) c.requires.line.line).dest

pub leave_slot-requires-clause-flagged : goal.leave_slot-requires-clause-flagged
leave_slot-requires-clause-flagged c =
    let rows = c.args.rows.now in
    let old = c.args.self.now in
    let row = c.index-rows-place.result in
    let at = the_row (goal.at.leave_slot-requires-clause-flagged c).In-Some in
    flag_of_row rows old.line old.busy c.args.place row c.requires.rows_numbered at c.requires.line.line
    ∙ dest_there c.args.jobs.now rows c.args.place row c.requires.inside (sym c.index-rows-place.is) old c.requires.tied
    (sym c.is_active.ensures ∙ c.if-is_active.true)

pub returns-in-None-clause-tied : goal.returns-in-None-clause-tied
returns-in-None-clause-tied c =
    let row = c.index-rows-place.result in
    let old = c.args.self.now in
    let unknown = no_link old.slots.settings row (sym c.in-None.is ∙ c.link_of.ensures.link) in
    left_nothing c.args.jobs.now c.args.rows.now c.args.place row c.requires.inside (sym c.index-rows-place.is) old
    (idle_there c.args.jobs.now c.args.rows.now c.args.place row c.requires.inside (sym c.index-rows-place.is) old c.requires.tied unknown)
    (and_right (is_submitted row.state) _ unknown) c.requires.tied

pub returns-then-is_submitted-clause-tied : goal.returns-then-is_submitted-clause-tied
returns-then-is_submitted-clause-tied c =
    let row = c.index-rows-place.result in
    let old = c.args.self.now in
    let found = found_link old.slots.settings row c.in-Some.link (sym c.in-Some.is ∙ c.link_of.ensures.link) in
    let waits = sym c.is_submitted.ensures ∙ c.if-is_submitted.true in
    left_queue c.args.jobs.now c.args.rows.now c.args.place row c.requires.inside (sym c.index-rows-place.is) c.order_is_of_the_set.ensures.removed
    c.requires.rows_numbered old c.leave_queue.new.parts (not_both row.state waits) (and_from _ _ waits found.0)
    (ap (λ (line : LineData). line.waiting) c.leave_queue.ensures.line) c.leave_queue.ensures.slots c.leave_queue.ensures.busy c.requires.tied

pub returns-then-is_submitted-clause-fewer : goal.returns-then-is_submitted-clause-fewer
returns-then-is_submitted-clause-fewer c =
    fewer_without c.index-rows-place.result.id c.args.self.now.line.waiting c.leave_queue.new.parts.line.waiting
    (ap (λ (line : LineData). line.waiting) c.leave_queue.ensures.line)

pub returns-then-is_submitted-clause-waiting : goal.returns-then-is_submitted-clause-waiting
returns-then-is_submitted-clause-waiting c = λ other at none. absurd
    (other_state is_submitted c.args.rows.now c.args.place c.index-rows-place.result other
    c.requires.inside (sym c.index-rows-place.is) (sym c.is_submitted.ensures ∙ c.if-is_submitted.true) at none)

pub returns-then-is_active-clause-tied : goal.returns-then-is_active-clause-tied
returns-then-is_active-clause-tied c =
    let row = c.index-rows-place.result in
    let old = c.args.self.now in
    let found = found_link old.slots.settings row c.in-Some.link (sym c.in-Some.is ∙ c.link_of.ensures.link) in
    left_slot c.args.jobs.now c.args.rows.now c.args.place row c.requires.inside (sym c.index-rows-place.is) old c.leave_slot.new.parts c.in-Some.link
    (sym c.is_active.ensures ∙ c.if-is_active.true)
    (and_left (is_submitted row.state) _ (sym c.is_submitted.ensures ∙ c.if-is_submitted.false)) found.1
    (ap (λ (line : LineData). line.waiting) c.leave_slot.ensures.line) c.leave_slot.ensures.limits c.leave_slot.ensures.slots c.leave_slot.ensures.busy
    c.requires.tied

pub returns-then-is_active-clause-line : goal.returns-then-is_active-clause-line
returns-then-is_active-clause-line c =
    let rows = c.args.rows.now in
    let old = c.args.self.now in
    let new = c.leave_slot.new.parts in
    let row = c.index-rows-place.result in
    let at = the_row (goal.at.returns-then-is_active-clause-line c).In-Some in
    let lined = c.requires.line.line in
    record {
      line = subst (λ (line : LineData). IsInLine (dests_of rows) line new.busy) (sym c.leave_slot.ensures.line)
          (freed new.busy old.busy row.dest c.leave_slot.ensures.busy (dests_of rows) old.line _
          (number_of_row rows old.line old.busy c.args.place row c.requires.rows_numbered at lined)
          (has_number rows old.line old.busy c.args.place row c.requires.rows_numbered at lined).dest c.leave_slot.ensures.gone lined);
      found = subst (λ (dests : DestsData). AreNumbersOf (dests_of rows) dests) (sym c.leave_slot.ensures.dests) c.requires.line.found;
    }

pub returns-then-is_active-clause-running : goal.returns-then-is_active-clause-running
returns-then-is_active-clause-running c = λ other at none. absurd (other_state is_active c.args.rows.now c.args.place c.index-rows-place.result other
    c.requires.inside (sym c.index-rows-place.is) (sym c.is_active.ensures ∙ c.if-is_active.true) at none)

pub returns-else-is_active-clause-tied : goal.returns-else-is_active-clause-tied
returns-else-is_active-clause-tied c =
    let row = c.index-rows-place.result in
    left_nothing c.args.jobs.now c.args.rows.now c.args.place row c.requires.inside (sym c.index-rows-place.is) c.args.self.now
    (sym c.is_active.ensures ∙ c.if-is_active.false) (and_left (is_submitted row.state) _ (sym c.is_submitted.ensures ∙ c.if-is_submitted.false))
    c.requires.tied
