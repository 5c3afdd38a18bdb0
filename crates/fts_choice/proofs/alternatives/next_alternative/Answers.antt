use Rattle.std.proofs.Common.{◌<◌, length, sym, ◌∙◌, ap, subst}
use Rattle.std.specs.Prelude.{slice_get, option_and_then, IfSome}
use Rattle.fts_tables.specs.Tables.{is_not_used}
use Rattle.fts_tables.specs.Choice.{next_alternative}
use Rattle.fts_tables.specs.declared.rows.FileRow.{FileRow}
use Rattle.fts_choice.specs.LeastPlaces.{is_not_used_at, load_of}
use Rattle.fts_choice.proofs.LeastFound.{least_place-inside, least_place-none}
use Rattle.fts_choice.proofs.NextRows.{at_position, position-none, alternative_row}
use Rattle.fts_choice.proofs.alternatives.next_alternative.Goals as goal

pub returns-in-Orderly-clause-none : goal.returns-in-Orderly-clause-none
returns-in-Orderly-clause-none c =
    let found = position-none (λ (row : FileRow). is_not_used row.state) c.args.rows.now in
    (λ none. found.0 (sym c.first_not_used.ensures.place ∙ none), λ none. c.first_not_used.ensures.place ∙ found.1 none)

pub returns-in-Orderly-clause-row : goal.returns-in-Orderly-clause-row
returns-in-Orderly-clause-row c = λ all given.
    let rows = c.args.rows.now in
    ap (option_and_then (slice_get rows)) c.first_not_used.ensures.place
    ∙ (at_position (λ (row : FileRow). is_not_used row.state) rows ∙ ap (λ strategy. next_alternative strategy all rows) (sym c.in-Orderly.is))

pub returns-in-Auto-clause-none : goal.returns-in-Auto-clause-none
returns-in-Auto-clause-none c =
    let found = least_place-none (λ (row : FileRow). is_not_used row.state) c.args.rows.now (load_of c.args.loads.now) in
    (λ none. found.0 (sym c.least_loaded.ensures.place ∙ none), λ none. c.least_loaded.ensures.place ∙ found.1 none)

pub returns-in-Auto-clause-inside : goal.returns-in-Auto-clause-inside
returns-in-Auto-clause-inside c =
    let rows = c.args.rows.now in
    subst (λ found. IfSome found (λ place. place < length rows)) (sym c.least_loaded.ensures.place)
    (least_place-inside (is_not_used_at rows) (load_of c.args.loads.now) (length rows))

pub returns-in-Auto-clause-row : goal.returns-in-Auto-clause-row
returns-in-Auto-clause-row c = λ all given.
    let rows = c.args.rows.now in
    ap (option_and_then (slice_get rows)) c.least_loaded.ensures.place
    ∙ (alternative_row all rows c.args.loads.now given ∙ ap (λ strategy. next_alternative strategy all rows) (sym c.in-Auto.is))
