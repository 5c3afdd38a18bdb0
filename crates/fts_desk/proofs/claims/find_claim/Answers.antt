-- The file that was found is that of the row that the machine picks, and stands at the place before its id.
use Rattle.std.proofs.Common.{ℕ, ◌-◌, length, Some, None, ap, sym, ◌∙◌, arith}
use Rattle.std.specs.Prelude.{max}
use Rattle.std.proofs.lemmas.Option.{same_Some, slice_get_within, slice_get-get_or}
use Rattle.fts_tables.specs.declared.places.Place.{Place}
use Rattle.fts_tables.specs.declared.rows.FileRow.{FileRow}
use Rattle.fts_desk.specs.Kept.{tables_kept}
use Rattle.fts_desk.proofs.Claiming.{accepted, idle_after, short_of_memory}
use Rattle.fts_desk.proofs.ClaimedParts.{IsFoundAt, file_of, no_file, found_at}
use Rattle.fts_desk.proofs.claims.find_claim.Goals as goal
use Rattle.fts_desk.proofs.claims.find_claim.Goals.{In-Some}

-- the row that the machine picks stands at the place before the file
found : (c : In-Some) → IsFoundAt (tables_kept c.args.kept.now) (max c.args.now c.args.kept.now.moment) c.args.word c.in-Some.file
found c =
    let tables = tables_kept c.args.kept.now in
    let now = max c.args.now tables.moment in
    found_at tables now c.args.word c.in-Some.file (λ row picked. c.picked_rows_stand.ensures.place tables now c.args.word row c.requires.formed picked)
    (file_of tables c.deref.result.now c.deref-2.result.now now c.max-moment.result c.args.word (Some c.in-Some.file) c.deref.ensures.value
    c.deref-2.ensures.value c.max-moment.ensures
    (c.find_file-found.ensures.file tables.banned (c.deref-3.ensures.value ∙ c.args.kept.now.of_bans) ∙ c.in-Some.is))

pub overflow_sub-place : goal.overflow_sub-place
overflow_sub-place c = (found (goal.at.overflow_sub-place c).In-Some).first

pub index-requires : goal.index-requires
index-requires c =
    let place = found (goal.at.index-requires c).In-Some in
    let inside = slice_get_within c.args.kept.now.rows.items (c.in-Some.file - 1) place.row place.there in
    omega (arith, inside, ap length c.deref-2.ensures.value, c.deref-2.ensures.len)

pub returns-in-None-clause-answer : goal.returns-in-None-clause-answer
returns-in-None-clause-answer c =
    let tables = tables_kept c.args.kept.now in
    let now = max c.args.now tables.moment in
    let none = file_of tables c.deref.result.now c.deref-2.result.now now c.max-moment.result c.args.word None c.deref.ensures.value
    c.deref-2.ensures.value c.max-moment.ensures
    (c.find_file-found.ensures.file tables.banned (c.deref-3.ensures.value ∙ c.args.kept.now.of_bans) ∙ c.in-None.is) in
    idle_after (ℕ × Place) tables now _ (no_file _ none)

pub returns-in-Ok-clause-answer : goal.returns-in-Ok-clause-answer
returns-in-Ok-clause-answer c =
    let place = found (goal.at.returns-in-Ok-clause-answer c).In-Some in
    accepted {T = ℕ × Place} (tables_kept c.args.kept.now) (max c.args.now c.args.kept.now.moment) c.args.word (c.in-Some.file - 1, c.in-Ok.dest) place.row
    place.picked

pub returns-in-Ok-clause-picked : goal.returns-in-Ok-clause-picked
returns-in-Ok-clause-picked c =
    let place = found (goal.at.returns-in-Ok-clause-picked c).In-Some in
    (slice_get_within c.args.kept.now.rows.items (c.in-Some.file - 1) place.row place.there, place.picked ∙ sym place.there)

pub returns-in-Ok-clause-dest : goal.returns-in-Ok-clause-dest
returns-in-Ok-clause-dest c = λ row at.
    let rows = c.args.kept.now.rows.items in
    let inside = slice_get_within rows (c.in-Some.file - 1) row at in
    let same = same_Some row c.index.result.now (sym at ∙ (slice_get-get_or rows (c.in-Some.file - 1) _ inside ∙ ap (λ row. Some row) (sym c.index.ensures))) in
    ap (λ (row : FileRow). row.dest) same ∙ c.in-Ok.ensures.dest

pub returns-in-Err-clause-answer : goal.returns-in-Err-clause-answer
returns-in-Err-clause-answer c =
    let place = found (goal.at.returns-in-Err-clause-answer c).In-Some in
    short_of_memory (ℕ × Place) (tables_kept c.args.kept.now) (max c.args.now c.args.kept.now.moment) c.args.word place.row place.picked
