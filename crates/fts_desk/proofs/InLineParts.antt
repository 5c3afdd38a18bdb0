-- What is in line by the destinations of rows, where rows change and keep them, and where rooms rise.
use Rattle.std.proofs.Common.{◌≡◌, ℕ, zero, suc, ◌+◌, List, [], ◌∷◌, length, set, Option, Some, None, refl, ap, sym, ◌∙◌, subst}
use Rattle.std.specs.Prelude.{slice_get, unwrap_or}
use Rattle.std.proofs.lemmas.Option.{same_Some}
use Rattle.std.proofs.lemmas.List.{length-map}
use Rattle.fts_tables.specs.declared.places.Place.{Place}
use Rattle.fts_tables.specs.declared.rows.FileRow.{FileRow}
use Rattle.fts_heads.specs.Dests.{dests_of, number_of}
use Rattle.fts_claims.specs.InLine.{AreInLine, HasRoomInLine}
use Rattle.fts_claims.specs.declared.parts.ClaimParts.{ClaimParts}
use Rattle.fts_desk.specs.Parts.{AreInLineParts, HaveRisenRooms}
use Rattle.fts_desk.specs.Places.{change_at}
use Rattle.fts_claims.proofs.RaisedRooms.{line_stays}

-- rows with the same destinations are in line alike
pub line_alike : (before after : List FileRow) (parts : Option ClaimParts) → dests_of after ≡ dests_of before → AreInLineParts before parts
    → AreInLineParts after parts
line_alike before after None same lined = tt
line_alike before after (Some parts) same lined = subst (λ places. AreInLine places parts) (sym same) lined

-- where a row is written at its place with its destination kept, destinations stay
dests-set : (rows : List FileRow) (place : ℕ) (before after : FileRow) → slice_get rows place ≡ Some before → after.dest ≡ before.dest
    → dests_of (set rows place after) ≡ dests_of rows
dests-set [] place before after at same = refl
dests-set (row ∷ rows) zero before after at same =
    ap (λ (dest : Place). dest ∷ dests_of rows) (same ∙ ap (λ (row : FileRow). row.dest) (sym (same_Some row before at)))
dests-set (row ∷ rows) (suc place) before after at same = ap (λ (dests : List Place). row.dest ∷ dests) (dests-set rows place before after at same)

pub line-set : (rows : List FileRow) (place : ℕ) (before after : FileRow) (parts : Option ClaimParts) → slice_get rows place ≡ Some before
    → after.dest ≡ before.dest → AreInLineParts rows parts → AreInLineParts (set rows place after) parts
line-set rows place before after parts at same = line_alike rows (set rows place after) parts (dests-set rows place before after at same)

-- and where it changes there
dests-change : (rows : List FileRow) (place : ℕ) (change : FileRow → FileRow) → ((row : FileRow) → (change row).dest ≡ row.dest)
    → dests_of (change_at place change rows) ≡ dests_of rows
dests-change [] place change keeps = refl
dests-change (row ∷ rows) zero change keeps = ap (λ (dest : Place). dest ∷ dests_of rows) (keeps row)
dests-change (row ∷ rows) (suc place) change keeps = ap (λ (dests : List Place). row.dest ∷ dests) (dests-change rows place change keeps)

pub line-change : (rows : List FileRow) (place : ℕ) (change : FileRow → FileRow) (parts : Option ClaimParts)
    → ((row : FileRow) → (change row).dest ≡ row.dest) → AreInLineParts rows parts → AreInLineParts (change_at place change rows) parts
line-change rows place change parts keeps = line_alike rows (change_at place change rows) parts (dests-change rows place change keeps)

-- where rooms rise, what is in line stays so
pub line_risen : (rows : List FileRow) (old new : Option ClaimParts) → HaveRisenRooms old new → AreInLineParts rows old → AreInLineParts rows new
line_risen rows None None risen lined = tt
line_risen rows None (Some new) risen lined = absurd risen
line_risen rows (Some old) None risen lined = absurd risen
line_risen rows (Some old) (Some new) risen lined = line_stays (dests_of rows) old new risen lined

-- room for so many files more is room for so many more than there are rows
pub room_by_rows : (rows : List FileRow) (old new : ClaimParts) (more : ℕ) → AreInLine (dests_of rows) old
    → HasRoomInLine (length old.line.dests + more) new → HasRoomInLine (length rows + more) new
room_by_rows rows old new more lined room =
    let many : length old.line.dests ≡ length rows =
    ap length lined.line.numbers
    ∙ (length-map (dests_of rows) (λ (place : Place). unwrap_or (number_of (dests_of rows) place) 0) ∙ length-map rows (λ (row : FileRow). row.dest)) in
    subst (λ count. HasRoomInLine (count + more) new) many room
