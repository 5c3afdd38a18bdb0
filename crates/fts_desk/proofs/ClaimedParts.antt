-- What a claim looks at, where its moment or its rooms rise, and where a row that was picked runs from then on.
use Rattle.std.proofs.Common.{◌≡◌, ℕ, zero, suc, ◌+◌, ◌-◌, ◌<◌, ◌≤◌, true, false, List, [], ◌∷◌, ◌++◌, length, take, drop, set, Option, Some, None, refl, ap, sym, ◌∙◌, subst, arith}
use Rattle.std.specs.Prelude.{slice_get, option_map, IsTrue, IsFalse, IfSome}
use Rattle.std.proofs.lemmas.Bool.{and_parts}
use Rattle.std.proofs.lemmas.Option.{same_Some, slice_get_within, slice_get-get_or}
use Rattle.std.proofs.lemmas.List.{take-set, get_or-set_same, length-set}
use Rattle.fts_tables.specs.SettingsData.{SettingsData, IsSettings}
use Rattle.fts_tables.specs.Tables.{Tables, AreNumberedFrom, is_submitted, is_active}
use Rattle.fts_tables.specs.declared.rows.FileState.{FileState}
use Rattle.fts_tables.specs.declared.rows.FileState.TheVariants.{Active}
use Rattle.fts_tables.specs.Limits.{has_known_ends, is_eligible}
use Rattle.fts_tables.specs.Choice.{pick}
use Rattle.fts_tables.specs.Moves.{claimed}
use Rattle.fts_tables.specs.declared.places.Place.{Place}
use Rattle.fts_tables.specs.declared.rows.FileRow.{FileRow}
use Rattle.fts_tables.specs.declared.rows.JobRow.{JobRow}
use Rattle.fts_slots.specs.SlotsData.{SlotsData, is_free}
use Rattle.fts_line.specs.LineData.{LineData}
use Rattle.fts_claims.specs.BusyData.{BusyData, is_busy}
use Rattle.fts_claims.specs.InLine.{IsInLine, AreInLine}
use Rattle.fts_claims.specs.Ties.{AreTied, AreOfActive, link_of}
use Rattle.fts_claims.specs.Claims.{parts_data}
use Rattle.fts_claims.specs.Changes.{AreTiedTo, all_but}
use Rattle.fts_claims.specs.declared.parts.ClaimParts.{ClaimParts}
use Rattle.fts_desk.specs.Parts.{limits_of, AreTiedParts, AreInLineParts, HaveSameRooms, HaveSameSlots, MayRunIn, HasRoomToRun}
use Rattle.fts_desk.proofs.InLineParts.{line-set}

-- the files in line at another moment
abbrev pub at_moment : ℕ → LineData → LineData
at_moment moment line = record line { waiting = record line.waiting { moment = moment } }

-- they are in line as before
pub ripe_line : (places : List Place) (parts : ClaimParts) (line : LineData) (moment : ℕ) → line ≡ at_moment moment parts.line
    → IsInLine places parts.line parts.busy → IsInLine places line parts.busy
ripe_line places parts line moment is lined = subst (λ line. IsInLine places line parts.busy) (sym is) (record {
  numbers = lined.numbers;
  count = lined.count;
  flags = lined.flags;
  room = lined.room;
  known = lined.known;
})

-- and the parts are those that a claim needs
pub may_be_claimed : (jobs : List JobRow) (rows : List FileRow) (parts : ClaimParts) (settings : SettingsData) (line : LineData) (moment : ℕ)
    → line ≡ at_moment moment parts.line → parts.slots.settings ≡ settings → AreTied (parts_data parts rows jobs parts.slots.settings)
    → AreTied (record { line = line; slots = parts.slots; busy = parts.busy; rows = rows; jobs = jobs; settings = settings })
may_be_claimed jobs rows parts settings line moment is same tied =
    subst (λ settings. AreTied (record { line = line; slots = parts.slots; busy = parts.busy; rows = rows; jobs = jobs; settings = settings })) same
    (subst (λ line. AreTied (record { line = line; slots = parts.slots; busy = parts.busy; rows = rows; jobs = jobs; settings = parts.slots.settings }))
    (sym is) (record {
      numbered = tied.numbered;
      settings = tied.settings;
      waiting = tied.waiting;
      slots = tied.slots;
      known = tied.known;
      busy = tied.busy;
    }))

-- at another moment they are tied as before
pub ripe_tied : (jobs : List JobRow) (rows : List FileRow) (parts : ClaimParts) (line : LineData) (moment : ℕ) → line ≡ at_moment moment parts.line
    → AreTiedTo jobs rows parts → AreTiedTo jobs rows (record parts { line = line })
ripe_tied jobs rows parts line moment is tied = record {
  waiting = ap (λ (line : LineData). line.waiting.waiters) is ∙ tied.waiting;
  slots = tied.slots;
  known = tied.known;
  busy = tied.busy;
}

-- with other room for the busy destinations they are tied as before
pub room_tied : (jobs : List JobRow) (rows : List FileRow) (parts : ClaimParts) (busy : BusyData) → busy.places ≡ parts.busy.places
    → AreTiedTo jobs rows parts → AreTiedTo jobs rows (record parts { busy = busy })
room_tied jobs rows parts busy same tied = record {
  waiting = tied.waiting;
  slots = tied.slots;
  known = tied.known;
  busy = subst (AreOfActive (λ (row : FileRow). row.dest) rows) (sym same) tied.busy;
}

-- and in line
pub room_line : (places : List Place) (parts : ClaimParts) (busy : BusyData) → busy.places ≡ parts.busy.places → AreInLine places parts
    → AreInLine places (record parts { busy = busy })
room_line places parts busy same are = record {
  line = record {
    numbers = are.line.numbers;
    count = are.line.count;
    flags = λ place number is. are.line.flags place number is ∙ ap (λ places. is_busy places place) (sym same);
    room = are.line.room;
    known = λ place is. are.line.known place (ap (λ places. is_busy places place) (sym same) ∙ is);
  };
  found = are.found;
}

-- the row of a file that was found
pub picked_file : (found : Option FileRow) (file : ℕ) → option_map (λ (row : FileRow). row.id) found ≡ Some file
    → (row : FileRow) × ((found ≡ Some row) × (row.id ≡ file))
picked_file None file is = absurd (differ is)
  where
    differ : None ≡ Some file → ⊥
    differ same = cc
picked_file (Some row) file is = (row, (refl, same_Some row.id file is))

-- no row where no file was found
pub no_file : (found : Option FileRow) → option_map (λ (row : FileRow). row.id) found ≡ None → found ≡ None
no_file None is = refl
no_file (Some row) is = absurd (differ is)
  where
    differ : Some row.id ≡ None → ⊥
    differ same = cc

-- what is found of lists that are the tables' is found of the tables
pub file_of : (tables : Tables) (jobs : List JobRow) (rows : List FileRow) (now moment word : ℕ) (found : Option ℕ)
    → jobs ≡ tables.jobs → rows ≡ tables.rows → moment ≡ now
    → option_map (λ (row : FileRow). row.id)
    (pick (record { jobs = jobs; rows = rows; moment = 0; settings = tables.settings; banned = tables.banned }) moment word) ≡ found
    → option_map (λ (row : FileRow). row.id) (pick tables now word) ≡ found
file_of tables jobs rows now moment word found same_jobs same_rows same_moment is =
    let asked : List JobRow → List FileRow → ℕ → Option ℕ = λ jobs rows moment.
    option_map (λ (row : FileRow). row.id)
    (pick (record { jobs = jobs; rows = rows; moment = 0; settings = tables.settings; banned = tables.banned }) moment word) in
    sym (ap (asked jobs rows) same_moment ∙ (ap (λ rows. asked jobs rows now) same_rows ∙ ap (λ jobs. asked jobs tables.rows now) same_jobs)) ∙ is

-- the row that is picked stands at the place before the file that was found
pub record IsFoundAt (tables : Tables) (now word file : ℕ) : Type 0 where
  pub row : FileRow
  pub picked : pick tables now word ≡ Some row
  pub first : 1 ≤ file
  pub there : slice_get tables.rows (file - 1) ≡ Some row

-- where a file was found
pub found_at : (tables : Tables) (now word file : ℕ)
    → ((row : FileRow) → pick tables now word ≡ Some row → (1 ≤ row.id) × (slice_get tables.rows (row.id - 1) ≡ Some row))
    → option_map (λ (row : FileRow). row.id) (pick tables now word) ≡ Some file → IsFoundAt tables now word file
found_at tables now word file stands is =
    let found = picked_file (pick tables now word) file is in
    let place = stands found.0 found.1.0 in
    record {
      row = found.0;
      picked = found.1.0;
      first = subst (λ id. 1 ≤ id) found.1.1 place.0;
      there = subst (λ id. slice_get tables.rows (id - 1) ≡ Some found.0) found.1.1 place.1;
    }

-- the rows behind a place don't change with that at it
drop-set : (rows : List FileRow) (place : ℕ) (row : FileRow) → drop (suc place) (set rows place row) ≡ drop (suc place) rows
drop-set [] place row = refl
drop-set (first ∷ rows) zero row = refl
drop-set (first ∷ rows) (suc place) row = drop-set rows place row

-- nor do all others
pub all_but-set : (rows : List FileRow) (place : ℕ) (row : FileRow) → all_but place (set rows place row) ≡ all_but place rows
all_but-set rows place row =
    let next : place + 1 ≡ suc place = omega arith in
    ap (λ before. before ++ drop (place + 1) (set rows place row)) (take-set rows place row)
    ∙ ap (λ after. take place rows ++ after)
    (ap (λ count. drop count (set rows place row)) next ∙ (drop-set rows place row ∙ ap (λ count. drop count rows) (sym next)))

-- a row that changes with its id kept leaves the rows numbered
pub numbered-set : (first : ℕ) (rows : List FileRow) (place : ℕ) (before after : FileRow) → AreNumberedFrom (λ row. row.id) first rows
    → slice_get rows place ≡ Some before → after.id ≡ before.id → AreNumberedFrom (λ row. row.id) first (set rows place after)
numbered-set first [] place before after numbered at same = tt
numbered-set first (row ∷ rows) zero before after numbered at same =
    (same ∙ (ap (λ (row : FileRow). row.id) (sym (same_Some row before at)) ∙ numbered.0), numbered.1)
numbered-set first (row ∷ rows) (suc place) before after numbered at same = (numbered.0, numbered-set (suc first) rows place before after numbered.1 at same)

-- the row that was put at a place stands there
pub stands-set : (rows : List FileRow) (place : ℕ) (after : FileRow) → place < length rows → slice_get (set rows place after) place ≡ Some after
stands-set rows place after inside =
    slice_get-get_or (set rows place after) place after (subst (λ count. place < count) (sym (length-set rows place after)) inside)
    ∙ ap (λ row. Some row) (get_or-set_same rows place after after inside)

-- a row that was claimed at its place, among rows that were read again
module _ (rows seen : List FileRow) (place : ℕ) (before after : FileRow) (there : slice_get rows place ≡ Some before) (changed : after ≡ claimed before)
    (same : seen ≡ set rows place after) where
  -- they are numbered as before
  pub claimed_numbered : AreNumberedFrom (λ row. row.id) 1 rows → AreNumberedFrom (λ row. row.id) 1 seen
  claimed_numbered numbered = subst (AreNumberedFrom (λ (row : FileRow). row.id) 1) (sym same)
      (numbered-set 1 rows place before after numbered there (ap (λ (row : FileRow). row.id) changed))

  -- what is in line stays so
  pub claimed_line : (parts : Option ClaimParts) → AreInLineParts rows parts → AreInLineParts seen parts
  claimed_line parts lined = subst (λ rows. AreInLineParts rows parts) (sym same)
      (line-set rows place before after parts there (ap (λ (row : FileRow). row.dest) changed) lined)

  -- the row that stands there now is the claimed one
  pub claimed_there : (row : FileRow) → slice_get seen place ≡ Some row → row ≡ claimed before
  claimed_there row at =
      same_Some row after (sym at ∙ (ap (λ rows. slice_get rows place) same ∙ stands-set rows place after (slice_get_within rows place before there))) ∙ changed

-- limits stay with the rooms
pub same_limits : (more : ℕ) (old new : Option ClaimParts) → HaveSameRooms more old new → limits_of new ≡ limits_of old
same_limits more None None same = refl
same_limits more None (Some new) same = absurd same
same_limits more (Some old) None same = absurd same
same_limits more (Some old) (Some new) same = ap (λ settings. Some settings) same.0.limits

-- a row that may run may do so still once it runs, where slots and busy destinations stay
pub still_may_run : (row : FileRow) (old new : Option ClaimParts) → HaveSameSlots old new → MayRunIn row old → MayRunIn (claimed row) new
still_may_run row None None same may = tt
still_may_run row None (Some new) same may = absurd same
still_may_run row (Some old) None same may = absurd same
still_may_run row (Some old) (Some new) same may = record {
  known = subst (λ (slots : SlotsData). has_known_ends (Some slots.settings) row ≡ true) (sym same.0) may.known;
  free = subst (λ (slots : SlotsData). IsTrue (is_free slots (link_of slots.settings row))) (sym same.0) may.free;
  fresh = subst (λ (busy : BusyData). IsFalse (is_busy busy.places row.dest)) (sym same.1) may.fresh;
  room = subst (λ (busy : BusyData). length busy.places < busy.room) (sym same.1) may.room;
}

-- what waits doesn't run
idle_waiting : (state : FileState) → is_submitted state ≡ true → is_active state ≡ false
idle_waiting Active waits = cc
idle_waiting other waits = refl

-- nor does a row that may be claimed
pub eligible_idle : (tables : Tables) (now : ℕ) (row : FileRow) → IsTrue (is_eligible tables now row) → is_active row.state ≡ false
eligible_idle tables now row eligible =
    idle_waiting row.state (and_parts _ _ (and_parts _ _ (and_parts _ _ (and_parts _ _ eligible).0).0).0).0

-- a row that may be claimed may run, where there is room for its destination
pub eligible_may_run : ((jobs : List JobRow) (rows : List FileRow) (parts : ClaimParts) (banned : List (List ℕ)) (place moment now : ℕ) (row : FileRow)
    → AreNumberedFrom (λ row. row.id) 1 rows → AreTiedTo jobs rows parts → IsSettings parts.slots.settings → slice_get rows place ≡ Some row
    → IsTrue (is_eligible (record { jobs = jobs; rows = rows; moment = moment; settings = Some parts.slots.settings; banned = banned }) now row)
    → (has_known_ends (Some parts.slots.settings) row ≡ true) × IsTrue (is_free parts.slots (link_of parts.slots.settings row))
    × IsFalse (is_busy parts.busy.places row.dest))
    → (tables : Tables) (parts : Option ClaimParts) (place now : ℕ) (row : FileRow) → AreNumberedFrom (λ row. row.id) 1 tables.rows
    → AreTiedParts tables.jobs tables.rows parts → limits_of parts ≡ tables.settings → IfSome tables.settings IsSettings → HasRoomToRun parts
    → slice_get tables.rows place ≡ Some row → IsTrue (is_eligible tables now row) → MayRunIn row parts
eligible_may_run law tables None place now row numbered tied of_settings rules room at eligible = tt
eligible_may_run law tables (Some parts) place now row numbered tied of_settings rules room at eligible =
    let found = law tables.jobs tables.rows parts tables.banned place tables.moment now row numbered tied
    (subst (λ settings. IfSome settings IsSettings) (sym of_settings) rules) at
    (subst (λ settings. IsTrue (is_eligible (record tables { settings = settings }) now row)) (sym of_settings) eligible) in
    record { known = found.0; free = found.1; fresh = found.2; room = room }
