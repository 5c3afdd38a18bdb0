-- A row more in line: the number of its destination, and a flag of its own, which is free.
use Rattle.std.proofs.Common.{◌≡◌, ◌⊎◌, inl, inr, ℕ, suc, ◌+◌, ◌<◌, ◌≤◌, true, false, List, [], ◌∷◌, ◌++◌, length, get_or, take, map, Option, Some, None}
use Rattle.std.proofs.Common.{zero, refl, ap, sym, ◌∙◌, subst, arith}
use Rattle.std.specs.Prelude.{Bool, filter, count_by, is_some, slice_get, slice_index_or, unwrap_or}
use Rattle.std.proofs.lemmas.Bool.{cases_lt}
use Rattle.std.proofs.lemmas.Option.{same_Some, slice_get-get_or}
use Rattle.std.proofs.lemmas.List.{length-map, length_push, length-take-le, map-append, take-map, take_more}
use Rattle.std.proofs.lemmas.List.{get_or_append_left, get_or_past, get_or-take}
use Rattle.std.proofs.lemmas.List.Sums.{length-filter, count_by-le-length}
use Rattle.std.proofs.lemmas.List.Quantifiers.{position-Some}
use Rattle.fts_tables.specs.SettingsData.{SettingsData, IsSettings}
use Rattle.fts_tables.specs.Limits.{has_known_ends}
use Rattle.fts_tables.specs.Tables.{AreNumberedFrom}
use Rattle.fts_tables.specs.Places.{is_same_place}
use Rattle.fts_tables.specs.declared.places.Place.{Place}
use Rattle.fts_tables.specs.declared.rows.FileRow.{FileRow}
use Rattle.fts_tables.specs.declared.rows.JobRow.{JobRow}
use Rattle.fts_slots.specs.SlotsData.{SlotsData}
use Rattle.fts_queue.specs.declared.waiter.Waiter.{Waiter}
use Rattle.fts_queue.specs.WaitingData.{WaitingData, in_order}
use Rattle.fts_heads.specs.Dests.{DestsData, dests_of, number_of, AreNumbersOf}
use Rattle.fts_heads.proofs.Apart.{number_stays, number_listed}
use Rattle.fts_line.specs.LineData.{LineData, IsKnown}
use Rattle.fts_claims.specs.BusyData.{BusyData, is_busy}
use Rattle.fts_claims.specs.Ties.{AreTied, waiter_of, is_waiter, waiters_of}
use Rattle.fts_claims.specs.InLine.{numbers_of, IsInLine, AreInLine, HasNumber, HasRoomInLine, HasLineRisen}
use Rattle.fts_claims.specs.Claims.{parts_data}
use Rattle.fts_claims.specs.Changes.{AreTiedTo}
use Rattle.fts_claims.specs.declared.parts.ClaimParts.{ClaimParts}
use Rattle.fts_claims.proofs.PlacesInOrder.{place_same}
use Rattle.fts_claims.proofs.InLineRows.{has_number, inside_row}
use Rattle.fts_claims.proofs.OneMore.{numbered_take}

-- a destination more is free, and the others are as they were
free_more : (busy : List Bool) (dest : ℕ) → slice_index_or (busy ++ (false ∷ [])) dest false ≡ slice_index_or busy dest false
free_more [] zero = refl
free_more [] (suc n) = refl
free_more (first ∷ rest) zero = refl
free_more (first ∷ rest) (suc n) = free_more rest n

-- images are the same where those of each item are
map_alike : {Item Image : Type 0} (read other : Item → Image) (items : List Item)
    → ((at : ℕ) (item : Item) → slice_get items at ≡ Some item → read item ≡ other item) → map read items ≡ map other items
map_alike read other [] alike = refl
map_alike read other (item ∷ items) alike =
    ap (λ image. image ∷ map read items) (alike 0 item refl)
    ∙ ap (λ images. other item ∷ images) (map_alike read other items (λ at some is. alike (suc at) some is))

module _ (places : List Place) (place : Place) (number : ℕ) (found : number_of (places ++ place ∷ []) place ≡ Some number) where
  -- the numbers of the others stay, and there is one more
  numbers_more : numbers_of (places ++ place ∷ []) ≡ numbers_of places ++ number ∷ []
  numbers_more =
      map-append (λ other. unwrap_or (number_of (places ++ place ∷ []) other) 0) places (place ∷ [])
      ∙ (ap (λ numbers. numbers ++ unwrap_or (number_of (places ++ place ∷ []) place) 0 ∷ [])
      (map_alike (λ other. unwrap_or (number_of (places ++ place ∷ []) other) 0) (λ other. unwrap_or (number_of places other) 0) places alike)
      ∙ ap (λ some. numbers_of places ++ unwrap_or some 0 ∷ []) found)
    where
      alike : (at : ℕ) (other : Place) → slice_get places at ≡ Some other
          → unwrap_or (number_of (places ++ place ∷ []) other) 0 ≡ unwrap_or (number_of places other) 0
      alike at other is =
          let listed = number_listed places at other is in
          ap (λ some. unwrap_or some 0) (number_stays places (place ∷ []) other listed.0 listed.1 ∙ sym listed.1)

  -- a place that had no number has one past those
  past_others : (other : Place) (own : ℕ) → number_of places other ≡ None → number_of (places ++ place ∷ []) other ≡ Some own → length places ≤ own
  past_others other own none is = by_case (cases_lt own (length places))
    where
      by_case : (own < length places) ⊎ (length places ≤ own) → length places ≤ own
      by_case (inl inside) =
          let same : get_or places own other ≡ other =
          place_same (get_or places own other) other
          (ap (λ some. is_same_place some other) (sym (get_or_append_left places (place ∷ []) other own inside))
          ∙ (position-Some (λ some. is_same_place some other) (places ++ place ∷ []) own other is).1) in
          let listed = number_listed places own (get_or places own other) (slice_get-get_or places own other inside) in
          let clash : Some listed.0 ≡ None = sym listed.1 ∙ (ap (number_of places) same ∙ none) in
          cc
      by_case (inr past) = past

  -- its file has its destination's number, and no flag is another than before
  pub line_more : (line : LineData) (busy : BusyData) → IsInLine places line busy → length places < line.room
      → IsInLine (places ++ place ∷ []) (record line { dests = line.dests ++ number ∷ []; busy = line.busy ++ false ∷ [] }) busy
  line_more line busy lined room = record {
    numbers = ap (λ dests. dests ++ number ∷ []) lined.numbers ∙ sym numbers_more;
    count = omega (arith, lined.count, length_push line.busy false, length_push places place);
    flags = λ other own is. free_more line.busy own ∙ by_old other own is (number_of places other) refl;
    room = omega (arith, room, length_push places place);
    known = λ other runs. still other (number_of places other) refl (lined.known other runs);
  }
    where
      not_busy : (other : Place) (answer : Bool) → is_busy busy.places other ≡ answer → number_of places other ≡ None → false ≡ answer
      not_busy other false is none = refl
      not_busy other true is none =
          let clash : true ≡ false = sym (lined.known other is) ∙ ap is_some none in
          cc

      by_old : (other : Place) (own : ℕ) → number_of (places ++ place ∷ []) other ≡ Some own → (old : Option ℕ) → number_of places other ≡ old
          → slice_index_or line.busy own false ≡ is_busy busy.places other
      by_old other own is (Some before) was =
          lined.flags other own (was ∙ ap Some (same_Some before own (sym (number_stays places (place ∷ []) other before was) ∙ is)))
      by_old other own is None was =
          get_or_past line.busy own false (omega (arith, lined.count, past_others other own was is))
          ∙ not_busy other (is_busy busy.places other) refl was

      still : (other : Place) (old : Option ℕ) → number_of places other ≡ old → is_some old ≡ true
          → is_some (number_of (places ++ place ∷ []) other) ≡ true
      still other (Some before) was there = ap is_some (number_stays places (place ∷ []) other before was)
      still other None was there = cc

module _ (rows : List FileRow) (at : ℕ) (row : FileRow) (inside : at < length rows) (is : get_or rows at row ≡ row) where
  -- the destinations of one row more
  dests_more : dests_of (take (at + 1) rows) ≡ dests_of (take at rows) ++ row.dest ∷ []
  dests_more =
      ap dests_of (take_more rows at row inside ∙ ap (λ other. take at rows ++ other ∷ []) is)
      ∙ map-append (λ (other : FileRow). other.dest) (take at rows) (row ∷ [])

  before : length (dests_of (take at rows)) ≡ at
  before = length-map (take at rows) (λ (other : FileRow). other.dest) ∙ length-take-le at rows (omega (arith, inside))

  -- with it the row is in line
  pub row_lined : (number : ℕ) (old new : ClaimParts) → number_of (dests_of (take (at + 1) rows)) row.dest ≡ Some number
      → AreInLine (dests_of (take at rows)) old → length rows ≤ old.line.room
      → new.line ≡ record old.line { dests = old.line.dests ++ number ∷ []; busy = old.line.busy ++ false ∷ [] } → new.busy ≡ old.busy
      → AreNumbersOf (take (at + 1) (dests_of rows)) new.dests → AreInLine (dests_of (take (at + 1) rows)) new
  row_lined number old new found lined room line busy numbers = record {
    line = subst (λ places. IsInLine places new.line new.busy) (sym dests_more)
        (subst (IsInLine (dests_of (take at rows) ++ row.dest ∷ []) new.line) (sym busy)
        (subst (λ line. IsInLine (dests_of (take at rows) ++ row.dest ∷ []) line old.busy) (sym line)
        (line_more (dests_of (take at rows)) row.dest number (ap (λ others. number_of others row.dest) (sym dests_more) ∙ found) old.line old.busy lined.line
        (omega (arith, before, inside, room)))));
    found = subst (λ places. AreNumbersOf places new.dests) (take-map (λ (other : FileRow). other.dest) (at + 1) rows) numbers;
  }

-- the file of a row whose ends are known is known in line, by the number of its destination
pub waiter_known : (settings : SettingsData) (jobs : List JobRow) (row : FileRow) (line : LineData) (waiter : Waiter) → IsSettings settings
    → has_known_ends (Some settings) row ≡ true → waiter ≡ waiter_of settings jobs row → waiter.priority < 4294967296 → HasNumber row line
    → IsKnown line.dests (length line.busy) waiter
waiter_known settings jobs row line waiter rules known is small has =
    subst (IsKnown line.dests (length line.busy)) (sym is) (record {
      queue = inside_row settings rules row known;
      priority = subst (λ (other : Waiter). other.priority < 4294967296) is small;
      first = has.first;
      numbered = has.numbered;
      dest = has.dest;
    })

-- where files come or go, the room stays
pub still_room : (count : ℕ) (old new : ClaimParts) (waiting : WaitingData) → new.line ≡ record old.line { waiting = waiting } → new.dests ≡ old.dests
    → HasRoomInLine count old → HasRoomInLine count new
still_room count old new waiting line dests room = record {
  places = subst (λ (line : LineData). count ≤ line.room) (sym line) room.places;
  rows = subst (λ (line : LineData). count ≤ line.row_room) (sym line) room.rows;
  numbers = subst (λ (dests : DestsData). count ≤ dests.room) (sym dests) room.numbers;
}

-- what is tied to rows stays tied where the files that wait, the slots and the busy destinations stay
pub still_tied : (jobs : List JobRow) (rows : List FileRow) (old new : ClaimParts) → new.line.waiting ≡ old.line.waiting → new.slots ≡ old.slots
    → new.busy ≡ old.busy → AreTiedTo jobs rows old → AreTiedTo jobs rows new
still_tied jobs rows old new waiting slots busy tied = subst (λ slots. AreTiedTo jobs rows (record new { slots = slots })) (sym slots) (record {
  waiting = ap (λ (seen : WaitingData). seen.waiters) waiting ∙ tied.waiting;
  slots = tied.slots;
  known = tied.known;
  busy = λ test. ap (λ (seen : BusyData). count_by test seen.places) busy ∙ tied.busy test;
})

pub still_viewed : (settings : SettingsData) (jobs : List JobRow) (rows : List FileRow) (old new : ClaimParts) → new.line.waiting ≡ old.line.waiting
    → new.slots ≡ old.slots → new.busy ≡ old.busy → AreTied (parts_data old rows jobs settings) → AreTied (parts_data new rows jobs settings)
still_viewed settings jobs rows old new waiting slots busy tied = record {
  numbered = tied.numbered;
  settings = ap (λ (seen : SlotsData). seen.settings) slots ∙ tied.settings;
  waiting = ap (λ (seen : WaitingData). seen.waiters) waiting ∙ tied.waiting;
  slots = λ test. ap (λ (seen : SlotsData). count_by test seen.links) slots ∙ tied.slots test;
  known = tied.known;
  busy = λ test. ap (λ (seen : BusyData). count_by test seen.places) busy ∙ tied.busy test;
}

-- no more files wait than there are rows
pub few_wait : (settings : SettingsData) (jobs : List JobRow) (rows : List FileRow) (waiters : List Waiter)
    → ((passes : Waiter → Bool) (others : List Waiter) → length (filter passes (in_order others)) ≡ length (filter passes others))
    → waiters ≡ in_order (waiters_of settings jobs rows) → length waiters ≤ length rows
few_wait settings jobs rows waiters count are =
    let others = waiters_of settings jobs rows in
    let same : length waiters ≡ length others =
    ap length are
    ∙ (sym (all_pass (in_order others)) ∙ (count (λ waiter. true) others ∙ all_pass others)) in
    omega (
      arith,
      same,
      length-map (filter (is_waiter settings) rows) (waiter_of settings jobs),
      length-filter (is_waiter settings) rows,
      count_by-le-length (is_waiter settings) rows,
    )
  where
    all_pass : (others : List Waiter) → length (filter (λ waiter. true) others) ≡ length others
    all_pass [] = refl
    all_pass (waiter ∷ others) = ap suc (all_pass others)

-- so there is a place for the file of the row behind some rows
pub has_place : (settings : SettingsData) (jobs : List JobRow) (rows : List FileRow) (at : ℕ) (parts : ClaimParts)
    → ((passes : Waiter → Bool) (others : List Waiter) → length (filter passes (in_order others)) ≡ length (filter passes others))
    → parts.line.waiting.waiters ≡ in_order (waiters_of settings jobs (take at rows)) → at < length rows → HasRoomInLine (length rows) parts
    → length parts.line.waiting.waiters < parts.line.room
has_place settings jobs rows at parts count are inside room =
    omega (
      arith,
      few_wait settings jobs (take at rows) parts.line.waiting.waiters count are,
      length-take-le at rows (omega (arith, inside)),
      inside,
      room.places,
    )

-- and that row has a number
pub row_numbered : (rows : List FileRow) (at : ℕ) (row : FileRow) (parts : ClaimParts) → at < length rows → get_or rows at row ≡ row
    → AreNumberedFrom (λ (other : FileRow). other.id) 1 rows → AreInLine (dests_of (take (at + 1) rows)) parts → HasNumber row parts.line
row_numbered rows at row parts inside is numbered lined =
    has_number (take (at + 1) rows) parts.line parts.busy at row (numbered_take (λ (other : FileRow). other.id) 1 rows (at + 1) numbered)
    (slice_get-get_or (take (at + 1) rows) at row (omega (arith, inside, length-take-le (at + 1) rows (omega (arith, inside))))
    ∙ ap (λ other. Some other) (get_or-take (at + 1) rows at row (omega arith) ∙ is))
    lined.line

-- nothing is in line where no row has come in
pub none_lined : (old new : ClaimParts) → old.line.dests ≡ [] → old.line.busy ≡ [] → old.busy.places ≡ [] → AreNumbersOf [] old.dests
    → new.busy ≡ old.busy → HasLineRisen old new → AreInLine [] new
none_lined old new dests flags places numbers busy risen = record {
  line = record {
    numbers = risen.dests ∙ dests;
    count = ap length (risen.flags ∙ flags);
    flags = λ place number is. let clash : None ≡ Some number = is in cc;
    room = omega arith;
    known = λ place runs.
        let clash : false ≡ true = sym (ap (λ (others : List Place). is_busy others place) (ap (λ (seen : BusyData). seen.places) busy ∙ places)) ∙ runs in
        cc;
  };
  found = subst (λ keys. AreNumbersOf [] (record new.dests { keys = keys })) (sym risen.keys)
      (record { count = numbers.count; digests = numbers.digests });
}
