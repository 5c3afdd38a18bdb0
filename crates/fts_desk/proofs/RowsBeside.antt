-- Room for a row to wait, through what changes beside the rows, and what a report leaves and lets follow.
use Rattle.std.proofs.Common.{◌≡◌, ◌≢◌, ℕ, zero, suc, ◌+◌, ◌-◌, ◌<◌, ◌≤◌, Bool, true, false, cond, List, [], ◌∷◌, length, get_or, set, Option, Some, None, refl, ap, sym, ◌∙◌, subst, arith}
use Rattle.std.specs.Prelude.{◌&&◌, if◌then◌else◌, nat_lt, min, slice_get, IsTrue}
use Rattle.std.specs.List.{AllByRecursion}
use Rattle.std.proofs.lemmas.Bool.{and_parts}
use Rattle.std.proofs.lemmas.List.{get_or-set_same}
use Rattle.std.proofs.lemmas.Option.{same_Some, slice_get-get_or, get_or_from_slice_get}
use Rattle.fts_tables.specs.SettingsData.{SettingsData}
use Rattle.fts_tables.specs.Tables.{AreNumberedFrom, row_at, job_at, rows_of_job, is_submitted, is_active, is_finished, is_failed, is_not_used}
use Rattle.fts_tables.specs.Limits.{has_known_ends}
use Rattle.fts_tables.specs.Moves.{submitted, canceled, is_retryable, reported, reported_failure, reported_without_cancel}
use Rattle.fts_tables.specs.Laws.{FileOfRow, file_of}
use Rattle.fts_tables.specs.declared.limits.TheConstants.{LAST_MOMENT}
use Rattle.fts_tables.specs.declared.places.Place.{Place}
use Rattle.fts_tables.specs.declared.rows.FileRow.{FileRow}
use Rattle.fts_tables.specs.declared.rows.JobRow.{JobRow}
use Rattle.fts_tables.specs.declared.rows.JobKind.{JobKind}
use Rattle.fts_tables.specs.declared.rows.JobKind.TheVariants.{Plain, Replica, Multihop}
use Rattle.fts_tables.specs.declared.rows.FileState.{FileState}
use Rattle.fts_tables.specs.declared.rows.FileState.TheVariants.{Submitted, Failed}
use Rattle.fts_tables.specs.declared.rows.Reason.TheVariants.{Ended}
use Rattle.fts_tables.specs.declared.rows.Outcome.{Outcome}
use Rattle.fts_tables.specs.declared.rows.Outcome.TheVariants.{Verified}
use Rattle.fts_states.specs.Afters.{follow_of, follow_of_finish, follow_of_failure}
use Rattle.fts_states.specs.declared.reports.Follow.TheVariants.{Nothing}
use Rattle.fts_slots.specs.SlotsData.{SlotsData}
use Rattle.fts_queue.specs.declared.waiter.Waiter.{Waiter}
use Rattle.fts_queue.specs.WaitingData.{room_of, waiting_in, in_order}
use Rattle.fts_claims.specs.Ties.{link_of, activity_of, waiters_of, active_rows, AreOfActive}
use Rattle.fts_claims.specs.Changes.{HasQueueRoom}
use Rattle.fts_claims.proofs.RoomForFiles.{risen_twice as risen_parts_twice}
use Rattle.fts_claims.specs.declared.parts.ClaimParts.{ClaimParts}
use Rattle.fts_desk.specs.Parts.{limits_of, AreTiedParts, AreInLineParts, HasRoomToWait, MayWaitIn, HaveSameRooms, HaveRisenRooms, HasRoomToFollow, IsFollowOf, HasRoomToReport}
use Rattle.fts_desk.specs.Places.{change_at, woken}
use Rattle.fts_desk.specs.Standing.{StandTogether}
use Rattle.fts_desk.proofs.Follows.{part_at}
use Rattle.fts_desk.proofs.Hops.{change_at-same}
use Rattle.fts_desk.proofs.InLineParts.{line-set}

-- what was written at a place stands there
pub written_at : (rows : List FileRow) (place : ℕ) (written row : FileRow) → place < length rows → slice_get (set rows place written) place ≡ Some row
    → row ≡ written
written_at rows place written row inside at =
    sym (get_or_from_slice_get (set rows place written) place row written at) ∙ get_or-set_same rows place written written inside

-- a row that stands where one was written is that one's file, as before, or the row that stood there
pub file_behind : (rows : List FileRow) (place other : ℕ) (before written row : FileRow) → slice_get rows place ≡ Some before
    → file_of written ≡ file_of before → slice_get (set rows place written) other ≡ Some row
    → (stood : FileRow) × (slice_get rows other ≡ Some stood) × (file_of row ≡ file_of stood)
file_behind [] place other before written row there same at = cc
file_behind (first ∷ rows) zero zero before written row there same at =
    (first, refl, ap file_of (sym (same_Some written row at)) ∙ same ∙ ap file_of (sym (same_Some first before there)))
file_behind (first ∷ rows) zero (suc other) before written row there same at = (row, at, refl)
file_behind (first ∷ rows) (suc place) zero before written row there same at = (row, at, refl)
file_behind (first ∷ rows) (suc place) (suc other) before written row there same at = file_behind rows place other before written row there same at

-- what is tied stays tied where only rooms rise
pub risen_tied : (jobs : List JobRow) (rows : List FileRow) (old new : Option ClaimParts) → HaveRisenRooms old new → AreTiedParts jobs rows old
    → AreTiedParts jobs rows new
risen_tied jobs rows None None risen tied = tt
risen_tied jobs rows None (Some new) risen tied = absurd risen
risen_tied jobs rows (Some old) None risen tied = absurd risen
risen_tied jobs rows (Some old) (Some new) risen tied = record {
  waiting = risen.waiters ∙ tied.waiting ∙ ap (λ (slots : SlotsData). in_order (waiters_of slots.settings jobs rows)) (sym risen.slots);
  slots = subst (λ (slots : SlotsData). AreOfActive (link_of slots.settings) rows slots.links) (sym risen.slots) tied.slots;
  known = subst (λ (slots : SlotsData). AllByRecursion (λ (row : FileRow). IsTrue (has_known_ends (Some slots.settings) row)) (active_rows rows))
      (sym risen.slots) tied.known;
  busy = subst (λ (places : List Place). AreOfActive (λ (row : FileRow). row.dest) rows places) (sym risen.places) tied.busy;
}

-- and so do the limits
pub risen_limits : (old new : Option ClaimParts) → HaveRisenRooms old new → limits_of new ≡ limits_of old
risen_limits None None risen = refl
risen_limits None (Some new) risen = absurd risen
risen_limits (Some old) None risen = absurd risen
risen_limits (Some old) (Some new) risen = ap (λ (slots : SlotsData). Some slots.settings) risen.slots

-- rooms that have risen twice
pub risen_twice : (old between new : Option ClaimParts) → HaveRisenRooms old between → HaveRisenRooms between new → HaveRisenRooms old new
risen_twice None None None first second = tt
risen_twice None None (Some new) first second = absurd second
risen_twice None (Some between) new first second = absurd first
risen_twice (Some old) None new first second = absurd first
risen_twice (Some old) (Some between) None first second = absurd second
risen_twice (Some old) (Some between) (Some new) first second = risen_parts_twice old between new first second

-- where rooms have risen there is room as before
pub risen_room : (count : ℕ) (row : FileRow) (old new : Option ClaimParts) → HaveRisenRooms old new → HasRoomToWait count row old → HasRoomToWait count row new
risen_room count row None None risen room = tt
risen_room count row None (Some new) risen room = absurd risen
risen_room count row (Some old) None risen room = absurd risen
risen_room count row (Some old) (Some new) risen room =
    subst (λ (slots : SlotsData). has_known_ends (Some slots.settings) row ≡ true → HasQueueRoom slots.settings count row new.line.waiting) (sym risen.slots)
    (λ known.
    let link = link_of old.slots.settings row in
    let activity = activity_of old.slots.settings row in
    let waits = ap (λ (waiters : List Waiter). length (waiting_in link activity waiters)) risen.waiters in
    omega (arith, room known, waits, risen.rooms link activity))

-- where rooms stay, and so many files came in at most, there is room for so many fewer
pub room_left : (more count : ℕ) (row : FileRow) (old new : Option ClaimParts) → HaveSameRooms more old new → HasRoomToWait (count + more) row old
    → HasRoomToWait count row new
room_left more count row None None same room = tt
room_left more count row None (Some new) same room = absurd same
room_left more count row (Some old) None same room = absurd same
room_left more count row (Some old) (Some new) same room =
    subst (λ (settings : SettingsData). has_known_ends (Some settings) row ≡ true → HasQueueRoom settings count row new.line.waiting) (sym same.0.limits)
    (λ known.
    let link = link_of old.slots.settings row in
    let activity = activity_of old.slots.settings row in
    let rooms = ap (room_of link activity) same.0.rooms in
    omega (arith, room known, same.1 link activity, rooms))

-- a row of the same file has the same queue
pub same_queue : (count : ℕ) (row other : FileRow) (parts : Option ClaimParts) → file_of other ≡ file_of row → HasRoomToWait count row parts
    → HasRoomToWait count other parts
same_queue count row other None same room = tt
same_queue count row other (Some parts) same room =
    subst (λ (file : FileOfRow). HasRoomToWait count (record row { source = file.source; dest = file.dest; activity = file.activity }) (Some parts))
    (sym same) room

-- with room for one a row may come in
pub may_wait : (row : FileRow) (parts : Option ClaimParts) → HasRoomToWait 1 row parts → MayWaitIn row parts
may_wait row None room = tt
may_wait row (Some parts) room = λ waits. room (and_parts (is_submitted row.state) (has_known_ends (Some parts.slots.settings) row) waits).1

-- a woken row is the same file
pub woken_file : (row : FileRow) → file_of (woken row) ≡ file_of row
woken_file row = by_test (is_not_used row.state)
  where
    by_test : (answer : Bool) → file_of (if answer then submitted row else row) ≡ file_of row
    by_test true = refl
    by_test false = refl

-- and where its turn hadn't come it doesn't run
pub woken_idle : (row : FileRow) → is_not_used row.state ≡ true → is_active (woken row).state ≡ false
woken_idle row unused = ap (λ answer. is_active (cond answer (submitted row) row).state) unused

-- what is read anew at a place, where the turn of what was read before hadn't come
pub unused_again : (rows : List FileRow) (place : ℕ) (read default : FileRow) (answer : Bool) → place < length rows
    → answer ≡ is_not_used (get_or rows place read).state → answer ≡ true → is_not_used (get_or rows place default).state ≡ true
unused_again rows place read default answer inside is unused =
    ap (λ (row : FileRow). is_not_used row.state) (same_Some (get_or rows place default) (get_or rows place read)
    (sym (slice_get-get_or rows place default inside) ∙ slice_get-get_or rows place read inside)) ∙ sym is ∙ unused

-- a row whose turn had come stays
pub woken_stays : (rows : List FileRow) (place : ℕ) (read : FileRow) → place < length rows → is_not_used (get_or rows place read).state ≡ false
    → change_at place woken rows ≡ rows
woken_stays rows place read inside used =
    change_at-same rows place woken (get_or rows place read) (slice_get-get_or rows place read inside)
    (ap (λ answer. cond answer (submitted (get_or rows place read)) (get_or rows place read)) used)

-- a failure that may be tried again, or not, doesn't run
tried_idle : (row : FileRow) (again : Bool) (retries moment : ℕ) (outcome : Outcome)
    → is_active (if again then record row { state = Submitted; retries = retries; not_before = moment; reason = Ended outcome } else record row {
      state = Failed;
      reason = Ended outcome;
    }).state ≡ false
tried_idle row true retries moment outcome = refl
tried_idle row false retries moment outcome = refl

-- a failed copy doesn't run
failed_idle : (job : JobRow) (now : ℕ) (outcome : Outcome) (row : FileRow) → is_active (reported_failure job now outcome row).state ≡ false
failed_idle job now outcome row =
    tried_idle row (is_retryable outcome && nat_lt row.retries job.retry) (row.retries + 1) (min (now + job.delay) LAST_MOMENT) outcome

-- whatever the outcome
ended_idle : (job : JobRow) (now : ℕ) (outcome : Outcome) (row : FileRow) → is_active (reported_without_cancel job now outcome row).state ≡ false
ended_idle job now (Verified size digest) row = refl
ended_idle job now other row = failed_idle job now other row

-- a reported row doesn't run
pub reported_idle : (job : JobRow) (now : ℕ) (outcome : Outcome) (row : FileRow) → is_active (reported job now outcome row).state ≡ false
reported_idle job now outcome row = by_asked row.cancel_asked
  where
    by_asked : (asked : Bool) → is_active (if asked then canceled row else reported_without_cancel job now outcome row).state ≡ false
    by_asked true = refl
    by_asked false = ended_idle job now outcome row

-- nothing follows in a plain job, by the kind and by how the row ended
pub follow_fits : (kind : JobKind) (state : FileState) → IsFollowOf kind (follow_of kind state)
follow_fits kind state = by_state (is_finished state) (is_failed state)
  where
    of_finish : (kind : JobKind) → IsFollowOf kind (follow_of_finish kind)
    of_finish Plain = tt
    of_finish Replica = tt
    of_finish Multihop = λ same. cc

    of_failure : (kind : JobKind) → IsFollowOf kind (follow_of_failure kind)
    of_failure Plain = tt
    of_failure Replica = λ same. cc
    of_failure Multihop = tt

    by_state : (finished failed : Bool)
        → IsFollowOf kind (if finished then follow_of_finish kind else (if failed then follow_of_failure kind else Nothing))
    by_state true failed = of_finish kind
    by_state false true = of_failure kind
    by_state false false = tt

-- a report that was room for leaves room for what may follow
pub room_to_follow : (job : JobRow) (place : ℕ) (rows : List FileRow) (before written : FileRow) (old left new : Option ClaimParts)
    → HasRoomToReport job place rows old → slice_get rows place ≡ Some before → file_of written ≡ file_of before
    → HaveSameRooms 0 old left → HaveSameRooms 1 left new → HasRoomToFollow job (set rows place written) new
room_to_follow job place rows before written old left new room there same none one = λ follows other row low high at.
    let stood = file_behind rows place other before written row there same at in
    same_queue 1 stood.0 row new stood.2
    (room_left 1 1 stood.0 left new one (room_left 0 2 stood.0 old left none (room.others follows other stood.0 low high stood.1)))

-- with room for more there is room for fewer
pub room_fewer : (fewer more : ℕ) (row : FileRow) (parts : Option ClaimParts) → fewer ≤ more → HasRoomToWait more row parts → HasRoomToWait fewer row parts
room_fewer fewer more row None less room = tt
room_fewer fewer more row (Some parts) less room = λ known. omega (arith, room known, less)

-- a numbered list stays so where a row is written at its place with its id
numbered-set : (start : ℕ) (rows : List FileRow) (place : ℕ) (before written : FileRow) → AreNumberedFrom (λ row. row.id) start rows
    → slice_get rows place ≡ Some before → written.id ≡ before.id → AreNumberedFrom (λ row. row.id) start (set rows place written)
numbered-set start [] place before written numbered there same = tt
numbered-set start (row ∷ rows) zero before written numbered there same =
    (same ∙ ap (λ (other : FileRow). other.id) (sym (same_Some row before there)) ∙ numbered.0, numbered.1)
numbered-set start (row ∷ rows) (suc place) before written numbered there same =
    (numbered.0, numbered-set (suc start) rows place before written numbered.1 there same)

-- a row that is left, changed at its place with its file kept, and comes in again where it doesn't run
module _ (rows : List FileRow) (place : ℕ) (change : FileRow → FileRow) (keeps : (row : FileRow) → file_of (change row) ≡ file_of row)
    (default written : FileRow) (inside : place < length rows) (changed : written ≡ change (get_or rows place default)) where
  -- what stood at the place
  pub site_stood : slice_get rows place ≡ Some (get_or rows place default)
  site_stood = slice_get-get_or rows place default inside

  -- its file is kept
  pub site_file : file_of written ≡ file_of (get_or rows place default)
  site_file = ap file_of changed ∙ keeps (get_or rows place default)

  -- the numbers stay
  pub site_numbered : AreNumberedFrom (λ row. row.id) 1 rows → AreNumberedFrom (λ row. row.id) 1 (set rows place written)
  site_numbered numbered =
      numbered-set 1 rows place (get_or rows place default) written numbered site_stood (ap (λ (file : FileOfRow). file.id) site_file)

  -- what is in line stays so
  pub site_line : (parts : Option ClaimParts) → AreInLineParts rows parts → AreInLineParts (set rows place written) parts
  site_line parts = line-set rows place (get_or rows place default) written parts site_stood (ap (λ (file : FileOfRow). file.dest) site_file)

  -- it doesn't run
  pub site_idle : is_active (change (get_or rows place default)).state ≡ false → (row : FileRow) → slice_get (set rows place written) place ≡ Some row
      → is_active row.state ≡ false
  site_idle idle row at = ap (λ (other : FileRow). is_active other.state) (written_at rows place written row inside at ∙ changed) ∙ idle

  -- and may wait, where there was room for it before
  pub site_room : (old left : Option ClaimParts) → HaveSameRooms 0 old left → HasRoomToWait 1 (get_or rows place default) old
      → (row : FileRow) → slice_get (set rows place written) place ≡ Some row → MayWaitIn row left
  site_room old left same room row at =
      may_wait row left (same_queue 1 (get_or rows place default) row left (ap file_of (written_at rows place written row inside at) ∙ site_file)
      (room_left 0 1 (get_or rows place default) old left same room))

-- room for each of a job's rows, by their places among all rows
pub room_of_job : (rows of_job : List FileRow) (job : JobRow) (parts : Option ClaimParts) → StandTogether rows job → of_job ≡ rows_of_job rows job.number
    → ((place : ℕ) (row : FileRow) → slice_get of_job place ≡ Some row → HasRoomToWait 2 row parts)
    → (other : ℕ) (row : FileRow) → job.first - 1 ≤ other → other < job.first - 1 + job.count → slice_get rows other ≡ Some row
    → HasRoomToWait 2 row parts
room_of_job rows of_job job parts stand these room other row low high at =
    let place = other - (job.first - 1) in
    let same : job.first - 1 + place ≡ other = omega (arith, low) in
    room place row (ap (λ (some : List FileRow). slice_get some place) (these ∙ stand.taken)
    ∙ part_at (job.first - 1) job.count place rows (omega (arith, low, high)) ∙ ap (slice_get rows) same ∙ at)

-- room for the row at a place and for its job's others, once rooms have risen for the row
pub room_to_report : (job : JobRow) (place : ℕ) (rows : List FileRow) (read : FileRow) (between new : Option ClaimParts) → HaveRisenRooms between new
    → (job.kind ≢ Plain → (other : ℕ) (row : FileRow) → job.first - 1 ≤ other → other < job.first - 1 + job.count → slice_get rows other ≡ Some row
    → HasRoomToWait 2 row between)
    → read ≡ get_or rows place read → HasRoomToWait 2 read new → HasRoomToReport job place rows new
room_to_report job place rows read between new risen others is own = record {
  own = λ row at. subst (λ (other : FileRow). HasRoomToWait 2 other new) (is ∙ get_or_from_slice_get rows place row read at) own;
  others = λ differs other row low high at. risen_room 2 row between new risen (others differs other row low high at);
}

-- room for the row that was read and its job is room for any that the tables have by its id
pub same_report : (jobs : List JobRow) (rows lent : List FileRow) (file place : ℕ) (read row : FileRow) (owner job : JobRow) (parts : Option ClaimParts)
    → lent ≡ rows → place + 1 ≡ file → row_at rows file ≡ Some read → job_at jobs read.job ≡ Some owner → HasRoomToReport owner place lent parts
    → row_at rows file ≡ Some row → job_at jobs row.job ≡ Some job → HasRoomToReport job (file - 1) rows parts
same_report jobs rows lent file place read row owner job parts same behind found of_job room at owned =
    let of_row = ap (λ (other : FileRow). job_at jobs other.job) (same_Some read row (sym found ∙ at)) in
    let here : place ≡ file - 1 = omega arith in
    subst (λ (other : JobRow). HasRoomToReport other (file - 1) rows parts) (same_Some owner job (sym of_job ∙ of_row ∙ owned))
    (subst (λ number. HasRoomToReport owner number rows parts) here (subst (λ (some : List FileRow). HasRoomToReport owner place some parts) same room))
