-- What a claim looks at, where a row is cancelled at its place: one that runs keeps its part, another waits no more.
use Rattle.std.proofs.Common.{◌≡◌, ℕ, zero, suc, ◌<◌, Bool, true, false, List, [], ◌∷◌, length, get_or, set, Option, Some, None, refl, ap, sym, ◌∙◌, subst, arith}
use Rattle.std.specs.Prelude.{◌||◌, ◌==◌, slice_get, if◌then◌else◌}
use Rattle.std.proofs.lemmas.Bool.{and_parts}
use Rattle.std.proofs.lemmas.Option.{same_Some, slice_get-get_or}
use Rattle.fts_tables.specs.Tables.{AreNumberedFrom, is_submitted, is_active, is_not_used}
use Rattle.fts_tables.specs.Moves.{canceled_for, cancelled_for}
use Rattle.fts_tables.specs.declared.rows.FileRow.{FileRow}
use Rattle.fts_tables.specs.declared.rows.JobRow.{JobRow}
use Rattle.fts_tables.specs.Laws.{FileOfRow, file_of}
use Rattle.fts_tables.specs.declared.rows.FileState.{FileState}
use Rattle.fts_tables.specs.declared.rows.Reason.{Reason}
use Rattle.fts_tables.specs.declared.rows.FileState.TheVariants.{Submitted, Active, Finished, Failed, Canceled, NotUsed}
use Rattle.fts_claims.specs.Changes.{AreTiedTo, IsSamePart, AreSameParts}
use Rattle.fts_claims.specs.declared.parts.ClaimParts.{ClaimParts}
use Rattle.fts_desk.specs.Cancels.{cancelled_of}
use Rattle.fts_desk.specs.Parts.{limits_of, AreTiedParts, AreInLineParts, MayWaitIn, HaveSameRooms}
use Rattle.fts_desk.specs.Places.{change_at}
use Rattle.fts_desk.proofs.InLineParts.{line-set}

-- a row after a cancellation, by its state
abbrev pub cancelled_in : Reason → FileState → FileRow → FileRow
cancelled_in reason state row = if is_submitted state || is_not_used state then canceled_for reason row
    else (if is_active state then record row { cancel_asked = true } else row)

-- a row that runs keeps its part
pub active_keeps_part : (reason : Reason) (row : FileRow) → is_active row.state ≡ true → IsSamePart row (cancelled_for reason row)
active_keeps_part reason row active = by_state row.state active
  where
    by_state : (state : FileState) → is_active state ≡ true → IsSamePart row (cancelled_in reason state row)
    by_state Submitted is = cc
    by_state Active is = record { id = refl; job = refl; source = refl; dest = refl; activity = refl; state = refl; not_before = refl }
    by_state Finished is = cc
    by_state Failed is = cc
    by_state Canceled is = cc
    by_state NotUsed is = cc

-- one that doesn't run doesn't run then
pub idle_stays_idle : (reason : Reason) (row : FileRow) → is_active row.state ≡ false → is_active (cancelled_for reason row).state ≡ false
idle_stays_idle reason row idle = by_state row.state refl
  where
    by_state : (state : FileState) → row.state ≡ state → is_active (cancelled_in reason state row).state ≡ false
    by_state Submitted is = refl
    by_state Active is = idle
    by_state Finished is = idle
    by_state Failed is = idle
    by_state Canceled is = idle
    by_state NotUsed is = refl

-- no cancelled row waits
pub cancelled_waits_not : (reason : Reason) (row : FileRow) → is_submitted (cancelled_for reason row).state ≡ false
cancelled_waits_not reason row = by_state row.state refl
  where
    by_state : (state : FileState) → row.state ≡ state → is_submitted (cancelled_in reason state row).state ≡ false
    by_state Submitted is = refl
    by_state Active is = ap is_submitted is
    by_state Finished is = ap is_submitted is
    by_state Failed is = ap is_submitted is
    by_state Canceled is = ap is_submitted is
    by_state NotUsed is = refl

-- a cancelled row is the same file's
pub file_cancelled : (reason : Reason) (row : FileRow) → file_of (cancelled_for reason row) ≡ file_of row
file_cancelled reason row = by_state row.state
  where
    by_state : (state : FileState) → file_of (cancelled_in reason state row) ≡ file_of row
    by_state Submitted = refl
    by_state Active = refl
    by_state Finished = refl
    by_state Failed = refl
    by_state Canceled = refl
    by_state NotUsed = refl

-- and so it is where only some rows are cancelled
pub file_if_cancelled : (reason : Reason) (row : FileRow) (answer : Bool) → file_of (if answer then cancelled_for reason row else row) ≡ file_of row
file_if_cancelled reason row true = file_cancelled reason row
file_if_cancelled reason row false = refl

-- a cancelled row keeps its id
pub id_cancelled : (reason : Reason) (row : FileRow) → (cancelled_for reason row).id ≡ row.id
id_cancelled reason row = ap (λ (file : FileOfRow). file.id) (file_cancelled reason row)

-- and so it does where only a job's rows are cancelled
pub id_cancelled_of : (reason : Reason) (job : ℕ) (row : FileRow) → (cancelled_of reason job row).id ≡ row.id
id_cancelled_of reason job row = ap (λ (file : FileOfRow). file.id) (file_if_cancelled reason row (row.job == job))

-- a cancelled row may come in
pub cancelled_may_wait : (reason : Reason) (row : FileRow) (parts : Option ClaimParts) → MayWaitIn (cancelled_for reason row) parts
cancelled_may_wait reason row None = tt
cancelled_may_wait reason row (Some parts) = λ waits. absurd (clash (sym (and_parts _ _ waits).0 ∙ cancelled_waits_not reason row))
  where
    clash : true ≡ false → ⊥
    clash is = cc

-- rows are the same as themselves
parts_alike : (rows : List FileRow) → AreSameParts rows rows
parts_alike [] = tt
parts_alike (row ∷ rows) =
    (record { id = refl; job = refl; source = refl; dest = refl; activity = refl; state = refl; not_before = refl }, parts_alike rows)

-- and with one of them changed whose part stays
pub parts_alike-set : (rows : List FileRow) (place : ℕ) (before after : FileRow) → slice_get rows place ≡ Some before → IsSamePart before after
    → AreSameParts rows (set rows place after)
parts_alike-set [] place before after at same = tt
parts_alike-set (row ∷ rows) zero before after at same =
    (subst (λ (other : FileRow). IsSamePart other after) (sym (same_Some row before at)) same, parts_alike rows)
parts_alike-set (row ∷ rows) (suc place) before after at same = (
  record { id = refl; job = refl; source = refl; dest = refl; activity = refl; state = refl; not_before = refl },
  parts_alike-set rows place before after at same,
)

-- what is tied to rows is tied to those with the same parts
pub alike_stay_tied : (jobs : List JobRow) (before after : List FileRow) (parts : Option ClaimParts)
    → ((jobs : List JobRow) (before after : List FileRow) (parts : ClaimParts) → AreSameParts before after → AreTiedTo jobs before parts
    → AreTiedTo jobs after parts)
    → AreSameParts before after → AreTiedParts jobs before parts → AreTiedParts jobs after parts
alike_stay_tied jobs before after None law same tied = tt
alike_stay_tied jobs before after (Some parts) law same tied = law jobs before after parts same tied

-- where rooms stay, limits do
pub same_limits : (more : ℕ) (old new : Option ClaimParts) → HaveSameRooms more old new → limits_of new ≡ limits_of old
same_limits more None None same = refl
same_limits more None (Some new) same = absurd same
same_limits more (Some old) None same = absurd same
same_limits more (Some old) (Some new) same = ap (λ settings. Some settings) same.0.limits

-- numbers stay where the row at a place changes and keeps its id
pub numbered-set : (start : ℕ) (rows : List FileRow) (place : ℕ) (before after : FileRow) → slice_get rows place ≡ Some before → after.id ≡ before.id
    → AreNumberedFrom (λ row. row.id) start rows → AreNumberedFrom (λ row. row.id) start (set rows place after)
numbered-set start [] place before after at same numbered = tt
numbered-set start (row ∷ rows) zero before after at same numbered =
    (same ∙ ap (λ (other : FileRow). other.id) (sym (same_Some row before at)) ∙ numbered.0, numbered.1)
numbered-set start (row ∷ rows) (suc place) before after at same numbered =
    (numbered.0, numbered-set (suc start) rows place before after at same numbered.1)

-- and by a change that keeps ids
pub numbered-change : (start : ℕ) (rows : List FileRow) (place : ℕ) (change : FileRow → FileRow) → ((row : FileRow) → (change row).id ≡ row.id)
    → AreNumberedFrom (λ row. row.id) start rows → AreNumberedFrom (λ row. row.id) start (change_at place change rows)
numbered-change start [] place change keeps numbered = tt
numbered-change start (row ∷ rows) zero change keeps numbered = (keeps row ∙ numbered.0, numbered.1)
numbered-change start (row ∷ rows) (suc place) change keeps numbered = (numbered.0, numbered-change (suc start) rows place change keeps numbered.1)

-- changes that make the same of the row at a place make the same rows
pub change_at-alike : (rows : List FileRow) (place : ℕ) (one other : FileRow → FileRow) (row : FileRow) → slice_get rows place ≡ Some row
    → one row ≡ other row → change_at place one rows ≡ change_at place other rows
change_at-alike [] place one other row at same = refl
change_at-alike (head ∷ rows) zero one other row at same =
    let here : head ≡ row = same_Some head row at in
    ap (λ first. first ∷ rows) (ap one here ∙ same ∙ ap other (sym here))
change_at-alike (head ∷ rows) (suc place) one other row at same = ap (λ after. head ∷ after) (change_at-alike rows place one other row at same)

-- one that leaves it leaves all
pub change_at-same : (rows : List FileRow) (place : ℕ) (change : FileRow → FileRow) (row : FileRow) → slice_get rows place ≡ Some row → change row ≡ row
    → rows ≡ change_at place change rows
change_at-same [] place change row at same = refl
change_at-same (head ∷ rows) zero change row at same =
    let here : head ≡ row = same_Some head row at in
    ap (λ first. first ∷ rows) (here ∙ sym same ∙ ap change (sym here))
change_at-same (head ∷ rows) (suc place) change row at same = ap (λ after. head ∷ after) (change_at-same rows place change row at same)

-- a row written at a place and read there
pub read_set : (rows : List FileRow) (place : ℕ) (row read : FileRow) → place < length rows → slice_get (set rows place row) place ≡ Some read → read ≡ row
read_set [] place row read inside at = cc
read_set (head ∷ rows) zero row read inside at = sym (same_Some row read at)
read_set (head ∷ rows) (suc place) row read inside at = read_set rows place row read (omega arith) at

-- a row that is looked at, read again, and written back cancelled
module _ (reason : Reason) (rows : List FileRow) (place : ℕ) (read written changed : FileRow) (answer : Bool) (inside : place < length rows)
    (asked : answer ≡ is_active (get_or rows place read).state) (is : changed ≡ cancelled_for reason (get_or rows place written)) where
  -- what stood at the place
  stood : slice_get rows place ≡ Some (get_or rows place written)
  stood = slice_get-get_or rows place written inside

  -- whether it ran
  ran : answer ≡ is_active (get_or rows place written).state
  ran = asked ∙ ap (λ (row : FileRow). is_active row.state)
      (same_Some (get_or rows place read) (get_or rows place written) (sym (slice_get-get_or rows place read inside) ∙ stood))

  -- what is read there now
  read_is : (row : FileRow) → slice_get (set rows place changed) place ≡ Some row → row ≡ cancelled_for reason (get_or rows place written)
  read_is row at = read_set rows place changed row inside at ∙ is

  -- where it ran, all parts are as they were
  pub running_alike : answer ≡ true → AreSameParts rows (set rows place changed)
  running_alike runs = parts_alike-set rows place (get_or rows place written) changed stood
      (subst (λ (row : FileRow). IsSamePart (get_or rows place written) row) (sym is) (active_keeps_part reason (get_or rows place written) (sym ran ∙ runs)))

  -- the rows are numbered as before
  pub numbered_then : AreNumberedFrom (λ row. row.id) 1 rows → AreNumberedFrom (λ row. row.id) 1 (set rows place changed)
  numbered_then numbered = numbered-set 1 rows place (get_or rows place written) changed stood
      (ap (λ (row : FileRow). row.id) is ∙ id_cancelled reason (get_or rows place written)) numbered

  -- what is in line stays so
  pub line_then : (parts : Option ClaimParts) → AreInLineParts rows parts → AreInLineParts (set rows place changed) parts
  line_then parts = line-set rows place (get_or rows place written) changed parts stood
      (ap (λ (row : FileRow). row.dest) is ∙ ap (λ (file : FileOfRow). file.dest) (file_cancelled reason (get_or rows place written)))

  -- where it didn't run, it doesn't now
  pub idle_then : answer ≡ false → (row : FileRow) → slice_get (set rows place changed) place ≡ Some row → is_active row.state ≡ false
  idle_then idle row at = ap (λ (row : FileRow). is_active row.state) (read_is row at) ∙ idle_stays_idle reason (get_or rows place written) (sym ran ∙ idle)

  -- and it may come in
  pub may_wait_then : (parts : Option ClaimParts) (row : FileRow) → slice_get (set rows place changed) place ≡ Some row → MayWaitIn row parts
  may_wait_then parts row at =
      subst (λ (row : FileRow). MayWaitIn row parts) (sym (read_is row at)) (cancelled_may_wait reason (get_or rows place written) parts)
