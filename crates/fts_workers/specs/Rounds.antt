-- A round of one thread: it reports each file that is out, in the order of their claims, cancels the files that are overdue, and then claims until
-- no row is eligible or all workers have a file. The first command that answers neither Ok nor Idle ends it. A walk is over any list whose tables
-- the keep has.
use Rattle.std.specs.Prelude.{◌≡◌, ◌⊎◌, ℕ, zero, suc, ◌+◌, ◌-◌, ◌≤◌, Bool, true, false, List, [], ◌∷◌, ◌++◌, length, count_by, Option, Some, None, IsOk, Err}
use Rattle.fts_disk.specs.Disk.{DiskState}
use Rattle.fts_tables.specs.Counts.{Rose}
use Rattle.fts_tables.specs.Coming.{Coming, Gives}
use Rattle.fts_tables.specs.History.{tables_of, tables_from, out_of_list}
use Rattle.fts_tables.specs.declared.commands.Entry.{Entry}
use Rattle.fts_tables.specs.declared.commands.Command.{Command}
use Rattle.fts_tables.specs.declared.commands.Command.TheVariants.{Restart, Submit, CancelJob, CancelFile, SetPriority, Claim, Report, Ban, Unban, Expire}
use Rattle.fts_tables.specs.declared.commands.Refusal.TheVariants.{Idle}
use Rattle.fts_tables.specs.declared.rows.Outcome.{Outcome}
use Rattle.fts_record.specs.Spelling.{spelled}
use Rattle.fts_store.specs.Calls.{Call}
use Rattle.fts_store.specs.Store.{StoreState}
use Rattle.fts_keep.specs.Keeps.{KeepData, IsListOf, used_of}
use Rattle.fts_keep.specs.Applied.{Applies, DoubtMoves, applied_to, entry_by}
use Rattle.fts_keep.specs.declared.fault.KeepFault.TheVariants.{Rule, JournalFull as Full}
use Rattle.fts_workers.specs.Benches.{BenchData, attempt_of, calm_end, held_over, is_stopped, kept_of, newly_held}
use Rattle.fts_workers.specs.Copies.{copies_from, copies_kept, FollowsReports}
use Rattle.fts_workers.specs.declared.ends.RoundEnd.{RoundEnd}
use Rattle.fts_workers.specs.declared.ends.RoundEnd.TheVariants.{Clear, Busy, DiskFailed, JournalFull, Memory}

-- where one thread stands between two commands: the list so far, how many bytes of the journal are used, the disk's count of faults, what is kept
-- of the first file that is out, and the moments and words to come, where they are told; and the entry in doubt, which is seen where the disk tells its
-- contents
pub record Walk : Type 0 where
  pub entries : List Entry
  pub used : ℕ
  pub faults : ℕ
  pub doubt : Option Entry
  pub kept : Option Outcome
  pub moments : Option Coming
  pub words : Option Coming

-- what an entry comes to over a list, where memory and disk allow it
abbrev pub applied_over : List Entry → Entry → Applies
applied_over entries entry = applied_to (tables_of entries) (used_of entries) entry

-- what an entry comes to where one thread stands
abbrev pub applied_at : Walk → Entry → Applies
applied_at walk entry = applied_to (tables_of walk.entries) walk.used entry

-- an entry was accepted: it stands behind the others, its bytes are used, and none is in doubt
pub record Adds (walk : Walk) (entry : Entry) (next : Walk) : Type 0 where
  pub accepted : IsOk (applied_at walk entry)
  pub listed : next.entries ≡ walk.entries ++ entry ∷ []
  pub filled : next.used ≡ walk.used + 5 + length (spelled entry)
  pub counts : walk.faults ≤ next.faults
  pub settled : next.doubt ≡ None

-- an entry was tried and not accepted: it alone may have come into doubt, and only where the disk's count rose
pub record AddsNone (walk : Walk) (entry : Entry) (next : Walk) : Type 0 where
  pub listed : next.entries ≡ walk.entries
  pub filled : next.used ≡ walk.used
  pub counts : walk.faults ≤ next.faults
  pub doubt : DoubtMoves walk.faults next.faults walk.doubt next.doubt entry

-- how a command ends a round, by what it would come to and whether the disk's count rose in it; want of memory is free
abbrev pub StopsBy : Applies → Type 0 → RoundEnd → Type 0
StopsBy would rose DiskFailed = IsOk would × rose
StopsBy would rose (JournalFull used) = would ≡ Err (Full used)
StopsBy would rose Memory = Unit {0}
StopsBy would rose Clear = ⊥
StopsBy would rose (Busy held) = ⊥

-- the outcome that is kept, or that of a copy; never that of one which was called off
abbrev pub IsOutcome : Option Outcome → Outcome → Type 0
IsOutcome (Some kept) outcome = (outcome ≡ kept) × (is_stopped outcome ≡ false)
IsOutcome None outcome = is_stopped outcome ≡ false

-- the report of a file, at the attempt at which it stands
abbrev pub report_in : List Entry → ℕ → ℕ → Outcome → Entry
report_in entries now file outcome = entry_by 0 (Report now file (attempt_of (tables_of entries) file) outcome)

-- the first file that is out was reported, at the next moment
pub record Reports (walk : Walk) (file : ℕ) (next : Walk) : Type 0 where
  pub outcome : Outcome
  pub ended : IsOutcome walk.kept outcome
  pub now : ℕ
  pub moment : Gives walk.moments next.moments now
  pub words : next.words ≡ walk.words
  pub adds : Adds walk (report_in walk.entries now file outcome) next
  pub kept : next.kept ≡ None

-- its report was tried and not accepted: the outcome is kept, and the round ends
pub record ReportStops (walk : Walk) (file : ℕ) (end : RoundEnd) (after : Walk) : Type 0 where
  pub outcome : Outcome
  pub ended : IsOutcome walk.kept outcome
  pub now : ℕ
  pub moment : Gives walk.moments after.moments now
  pub words : after.words ≡ walk.words
  pub stops : StopsBy (applied_at walk (report_in walk.entries now file outcome)) (Rose walk.faults after.faults) end
  pub none : AddsNone walk (report_in walk.entries now file outcome) after
  pub kept : after.kept ≡ Some outcome

-- an expiry was tried, at the next moment
pub record TriesToExpire (walk next : Walk) (entry : Entry) : Type 0 where
  pub now : ℕ
  pub moment : Gives walk.moments next.moments now
  pub words : next.words ≡ walk.words
  pub is : entry ≡ entry_by 0 (Expire now)
  pub kept : next.kept ≡ walk.kept

-- files were overdue, and were cancelled
pub record Expires (walk next : Walk) : Type 0 where
  pub entry : Entry
  pub tried : TriesToExpire walk next entry
  pub adds : Adds walk entry next

-- no row was overdue
pub record FindsNoneOverdue (walk next : Walk) : Type 0 where
  pub entry : Entry
  pub tried : TriesToExpire walk next entry
  pub idle : applied_at walk entry ≡ Err (Rule Idle)
  pub none : AddsNone walk entry next

-- an expiry was neither accepted nor idle, and the round ends
pub record ExpiryStops (walk : Walk) (end : RoundEnd) (after : Walk) : Type 0 where
  pub entry : Entry
  pub tried : TriesToExpire walk after entry
  pub stops : StopsBy (applied_at walk entry) (Rose walk.faults after.faults) end
  pub none : AddsNone walk entry after

-- a claim was tried, at the next moment and with the next word
pub record Tries (walk next : Walk) (entry : Entry) : Type 0 where
  pub now : ℕ
  pub moment : Gives walk.moments next.moments now
  pub word : ℕ
  pub drawn : Gives walk.words next.words word
  pub is : entry ≡ entry_by 0 (Claim now word)
  pub kept : next.kept ≡ walk.kept

-- a file was claimed
pub record Claims (walk next : Walk) : Type 0 where
  pub entry : Entry
  pub tried : Tries walk next entry
  pub adds : Adds walk entry next

-- no row is eligible
pub record FindsNone (walk after : Walk) : Type 0 where
  pub entry : Entry
  pub tried : Tries walk after entry
  pub idle : applied_at walk entry ≡ Err (Rule Idle)
  pub none : AddsNone walk entry after

-- a claim was neither accepted nor idle, and the round ends
pub record ClaimStops (walk : Walk) (end : RoundEnd) (after : Walk) : Type 0 where
  pub entry : Entry
  pub tried : Tries walk after entry
  pub stops : StopsBy (applied_at walk entry) (Rose walk.faults after.faults) end
  pub none : AddsNone walk entry after

-- the end of a round that met no fault
abbrev pub EndsCalmly : Walk → RoundEnd → Type 0
EndsCalmly walk end = end ≡ calm_end (length (out_of_list walk.entries))

-- claims, while so many workers have no file
abbrev pub FillsUp : ℕ → Walk → RoundEnd → Walk → Type 0
FillsUp zero walk end after = (after ≡ walk) × EndsCalmly walk end
FillsUp (suc free) walk end after =
    ((next : Walk) × (Claims walk next × FillsUp free next end after))
    ⊎ ((FindsNone walk after × EndsCalmly walk end) ⊎ ClaimStops walk end after)

-- an expiry, tried once, and then claims
abbrev pub ExpiresAndClaims : ℕ → Walk → RoundEnd → Walk → Type 0
ExpiresAndClaims workers walk end after =
    ((next : Walk) × ((Expires walk next ⊎ FindsNoneOverdue walk next) × FillsUp (workers - length (out_of_list next.entries)) next end after))
    ⊎ ExpiryStops walk end after

-- reports of these files, and then an expiry and claims
abbrev pub WorksOff : ℕ → List ℕ → Walk → RoundEnd → Walk → Type 0
WorksOff workers [] walk end after = ExpiresAndClaims workers walk end after
WorksOff workers (file ∷ files) walk end after =
    ((next : Walk) × (Reports walk file next × WorksOff workers files next end after)) ⊎ ReportStops walk file end after

-- a round with so many workers
abbrev pub IsRound : ℕ → Walk → RoundEnd → Walk → Type 0
IsRound workers walk end after = WorksOff workers (out_of_list walk.entries) walk end after

-- where one thread stands over a list, by its keep, its bench, its clock and its words
abbrev pub walk_over : {D : Type 0} → (D → ℕ) → List Entry → KeepData D → BenchData → Option Coming → Option Coming → Walk
walk_over faults entries keep bench moments words =
    record {
      entries = entries;
      used = keep.used;
      faults = faults keep.disk;
      doubt = keep.doubt;
      kept = kept_of bench.held;
      moments = moments;
      words = words;
    }

-- whatever disk there is: the keep's tables are those of this list, and the bench holds the files that it leaves out
pub record IsWorkedOver {D : Type 0} (keep : KeepData D) (bench : BenchData) (entries : List Entry) : Type 0 where
  pub list : IsListOf keep entries
  pub held : bench.held ≡ held_over entries (kept_of bench.held)

-- whether a command is a claim
abbrev pub is_claim : Command → Bool
is_claim (Claim now word) = true
is_claim _ = false

-- how many of these entries are claims
abbrev pub claims_among : List Entry → ℕ
claims_among entries = count_by (λ entry. is_claim entry.command) entries

-- A round over every disk: it added entries, and whatever list keep and bench are over, it is a round from that list to it with these entries.
-- The keep's own list is such a one.
pub record MakesRound {D E : Type 0} (state : D → DiskState) (faults : D → ℕ)
    (store_state : E → StoreState) (store_calls : E → Option (List Call)) (store_faults : E → ℕ)
    (old new : KeepData D) (bench bench_now : BenchData) (store store_now : E) (moments later words words_later : Option Coming) (end : RoundEnd) : Type 0 where
  pub added : List Entry
  pub round : (entries : List Entry) → IsWorkedOver old bench entries
      → IsRound bench.places (walk_over faults entries old bench moments words) end (walk_over faults (entries ++ added) new bench_now later words_later)
  pub over : (entries : List Entry) → IsWorkedOver old bench entries → IsWorkedOver new bench_now (entries ++ added)
  pub tables : new.tables ≡ tables_from old.tables added
  pub listed : new.entries ≡ old.entries ++ added
  -- as many of them are claims as files are held that it claimed
  pub claimed : claims_among added ≡ newly_held bench_now.held
  -- the store follows from the reports among them, in order
  pub follows : FollowsReports store_state store_calls store_faults (copies_kept old.tables bench.held)
      (copies_from (λ writer. true) old.tables added) (copies_kept new.tables bench_now.held) store store_now

-- the journal is full behind the bytes that are used, where a round says so
abbrev pub IsFullAt : ℕ → RoundEnd → Type 0
IsFullAt used (JournalFull full) = full ≡ used
IsFullAt used Clear = Unit {0}
IsFullAt used (Busy held) = Unit {0}
IsFullAt used DiskFailed = Unit {0}
IsFullAt used Memory = Unit {0}
