-- What the parts of a round do. A part leads from where one thread stands to where it stands then, over whatever list the tables and the bench are of.
use Rattle.std.specs.Prelude.{◌≡◌, ℕ, ◌-◌, Bool, true, false, List, ◌++◌, length, Option, Result, Ok, Err}
use Rattle.fts_disk.specs.Disk.{DiskState}
use Rattle.fts_tables.specs.Coming.{Coming}
use Rattle.fts_tables.specs.History.{tables_from, out_of_list}
use Rattle.fts_tables.specs.declared.commands.Entry.{Entry}
use Rattle.fts_store.specs.Calls.{Call}
use Rattle.fts_store.specs.Store.{StoreState}
use Rattle.fts_keep.specs.Keeps.{KeepData}
use Rattle.fts_workers.specs.Benches.{BenchData, calm_end}
use Rattle.fts_workers.specs.Copies.{Copy, copies_from, copies_kept, FollowsReports}
use Rattle.fts_workers.specs.ClaimSteps.{KeepsBy}
use Rattle.fts_workers.specs.Rounds.{Walk, IsRound, ExpiresAndClaims, FillsUp, IsWorkedOver, walk_over}
use Rattle.fts_workers.specs.declared.ends.RoundEnd.{RoundEnd}

-- where one thread stands: its keep, its bench, and the moments and words to come
pub record Stand (D : Type 0) : Type 0 where
  pub keep : KeepData D
  pub bench : BenchData
  pub moments : Option Coming
  pub words : Option Coming

-- the same, by its parts
abbrev pub stand : {D : Type 0} → KeepData D → BenchData → Option Coming → Option Coming → Stand D
stand keep bench moments words = record { keep = keep; bench = bench; moments = moments; words = words }

-- the walk of who stands there over a list
abbrev pub walk_of : {D : Type 0} → (D → ℕ) → List Entry → Stand D → Walk
walk_of faults entries at = walk_over faults entries at.keep at.bench at.moments at.words

-- keep and bench are over a list
abbrev pub IsOver : {D : Type 0} → Stand D → List Entry → Type 0
IsOver at entries = IsWorkedOver at.keep at.bench entries

-- A part of a round, over every disk: it added entries, and whatever list keep and bench are over, the walk goes so from that list to it with these entries.
pub record Walks {D : Type 0} (state : D → DiskState) (faults : D → ℕ) (Goes : Walk → Walk → Type 0) (old new : Stand D) : Type 0 where
  pub added : List Entry
  pub walked : (entries : List Entry) → IsOver old entries → Goes (walk_of faults entries old) (walk_of faults (entries ++ added) new)
  pub over : (entries : List Entry) → IsOver old entries → IsOver new (entries ++ added)
  pub tables : new.keep.tables ≡ tables_from old.keep.tables added
  pub told : (state new.keep.disk).told ≡ (state old.keep.disk).told
  pub listed : new.keep.entries ≡ old.keep.entries ++ added

-- the copies that are made and not reported
abbrev pub kept_at : {D : Type 0} → Stand D → List Copy
kept_at at = copies_kept at.keep.tables at.bench.held

-- a part that makes no copy: those kept before were reported, or are kept still
pub record MakesNoCopy {D : Type 0} (state : D → DiskState) (faults : D → ℕ) (Goes : Walk → Walk → Type 0) (old new : Stand D) : Type 0 where
  pub walks : Walks state faults Goes old new
  pub balance : kept_at old ≡ copies_from (λ writer. true) old.keep.tables walks.added ++ kept_at new

-- a part that may make copies: the store follows from its reports
pub record MakesCopies {D E : Type 0} (state : D → DiskState) (faults : D → ℕ)
    (store_state : E → StoreState) (store_calls : E → Option (List Call)) (store_faults : E → ℕ)
    (Goes : Walk → Walk → Type 0) (old new : Stand D) (store store_now : E) : Type 0 where
  pub walks : Walks state faults Goes old new
  pub follows : FollowsReports store_state store_calls store_faults (kept_at old) (copies_from (λ writer. true) old.keep.tables walks.added)
      (kept_at new) store store_now

-- files are worked off: whatever round goes on from here is one from the beginning; and where it stopped, this was the round
abbrev pub WorksOn : ℕ → Result (Unit {0}) RoundEnd → Walk → Walk → Type 0
WorksOn workers (Ok done) walk now = (end : RoundEnd) (after : Walk) → IsRound workers now end after → IsRound workers walk end after
WorksOn workers (Err end) walk after = IsRound workers walk end after

-- files are claimed, by as many workers as have none
abbrev pub Fills : ℕ → RoundEnd → Walk → Walk → Type 0
Fills workers end walk after = FillsUp (workers - length (out_of_list walk.entries)) walk end after

-- a claim: whatever is still claimed from here was claimed from the beginning; and where no row was eligible, or it stopped, these were the claims
abbrev pub FillsOn : ℕ → Result Bool RoundEnd → Walk → Walk → Type 0
FillsOn workers (Ok true) walk now = (end : RoundEnd) (after : Walk) → Fills workers end now after → Fills workers end walk after
FillsOn workers (Ok false) walk after = Fills workers (calm_end (length (out_of_list after.entries))) walk after
FillsOn workers (Err end) walk after = Fills workers end walk after

-- an expiry: whatever is claimed from here was claimed behind it; and where it stopped, this was all
abbrev pub ExpiresOn : ℕ → Result (Unit {0}) RoundEnd → Walk → Walk → Type 0
ExpiresOn workers (Ok done) walk now = (end : RoundEnd) (after : Walk) → Fills workers end now after → ExpiresAndClaims workers walk end after
ExpiresOn workers (Err end) walk after = ExpiresAndClaims workers walk end after

-- an expiry, and then claims
abbrev pub ExpiresAndFills : ℕ → RoundEnd → Walk → Walk → Type 0
ExpiresAndFills workers end walk after = ExpiresAndClaims workers walk end after

-- a whole round
abbrev pub RoundsTo : ℕ → RoundEnd → Walk → Walk → Type 0
RoundsTo workers end walk after = IsRound workers walk end after

-- what every part keeps: all that the calls of writer 0 keep
abbrev pub KeepsOn : {D : Type 0} → (D → DiskState) → (D → ℕ) → KeepData D → KeepData D → Type 0
KeepsOn state faults old new = KeepsBy state faults 0 old new
