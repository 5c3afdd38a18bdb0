-- When a run that serves comes to its end. What it is given is told and breaks no rule, no doors fail, and no turn shows a failure of the disk: then it
-- ends with status 0, and three things are left to stop it: want of memory, which is free, a record that passes the journal's limit, and a gate that is
-- closed.
-- And which lines each lane has served by its end.
use Rattle.std.specs.Prelude.{◌≡◌, ◌⊎◌, ℕ, true, false, List, [], ◌∷◌, ◌++◌, length, Option, Some, IfSome, IsOk}
use Rattle.std.proofs.Common.{inl, inr}
use Rattle.fts_tables.specs.Counts.{Rose}
use Rattle.fts_tables.specs.Step.{step}
use Rattle.fts_tables.specs.History.{tables_of}
use Rattle.fts_tables.specs.declared.commands.Entry.{Entry}
use Rattle.fts_disk.specs.Disk.{DiskState, IsTold}
use Rattle.fts_turnstile.specs.declared.turn.LoggedTurn.{LoggedTurn}
use Rattle.fts_keep.specs.Applied.{fits}
use Rattle.fts_keep.specs.Keeps.{KeepData, used_of}
use Rattle.fts_workers.specs.declared.hand.Hand.{Hand}
use Rattle.fts_shop.specs.Shops.{ShopData, faults_shown}
use Rattle.fts_shop.specs.Many.{Each}
use Rattle.fts_service.specs.Booths.{booth_data}
use Rattle.fts_top.specs.Complete.{HasGoodSettings, IsUndamaged, RestartPasses, Stays}
use Rattle.fts_service.specs.Doors.{PassThrough}
use Rattle.fts_top.specs.Ends.{status_of}
use Rattle.fts_service.specs.Lanes.{BoothData}
use Rattle.fts_service.specs.Seats.{booths_of}
use Rattle.fts_top.specs.Serves.{Closes, ClosesServed, IsServingRun, ManyThreads}
use Rattle.fts_passes.specs.Crews.{passes_given}
use Rattle.fts_top.specs.declared.ends.RunEnd.{RunEnd}
use Rattle.fts_service.specs.declared.lane.Booth.{Booth}
use Rattle.fts_service.specs.declared.lane.Lane.{Lane}
use Rattle.fts_top.specs.declared.tally.Tally.{Tally}
use Rattle.fts_serving.specs.Ends.{entries_added}
use Rattle.fts_service.specs.Worlds.{World}

-- what a run is given is told and breaks no rule: the text of its settings, and the journal on its disk, or none yet
pub record BreaksNoRule (text : Option (List ℕ)) (disk : DiskState) : Type 0 where
  pub settings : HasGoodSettings text
  pub told : IsTold disk
  pub journal : (disk.seen ≡ []) ⊎ IsUndamaged disk.seen

-- the disk's count of failures that is shown rises in none of these turns
abbrev pub NoneRises : List ℕ → List (LoggedTurn Entry) → Type 0
NoneRises shown [] = Unit {0}
NoneRises shown (turn ∷ turns) = Stays (faults_shown shown) (faults_shown turn.shows) × NoneRises turn.shows turns

-- behind a beginning of the list the machine accepts an entry that doesn't fit the journal
pub record RecordPasses (list : List Entry) : Type 0 where
  pub entries : List Entry
  pub more : List Entry
  pub is : list ≡ entries ++ more
  pub entry : Entry
  pub accepted : IsOk (step (tables_of entries) entry.command)
  pub passes : fits (used_of entries) entry ≡ false

-- a lane's lines by its end: its doors gave them in order and have them back, and none is to come, or they are as many as it may serve
pub record IsAccountedFor {L : Type 0} (connections : Option ℕ) (old new : BoothData L) : Type 0 where
  pub lines : List (L × L)
  pub through : PassThrough old.doors new.doors lines
  pub all : IfSome new.doors.coming (λ coming. coming ≡ []) ⊎ (connections ≡ Some (length lines))

module _ {D A E C W L : Type 0} (world : World D A E C W L) where
  -- what is said of each used lane, before and behind its thread
  abbrev pub EachLane : (Booth D A C L → Booth D A C L → Type 0) → {lanes workers : ℕ} {connections : Option ℕ} {keep : KeepData D} {before : List (Lane A C L)}
      {hands : List (Hand E C W)} {after : List (Lane A C L)} {hands_now : List (Hand E C W)} {closed : ShopData D} {end : RunEnd}
      → ClosesServed world lanes workers connections keep before hands after hands_now
      closed end → Type 0
  EachLane P serves = Each P (booths_of serves.opened serves.rooms (passes_given (record serves.first { given = 0 }) serves.first.given)) serves.ran.booths

  -- the count of a lane's doors rose
  abbrev pub DoorsRose : Booth D A C L → Booth D A C L → Type 0
  DoorsRose old new = Rose (world.doors.faults old.lane.doors) (world.doors.faults new.lane.doors)

  -- a lane's lines are accounted for
  abbrev pub LinesAre : Option ℕ → Booth D A C L → Booth D A C L → Type 0
  LinesAre connections old new = IsAccountedFor connections (booth_data world.clocks world.doors old) (booth_data world.clocks world.doors new)

  -- how lanes and workers ended that nothing was in the way of
  abbrev pub EndsWell : {lanes workers : ℕ} {connections : Option ℕ} {keep : KeepData D} {before : List (Lane A C L)} {hands : List (Hand E C W)}
      {after : List (Lane A C L)} {hands_now : List (Hand E C W)} {closed : ShopData D} {end : RunEnd} {added : List Entry}
      → Closes world lanes workers connections keep before hands after hands_now closed
      end added → Type 0
  EndsWell {keep = keep} {end = end} (inl unserved) = status_of end ≡ 1
  EndsWell {keep = keep} {end = end} (inr served) =
      (status_of end ≡ 0) ⊎ ((status_of end ≡ 1) ⊎ (((status_of end ≡ 11) × RecordPasses (keep.entries
      ++ entries_added world served.0)) ⊎ ((status_of end ≡ 23) × (world.closes ≡ true))))

  -- how a run did that was to serve, where nothing was in its way
  abbrev pub Finishes : {lanes : ℕ} {connections : Option ℕ} {end : RunEnd} {tally : Tally} {text : Option (List ℕ)} {before after : ManyThreads D A E C W L}
      → IsServingRun world lanes connections end tally text before after → Type 0
  Finishes {end = end} {text = text} {before = before} (inl stops) =
      (status_of end ≡ 1) ⊎ ((status_of end ≡ 11) × RestartPasses text (world.disks.state before.disk) before.moments)
  Finishes (inr runs) = EndsWell runs.serves.closes
