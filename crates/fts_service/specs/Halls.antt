-- Lanes at their booths and workers at their stations, before and behind their threads.
use Rattle.std.specs.Prelude.{ℕ, ◌≤◌, Bool, Option, IfSome}
use Rattle.fts_tables.specs.declared.commands.Entry.{Entry}
use Rattle.fts_turnstile.specs.Passes.{TurnstileView, IsOf, IsSame}
use Rattle.fts_shop.specs.Turns.{IsReady}
use Rattle.fts_shop.specs.Workers.{WorkerDone, station_data}
use Rattle.fts_shop.specs.declared.station.Station.{Station}
use Rattle.fts_service.specs.Booths.{booth_data}
use Rattle.fts_service.specs.Lanes.{Sides, BoothDone}
use Rattle.fts_service.specs.declared.lane.Booth.{Booth}
use Rattle.fts_service.specs.declared.doors.Doors as doors
use Rattle.fts_tables.specs.declared.clock.Clock as clock
use Rattle.fts_tables.specs.declared.words.Words as words
use Rattle.fts_store.specs.declared.store.Store as store

-- a booth whose lane may begin: its pass is of the lock, and it may serve a line at least
abbrev pub IsBoothReady : {D A C L : Type 0} → TurnstileView Entry → Option ℕ → Booth D A C L → Type 0
IsBoothReady lock connections booth = IsOf lock booth.pass × IfSome connections (λ most. 1 ≤ most)

-- a booth whose lane has ended
abbrev pub IsBoothServed : {D A C L : Type 0} → Sides L → doors.Ghosts A L → clock.Ghosts C → Option ℕ → Booth D A C L → Booth D A C L → Type 0
IsBoothServed sides all_doors clocks connections old new =
    IsSame old.pass new.pass × BoothDone sides connections (booth_data clocks all_doors old) (booth_data clocks all_doors new)

-- a station whose worker may begin
abbrev pub IsStationReady : {D E C W : Type 0} → TurnstileView Entry → Station D E C W → Type 0
IsStationReady lock station = IsOf lock station.pass × IsReady station.bench.held

-- a station whose worker has ended, at a gate that may be closed or not
abbrev pub IsStationWorked : {D E C W : Type 0} → store.Ghosts E → clock.Ghosts C → words.Ghosts W → Bool → Station D E C W → Station D E C W → Type 0
IsStationWorked stores clocks draws closes old new = WorkerDone stores closes (station_data clocks draws old) (station_data clocks draws new)
