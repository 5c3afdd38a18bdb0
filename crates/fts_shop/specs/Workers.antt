-- What a worker does at its station: turns, until one says that no lane is left and nothing is eligible, or ends by a fault with no lane left, or until it
-- is stopped with nothing in its hands.
use Rattle.std.specs.Prelude.{◌≡◌, ◌⊎◌, ℕ, zero, suc, Bool, true, false, List, [], Option, Some, None, IsSome}
use Rattle.fts_tables.specs.declared.commands.Entry.{Entry}
use Rattle.fts_tables.specs.Coming.{RestsOnlyIf}
use Rattle.fts_turnstile.specs.Passes.{PassView, IsSame}
use Rattle.fts_workers.specs.declared.held.Held.{Held}
use Rattle.fts_shop.specs.Turns.{HandData, IsReady, IsTurn, hand_data}
use Rattle.fts_shop.specs.declared.ends.Turn.{Turn}
use Rattle.fts_shop.specs.declared.ends.Turn.TheVariants as turn_ends
use Rattle.fts_shop.specs.declared.ends.WorkerEnd.{WorkerEnd}
use Rattle.fts_shop.specs.declared.ends.WorkerEnd.TheVariants as worker_ends
use Rattle.fts_shop.specs.declared.station.Station.{Station}
use Rattle.fts_store.specs.declared.store.Store as store
use Rattle.fts_tables.specs.declared.clock.Clock as clock
use Rattle.fts_tables.specs.declared.words.Words as words

-- what contracts see of a station
pub record StationData (E : Type 0) : Type 0 where
  pub hand : HandData E
  pub held : List Held
  pub places : ℕ
  pub pass : PassView Entry
  pub end : Option WorkerEnd

-- the same of a station, by what its clock and its words tell
abbrev pub station_data : {D E C W : Type 0} → clock.Ghosts C → words.Ghosts W → Station D E C W → StationData E
station_data clocks draws station = record {
  hand = hand_data clocks draws station.hand;
  held = station.bench.held;
  places = station.bench.places;
  pass = station.pass;
  end = station.end;
}

-- by a fault a worker ends where no lane is left
abbrev pub end_without_lanes : ℕ → WorkerEnd → Option WorkerEnd
end_without_lanes zero end = Some end
end_without_lanes (suc more) end = None

-- how a worker ends after a turn that ended so, where it does
abbrev pub worker_end_of : Turn → Option WorkerEnd
worker_end_of turn_ends.Idle = None
worker_end_of turn_ends.Stopping = Some worker_ends.Drained
worker_end_of (turn_ends.Done file) = None
worker_end_of (turn_ends.Failed file) = None
worker_end_of (turn_ends.Retried file) = None
worker_end_of (turn_ends.Cancelled file) = None
worker_end_of (turn_ends.Stale file) = None
worker_end_of (turn_ends.DiskFailed lanes) = end_without_lanes lanes worker_ends.DiskFailed
worker_end_of (turn_ends.JournalFull used lanes) = end_without_lanes lanes (worker_ends.JournalFull used)
worker_end_of (turn_ends.Memory lanes) = end_without_lanes lanes worker_ends.Memory

-- how a worker ends at a closed gate that would go on, or end so: a fault goes before a stop
abbrev pub stopped_instead : Option WorkerEnd → Option WorkerEnd
stopped_instead None = Some worker_ends.Stopped
stopped_instead (Some worker_ends.Drained) = Some worker_ends.Stopped
stopped_instead (Some worker_ends.Stopped) = Some worker_ends.Stopped
stopped_instead (Some worker_ends.DiskFailed) = Some worker_ends.DiskFailed
stopped_instead (Some (worker_ends.JournalFull used)) = Some (worker_ends.JournalFull used)
stopped_instead (Some worker_ends.Memory) = Some worker_ends.Memory

-- how a worker ends that would go on, or end so: as that has it, or, with nothing held, at a closed gate
abbrev pub IsEndAt : Bool → List Held → Option WorkerEnd → Option WorkerEnd → Type 0
IsEndAt closes held would end = (end ≡ would) ⊎ ((closes ≡ true) × (held ≡ []) × (end ≡ stopped_instead would))

-- how a worker ends behind its last turn
abbrev pub EndsBehind : Bool → Turn → List Held → Option WorkerEnd → Type 0
EndsBehind closes last held end = IsEndAt closes held (worker_end_of last) end

-- whether nothing was eligible, or a fault was met
abbrev pub is_restful : Turn → Bool
is_restful turn_ends.Idle = true
is_restful turn_ends.Stopping = false
is_restful (turn_ends.Done file) = false
is_restful (turn_ends.Failed file) = false
is_restful (turn_ends.Retried file) = false
is_restful (turn_ends.Cancelled file) = false
is_restful (turn_ends.Stale file) = false
is_restful (turn_ends.DiskFailed lanes) = true
is_restful (turn_ends.JournalFull used lanes) = true
is_restful (turn_ends.Memory lanes) = true

-- behind a turn that ended so a worker rests only where nothing was eligible or a fault was met; its store and its words stay
pub record IsRested {E : Type 0} (end : Turn) (old new : HandData E) : Type 0 where
  pub moments : RestsOnlyIf (is_restful end) old.moments new.moments
  pub store : new.store ≡ old.store
  pub words : new.words ≡ old.words

module _ {E : Type 0} (stores : store.Ghosts E) where
  -- one turn at a station, and the rest behind it
  pub record TakesOne (old new : StationData E) (end : Turn) : Type 0 where
    pub behind : HandData E
    pub turn : IsTurn stores old.pass new.pass old.hand behind old.held end new.held
    pub rested : IsRested end behind new.hand

  -- turns, one after the other, after none of which a worker ends
  abbrev pub AreTurns : ℕ → StationData E → StationData E → Type 0
  AreTurns zero old new = (old.hand ≡ new.hand) × (old.held ≡ new.held) × (old.pass ≡ new.pass)
  AreTurns (suc more) old new = (next : StationData E) × (end : Turn) × (TakesOne old next end × ((worker_end_of end ≡ None) × AreTurns more next new))

  -- a worker that has ended: turns, and one more, behind which it ended so; `closes` says whether its gate may be closed
  pub record WorkerDone (closes : Bool) (old new : StationData E) : Type 0 where
    pub more : ℕ
    pub between : StationData E
    pub turns : AreTurns more old between
    pub last : Turn
    pub ends : TakesOne between new last
    pub end_is : EndsBehind closes last new.held new.end
    pub ended : IsSome new.end
    -- what stays, and what a bench holds between two turns
    pub same : IsSame old.pass new.pass
    pub ready : IsReady new.held
    pub places : new.places ≡ old.places
