-- Lanes at their booths and hands at their stations, in order, each over the pass at its place.
use Rattle.std.specs.Prelude.{List, [], ◌∷◌, None}
use Rattle.fts_tables.specs.declared.commands.Entry.{Entry}
use Rattle.fts_turnstile.specs.Passes.{PassView}
use Rattle.fts_wire.specs.RoomData.{RoomData}
use Rattle.fts_workers.specs.Benches.{BenchData}
use Rattle.fts_workers.specs.declared.hand.Hand.{Hand}
use Rattle.fts_shop.specs.declared.station.Station.{Station}
use Rattle.fts_service.specs.declared.lane.Booth.{Booth}
use Rattle.fts_service.specs.declared.lane.Lane.{Lane}

-- a lane at a booth whose thread hasn't ended
abbrev pub booth_of : {D A C L : Type 0} → Lane A C L → RoomData → PassView Entry → Booth D A C L
booth_of lane room pass = record { lane = lane; room = room; pass = pass; end = None }

-- lanes at booths, as many as there are rooms, each over the pass at its place
abbrev pub booths_of : {D A C L : Type 0} → List (Lane A C L) → List RoomData → List (PassView Entry) → List (Booth D A C L)
booths_of lanes [] passes = []
booths_of [] (room ∷ rooms) passes = []
booths_of (lane ∷ lanes) (room ∷ rooms) [] = []
booths_of (lane ∷ lanes) (room ∷ rooms) (pass ∷ passes) = booth_of lane room pass ∷ booths_of lanes rooms passes

-- a hand at a station whose worker hasn't ended
abbrev pub station_of : {D E C W : Type 0} → Hand E C W → BenchData → PassView Entry → Station D E C W
station_of hand bench pass = record { hand = hand; bench = bench; pass = pass; end = None }

-- hands at stations, as many as there are benches, each over the pass at its place
abbrev pub stations_of : {D E C W : Type 0} → List (Hand E C W) → List BenchData → List (PassView Entry) → List (Station D E C W)
stations_of hands [] passes = []
stations_of [] (bench ∷ benches) passes = []
stations_of (hand ∷ hands) (bench ∷ benches) [] = []
stations_of (hand ∷ hands) (bench ∷ benches) (pass ∷ passes) = station_of hand bench pass ∷ stations_of hands benches passes
