-- Lanes and workers that ran over one shop: what each did over its own pass, and the one list of turns that all of them share.
use Rattle.std.specs.Prelude.{◌≡◌, ℕ, List, [], ◌++◌, map, length, drop, All, Option}
use Rattle.fts_tables.specs.declared.commands.Entry.{Entry}
use Rattle.fts_turnstile.specs.Passes.{PassView}
use Rattle.fts_passes.specs.Crews.{passes_given, ClosedWith}
use Rattle.fts_wire.specs.RoomData.{RoomData}
use Rattle.fts_workers.specs.Benches.{BenchData}
use Rattle.fts_workers.specs.declared.hand.Hand.{Hand}
use Rattle.fts_shop.specs.Many.{Each}
use Rattle.fts_shop.specs.Shops.{ShopData, shop_entries, shop_shows, writer_of}
use Rattle.fts_shop.specs.declared.station.Station.{Station}
use Rattle.fts_service.specs.Halls.{IsBoothServed, IsStationWorked}
use Rattle.fts_service.specs.Seats.{booths_of, stations_of}
use Rattle.fts_service.specs.Served.{served_end}
use Rattle.fts_service.specs.declared.lane.Booth.{Booth}
use Rattle.fts_service.specs.declared.lane.Lane.{Lane}
use Rattle.fts_service.specs.declared.together.ServedEnd.{ServedEnd}
use Rattle.fts_service.specs.Worlds.{World}

-- Lanes and workers ran over a shop, with the passes that pass 0 gave them, lanes the first ones: each lane served its lines and each worker took its
-- turns, from a booth and a station that were new; then the lock was closed behind all passes. The lanes and hands that were not used stay.
pub record RanTogether {D A E C W L : Type 0} (world : World D A E C W L)
    (first : PassView Entry) (connections : Option ℕ) (lanes lanes_now : List (Lane A C L)) (hands hands_now : List (Hand E C W))
    (rooms : List RoomData) (benches : List BenchData) (closed : ShopData D) (end : ServedEnd) : Type 0 where
  pub booths : List (Booth D A C L)
  pub stations : List (Station D E C W)
  pub served : Each (IsBoothServed world.sides world.doors world.clocks connections) (booths_of lanes rooms (passes_given (record first { given = 0 }) first.given)) booths
  pub worked : Each (IsStationWorked world.stores world.clocks world.words world.closes)
      (stations_of hands benches (drop (length rooms) (passes_given (record first { given = 0 }) first.given))) stations
  pub idle : All (λ bench. bench.held ≡ []) benches
  pub lanes_are : lanes_now ≡ map (λ booth. booth.lane) booths ++ drop (length rooms) lanes
  pub hands_are : hands_now ≡ map (λ station. station.hand) stations ++ drop (length benches) hands
  -- one list of turns, of which each pass has seen a beginning that holds all its own
  pub history : ClosedWith shop_entries writer_of (shop_shows world.disks) first (map (λ booth. booth.pass) booths ++ map (λ station. station.pass) stations) closed
  pub ended : end ≡ served_end (map (λ booth. booth.end) booths) (map (λ station. station.end) stations)
