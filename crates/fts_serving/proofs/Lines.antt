-- The lines of the lanes of a run, by the booths at which they ran.
use Rattle.std.proofs.Common.{◌≢◌, ◌⊎◌, ap, ◌∙◌, ⊎_elim, ℕ, List, map, Option}
use Rattle.fts_passes.specs.Crews.{passes_given}
use Rattle.fts_keep.specs.Keeps.{KeepData}
use Rattle.fts_workers.specs.declared.hand.Hand.{Hand}
use Rattle.fts_shop.specs.Shops.{ShopData}
use Rattle.fts_shop.specs.declared.station.Station.{Station}
use Rattle.fts_top.specs.Ends.{status_of, end_when_served}
use Rattle.fts_service.specs.Halls.{IsBoothServed}
use Rattle.fts_service.specs.Seats.{booths_of}
use Rattle.fts_top.specs.Serves.{ClosesServed}
use Rattle.fts_top.specs.declared.ends.RunEnd.{RunEnd}
use Rattle.fts_service.specs.declared.lane.Booth.{Booth}
use Rattle.fts_service.specs.declared.lane.Lane.{Lane}
use Rattle.fts_serving.specs.Finishes.{DoorsRose, EachLane, LinesAre}
use Rattle.fts_serving.proofs.Finishing.{accounted, accounted_all, failed_doors}
use Rattle.fts_serving.proofs.Seats.{each_weaker}
use Rattle.fts_service.specs.Worlds.{World}

module _ {D A E C W L : Type 0} (world : World D A E C W L) where
  -- the lines of the lanes of a run, where they began
  pub lines_of : {lanes workers : ℕ} {connections : Option ℕ} {keep : KeepData D} {before : List (Lane A C L)} {hands : List (Hand E C W)} {after : List (Lane A C L)}
      {hands_now : List (Hand E C W)} {closed : ShopData D} {end : RunEnd}
      (serves : ClosesServed world lanes workers connections keep before hands after hands_now
      closed end)
      → EachLane world
      (λ old new. DoorsRose world old new
      ⊎ LinesAre world connections old new) serves
  lines_of {connections = connections} serves = each_weaker (IsBoothServed world.sides world.doors world.clocks connections)
      (λ old new. DoorsRose world old new
      ⊎ LinesAre world connections old new)
      (accounted D world.doors world.sides world.clocks connections)
      (booths_of serves.opened serves.rooms (passes_given (record serves.first { given = 0 }) serves.first.given)) serves.ran.booths serves.ran.served

  pub all_lines_of : {lanes workers : ℕ} {connections : Option ℕ} {keep : KeepData D} {before : List (Lane A C L)} {hands : List (Hand E C W)} {after : List (Lane A C L)}
      {hands_now : List (Hand E C W)} {closed : ShopData D} {end : RunEnd}
      (serves : ClosesServed world lanes workers connections keep before hands after hands_now
      closed end)
      → status_of end ≢ 9
      → EachLane world
      (LinesAre world connections) serves
  all_lines_of {connections = connections} {end = end} serves not_nine = ⊎_elim
      (λ failed. absurd (not_nine (ap status_of failed.1)))
      (λ ended. accounted_all D world.doors world.sides world.clocks connections
      (booths_of serves.opened serves.rooms (passes_given (record serves.first { given = 0 }) serves.first.given)) serves.ran.booths serves.ran.served ended.0)
      (failed_doors (map (λ (booth : Booth D A C L). booth.end) serves.ran.booths) (map (λ (station : Station D E C W). station.end) serves.ran.stations) end
      (serves.ended ∙ ap end_when_served serves.ran.ended))
