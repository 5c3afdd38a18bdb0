-- Lanes and workers over one shop, from the passes that were given to those that are taken in.
use Rattle.std.proofs.Common.{◌≡◌, ◌+◌, ◌++◌, length, map, drop, All, sym, ap, ◌∙◌, subst, arith}
use Rattle.fts_passes.specs.Crews.{AreOf, ClosedWith}
use Rattle.fts_passes.proofs.Gathered.{given_are_of, given_numbers}
use Rattle.fts_shop.specs.Shops.{shop_entries, writer_of, shop_shows}
use Rattle.std.proofs.lemmas.List.{length-drop}
use Rattle.fts_service.specs.Halls.{IsBoothReady, IsStationReady}
use Rattle.fts_service.specs.Seats.{booths_of, stations_of}
use Rattle.fts_service.specs.Served.{served_end}
use Rattle.fts_service.proofs.Sitting.{as_many, booths_ready, stations_ready, AreSame, each_along, same_of_each, same-append, of_same, numbers_same, of_drop, given_length, seated_counts, seats_passes}
use Rattle.fts_service.proofs.crew.serve_shop.Goals as goal

pub take_seats-seated-requires-clause-passes : goal.take_seats-seated-requires-clause-passes
take_seats-seated-requires-clause-passes g c = ap length c.requires.passes ∙ given_length (record c.args.locked.first { given = 0 }) c.args.locked.first.given ∙ c.requires.given

pub serve_all-requires-clause-booths : goal.serve_all-requires-clause-booths
serve_all-requires-clause-booths g c κs within =
    let given = c.args.locked.passes.items in
    let of = subst (AreOf c.args.locked.lock) (sym c.requires.passes) (given_are_of c.args.locked.lock (record c.args.locked.first { given = 0 }) c.args.locked.first.given c.requires.own) in
    subst (All (IsBoothReady c.args.locked.lock c.args.connections)) (sym c.take_seats-seated.ensures.booths)
    (booths_ready c.args.locked.lock c.args.connections c.args.lanes.now.items c.args.seats.rooms.items given of c.requires.some)

pub serve_all-requires-clause-stations : goal.serve_all-requires-clause-stations
serve_all-requires-clause-stations g c κs within =
    let given = c.args.locked.passes.items in
    let rooms = length c.args.seats.rooms.items in
    let of = subst (AreOf c.args.locked.lock) (sym c.requires.passes) (given_are_of c.args.locked.lock (record c.args.locked.first { given = 0 }) c.args.locked.first.given c.requires.own) in
    subst (All (IsStationReady c.args.locked.lock)) (sym c.take_seats-seated.ensures.stations)
    (stations_ready c.args.locked.lock c.args.hands.now.items c.args.seats.benches.items (drop rooms given) (of_drop c.args.locked.lock rooms given of) c.requires.idle)

-- there are as many booths and stations as before their threads
pub leave_seats-requires : goal.leave_seats-requires
leave_seats-requires g c =
    let given = c.args.locked.passes.items in
    let rooms = c.args.seats.rooms.items in
    let benches = c.args.seats.benches.items in
    let seated = c.take_seats-seated.ensures in
    let many : length given ≡ length rooms + length benches = ap length c.requires.passes ∙ given_length (record c.args.locked.first { given = 0 }) c.args.locked.first.given ∙ c.requires.given in
    let counts = seated_counts _ _ _ c.args.lanes.now.items rooms c.args.hands.now.items benches given _ _ _ _ c.serve_all.ensures.booths seated.booths
    c.serve_all.ensures.stations seated.stations c.requires.lanes c.requires.hands many in
    record {
      lanes = omega (arith, counts.0, c.requires.lanes, ap length seated.lanes, length-drop (length rooms) c.args.lanes.now.items, seated.kept.0, c.args.lanes.now.ok.0, c.args.lanes.now.ok.1);
      hands = omega (arith, counts.1, c.requires.hands, ap length seated.hands, length-drop (length benches) c.args.hands.now.items, seated.kept.1, c.args.hands.now.ok.0, c.args.hands.now.ok.1);
      none = seated.passes;
      passes = omega (arith, counts.0, counts.1, many, seated.kept.2, c.args.locked.passes.ok.0, c.args.locked.passes.ok.1);
    }

pub close_with-requires : goal.close_with-requires
close_with-requires g c =
    let given = c.args.locked.passes.items in
    let rooms = c.args.seats.rooms.items in
    let benches = c.args.seats.benches.items in
    let seated = c.take_seats-seated.ensures in
    let giver = record c.args.locked.first { given = 0 } in
    let many : length given ≡ length rooms + length benches = ap length c.requires.passes ∙ given_length giver c.args.locked.first.given ∙ c.requires.given in
    let of : AreOf c.args.locked.lock given = subst (AreOf c.args.locked.lock) (sym c.requires.passes) (given_are_of c.args.locked.lock giver c.args.locked.first.given c.requires.own) in
    let olds = map (λ booth. booth.pass) c.take_seats-seated.result.booths.items ++ map (λ station. station.pass) c.take_seats-seated.result.stations.items in
    let news = map (λ booth. booth.pass) c.serve_all.new.booths.items ++ map (λ station. station.pass) c.serve_all.new.stations.items in
    let same : AreSame olds news = same-append _ _ _ _
    (same_of_each _ (λ booth. booth.pass) _ _ (λ old new done. done.0) c.serve_all.ensures.booths)
    (same_of_each _ (λ station. station.pass) _ _ (λ old new done. done.same) c.serve_all.ensures.stations) in
    let are : olds ≡ given =
    ap (λ l. map (λ booth. booth.pass) l ++ map (λ station. station.pass) c.take_seats-seated.result.stations.items) seated.booths
    ∙ ap (λ l. map (λ booth. booth.pass) (booths_of c.args.lanes.now.items rooms given) ++ map (λ station. station.pass) l) seated.stations
    ∙ seats_passes _ c.args.lanes.now.items rooms c.args.hands.now.items benches given c.requires.lanes c.requires.hands many in
    record {
      own = c.requires.own;
      first = c.requires.first;
      of = subst (AreOf c.args.locked.lock) (sym c.leave_seats.ensures.passes) (of_same c.args.locked.lock olds news same (subst (AreOf c.args.locked.lock) (sym are) of));
      all = ap (map (λ pass. pass.number)) c.leave_seats.ensures.passes ∙ numbers_same olds news same ∙ ap (map (λ pass. pass.number)) (are ∙ c.requires.passes)
          ∙ given_numbers giver c.args.locked.first.given;
    }

pub returns : goal.returns
returns g c =
    let seated = c.take_seats-seated.ensures in
    let given = c.args.locked.passes.items in
    let rooms = c.args.seats.rooms.items in
    let benches = c.args.seats.benches.items in
    let many : length given ≡ length rooms + length benches = ap length c.requires.passes ∙ given_length (record c.args.locked.first { given = 0 }) c.args.locked.first.given ∙ c.requires.given in
    let counts = seated_counts _ _ _ c.args.lanes.now.items rooms c.args.hands.now.items benches given _ _ _ _ c.serve_all.ensures.booths seated.booths
    c.serve_all.ensures.stations seated.stations c.requires.lanes c.requires.hands many in
    let lanes = c.leave_seats.ensures.lanes ∙ ap (λ l. map (λ booth. booth.lane) c.serve_all.new.booths.items ++ l) seated.lanes in
    let hands = c.leave_seats.ensures.hands ∙ ap (λ l. map (λ station. station.hand) c.serve_all.new.stations.items ++ l) seated.hands in
    record {
      ran = record {
        booths = c.serve_all.new.booths.items;
        stations = c.serve_all.new.stations.items;
        served = each_along _ _ _ _ (seated.booths ∙ ap (booths_of c.args.lanes.now.items rooms) c.requires.passes) c.serve_all.ensures.booths;
        worked = each_along _ _ _ _ (seated.stations ∙ ap (λ l. stations_of c.args.hands.now.items benches (drop (length rooms) l)) c.requires.passes)
            c.serve_all.ensures.stations;
        idle = c.requires.idle;
        lanes_are = lanes;
        hands_are = hands;
        history = subst (λ l. ClosedWith shop_entries writer_of (shop_shows g.D.Disk) c.args.locked.first l c.close_with.result) c.leave_seats.ensures.passes
            c.close_with.ensures.closed;
        ended = c.served-end.ensures
            ∙ ap (λ l. served_end (map (λ booth. booth.end) l) (map (λ station. station.end) c.deref-2.result.now)) c.deref.ensures.value
            ∙ ap (λ l. served_end (map (λ booth. booth.end) c.serve_all.new.booths.items) (map (λ station. station.end) l)) c.deref-2.ensures.value;
      };
      many = (as_many _ _ (length rooms) _ _ counts.0 c.requires.lanes lanes, as_many _ _ (length benches) _ _ counts.1 c.requires.hands hands);
    }
