-- Items that move from one list to another, one by one.
use Rattle.std.proofs.Common.{◌≡◌, ℕ, suc, List, [], ◌∷◌, ◌++◌, length, map, take, drop, sym, ap, ◌∙◌, append_assoc, append-nil, get_or, ◌<◌}
use Rattle.std.proofs.Math.Seq.{drop-cons, take-suc}
use Rattle.fts_tables.specs.declared.commands.Entry.{Entry}
use Rattle.fts_turnstile.specs.Passes.{PassView}
use Rattle.fts_wire.specs.RoomData.{RoomData}
use Rattle.fts_workers.specs.Benches.{BenchData}
use Rattle.fts_workers.specs.declared.hand.Hand.{Hand}
use Rattle.fts_shop.specs.declared.station.Station.{Station}
use Rattle.fts_service.specs.Seats.{booth_of, booths_of, station_of, stations_of}
use Rattle.fts_service.specs.declared.lane.Booth.{Booth}
use Rattle.fts_service.specs.declared.lane.Lane.{Lane}

-- one lane more is at its booth
pub seat_more : {D A C L : Type 0} (booths : List (Booth D A C L)) (lane : Lane A C L) (lanes all_lanes : List (Lane A C L)) (room : RoomData) (rooms all_rooms : List RoomData)
    (pass : PassView Entry) (passes all_passes : List (PassView Entry)) → all_lanes ≡ lane ∷ lanes → all_rooms ≡ room ∷ rooms → all_passes ≡ pass ∷ passes
    → (booths ++ booth_of lane room pass ∷ []) ++ booths_of lanes rooms passes ≡ booths ++ booths_of all_lanes all_rooms all_passes
seat_more booths lane lanes all_lanes room rooms all_rooms pass passes all_passes one two three =
    append_assoc booths (booth_of lane room pass ∷ []) (booths_of lanes rooms passes)
    ∙ sym (ap (λ all. booths ++ booths_of all all_rooms all_passes) one ∙ ap (λ all. booths ++ booths_of (lane ∷ lanes) all all_passes) two
    ∙ ap (λ all. booths ++ booths_of (lane ∷ lanes) (room ∷ rooms) all) three)

-- what is left behind so many is so also behind one fewer of the others
pub drop_both : {A B : Type 0} (one : A) (others all : List A) (step : B) (steps all_steps : List B) → all ≡ one ∷ others → all_steps ≡ step ∷ steps
    → drop (length steps) others ≡ drop (length all_steps) all
drop_both one others all step steps all_steps e f = sym (ap (λ l. drop (length l) all) f ∙ ap (drop (suc (length steps))) e)

-- where the first of two lists is at an end, so is what was put together of it
pub seated_all : {D A C L : Type 0} (booths : List (Booth D A C L)) (lanes : List (Lane A C L)) (rooms : List RoomData) (passes : List (PassView Entry)) → rooms ≡ []
    → booths ++ booths_of lanes rooms passes ≡ booths
seated_all booths lanes rooms passes none = ap (λ l. booths ++ booths_of lanes l passes) none ∙ append-nil booths

-- one item more was moved behind others, by what it is there
pub moved_more : {A B : Type 0} (f : A → B) (moved : List B) (one : A) (others all : List A) → all ≡ one ∷ others
    → (moved ++ f one ∷ []) ++ map f others ≡ moved ++ map f all
moved_more f moved one others all e = append_assoc moved (f one ∷ []) (map f others) ∙ sym (ap (λ l. moved ++ map f l) e)

-- all were
pub moved_all : {A B : Type 0} (f : A → B) (moved : List B) (all : List A) → all ≡ [] → moved ++ map f all ≡ moved
moved_all f moved all none = ap (λ l. moved ++ map f l) none ∙ append-nil moved

-- one hand more is at its station
pub hand_more : {D E C W : Type 0} (stations : List (Station D E C W)) (hand : Hand E C W) (hands all_hands : List (Hand E C W)) (bench : BenchData)
    (benches all_benches : List BenchData) (pass : PassView Entry) (passes all_passes : List (PassView Entry)) → all_hands ≡ hand ∷ hands → all_benches ≡ bench ∷ benches
    → all_passes ≡ pass ∷ passes
    → (stations ++ station_of hand bench pass ∷ []) ++ stations_of hands benches passes ≡ stations ++ stations_of all_hands all_benches all_passes
hand_more stations hand hands all_hands bench benches all_benches pass passes all_passes one two three =
    append_assoc stations (station_of hand bench pass ∷ []) (stations_of hands benches passes)
    ∙ sym (ap (λ all. stations ++ stations_of all all_benches all_passes) one ∙ ap (λ all. stations ++ stations_of (hand ∷ hands) all all_passes) two
    ∙ ap (λ all. stations ++ stations_of (hand ∷ hands) (bench ∷ benches) all) three)

-- where the benches are at an end, so are the stations
pub hands_all : {D E C W : Type 0} (stations : List (Station D E C W)) (hands : List (Hand E C W)) (benches : List BenchData) (passes : List (PassView Entry))
    → benches ≡ [] → stations ++ stations_of hands benches passes ≡ stations
hands_all stations hands benches passes none = ap (λ l. stations ++ stations_of hands l passes) none ∙ append-nil stations

-- the item at a place is the first of those from there on, and the last of those up to it
pub turn_one : {A : Type 0} (i : ℕ) (all : List A) (first : A) (rest : List A) → i < length all → drop i all ++ take i all ≡ first ∷ rest
    → rest ++ first ∷ [] ≡ drop (suc i) all ++ take (suc i) all
turn_one i all first rest below e =
    let x = get_or all i first in
    let behind = drop (suc i) all ++ take i all in
    let is : first ∷ rest ≡ x ∷ behind = sym e ∙ ap (λ l. l ++ take i all) (drop-cons all i first below) in
    ap (λ l. drop 1 l ++ first ∷ []) is
    ∙ ap (λ l. behind ++ get_or l 0 first ∷ []) is
    ∙ append_assoc (drop (suc i) all) (take i all) (x ∷ [])
    ∙ ap (λ l. drop (suc i) all ++ l) (sym (take-suc all i first below))
