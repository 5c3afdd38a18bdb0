-- Passes of booths and stations, before and behind their threads.
use Rattle.std.proofs.Common.{◌≡◌, ℕ, zero, suc, ◌+◌, ◌≤◌, List, [], ◌∷◌, ◌++◌, length, map, take, drop, All, Option, IfSome, refl, sym, ap, ◌∙◌, subst, arith, length-append}
use Rattle.fts_tables.specs.declared.commands.Entry.{Entry}
use Rattle.fts_turnstile.specs.Passes.{TurnstileView, PassView, IsSame}
use Rattle.std.proofs.lemmas.List.{length-map, length-drop, take_all, take-append-drop}
use Rattle.fts_passes.specs.Crews.{AreOf, passes_given}
use Rattle.fts_wire.specs.RoomData.{RoomData}
use Rattle.fts_workers.specs.Benches.{BenchData}
use Rattle.fts_workers.specs.declared.hand.Hand.{Hand}
use Rattle.fts_shop.specs.Many.{Each}
use Rattle.fts_shop.specs.declared.station.Station.{Station}
use Rattle.fts_service.specs.Halls.{IsBoothReady, IsStationReady}
use Rattle.fts_shop.specs.Turns.{IsReady}
use Rattle.fts_service.specs.Seats.{booths_of, stations_of}
use Rattle.fts_service.proofs.Opened.{written_back}
use Rattle.fts_service.specs.declared.lane.Booth.{Booth}
use Rattle.fts_service.specs.declared.lane.Lane.{Lane}

-- the passes of lanes at booths are the first ones
pub passes_of_booths : (D : Type 0) {A C L : Type 0} (lanes : List (Lane A C L)) (rooms : List RoomData) (passes : List (PassView Entry)) → length rooms ≤ length lanes
    → length rooms ≤ length passes → map (λ (booth : Booth D A C L). booth.pass) (booths_of lanes rooms passes) ≡ take (length rooms) passes
passes_of_booths D lanes [] passes enough more = refl
passes_of_booths D [] (room ∷ rooms) passes enough more = absurd (omega arith)
passes_of_booths D (lane ∷ lanes) (room ∷ rooms) [] enough more = absurd (omega arith)
passes_of_booths D (lane ∷ lanes) (room ∷ rooms) (pass ∷ passes) enough more =
    ap (λ rest. pass ∷ rest) (passes_of_booths D lanes rooms passes (omega arith) (omega arith))

-- and of hands at stations
pub passes_of_stations : (D : Type 0) {E C W : Type 0} (hands : List (Hand E C W)) (benches : List BenchData) (passes : List (PassView Entry)) → length benches ≤ length hands
    → length benches ≤ length passes → map (λ (station : Station D E C W). station.pass) (stations_of hands benches passes) ≡ take (length benches) passes
passes_of_stations D hands [] passes enough more = refl
passes_of_stations D [] (bench ∷ benches) passes enough more = absurd (omega arith)
passes_of_stations D (hand ∷ hands) (bench ∷ benches) [] enough more = absurd (omega arith)
passes_of_stations D (hand ∷ hands) (bench ∷ benches) (pass ∷ passes) enough more =
    ap (λ rest. pass ∷ rest) (passes_of_stations D hands benches passes (omega arith) (omega arith))

-- lanes at booths over passes of the lock may begin
pub booths_ready : {D A C L : Type 0} (lock : TurnstileView Entry) (connections : Option ℕ) (lanes : List (Lane A C L)) (rooms : List RoomData)
    (passes : List (PassView Entry)) → AreOf lock passes → IfSome connections (λ most. 1 ≤ most)
    → All (IsBoothReady lock connections) (booths_of {D = D} {A = A} {C = C} {L = L} lanes rooms passes)
booths_ready lock connections lanes [] passes of some k d below = absurd (omega arith)
booths_ready lock connections [] (room ∷ rooms) passes of some k d below = absurd (omega arith)
booths_ready lock connections (lane ∷ lanes) (room ∷ rooms) [] of some k d below = absurd (omega arith)
booths_ready lock connections (lane ∷ lanes) (room ∷ rooms) (pass ∷ passes) of some zero d below = (of.0, some)
booths_ready {D = D} {A = A} {C = C} {L = L} lock connections (lane ∷ lanes) (room ∷ rooms) (pass ∷ passes) of some (suc k) d below =
    booths_ready {D = D} {A = A} {C = C} {L = L} lock connections lanes rooms passes of.1.1.1 some k d (omega arith)

-- benches that hold nothing
pub benches_left : (bench : BenchData) (benches : List BenchData) → All (λ b. b.held ≡ []) (bench ∷ benches) → All (λ b. b.held ≡ []) benches
benches_left bench benches idle k d below = idle (suc k) d (omega arith)

-- hands at stations over passes of the lock may begin, with benches that hold nothing
pub stations_ready : {D E C W : Type 0} (lock : TurnstileView Entry) (hands : List (Hand E C W)) (benches : List BenchData) (passes : List (PassView Entry))
    → AreOf lock passes → All (λ b. b.held ≡ []) benches → All (IsStationReady lock) (stations_of {D = D} {E = E} {C = C} {W = W} hands benches passes)
stations_ready lock hands [] passes of idle k d below = absurd (omega arith)
stations_ready lock [] (bench ∷ benches) passes of idle k d below = absurd (omega arith)
stations_ready lock (hand ∷ hands) (bench ∷ benches) [] of idle k d below = absurd (omega arith)
stations_ready lock (hand ∷ hands) (bench ∷ benches) (pass ∷ passes) of idle zero d below =
    (of.0, subst IsReady (sym (idle zero bench (omega arith))) tt)
stations_ready {D = D} {E = E} {C = C} {W = W} lock (hand ∷ hands) (bench ∷ benches) (pass ∷ passes) of idle (suc k) d below =
    stations_ready {D = D} {E = E} {C = C} {W = W} lock hands benches passes of.1.1.1 (benches_left bench benches idle) k d (omega arith)

-- passes that are the same, which may have seen more
abbrev pub AreSame : List (PassView Entry) → List (PassView Entry) → Type 0
AreSame [] [] = Unit {0}
AreSame [] (new ∷ news) = ⊥
AreSame (old ∷ olds) [] = ⊥
AreSame (old ∷ olds) (new ∷ news) = IsSame old new × AreSame olds news

-- the passes of pairs of which each is the same pass
pub same_of_each : {A : Type 0} (R : A → A → Type 0) (pass : A → PassView Entry) (olds news : List A) → ((old new : A) → R old new → IsSame (pass old) (pass new))
    → Each R olds news → AreSame (map pass olds) (map pass news)
same_of_each R pass [] [] same each = tt
same_of_each R pass [] (new ∷ news) same each = absurd each
same_of_each R pass (old ∷ olds) [] same each = absurd each
same_of_each R pass (old ∷ olds) (new ∷ news) same each = (same old new each.0, same_of_each R pass olds news same each.1)

-- two lists of them, one behind the other
pub same-append : (olds news more later : List (PassView Entry)) → AreSame olds news → AreSame more later → AreSame (olds ++ more) (news ++ later)
same-append [] [] more later same next = next
same-append [] (new ∷ news) more later same next = absurd same
same-append (old ∷ olds) [] more later same next = absurd same
same-append (old ∷ olds) (new ∷ news) more later same next = (same.0, same-append olds news more later same.1 next)

-- they are of the lock still, and have their numbers
pub of_same : (lock : TurnstileView Entry) (olds news : List (PassView Entry)) → AreSame olds news → AreOf lock olds → AreOf lock news
of_same lock [] [] same of = tt
of_same lock [] (new ∷ news) same of = absurd same
of_same lock (old ∷ olds) [] same of = absurd same
of_same lock (old ∷ olds) (new ∷ news) same of =
    (same.0.0 ∙ of.0, ((λ e. of.1.0 (sym same.0.3 ∙ e)), (same.0.4 ∙ of.1.1.0, of_same lock olds news same.1 of.1.1.1)))

pub numbers_same : (olds news : List (PassView Entry)) → AreSame olds news → map (λ pass. pass.number) news ≡ map (λ pass. pass.number) olds
numbers_same [] [] same = refl
numbers_same [] (new ∷ news) same = absurd same
numbers_same (old ∷ olds) [] same = absurd same
numbers_same (old ∷ olds) (new ∷ news) same =
    ap (λ (n : ℕ). n ∷ map (λ pass. pass.number) news) same.0.3 ∙ ap (λ rest. old.number ∷ rest) (numbers_same olds news same.1)

-- passes of a lock, from a place on
pub of_drop : (lock : TurnstileView Entry) (n : ℕ) (passes : List (PassView Entry)) → AreOf lock passes → AreOf lock (drop n passes)
of_drop lock zero passes of = of
of_drop lock (suc n) [] of = tt
of_drop lock (suc n) (pass ∷ passes) of = of_drop lock n passes of.1.1.1

-- as many passes are given as were asked for
pub given_length : (pass : PassView Entry) (count : ℕ) → length (passes_given pass count) ≡ count
given_length pass zero = refl
given_length pass (suc count) = ap suc (given_length (record pass { given = suc pass.given }) count)

-- as many lanes are at booths as there are rooms
pub booths_length : (D : Type 0) {A C L : Type 0} (lanes : List (Lane A C L)) (rooms : List RoomData) (passes : List (PassView Entry)) → length rooms ≤ length lanes
    → length rooms ≤ length passes → length (booths_of {D = D} lanes rooms passes) ≡ length rooms
booths_length D lanes [] passes enough more = refl
booths_length D [] (room ∷ rooms) passes enough more = absurd (omega arith)
booths_length D (lane ∷ lanes) (room ∷ rooms) [] enough more = absurd (omega arith)
booths_length D (lane ∷ lanes) (room ∷ rooms) (pass ∷ passes) enough more = ap suc (booths_length D lanes rooms passes (omega arith) (omega arith))

-- and as many hands at stations as there are benches
pub stations_length : (D : Type 0) {E C W : Type 0} (hands : List (Hand E C W)) (benches : List BenchData) (passes : List (PassView Entry)) → length benches ≤ length hands
    → length benches ≤ length passes → length (stations_of {D = D} hands benches passes) ≡ length benches
stations_length D hands [] passes enough more = refl
stations_length D [] (bench ∷ benches) passes enough more = absurd (omega arith)
stations_length D (hand ∷ hands) (bench ∷ benches) [] enough more = absurd (omega arith)
stations_length D (hand ∷ hands) (bench ∷ benches) (pass ∷ passes) enough more =
    ap suc (stations_length D hands benches passes (omega arith) (omega arith))

-- what was done to each leaves as many
pub each_length : {A : Type 0} (R : A → A → Type 0) (olds news : List A) → Each R olds news → length news ≡ length olds
each_length R [] [] each = refl
each_length R [] (new ∷ news) each = absurd each
each_length R (old ∷ olds) [] each = absurd each
each_length R (old ∷ olds) (new ∷ news) each = ap suc (each_length R olds news each.1)

-- what was done to each of a whole list stands once it is written back
pub each_back : {A : Type 0} (R : A → A → Type 0) (n : ℕ) (seen olds news : List A) → Each R seen news → seen ≡ olds → n ≡ length olds
    → Each R olds (take n (news ++ drop (length news) olds))
each_back R n seen olds news each same all =
    subst (Each R olds) (sym (written_back n olds news (each_length R seen news each ∙ ap length same) all)) (subst (λ l. Each R l news) same each)

-- behind their threads there are as many booths as rooms, and as many stations as benches
pub seated_counts : (D : Type 0) {A E C W L : Type 0} (Served : Booth D A C L → Booth D A C L → Type 0) (Worked : Station D E C W → Station D E C W → Type 0)
    (lanes : List (Lane A C L)) (rooms : List RoomData) (hands : List (Hand E C W)) (benches : List BenchData) (passes : List (PassView Entry))
    (booths booths_left : List (Booth D A C L)) (stations stations_left : List (Station D E C W))
    → Each Served booths booths_left → booths ≡ booths_of lanes rooms passes
    → Each Worked stations stations_left → stations ≡ stations_of hands benches (drop (length rooms) passes)
    → length rooms ≤ length lanes → length benches ≤ length hands → length passes ≡ length rooms + length benches
    → (length booths_left ≡ length rooms) × (length stations_left ≡ length benches)
seated_counts D Served Worked lanes rooms hands benches passes booths booths_left stations stations_left served seated worked stationed enough_lanes enough_hands many = (
  each_length Served booths booths_left served ∙ ap length seated ∙ booths_length D lanes rooms passes enough_lanes (omega (arith, many)),
  each_length Worked stations stations_left worked ∙ ap length stationed
      ∙ stations_length D hands benches (drop (length rooms) passes) enough_hands (omega (arith, many, length-drop (length rooms) passes)),
)

-- the passes of booths and stations, in order, are all that there are
pub seats_passes : (D : Type 0) {A E C W L : Type 0} (lanes : List (Lane A C L)) (rooms : List RoomData) (hands : List (Hand E C W)) (benches : List BenchData)
    (passes : List (PassView Entry)) → length rooms ≤ length lanes → length benches ≤ length hands → length passes ≡ length rooms + length benches
    → map (λ (booth : Booth D A C L). booth.pass) (booths_of lanes rooms passes)
    ++ map (λ (station : Station D E C W). station.pass) (stations_of hands benches (drop (length rooms) passes)) ≡ passes
seats_passes D lanes rooms hands benches passes lanes_enough hands_enough all =
    let rest = drop (length rooms) passes in
    let left : length rest ≡ length benches = length-drop (length rooms) passes ∙ omega (arith, all) in
    let behind = stations_of hands benches rest in
    ap (λ l. l ++ map (λ station. station.pass) behind) (passes_of_booths D lanes rooms passes lanes_enough (omega (arith, all)))
    ∙ ap (λ l. take (length rooms) passes ++ l)
    (passes_of_stations D hands benches rest hands_enough (omega (arith, left)) ∙ take_all (length benches) rest (omega (arith, left)))
    ∙ take-append-drop (length rooms) passes

-- what stands behind these
behind_first : {A : Type 0} (first others : List A) → drop (length first) (first ++ others) ≡ others
behind_first [] others = refl
behind_first (x ∷ first) others = behind_first first others

the_first : {A : Type 0} (first others : List A) → take (length first) (first ++ others) ≡ first
the_first [] others = refl
the_first (x ∷ first) others = ap (λ l. x ∷ l) (the_first first others)

-- the first items were moved behind the others
pub cycled : {A : Type 0} (n : ℕ) (first others all now : List A) → n ≡ length first → all ≡ first ++ others → now ≡ drop n all ++ take n all → now ≡ others ++ first
cycled n first others all now e f g = g ∙ ap (λ l. drop n l ++ take n l) f ∙ ap (λ k. drop k (first ++ others) ++ take k (first ++ others)) e
    ∙ ap (λ l. l ++ take (length first) (first ++ others)) (behind_first first others) ∙ ap (λ l. others ++ l) (the_first first others)

-- what is so of each pair is so of each where the first ones are called otherwise
pub each_along : {A : Type 0} (R : A → A → Type 0) (olds others news : List A) → olds ≡ others → Each R olds news → Each R others news
each_along R olds others news e each = subst (λ l. Each R l news) e each

-- there are as many lanes or hands as before, where those at their seats stand before those that were not used
pub as_many : {A B : Type 0} (f : B → A) (seats : List B) (n : ℕ) (olds news : List A) → length seats ≡ n → n ≤ length olds → news ≡ map f seats ++ drop n olds
    → length news ≡ length olds
as_many f seats n olds news many enough are =
    omega (arith, many, enough, ap length are, length-append (map f seats) (drop n olds), length-map seats f, length-drop n olds)
