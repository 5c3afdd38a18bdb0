-- The pass of each number, among those that pass 0 gave to lanes and workers in turn.
use Rattle.std.proofs.Common.{◌≡◌, ◌⊎◌, refl, ap, ◌∙◌, inl, inr, ⊎_elim, ℕ, zero, suc, ◌+◌, ◌<◌, ◌≤◌, List, [], ◌∷◌, ◌++◌, length, map, drop, All, arith}
use Rattle.std.proofs.lemmas.List.Elements.{All-cons, All-head, All-nil, All-tail}
use Rattle.fts_tables.specs.declared.commands.Entry.{Entry}
use Rattle.fts_turnstile.specs.declared.turn.LoggedTurn.{LoggedTurn}
use Rattle.fts_turnstile.specs.History.{OnlyOthersSince}
use Rattle.fts_turnstile.specs.Passes.{PassView, pass_given}
use Rattle.fts_passes.specs.Crews.{AreSeenBy, passes_given}
use Rattle.fts_shop.specs.Many.{Each}
use Rattle.fts_shop.specs.declared.station.Station.{Station}
use Rattle.fts_service.specs.Seats.{booths_of, stations_of}
use Rattle.fts_service.specs.declared.lane.Booth.{Booth}
use Rattle.fts_service.specs.declared.lane.Lane.{Lane}
use Rattle.fts_wire.specs.RoomData.{RoomData}
use Rattle.fts_workers.specs.Benches.{BenchData}
use Rattle.fts_workers.specs.declared.hand.Hand.{Hand}

-- a giver that has given so many already
abbrev pub giver_from : PassView Entry → ℕ → PassView Entry
giver_from giver given = record giver { given = given }

-- a number that isn't below another is it, or above it
or_more : (a b : ℕ) → a ≤ b → (a ≡ b) ⊎ (suc a ≤ b)
or_more zero zero h = inl refl
or_more zero (suc b) h = inr (omega arith)
or_more (suc a) zero h = absurd (omega (arith, h))
or_more (suc a) (suc b) h = ⊎_elim (λ e. inl (ap suc e)) (λ lt. inr (omega (arith, lt))) (or_more a b (omega (arith, h)))

-- the passes given behind the first ones
pub drop_given : (k n more : ℕ) (giver : PassView Entry) (given : ℕ) → n ≡ k + more
    → drop k (passes_given (giver_from giver given) n) ≡ passes_given (giver_from giver (given + k)) more
drop_given zero n more giver given is =
    let same : n ≡ more = omega (arith, is) in
    let from : given ≡ given + 0 = omega arith in
    ap (λ m. passes_given (giver_from giver given) m) same ∙ ap (λ g. passes_given (giver_from giver g) more) from
drop_given (suc k) zero more giver given is = absurd (omega (arith, is))
drop_given (suc k) (suc n) more giver given is =
    let from : suc given + k ≡ given + suc k = omega arith in
    drop_given k n more giver (suc given) (omega (arith, is)) ∙ ap (λ g. passes_given (giver_from giver g) more) from

-- the passes at booths
pub booths_given : (D : Type 0) {A C L : Type 0} (lanes : List (Lane A C L)) (rooms : List RoomData) (giver : PassView Entry) (given count : ℕ) → length rooms ≤ length lanes
    → length rooms ≤ count → map (λ (booth : Booth D A C L). booth.pass) (booths_of lanes rooms (passes_given (giver_from giver given) count))
    ≡ passes_given (giver_from giver given) (length rooms)
booths_given D lanes [] giver given count few least = refl
booths_given D [] (room ∷ rooms) giver given count few least = absurd (omega (arith, few))
booths_given D (lane ∷ lanes) (room ∷ rooms) giver given zero few least = absurd (omega (arith, least))
booths_given D (lane ∷ lanes) (room ∷ rooms) giver given (suc count) few least =
    ap (λ l. pass_given (giver_from giver given) ∷ l) (booths_given D lanes rooms giver (suc given) count (omega (arith, few)) (omega (arith, least)))

-- the passes at stations
pub stations_given : (D : Type 0) {E C W : Type 0} (hands : List (Hand E C W)) (benches : List BenchData) (giver : PassView Entry) (given count : ℕ)
    → length benches ≤ length hands → length benches ≤ count
    → map (λ (station : Station D E C W). station.pass) (stations_of hands benches (passes_given (giver_from giver given) count))
    ≡ passes_given (giver_from giver given) (length benches)
stations_given D hands [] giver given count few least = refl
stations_given D [] (bench ∷ benches) giver given count few least = absurd (omega (arith, few))
stations_given D (hand ∷ hands) (bench ∷ benches) giver given zero few least = absurd (omega (arith, least))
stations_given D (hand ∷ hands) (bench ∷ benches) giver given (suc count) few least =
    ap (λ l. pass_given (giver_from giver given) ∷ l) (stations_given D hands benches giver (suc given) count (omega (arith, few)) (omega (arith, least)))

-- a seat before and behind its thread, by the pass that it was given, and what that has seen of all turns
pub record Seat {S : Type 0} (pass_of : S → PassView Entry) (R : S → S → Type 0) (turns : List (LoggedTurn Entry)) (giver : PassView Entry) (old new : S) : Type 0 where
  pub holds : R old new
  pub given : ℕ
  pub pass : pass_of old ≡ pass_given (giver_from giver given)
  pub since : OnlyOthersSince ((pass_of new).number ∷ []) (pass_of new).seen turns

module _ {S : Type 0} (pass_of : S → PassView Entry) (R : S → S → Type 0) (turns : List (LoggedTurn Entry)) (giver : PassView Entry) where
  -- a seat whose pass has this number
  pub record At (number : ℕ) : Type 0 where
    pub old : S
    pub new : S
    pub seat : Seat pass_of R turns giver old new
    pub is : suc seat.given ≡ number

  pub seat_at : (olds news : List S) (rest : List (PassView Entry)) (given count : ℕ) → map pass_of olds ≡ passes_given (giver_from giver given) count
      → Each R olds news → AreSeenBy turns (map pass_of news ++ rest) → (n : ℕ) → given < n → n ≤ given + count → At n
  seat_at [] news rest given zero is each seen n low high = absurd (omega (arith, low, high))
  seat_at [] news rest given (suc count) is each seen n low high = absurd cc
  seat_at (old ∷ olds) news rest given zero is each seen n low high = absurd (omega (arith, low, high))
  seat_at (old ∷ olds) [] rest given (suc count) is each seen n low high = absurd each
  seat_at (old ∷ olds) (new ∷ news) rest given (suc count) is each seen n low high = ⊎_elim
      (λ e. record {
        old = old;
        new = new;
        seat = record { holds = each.0; given = given; pass = first; since = seen.0 };
        is = e;
      })
      (λ lt. seat_at olds news rest (suc given) count behind each.1 seen.1 n lt (omega (arith, high)))
      (or_more (suc given) n (omega (arith, low)))
    where
      first : pass_of old ≡ pass_given (giver_from giver given)
      first = cc

      behind : map pass_of olds ≡ passes_given (giver_from giver (suc given)) count
      behind = cc

  -- all seats
  pub seats : (olds news : List S) (rest : List (PassView Entry)) (given count : ℕ) → map pass_of olds ≡ passes_given (giver_from giver given) count
      → Each R olds news → AreSeenBy turns (map pass_of news ++ rest) → Each (Seat pass_of R turns giver) olds news
  seats [] [] rest given count is each seen = tt
  seats [] (new ∷ news) rest given count is each seen = absurd each
  seats (old ∷ olds) news rest given zero is each seen = absurd cc
  seats (old ∷ olds) [] rest given (suc count) is each seen = absurd each
  seats (old ∷ olds) (new ∷ news) rest given (suc count) is each seen = (
    record { holds = each.0; given = given; pass = first; since = seen.0 },
    seats olds news rest (suc given) count behind each.1 seen.1,
  )
    where
      first : pass_of old ≡ pass_given (giver_from giver given)
      first = cc

      behind : map pass_of olds ≡ passes_given (giver_from giver (suc given)) count
      behind = cc

-- what follows from each pair
pub each_weaker : {S : Type 0} (R Q : S → S → Type 0) → ((old new : S) → R old new → Q old new) → (olds news : List S) → Each R olds news → Each Q olds news
each_weaker R Q on [] [] each = tt
each_weaker R Q on [] (new ∷ news) each = absurd each
each_weaker R Q on (old ∷ olds) [] each = absurd each
each_weaker R Q on (old ∷ olds) (new ∷ news) each = (on old new each.0, each_weaker R Q on olds news each.1)

-- what holds of each one behind besides
pub each_with : {S : Type 0} (R : S → S → Type 0) (Q : S → Type 0) (olds news : List S) → Each R olds news → All Q news
    → Each (λ old new. R old new × Q new) olds news
each_with R Q [] [] each all = tt
each_with R Q [] (new ∷ news) each all = absurd each
each_with R Q (old ∷ olds) [] each all = absurd each
each_with R Q (old ∷ olds) (new ∷ news) each all = ((each.0, All-head Q new news all), each_with R Q olds news each.1 (All-tail Q new news all))

-- what holds of all, in a weaker form
pub all_weaker : {S : Type 0} (Q P : S → Type 0) → ((item : S) → Q item → P item) → (items : List S) → All Q items → All P items
all_weaker Q P weaker [] all = All-nil P
all_weaker Q P weaker (item ∷ items) all =
    All-cons P item items (weaker item (All-head Q item items all)) (all_weaker Q P weaker items (All-tail Q item items all))

-- the benches of stations are those that they were given
pub each_idle : {D E C W : Type 0} (R : Station D E C W → Station D E C W → Type 0) (hands : List (Hand E C W)) (benches : List BenchData)
    (passes : List (PassView Entry)) (news : List (Station D E C W)) → Each R (stations_of hands benches passes) news → All (λ (b : BenchData). b.held ≡ []) benches
    → Each (λ (old new : Station D E C W). R old new × (old.bench.held ≡ [])) (stations_of hands benches passes) news
each_idle R hands [] passes [] each idle = tt
each_idle R hands [] passes (new ∷ news) each idle = absurd each
each_idle R [] (bench ∷ benches) passes [] each idle = tt
each_idle R [] (bench ∷ benches) passes (new ∷ news) each idle = absurd each
each_idle R (hand ∷ hands) (bench ∷ benches) [] [] each idle = tt
each_idle R (hand ∷ hands) (bench ∷ benches) [] (new ∷ news) each idle = absurd each
each_idle R (hand ∷ hands) (bench ∷ benches) (pass ∷ passes) [] each idle = absurd each
each_idle R (hand ∷ hands) (bench ∷ benches) (pass ∷ passes) (new ∷ news) each idle = (
  (each.0, All-head (λ (b : BenchData). b.held ≡ []) bench benches idle),
  each_idle R hands benches passes news each.1 (All-tail (λ (b : BenchData). b.held ≡ []) bench benches idle),
)

-- passes behind others have seen what they have
pub seen_behind : (turns : List (LoggedTurn Entry)) (passes others : List (PassView Entry)) → AreSeenBy turns (passes ++ others) → AreSeenBy turns others
seen_behind turns [] others seen = seen
seen_behind turns (pass ∷ passes) others seen = seen_behind turns passes others seen.1
