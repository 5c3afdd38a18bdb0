-- The places at each rank, where those at one change.
use Rattle.std.proofs.Common.{◌≡◌, ◌≢◌, ℕ, ◌<◌, ◌≤◌, Bool, true, false, List, [], ◌∷◌, ◌++◌, length, set, Some, refl, ap, sym, ◌∙◌, subst, arith}
use Rattle.std.specs.Prelude.{◌==◌, nat_lt, slice_get}
use Rattle.std.proofs.lemmas.Bool.{eqb-true, eq-eqb, ne_eqb}
use Rattle.ordered.specs.Orders.{KeySet, put_by, without, has_key}
use Rattle.fts_desk.specs.JobLists.{rank, places_of, places_at, with_keys, ArePlacesOf, HaveRooms}
use Rattle.fts_desk.specs.declared.job_states.Progress.{Progress}
use Rattle.fts_desk.proofs.JobPlaces.{places_stay, place_put, place_taken, place_there, place_added, places_with, absent_behind, few_places, fewer_places}

-- what holds of what changed at a rank and of all else before the change holds of all behind it
pub by_place : (old new : List (KeySet ℕ)) (at : ℕ) (changed : KeySet ℕ) → places_at new at ≡ changed
    → ((other : ℕ) → other ≢ at → places_at new other ≡ places_at old other) → (Holds : ℕ → KeySet ℕ → Type 0) → Holds at changed
    → ((other : ℕ) → other ≢ at → Holds other (places_at old other)) → (other : ℕ) → Holds other (places_at new other)
by_place old new at changed here others Holds there elsewhere other = by_test (other == at) refl
  where
    by_test : (answer : Bool) → (other == at) ≡ answer → Holds other (places_at new other)
    by_test true is = subst (λ some. Holds some (places_at new some)) (sym (eqb-true other at is)) (subst (Holds at) (sym here) there)
    by_test false is =
        let apart : other ≢ at = λ same. clash (sym (eq-eqb other at same) ∙ is) in
        subst (Holds other) (sym (others other apart)) (elsewhere other apart)
      where
        clash : true ≡ false → ⊥
        clash same = cc

-- a place may come in among those at a rank: it isn't there, and there is room for it
pub record MayComeIn (place : ℕ) (set : KeySet ℕ) : Type 0 where
  pub absent : has_key nat_lt place set.keys ≡ false
  pub room : length set.keys < set.room

-- a job that goes from one state to another
module _ (jobs : List Progress) (place : ℕ) (was now : Progress) (from to room : ℕ) (there : slice_get jobs place ≡ Some was)
    (from_is : from ≡ rank was.state) (to_is : to ≡ rank now.state) (from_in : from < 6) (to_in : to < 6) (apart : from ≢ to)
    (old : List (KeySet ℕ)) (kept : ArePlacesOf jobs old) (rooms : HaveRooms room old) (few : length jobs ≤ room) where
  -- its place is there
  pub may_take : has_key nat_lt place (places_at old from).keys ≡ true
  may_take =
      ap (has_key nat_lt place) (kept from from_in)
      ∙ (place_there from jobs 0 place place was (omega arith) there ∙ eq-eqb (rank was.state) from (sym from_is))

  module _ (taken : List (KeySet ℕ)) (taken_here : places_at taken from ≡ with_keys (without nat_lt place (places_at old from).keys) (places_at old from))
      (taken_others : (other : ℕ) → other ≢ from → places_at taken other ≡ places_at old other) where
    -- what the places of its new state still are
    still : places_at taken to ≡ places_at old to
    still = taken_others to (λ same. apart (sym same))

    -- its place may come in there
    pub may_put : MayComeIn place (places_at taken to)
    may_put =
        let differs = ne_eqb (rank was.state) to (λ same. apart (from_is ∙ same)) in
        subst (MayComeIn place) (sym still) (record {
          absent = ap (has_key nat_lt place) (kept to to_in) ∙ (place_there to jobs 0 place place was (omega arith) there ∙ differs);
          room = omega (arith, rooms to to_in, few, ap length (kept to to_in), fewer_places to jobs 0 place was there differs);
        })

    module _ (put : List (KeySet ℕ)) (put_here : places_at put to ≡ with_keys (put_by nat_lt place (places_at taken to).keys) (places_at taken to))
        (put_others : (other : ℕ) → other ≢ to → places_at put other ≡ places_at taken other) where
      -- the places are those of the jobs again
      pub places_moved : ArePlacesOf (set jobs place now) put
      places_moved =
          by_place taken put to (with_keys (put_by nat_lt place (places_at taken to).keys) (places_at taken to)) put_here put_others
          (λ at some. at < 6 → some.keys ≡ places_of at 0 (set jobs place now))
          (λ inside. ap (λ (set : KeySet ℕ). put_by nat_lt place set.keys) still
          ∙ (ap (put_by nat_lt place) (kept to to_in)
          ∙ place_put to jobs 0 place place was now (omega arith) there (ne_eqb (rank was.state) to (λ same. apart (from_is ∙ same)))
          (eq-eqb (rank now.state) to (sym to_is))))
          (λ other not_to. by_place old taken from (with_keys (without nat_lt place (places_at old from).keys) (places_at old from)) taken_here taken_others
          (λ at some. at ≢ to → at < 6 → some.keys ≡ places_of at 0 (set jobs place now))
          (λ not_from inside. ap (without nat_lt place) (kept from from_in)
          ∙ place_taken from jobs 0 place place was now (omega arith) there
          (ne_eqb (rank now.state) from (λ same. apart (sym (to_is ∙ same)))))
          (λ at not_from away inside. kept at inside
          ∙ sym (places_stay at jobs 0 place was now there
          (ne_eqb (rank was.state) at (λ same. not_from (sym same ∙ sym from_is))
          ∙ sym (ne_eqb (rank now.state) at (λ same. away (sym same ∙ sym to_is))))))
          other not_to)

      -- and so are the rooms
      pub rooms_moved : HaveRooms room put
      rooms_moved =
          by_place taken put to (with_keys (put_by nat_lt place (places_at taken to).keys) (places_at taken to)) put_here put_others
          (λ at some. at < 6 → room ≤ some.room)
          (λ inside. subst (λ (set : KeySet ℕ). room ≤ set.room) (sym still) (rooms to to_in))
          (λ other not_to. by_place old taken from (with_keys (without nat_lt place (places_at old from).keys) (places_at old from)) taken_here taken_others
          (λ at some. at < 6 → room ≤ some.room) (λ inside. rooms from from_in) (λ at not_from inside. rooms at inside) other)

-- a job that stays in its state
pub places_same : (jobs : List Progress) (place : ℕ) (was now : Progress) (sets : List (KeySet ℕ)) → slice_get jobs place ≡ Some was
    → rank was.state ≡ rank now.state → ArePlacesOf jobs sets → ArePlacesOf (set jobs place now) sets
places_same jobs place was now sets there same kept at inside =
    kept at inside ∙ sym (places_stay at jobs 0 place was now there (ap (λ state. state == at) same))

-- a job that comes in behind the others
module _ (jobs : List Progress) (job : Progress) (place to room : ℕ) (is : place ≡ length jobs) (to_is : to ≡ rank job.state) (to_in : to < 6)
    (old : List (KeySet ℕ)) (kept : ArePlacesOf jobs old) (rooms : HaveRooms room old) (few : length jobs < room) where
  -- its place may come in
  pub may_add : MayComeIn place (places_at old to)
  may_add = record {
    absent = ap (has_key nat_lt place) (kept to to_in) ∙ absent_behind to jobs 0 place (omega (arith, is));
    room = omega (arith, rooms to to_in, few, ap length (kept to to_in), few_places to jobs 0);
  }

  module _ (put : List (KeySet ℕ)) (put_here : places_at put to ≡ with_keys (put_by nat_lt place (places_at old to).keys) (places_at old to))
      (put_others : (other : ℕ) → other ≢ to → places_at put other ≡ places_at old other) where
    -- the places are those of the jobs with it
    pub places_more : ArePlacesOf (jobs ++ job ∷ []) put
    places_more =
        by_place old put to (with_keys (put_by nat_lt place (places_at old to).keys) (places_at old to)) put_here put_others
        (λ at some. at < 6 → some.keys ≡ places_of at 0 (jobs ++ job ∷ []))
        (λ inside. ap (put_by nat_lt place) (kept to to_in)
        ∙ place_added to jobs 0 place job (omega (arith, is)) (eq-eqb (rank job.state) to (sym to_is)))
        (λ other not_to inside. kept other inside
        ∙ sym (places_with other jobs 0 job (ne_eqb (rank job.state) other (λ same. not_to (sym same ∙ sym to_is)))))

    pub rooms_more : HaveRooms room put
    rooms_more =
        by_place old put to (with_keys (put_by nat_lt place (places_at old to).keys) (places_at old to)) put_here put_others
        (λ at some. at < 6 → room ≤ some.room) (λ inside. rooms to to_in) (λ other not_to inside. rooms other inside)
