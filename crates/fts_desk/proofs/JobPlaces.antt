-- The places of the jobs in a state, where a job comes in, goes or stays, and which is found first from a place on.
use Rattle.std.proofs.Common.{◌≡◌, ℕ, zero, suc, ◌+◌, ◌<◌, ◌≤◌, Bool, true, false, cond, List, [], ◌∷◌, ◌++◌, length, drop, set, Option, Some, None, refl, ap, sym, ◌∙◌, arith, add-one}
use Rattle.std.specs.Prelude.{not, ◌&&◌, ◌||◌, ◌==◌, nat_lt, min, count_by, slice_get, slice_index_or}
use Rattle.std.specs.List.{position_from}
use Rattle.std.proofs.lemmas.Bool.Decides.{nat_tests}
use Rattle.std.proofs.lemmas.Bool.{eqb-true}
use Rattle.std.proofs.lemmas.Option.{same_Some}
use Rattle.std.proofs.lemmas.List.Sums.{sum_by-cons}
use Rattle.ordered.specs.Orders.{differs, put_by, without, has_key, first_from}
use Rattle.fts_tables.specs.declared.rows.JobState.{JobState}
use Rattle.fts_tables.specs.declared.rows.JobState.TheVariants.{Submitted, Active, Finished, FinishedDirty, Failed, Canceled}
use Rattle.fts_desk.specs.JobLists.{rank, is_among, is_at, places_of, least_of}
use Rattle.fts_desk.specs.declared.job_states.Progress.{Progress}

-- a lesser number stands first, and no other does
lt : (one other : ℕ) → one < other → nat_lt one other ≡ true
lt one other is = grind (arith, nat_tests)

not_lt : (one other : ℕ) → other ≤ one → nat_lt one other ≡ false
not_lt one other is = grind (arith, nat_tests)

-- a lesser and a greater number differ from one between, and no number from itself
less_differs : (one other : ℕ) → one < other → differs nat_lt one other ≡ true
less_differs one other is = ap (λ answer. answer || nat_lt other one) (lt one other is)

more_differs : (one other : ℕ) → other < one → differs nat_lt one other ≡ true
more_differs one other is =
    ap (λ answer. answer || nat_lt other one) (not_lt one other (omega (arith, is))) ∙ lt other one is

same_number : (one other : ℕ) → one ≡ other → differs nat_lt one other ≡ false
same_number one other is =
    ap (λ answer. answer || nat_lt other one) (not_lt one other (omega (arith, is))) ∙ not_lt other one (omega (arith, is))

module _ (at : ℕ) where
  -- a job that stays in a state, or out of it, leaves the places
  pub places_stay : (jobs : List Progress) (base place : ℕ) (was now : Progress) → slice_get jobs place ≡ Some was → is_at at was ≡ is_at at now
      → places_of at base (set jobs place now) ≡ places_of at base jobs
  places_stay [] base place was now there alike = cc
  places_stay (job ∷ jobs) base zero was now there alike =
      ap (λ answer. cond answer (base ∷ places_of at (suc base) jobs) (places_of at (suc base) jobs))
      (sym alike ∙ ap (is_at at) (sym (same_Some job was there)))
  places_stay (job ∷ jobs) base (suc place) was now there alike =
      ap (λ rest. cond (is_at at job) (base ∷ rest) rest) (places_stay jobs (suc base) place was now there alike)

  -- in front of all places a key isn't there, is put first, and without it they are the same
  absent_before : (jobs : List Progress) (base key : ℕ) → key < base → has_key nat_lt key (places_of at base jobs) ≡ false
  absent_before [] base key less = refl
  absent_before (job ∷ jobs) base key less = by_head (is_at at job) (absent_before jobs (suc base) key (omega (arith, less)))
    where
      by_head : (answer : Bool) → has_key nat_lt key (places_of at (suc base) jobs) ≡ false
          → has_key nat_lt key (cond answer (base ∷ places_of at (suc base) jobs) (places_of at (suc base) jobs)) ≡ false
      by_head true behind = ap (λ answer. not answer || has_key nat_lt key (places_of at (suc base) jobs)) (more_differs base key less) ∙ behind
      by_head false behind = behind

  put_before : (jobs : List Progress) (base key : ℕ) → key < base → put_by nat_lt key (places_of at base jobs) ≡ key ∷ places_of at base jobs
  put_before [] base key less = refl
  put_before (job ∷ jobs) base key less = by_head (is_at at job) (put_before jobs (suc base) key (omega (arith, less)))
    where
      by_head : (answer : Bool) → put_by nat_lt key (places_of at (suc base) jobs) ≡ key ∷ places_of at (suc base) jobs
          → put_by nat_lt key (cond answer (base ∷ places_of at (suc base) jobs) (places_of at (suc base) jobs))
          ≡ key ∷ cond answer (base ∷ places_of at (suc base) jobs) (places_of at (suc base) jobs)
      by_head true behind =
          ap (λ answer. cond answer (key ∷ base ∷ places_of at (suc base) jobs) (base ∷ put_by nat_lt key (places_of at (suc base) jobs))) (lt key base less)
      by_head false behind = behind

  without_before : (jobs : List Progress) (base key : ℕ) → key < base → without nat_lt key (places_of at base jobs) ≡ places_of at base jobs
  without_before [] base key less = refl
  without_before (job ∷ jobs) base key less = by_head (is_at at job) (without_before jobs (suc base) key (omega (arith, less)))
    where
      by_head : (answer : Bool) → without nat_lt key (places_of at (suc base) jobs) ≡ places_of at (suc base) jobs
          → without nat_lt key (cond answer (base ∷ places_of at (suc base) jobs) (places_of at (suc base) jobs))
          ≡ cond answer (base ∷ places_of at (suc base) jobs) (places_of at (suc base) jobs)
      by_head true behind =
          ap (λ answer. cond answer (base ∷ without nat_lt key (places_of at (suc base) jobs)) (without nat_lt key (places_of at (suc base) jobs)))
          (more_differs base key less)
          ∙ ap (λ rest. base ∷ rest) behind
      by_head false behind = behind

  -- a job that comes into a state
  pub place_put : (jobs : List Progress) (base place key : ℕ) (was now : Progress) → key ≡ base + place → slice_get jobs place ≡ Some was
      → is_at at was ≡ false → is_at at now ≡ true → put_by nat_lt key (places_of at base jobs) ≡ places_of at base (set jobs place now)
  place_put [] base place key was now is there out in_now = cc
  place_put (job ∷ jobs) base zero key was now is there out in_now =
      let gone : is_at at job ≡ false = ap (is_at at) (same_Some job was there) ∙ out in
      let here : key ≡ base = omega (arith, is) in
      ap (λ answer. put_by nat_lt key (cond answer (base ∷ places_of at (suc base) jobs) (places_of at (suc base) jobs))) gone
      ∙ (put_before jobs (suc base) key (omega (arith, is))
      ∙ (ap (λ head. head ∷ places_of at (suc base) jobs) here
      ∙ ap (λ answer. cond answer (base ∷ places_of at (suc base) jobs) (places_of at (suc base) jobs)) (sym in_now)))
  place_put (job ∷ jobs) base (suc place) key was now is there out in_now =
      by_head (is_at at job) (place_put jobs (suc base) place key was now (omega (arith, is)) there out in_now)
    where
      by_head : (answer : Bool) → put_by nat_lt key (places_of at (suc base) jobs) ≡ places_of at (suc base) (set jobs place now)
          → put_by nat_lt key (cond answer (base ∷ places_of at (suc base) jobs) (places_of at (suc base) jobs))
          ≡ cond answer (base ∷ places_of at (suc base) (set jobs place now)) (places_of at (suc base) (set jobs place now))
      by_head true behind =
          ap (λ answer. cond answer (key ∷ base ∷ places_of at (suc base) jobs) (base ∷ put_by nat_lt key (places_of at (suc base) jobs)))
          (not_lt key base (omega (arith, is)))
          ∙ ap (λ rest. base ∷ rest) behind
      by_head false behind = behind

  -- a job that leaves a state
  pub place_taken : (jobs : List Progress) (base place key : ℕ) (was now : Progress) → key ≡ base + place → slice_get jobs place ≡ Some was
      → is_at at now ≡ false → without nat_lt key (places_of at base jobs) ≡ places_of at base (set jobs place now)
  place_taken [] base place key was now is there out = cc
  place_taken (job ∷ jobs) base zero key was now is there out =
      by_head (is_at at job) (without_before jobs (suc base) key (omega (arith, is)))
      ∙ ap (λ answer. cond answer (base ∷ places_of at (suc base) jobs) (places_of at (suc base) jobs)) (sym out)
    where
      by_head : (answer : Bool) → without nat_lt key (places_of at (suc base) jobs) ≡ places_of at (suc base) jobs
          → without nat_lt key (cond answer (base ∷ places_of at (suc base) jobs) (places_of at (suc base) jobs)) ≡ places_of at (suc base) jobs
      by_head true behind =
          ap (λ answer. cond answer (base ∷ without nat_lt key (places_of at (suc base) jobs)) (without nat_lt key (places_of at (suc base) jobs)))
          (same_number base key (omega (arith, is)))
          ∙ behind
      by_head false behind = behind
  place_taken (job ∷ jobs) base (suc place) key was now is there out =
      by_head (is_at at job) (place_taken jobs (suc base) place key was now (omega (arith, is)) there out)
    where
      by_head : (answer : Bool) → without nat_lt key (places_of at (suc base) jobs) ≡ places_of at (suc base) (set jobs place now)
          → without nat_lt key (cond answer (base ∷ places_of at (suc base) jobs) (places_of at (suc base) jobs))
          ≡ cond answer (base ∷ places_of at (suc base) (set jobs place now)) (places_of at (suc base) (set jobs place now))
      by_head true behind =
          ap (λ answer. cond answer (base ∷ without nat_lt key (places_of at (suc base) jobs)) (without nat_lt key (places_of at (suc base) jobs)))
          (less_differs base key (omega (arith, is)))
          ∙ ap (λ rest. base ∷ rest) behind
      by_head false behind = behind

  -- a job stands among the places of its state, and among no others
  pub place_there : (jobs : List Progress) (base place key : ℕ) (was : Progress) → key ≡ base + place → slice_get jobs place ≡ Some was
      → has_key nat_lt key (places_of at base jobs) ≡ is_at at was
  place_there [] base place key was is there = cc
  place_there (job ∷ jobs) base zero key was is there =
      by_head (is_at at job) (absent_before jobs (suc base) key (omega (arith, is))) ∙ ap (is_at at) (same_Some job was there)
    where
      by_head : (answer : Bool) → has_key nat_lt key (places_of at (suc base) jobs) ≡ false
          → has_key nat_lt key (cond answer (base ∷ places_of at (suc base) jobs) (places_of at (suc base) jobs)) ≡ answer
      by_head true behind = ap (λ answer. not answer || has_key nat_lt key (places_of at (suc base) jobs)) (same_number base key (omega (arith, is)))
      by_head false behind = behind
  place_there (job ∷ jobs) base (suc place) key was is there =
      by_head (is_at at job) (place_there jobs (suc base) place key was (omega (arith, is)) there)
    where
      by_head : (answer : Bool) → has_key nat_lt key (places_of at (suc base) jobs) ≡ is_at at was
          → has_key nat_lt key (cond answer (base ∷ places_of at (suc base) jobs) (places_of at (suc base) jobs)) ≡ is_at at was
      by_head true behind =
          ap (λ answer. not answer || has_key nat_lt key (places_of at (suc base) jobs)) (less_differs base key (omega (arith, is))) ∙ behind
      by_head false behind = behind

  -- a place behind all isn't there
  pub absent_behind : (jobs : List Progress) (base key : ℕ) → base + length jobs ≤ key → has_key nat_lt key (places_of at base jobs) ≡ false
  absent_behind [] base key past = refl
  absent_behind (job ∷ jobs) base key past = by_head (is_at at job) (absent_behind jobs (suc base) key (omega (arith, past)))
    where
      by_head : (answer : Bool) → has_key nat_lt key (places_of at (suc base) jobs) ≡ false
          → has_key nat_lt key (cond answer (base ∷ places_of at (suc base) jobs) (places_of at (suc base) jobs)) ≡ false
      by_head true behind =
          ap (λ answer. not answer || has_key nat_lt key (places_of at (suc base) jobs)) (less_differs base key (omega (arith, past))) ∙ behind
      by_head false behind = behind

  -- a job more behind the others, in the state
  pub place_added : (jobs : List Progress) (base key : ℕ) (job : Progress) → key ≡ base + length jobs → is_at at job ≡ true
      → put_by nat_lt key (places_of at base jobs) ≡ places_of at base (jobs ++ job ∷ [])
  place_added [] base key job is in_now =
      let here : key ≡ base = omega (arith, is) in
      ap (λ head. head ∷ []) here ∙ ap (λ answer. cond answer (base ∷ []) []) (sym in_now)
  place_added (first ∷ jobs) base key job is in_now =
      by_head (is_at at first) (place_added jobs (suc base) key job (omega (arith, is)) in_now)
    where
      by_head : (answer : Bool) → put_by nat_lt key (places_of at (suc base) jobs) ≡ places_of at (suc base) (jobs ++ job ∷ [])
          → put_by nat_lt key (cond answer (base ∷ places_of at (suc base) jobs) (places_of at (suc base) jobs))
          ≡ cond answer (base ∷ places_of at (suc base) (jobs ++ job ∷ [])) (places_of at (suc base) (jobs ++ job ∷ []))
      by_head true behind =
          ap (λ answer. cond answer (key ∷ base ∷ places_of at (suc base) jobs) (base ∷ put_by nat_lt key (places_of at (suc base) jobs)))
          (not_lt key base (omega (arith, is)))
          ∙ ap (λ rest. base ∷ rest) behind
      by_head false behind = behind

  -- and in another one
  pub places_with : (jobs : List Progress) (base : ℕ) (job : Progress) → is_at at job ≡ false
      → places_of at base (jobs ++ job ∷ []) ≡ places_of at base jobs
  places_with [] base job out = ap (λ answer. cond answer (base ∷ []) []) out
  places_with (first ∷ jobs) base job out = ap (λ rest. cond (is_at at first) (base ∷ rest) rest) (places_with jobs (suc base) job out)

  -- there are as many places as jobs in the state
  pub places_counted : (jobs : List Progress) (base : ℕ) → length (places_of at base jobs) ≡ count_by (is_at at) jobs
  places_counted [] base = refl
  places_counted (job ∷ jobs) base =
      by_head (is_at at job) (places_counted jobs (suc base)) ∙ sym (sum_by-cons (λ other. cond (is_at at other) 1 0) job jobs)
    where
      by_head : (answer : Bool) → length (places_of at (suc base) jobs) ≡ count_by (is_at at) jobs
          → length (cond answer (base ∷ places_of at (suc base) jobs) (places_of at (suc base) jobs)) ≡ cond answer 1 0 + count_by (is_at at) jobs
      by_head true behind = omega (arith, behind)
      by_head false behind = omega (arith, behind)

  -- no more than jobs
  pub few_places : (jobs : List Progress) (base : ℕ) → length (places_of at base jobs) ≤ length jobs
  few_places [] base = omega arith
  few_places (job ∷ jobs) base = by_head (is_at at job) (few_places jobs (suc base))
    where
      by_head : (answer : Bool) → length (places_of at (suc base) jobs) ≤ length jobs
          → length (cond answer (base ∷ places_of at (suc base) jobs) (places_of at (suc base) jobs)) ≤ suc (length jobs)
      by_head true behind = omega (arith, behind)
      by_head false behind = omega (arith, behind)

  -- and fewer where a job is in another state
  pub fewer_places : (jobs : List Progress) (base place : ℕ) (was : Progress) → slice_get jobs place ≡ Some was → is_at at was ≡ false
      → length (places_of at base jobs) < length jobs
  fewer_places [] base place was there out = cc
  fewer_places (job ∷ jobs) base zero was there out =
      let gone : is_at at job ≡ false = ap (is_at at) (same_Some job was there) ∙ out in
      let same : length (places_of at base (job ∷ jobs)) ≡ length (places_of at (suc base) jobs) =
      ap (λ answer. length (cond answer (base ∷ places_of at (suc base) jobs) (places_of at (suc base) jobs))) gone in
      omega (arith, same, few_places jobs (suc base))
  fewer_places (job ∷ jobs) base (suc place) was there out = by_head (is_at at job) (fewer_places jobs (suc base) place was there out)
    where
      by_head : (answer : Bool) → length (places_of at (suc base) jobs) < length jobs
          → length (cond answer (base ∷ places_of at (suc base) jobs) (places_of at (suc base) jobs)) < suc (length jobs)
      by_head true behind = omega (arith, behind)
      by_head false behind = omega (arith, behind)

  -- the first place that is not before one, where none is
  first_of_all : (jobs : List Progress) (base from : ℕ) → from ≤ base
      → first_from nat_lt from (places_of at base jobs) ≡ position_from (is_at at) base jobs
  first_of_all [] base from less = refl
  first_of_all (job ∷ jobs) base from less =
      by_head (is_at at job) (first_of_all jobs (suc base) from (omega (arith, less)) ∙ ap (λ next. position_from (is_at at) next jobs) (sym (add-one base)))
    where
      by_head : (answer : Bool) → first_from nat_lt from (places_of at (suc base) jobs) ≡ position_from (is_at at) (base + 1) jobs
          → first_from nat_lt from (cond answer (base ∷ places_of at (suc base) jobs) (places_of at (suc base) jobs))
          ≡ cond answer (Some base) (position_from (is_at at) (base + 1) jobs)
      by_head true behind =
          ap (λ answer. cond (not answer) (Some base) (first_from nat_lt from (places_of at (suc base) jobs))) (not_lt base from less)
      by_head false behind = behind

  -- the first place from one on is that of the first job there that is in the state
  pub first_place : (jobs : List Progress) (base behind from : ℕ) → from ≡ base + behind
      → first_from nat_lt from (places_of at base jobs) ≡ position_from (is_at at) from (drop behind jobs)
  first_place jobs base zero from is =
      first_of_all jobs base from (omega (arith, is)) ∙ ap (λ next. position_from (is_at at) next jobs) (omega (arith, is))
  first_place [] base (suc behind) from is = refl
  first_place (job ∷ jobs) base (suc behind) from is = by_head (is_at at job) (first_place jobs (suc base) behind from (omega (arith, is)))
    where
      by_head : (answer : Bool) → first_from nat_lt from (places_of at (suc base) jobs) ≡ position_from (is_at at) from (drop behind jobs)
          → first_from nat_lt from (cond answer (base ∷ places_of at (suc base) jobs) (places_of at (suc base) jobs))
          ≡ position_from (is_at at) from (drop behind jobs)
      by_head true later =
          ap (λ answer. cond (not answer) (Some base) (first_from nat_lt from (places_of at (suc base) jobs))) (lt base from (omega (arith, is))) ∙ later
      by_head false later = later

-- where two tests agree they find the same
pub same_position : {Item : Type 0} (one other : Item → Bool) → ((item : Item) → one item ≡ other item) → (from : ℕ) (items : List Item)
    → position_from one from items ≡ position_from other from items
same_position one other agree from [] = refl
same_position one other agree from (item ∷ items) =
    ap (λ answer. cond answer (Some from) (position_from one (from + 1) items)) (agree item)
    ∙ ap (λ rest. cond (other item) (Some from) rest) (same_position one other agree (from + 1) items)

-- the lesser of a place and one that is found behind it
least_here : {Item : Type 0} (test : Item → Bool) (here from : ℕ) (items : List Item) → here ≤ from
    → least_of (Some here) (position_from test from items) ≡ Some here
least_here test here from [] less = refl
least_here test here from (item ∷ items) less = by_head (test item) (least_here test here (from + 1) items (omega (arith, less)))
  where
    by_head : (answer : Bool) → least_of (Some here) (position_from test (from + 1) items) ≡ Some here
        → least_of (Some here) (cond answer (Some from) (position_from test (from + 1) items)) ≡ Some here
    by_head true behind = ap Some (min_first here from less)
      where
        min_first : (one other : ℕ) → one ≤ other → min one other ≡ one
        min_first one other is = omega (arith, is)
    by_head false behind = behind

-- least_of doesn't mind the order
least_swap : (one other : Option ℕ) → least_of one other ≡ least_of other one
least_swap None None = refl
least_swap None (Some other) = refl
least_swap (Some one) None = refl
least_swap (Some one) (Some other) = ap Some (swapped one other)
  where
    swapped : (one other : ℕ) → min one other ≡ min other one
    swapped one other = omega arith

-- what passes one of two tests is found first where the first of either is
pub either_position : {Item : Type 0} (one other : Item → Bool) (from : ℕ) (items : List Item)
    → least_of (position_from one from items) (position_from other from items) ≡ position_from (λ item. one item || other item) from items
either_position one other from [] = refl
either_position one other from (item ∷ items) =
    by_head (one item) (other item) (either_position one other (from + 1) items)
  where
    by_head : (first second : Bool)
        → least_of (position_from one (from + 1) items) (position_from other (from + 1) items) ≡ position_from (λ item. one item || other item) (from + 1) items
        → least_of (cond first (Some from) (position_from one (from + 1) items)) (cond second (Some from) (position_from other (from + 1) items))
        ≡ cond (first || second) (Some from) (position_from (λ item. one item || other item) (from + 1) items)
    by_head true true behind = ap Some (omega arith)
    by_head true false behind = least_here other from (from + 1) items (omega arith)
    by_head false true behind =
        least_swap (position_from one (from + 1) items) (Some from) ∙ least_here one from (from + 1) items (omega arith)
    by_head false false behind = behind

-- where nothing passes nothing is found
none_passes : {Item : Type 0} (test : Item → Bool) → ((item : Item) → test item ≡ false) → (from : ℕ) (items : List Item)
    → position_from test from items ≡ None
none_passes test fails from [] = refl
none_passes test fails from (item ∷ items) =
    ap (λ answer. cond answer (Some from) (position_from test (from + 1) items)) (fails item) ∙ none_passes test fails (from + 1) items

-- each state's rank is below their number
rank_inside : (state : JobState) → nat_lt (rank state) 6 ≡ true
rank_inside Submitted = refl
rank_inside Active = refl
rank_inside Finished = refl
rank_inside FinishedDirty = refl
rank_inside Failed = refl
rank_inside Canceled = refl

-- a rank below the next one is below this one, or this one
below_next : (some at : ℕ) → (some == at) ≡ false → nat_lt some (at + 1) ≡ nat_lt some at
below_next some at apart = grind (arith, nat_tests)

-- whether a job's state is among those asked for that have lesser ranks
abbrev pub is_asked_before : List Bool → ℕ → Progress → Bool
is_asked_before asked at job = nat_lt (rank job.state) at && is_among asked job.state

module _ (asked : List Bool) (from : ℕ) (jobs : List Progress) where
  -- no state has a rank below the first
  pub asked_first : position_from (is_asked_before asked 0) from (drop from jobs) ≡ None
  asked_first = none_passes (is_asked_before asked 0) (λ job. ap (λ answer. answer && is_among asked job.state) (not_lt (rank job.state) 0 (omega arith)))
      from (drop from jobs)

  -- all have one below their number
  pub asked_last : position_from (is_asked_before asked 6) from (drop from jobs) ≡ position_from (λ job. is_among asked job.state) from (drop from jobs)
  asked_last = same_position (is_asked_before asked 6) (λ job. is_among asked job.state)
      (λ job. ap (λ answer. answer && is_among asked job.state) (rank_inside job.state)) from (drop from jobs)

  -- one state more that is asked for, and one that isn't
  pub asked_here : (at : ℕ) → true ≡ slice_index_or asked at false
      → least_of (position_from (is_asked_before asked at) from (drop from jobs)) (position_from (is_at at) from (drop from jobs))
      ≡ position_from (is_asked_before asked (at + 1)) from (drop from jobs)
  asked_here at is =
      either_position (is_asked_before asked at) (is_at at) from (drop from jobs)
      ∙ same_position (λ job. is_asked_before asked at job || is_at at job) (is_asked_before asked (at + 1)) agree from (drop from jobs)
    where
      by_rank : (some : ℕ) (answer : Bool) → (some == at) ≡ answer
          → ((nat_lt some at && slice_index_or asked some false) || answer) ≡ (nat_lt some (at + 1) && slice_index_or asked some false)
      by_rank some true same =
          let here : some ≡ at = eqb-true some at same in
          ap (λ answer. (answer && slice_index_or asked some false) || true) (not_lt some at (omega (arith, here)))
          ∙ (is ∙ (ap (λ at. slice_index_or asked at false) (sym here)
          ∙ ap (λ answer. answer && slice_index_or asked some false) (sym (lt some (at + 1) (omega (arith, here))))))
      by_rank some false apart =
          or_false (nat_lt some at && slice_index_or asked some false)
          ∙ ap (λ answer. answer && slice_index_or asked some false) (sym (below_next some at apart))
        where
          or_false : (answer : Bool) → (answer || false) ≡ answer
          or_false true = refl
          or_false false = refl

      agree : (job : Progress) → (is_asked_before asked at job || is_at at job) ≡ is_asked_before asked (at + 1) job
      agree job = by_rank (rank job.state) (rank job.state == at) refl

  pub not_asked : (at : ℕ) → false ≡ slice_index_or asked at false
      → position_from (is_asked_before asked at) from (drop from jobs) ≡ position_from (is_asked_before asked (at + 1)) from (drop from jobs)
  not_asked at is = same_position (is_asked_before asked at) (is_asked_before asked (at + 1)) agree from (drop from jobs)
    where
      by_rank : (some : ℕ) (answer : Bool) → (some == at) ≡ answer
          → (nat_lt some at && slice_index_or asked some false) ≡ (nat_lt some (at + 1) && slice_index_or asked some false)
      by_rank some true same =
          let here : some ≡ at = eqb-true some at same in
          ap (λ answer. answer && slice_index_or asked some false) (not_lt some at (omega (arith, here)))
          ∙ (is ∙ (ap (λ at. slice_index_or asked at false) (sym here)
          ∙ ap (λ answer. answer && slice_index_or asked some false) (sym (lt some (at + 1) (omega (arith, here))))))
      by_rank some false apart = ap (λ answer. answer && slice_index_or asked some false) (sym (below_next some at apart))

      agree : (job : Progress) → is_asked_before asked at job ≡ is_asked_before asked (at + 1) job
      agree job = by_rank (rank job.state) (rank job.state == at) refl
