-- The walk of a pass over the rows: where it begins, one row more, where it stops, and where it ends.
use Rattle.std.proofs.Common.{◌≡◌, ◌⊎◌, ⊎_elim, inl, inr, refl, sym, ◌∙◌, ap, subst, ℕ, zero, suc, ◌+◌, ◌≤◌, Bool, true, false, if◌then◌else◌, cond, Option, Some, None, List, [], ◌∷◌, ◌++◌, length, take, take_all, arith, append_assoc, length-append, Ok, Err}
use Rattle.std.specs.Prelude.{slice_get, option_map}
use Rattle.std.proofs.lemmas.List.{append-nil}
use Rattle.std.proofs.lemmas.Option.{slice_get-map, slice_get_within}
use Rattle.fts_tables.specs.declared.places.Place.{Place}
use Rattle.fts_disk.specs.Disk.{DiskState, IsTold}
use Rattle.fts_store.specs.Calls.{Call}
use Rattle.fts_store.specs.Store.{StoreState}
use Rattle.fts_tables.specs.Counts.{Rose}
use Rattle.fts_delete.specs.declared.fault.DeleteFault.{DeleteFault}
use Rattle.fts_delete.specs.declared.fault.DeleteFault.TheVariants.{Damaged, DiskFailed, JournalFull, RowsFull, Memory}
use Rattle.fts_delete.specs.declared.rows.DeleteRow.{DeleteRow}
use Rattle.fts_delete.specs.declared.visits.Visit.{Visit}
use Rattle.fts_delete.specs.declared.events.Event.{Event}
use Rattle.fts_delete.specs.Rows.{is_waiting, rows_after}
use Rattle.fts_delete.specs.Visits.{event_of}
use Rattle.fts_delete.specs.Passes.{waiting_of, events_of, rows_next, rows_passed}
use Rattle.fts_delete.specs.Laws.{AreNumbered}
use Rattle.fts_delete.specs.Looks.{calls_of, with_calls, Visits}
use Rattle.fts_delete.specs.Spelling.{body_of}
use Rattle.fts_delete.specs.Journals.{DeletesData, used_after, KeepsImages}
use Rattle.fts_delete.proofs.Images.{images_more}
use Rattle.fts_delete.specs.Passed.{AreVisits, places_of, pass_calls, with_last, IsPassDoubt, PassFault, Passed, WalkedBy}
use Rattle.fts_delete.specs.Recording.{fits, KeepsList, AddsOne}
use Rattle.fts_delete.specs.Walking.{MissFault, StopFault, IsVisited, PassesBy, PassesAt, PassesRow, WalkedTo}
use Rattle.fts_delete.proofs.Beginnings.{none_some, some_is}
use Rattle.fts_delete.proofs.Passing.{none_passed}
use Rattle.fts_delete.proofs.Growing.{visits_more, none_come, events_more, rows_more, used_more}

-- ---- lists

-- one row more in front of both
one_first : (b : Bool) (row : DeleteRow) (xs ys : List DeleteRow) (k : ℕ) → length xs ≡ length ys + k → length (cond b (row ∷ xs) xs) ≡ length (cond b (row ∷ ys) ys) + k
one_first true row xs ys k e = omega (arith, e)
one_first false row xs ys k e = e

only_one : (b : Bool) (row : DeleteRow) → length (cond b (row ∷ []) []) ≡ (if b then 1 else 0)
only_one true row = refl
only_one false row = refl

-- how many wait up to a row, with that row
waiting_more : (rows : List DeleteRow) (place : ℕ) (row : DeleteRow) (b : Bool) → b ≡ is_waiting row.state → slice_get rows place ≡ Some row
    → length (waiting_of (take (suc place) rows)) ≡ length (waiting_of (take place rows)) + (if b then 1 else 0)
waiting_more [] place row b is e = absurd (none_some row e)
waiting_more (first ∷ rows) zero row b is e =
    let same : is_waiting first.state ≡ b = ap (λ r. is_waiting r.state) (some_is first row e) ∙ sym is in
    ap (λ w. length (cond w (first ∷ []) [])) same ∙ only_one b first ∙ omega arith
waiting_more (first ∷ rows) (suc place) row b is e =
    one_first (is_waiting first.state) first (waiting_of (take (suc place) rows)) (waiting_of (take place rows)) (if b then 1 else 0) (waiting_more rows place row b is e)

-- a row that waits is the next one that does
behind_first : (b : Bool) (first row : DeleteRow) (xs ys : List DeleteRow) → slice_get xs (length ys) ≡ Some row → slice_get (cond b (first ∷ xs) xs) (length (cond b (first ∷ ys) ys)) ≡ Some row
behind_first true first row xs ys e = e
behind_first false first row xs ys e = e

next_waits : (rows : List DeleteRow) (place : ℕ) (row : DeleteRow) → slice_get rows place ≡ Some row → is_waiting row.state ≡ true
    → slice_get (waiting_of rows) (length (waiting_of (take place rows))) ≡ Some row
next_waits [] place row e waits = absurd (none_some row e)
next_waits (first ∷ rows) zero row e waits =
    let same : is_waiting first.state ≡ true = ap (λ r. is_waiting r.state) (some_is first row e) ∙ waits in
    ap (λ w. slice_get (cond w (first ∷ waiting_of rows) (waiting_of rows)) 0) same ∙ e
next_waits (first ∷ rows) (suc place) row e waits =
    behind_first (is_waiting first.state) first row (waiting_of rows) (waiting_of (take place rows)) (next_waits rows place row e waits)

-- a row that was not come to is as it was
Stays : List DeleteRow → ℕ → Type 0
Stays rows place = (visits : List Visit) → length visits ≡ length (waiting_of (take place rows)) → slice_get (rows_passed rows visits) place ≡ slice_get rows place

stays_behind : (b : Bool) (first : DeleteRow) (rows : List DeleteRow) (place : ℕ) → Stays rows place → (visits : List Visit)
    → length visits ≡ length (cond b (first ∷ waiting_of (take place rows)) (waiting_of (take place rows)))
    → slice_get (rows_next b first visits (rows_passed rows)) (suc place) ≡ slice_get rows place
unfolding Stays
stays_behind true first rows place later [] far = absurd (omega (arith, far))
stays_behind true first rows place later (visit ∷ visits) far = later visits (omega (arith, far))
stays_behind false first rows place later visits far = later visits far

first_stays : (first : DeleteRow) (rows : List DeleteRow) (visits : List Visit) → length visits ≡ 0 → slice_get (rows_passed (first ∷ rows) visits) 0 ≡ Some first
first_stays first rows [] far = ap (λ l. slice_get l 0) (none_passed (first ∷ rows))
first_stays first rows (visit ∷ visits) far = absurd (omega (arith, far))

row_stays : (rows : List DeleteRow) (place : ℕ) → Stays rows place
unfolding Stays
row_stays [] place = λ visits far. refl
row_stays (first ∷ rows) zero = λ visits far. first_stays first rows visits far
row_stays (first ∷ rows) (suc place) = λ visits far. stays_behind (is_waiting first.state) first rows place (row_stays rows place) visits far

-- a pass makes no row and drops none
same_length : (b : Bool) (row : DeleteRow) (rows : List DeleteRow) (visits : List Visit) → ((more : List Visit) → length (rows_passed rows more) ≡ length rows)
    → length (rows_next b row visits (rows_passed rows)) ≡ length (row ∷ rows)
same_length true row rows [] later = omega (arith, later [])
same_length true row rows (visit ∷ visits) later = omega (arith, later visits)
same_length false row rows visits later = omega (arith, later visits)

pub length_passed : (rows : List DeleteRow) (visits : List Visit) → length (rows_passed rows visits) ≡ length rows
length_passed [] visits = refl
length_passed (row ∷ rows) visits = same_length (is_waiting row.state) row rows visits (length_passed rows)

-- the calls of one visit more
calls_more : (places : List Place) (visits : List Visit) (place : Place) (visit : Visit) → slice_get places (length visits) ≡ Some place
    → pass_calls places (visits ++ visit ∷ []) ≡ pass_calls places visits ++ calls_of place visit
calls_more [] visits place visit next = absurd (none_some place next)
calls_more (first ∷ places) [] place visit next = append-nil (calls_of first visit) ∙ ap (λ p. calls_of p visit) (some_is first place next)
calls_more (first ∷ places) (v ∷ visits) place visit next =
    ap (λ l. calls_of first v ++ l) (calls_more places visits place visit next) ∙ sym (append_assoc (calls_of first v) (pass_calls places visits) (calls_of place visit))

calls_both : (told : Option (List Call)) (xs ys : List Call) → with_calls (with_calls told xs) ys ≡ with_calls told (xs ++ ys)
calls_both None xs ys = refl
calls_both (Some list) xs ys = ap Some (append_assoc list xs ys)

calls_none : (told : Option (List Call)) → told ≡ with_calls told []
calls_none None = refl
calls_none (Some list) = ap Some (sym (append-nil list))

-- a cause since a later moment is one since an earlier one
rose_since : (old mid new : ℕ) → old ≤ mid → Rose mid new → Rose old new
rose_since old mid new le (inl rose) = inl (omega (arith, le, rose))
rose_since old mid new le (inr most) = inr most

-- ---- the walk

module _ {D E : Type 0} (state : D → DiskState) (faults : D → ℕ) (files : E → StoreState) (failures : E → ℕ) (calls : E → Option (List Call)) where
  pub walk_start : (old : DeletesData D) (store : E) → KeepsImages state old old → WalkedTo state faults files failures calls old old store store 0
  walk_start old store images = record {
    done = [];
    far = refl;
    by = record {
      rows = sym (none_passed old.rows);
      count = omega arith;
      used = ap (used_after old.used) (sym (none_come old.rows));
      listed = λ told. sym (append-nil old.events) ∙ ap (λ l. old.events ++ l) (sym (none_come old.rows));
      doubt = λ told. inr refl;
      visited = refl;
      called = calls_none (calls store);
      told = refl;
      counts = omega arith;
      images = images;
    };
  }

  -- the next row that waits
  next_of : (old : DeletesData D) (place : ℕ) (row : DeleteRow) (done : List Visit) → length done ≡ length (waiting_of (take place old.rows)) → slice_get old.rows place ≡ Some row
      → is_waiting row.state ≡ true → slice_get (waiting_of old.rows) (length done) ≡ Some row
  next_of old place row done far at waits = ap (slice_get (waiting_of old.rows)) far ∙ next_waits old.rows place row at waits

  -- and its place
  place_of : (old : DeletesData D) (row : DeleteRow) (k : ℕ) → slice_get (waiting_of old.rows) k ≡ Some row → slice_get (places_of old.rows) k ≡ Some row.place
  place_of old row k next = slice_get-map (λ r. r.place) (waiting_of old.rows) k ∙ ap (option_map (λ r. r.place)) next

  -- what a visit adds to the visits, whether its event is recorded or not
  visited_too : (old mid : DeletesData D) (store s left : E) (row : DeleteRow) (done : List Visit) (came : Visit) → slice_get (waiting_of old.rows) (length done) ≡ Some row
      → WalkedBy state faults files failures calls old mid store s done None → Visits files failures s left row.place came
      → AreVisits files failures (places_of old.rows) (done ++ came ∷ []) store left
  visited_too old mid store s left row done came next by visit =
      visits_more files failures (places_of old.rows) done row.place came store s left (place_of old row (length done) next) by.visited visit

  -- and to the calls
  called_too : (old mid : DeletesData D) (store s left : E) (row : DeleteRow) (done : List Visit) (came : Visit) → slice_get (waiting_of old.rows) (length done) ≡ Some row
      → WalkedBy state faults files failures calls old mid store s done None → calls left ≡ with_calls (calls s) (calls_of row.place came)
      → calls left ≡ with_calls (calls store) (pass_calls (places_of old.rows) (done ++ came ∷ []))
  called_too old mid store s left row done came next by called =
      called ∙ ap (λ c. with_calls c (calls_of row.place came)) by.called
      ∙ calls_both (calls store) (pass_calls (places_of old.rows) done) (calls_of row.place came)
      ∙ ap (with_calls (calls store)) (sym (calls_more (places_of old.rows) done row.place came (place_of old row (length done) next)))

  module _ (old mid new : DeletesData D) (store s left : E) (place : ℕ) (row : DeleteRow) (told : (state new.disk).told ≡ (state mid.disk).told)
      (counts : faults mid.disk ≤ faults new.disk) (images : KeepsImages state mid new) (at : slice_get old.rows place ≡ Some row)
      (walked : WalkedTo state faults files failures calls old mid store s place) where
    -- a row that was visited, and its event recorded
    step_visited : AreNumbered 1 old.rows → is_waiting row.state ≡ true → IsVisited state faults files failures calls row mid new s left (Ok tt)
        → WalkedTo state faults files failures calls old new store left (suc place)
    step_visited numbered waits visited =
        let came : Visit = visited.came in
        let event : Event = event_of row.id came in
        let adds : AddsOne state mid new event = visited.answer in
        let done = walked.done in
        let next : slice_get (waiting_of old.rows) (length done) ≡ Some row = next_of old place row done walked.far at waits in
        let events : events_of old.rows (done ++ came ∷ []) ≡ events_of old.rows done ++ event ∷ [] = events_more old.rows done row came next in
        record {
          done = done ++ came ∷ [];
          far = omega (arith, length-append done (came ∷ []), walked.far, waiting_more old.rows place row true (sym waits) at);
          by = record {
            rows = some_is new.rows (rows_passed old.rows (done ++ came ∷ [])) (sym adds.rows ∙ ap (λ rows. rows_after rows event) walked.by.rows ∙ rows_more old.rows done row came numbered next);
            count = omega (arith, adds.count, walked.by.count, length-append done (came ∷ []));
            used = adds.used ∙ ap (λ n. n + 5 + length (body_of event)) walked.by.used ∙ sym (used_more old.used (events_of old.rows done) event) ∙ ap (used_after old.used) (sym events);
            listed = λ is. adds.listed (walked.by.told ∙ is) ∙ ap (λ l. l ++ event ∷ []) (walked.by.listed is) ∙ append_assoc old.events (events_of old.rows done) (event ∷ [])
                ∙ ap (λ l. old.events ++ l) (sym events);
            doubt = λ is. inl (adds.no_doubt (walked.by.told ∙ is));
            visited = visited_too old mid store s left row done came next walked.by visited.visited;
            called = called_too old mid store s left row done came next walked.by visited.called;
            told = told ∙ walked.by.told;
            counts = omega (arith, counts, walked.by.counts);
            images = images_more state old mid new (events_of old.rows done) (event ∷ []) walked.by.told walked.by.listed adds.listed walked.by.images images;
          };
        }

    -- a row that is passed over
    step_other : is_waiting row.state ≡ false → new ≡ mid → left ≡ s → WalkedTo state faults files failures calls old new store left (suc place)
    step_other settled same untouched =
        let here : WalkedTo state faults files failures calls old mid store s (suc place) = record {
          done = walked.done;
          far = omega (arith, walked.far, waiting_more old.rows place row false (sym settled) at);
          by = walked.by;
        } in
        subst (λ d. WalkedTo state faults files failures calls old d store left (suc place)) (sym same)
        (subst (λ e. WalkedTo state faults files failures calls old mid store e (suc place)) (sym untouched) here)

    -- either, by whether it waits
    step_by : AreNumbered 1 old.rows → (b : Bool) → is_waiting row.state ≡ b → PassesBy state faults files failures calls b row mid new s left (Ok tt)
        → WalkedTo state faults files failures calls old new store left (suc place)
    step_by numbered true waits (inl visited) = step_visited numbered waits visited
    step_by numbered true waits (inr skipped) = let no : Ok tt ≡ Err skipped.fault = skipped.is in absurd cc
    step_by numbered false settled passes = step_other settled passes.0 passes.1.0

    -- no event more
    kept_by : KeepsList state mid new → (last : Option Visit) → (IsTold (state old.disk) → IsPassDoubt old.rows old.doubt new.doubt walked.done last) → AreVisits files failures (places_of old.rows) (with_last walked.done last) store left
        → calls left ≡ with_calls (calls store) (pass_calls (places_of old.rows) (with_last walked.done last))
        → WalkedBy state faults files failures calls old new store left walked.done last
    kept_by none last doubt visited called = record {
      rows = none.rows ∙ walked.by.rows;
      count = none.count ∙ walked.by.count;
      used = none.used ∙ walked.by.used;
      listed = λ is. none.events ∙ walked.by.listed is;
      doubt = doubt;
      visited = visited;
      called = called;
      told = told ∙ walked.by.told;
      counts = omega (arith, counts, walked.by.counts);
      images = images_more state old mid new (events_of old.rows walked.done) [] walked.by.told walked.by.listed (λ is. none.events ∙ sym (append-nil mid.events)) walked.by.images images;
    }

    -- where a walk stopped, with the visits so far
    passed_by : (last : Option Visit) (fault : DeleteFault) → is_waiting row.state ≡ true → PassFault faults old new walked.done last fault
        → WalkedBy state faults files failures calls old new store left walked.done last → Passed state faults files failures calls old new store left (Err fault)
    passed_by last fault waits cause by = record {
      done = walked.done;
      last = last;
      ends = (slice_get_within (waiting_of old.rows) (length walked.done) row (next_of old place row walked.done walked.far at waits), cause);
      by = by;
    }

    -- why an event wasn't recorded
    miss_cause : (came : Visit) (fault : DeleteFault) → MissFault faults mid new fault → PassFault faults old new walked.done (Some came) fault
    miss_cause came DiskFailed rose = rose_since (faults old.disk) (faults mid.disk) (faults new.disk) walked.by.counts rose
    miss_cause came Memory any = tt
    miss_cause came (JournalFull used) none = absurd none
    miss_cause came (Damaged offset) none = none
    miss_cause came (RowsFull rows) none = none

    -- why a row wasn't visited
    stop_cause : (fault : DeleteFault) → is_waiting row.state ≡ true → StopFault faults mid new row fault → PassFault faults old new walked.done None fault
    stop_cause DiskFailed waits rose = rose_since (faults old.disk) (faults mid.disk) (faults new.disk) walked.by.counts rose
    stop_cause Memory waits any = tt
    stop_cause (JournalFull used) waits full = (
      full.0,
      refl,
      λ other next visit.
          let same : row ≡ other = some_is row other (sym (next_of old place row walked.done walked.far at waits) ∙ next) in
          subst (λ r. fits used (event_of r.id visit) ≡ false) same (full.1 visit),
    )
    stop_cause (Damaged offset) waits none = none
    stop_cause (RowsFull rows) waits none = none

    -- a row whose event was not recorded, or that was not visited
    stop_by : (fault : DeleteFault) (b : Bool) → is_waiting row.state ≡ b → PassesBy state faults files failures calls b row mid new s left (Err fault)
        → Passed state faults files failures calls old new store left (Err fault)
    stop_by fault true waits (inl visited) =
        let came : Visit = visited.came in
        let next : slice_get (waiting_of old.rows) (length walked.done) ≡ Some row = next_of old place row walked.done walked.far at waits in
        let answer : KeepsList state mid new × MissFault faults mid new fault × (IsTold (state mid.disk) → (new.doubt ≡ None) ⊎ (new.doubt ≡ Some (event_of row.id came))) = visited.answer in
        passed_by (Some came) fault waits (miss_cause came fault answer.1)
        (kept_by answer.0 (Some came)
        (λ is. ⊎_elim (λ no. inl no) (λ doubted. inr (row, next, doubted)) (answer.2 (walked.by.told ∙ is)))
        (visited_too old mid store s left row walked.done came next walked.by visited.visited)
        (called_too old mid store s left row walked.done came next walked.by visited.called))
    stop_by fault true waits (inr skipped) =
        let same : skipped.fault ≡ fault = (let e : Err fault ≡ Err skipped.fault = skipped.is in cc) in
        passed_by None fault waits (subst (λ f. PassFault faults old new walked.done None f) same (stop_cause skipped.fault waits skipped.cause))
        (kept_by skipped.keeps None
        (λ is. ⊎_elim (λ no. inl no) (λ same. ⊎_elim (λ no. inl (same ∙ no)) (λ still. inr (same ∙ still)) (walked.by.doubt is)) (skipped.doubt (walked.by.told ∙ is)))
        (subst (λ e. AreVisits files failures (places_of old.rows) walked.done store e) (sym skipped.untouched) walked.by.visited)
        (ap calls skipped.untouched ∙ walked.by.called))
    stop_by fault false settled passes = let no : Err fault ≡ Ok tt = passes.1.1 in absurd cc

  -- the row that the walk has come to
  row_at : (old mid : DeletesData D) (store s : E) (place : ℕ) → WalkedTo state faults files failures calls old mid store s place → slice_get mid.rows place ≡ slice_get old.rows place
  unfolding Stays
  row_at old mid store s place walked = ap (λ rows. slice_get rows place) walked.by.rows ∙ row_stays old.rows place walked.done walked.far

  module _ (old mid new : DeletesData D) (store s left : E) (place : ℕ) (walked : WalkedTo state faults files failures calls old mid store s place) where
    -- one row more
    pub walk_step : AreNumbered 1 old.rows → PassesRow state faults files failures calls (slice_get mid.rows place) mid new s left (Ok tt)
        → WalkedTo state faults files failures calls old new store left (place + 1)
    walk_step numbered passes =
        let at : suc place ≡ place + 1 = omega arith in
        subst (λ n. WalkedTo state faults files failures calls old new store left n) at
        (step_at (slice_get old.rows place) refl (subst (λ f. PassesAt state faults files failures calls f mid new s left (Ok tt)) (row_at old mid store s place walked) passes.answer))
      where
        step_at : (found : Option DeleteRow) → slice_get old.rows place ≡ found → PassesAt state faults files failures calls found mid new s left (Ok tt)
            → WalkedTo state faults files failures calls old new store left (suc place)
        step_at None at answer = absurd answer
        step_at (Some row) at answer = step_by old mid new store s left place row passes.told passes.counts passes.images at walked numbered (is_waiting row.state) refl answer

    -- a row at which the walk stops
    pub walk_stop : (fault : DeleteFault) → PassesRow state faults files failures calls (slice_get mid.rows place) mid new s left (Err fault)
        → Passed state faults files failures calls old new store left (Err fault)
    walk_stop fault passes =
        stop_at (slice_get old.rows place) refl (subst (λ f. PassesAt state faults files failures calls f mid new s left (Err fault)) (row_at old mid store s place walked) passes.answer)
      where
        stop_at : (found : Option DeleteRow) → slice_get old.rows place ≡ found → PassesAt state faults files failures calls found mid new s left (Err fault)
            → Passed state faults files failures calls old new store left (Err fault)
        stop_at None at answer = absurd answer
        stop_at (Some row) at answer = stop_by old mid new store s left place row passes.told passes.counts passes.images at walked fault (is_waiting row.state) refl answer

  -- behind the last row
  pub walk_end : (old new : DeletesData D) (store left : E) (place : ℕ) → place ≡ length old.rows → WalkedTo state faults files failures calls old new store left place
      → Passed state faults files failures calls old new store left (Ok tt)
  walk_end old new store left place all walked = record {
    done = walked.done;
    last = None;
    ends = (walked.far ∙ ap (λ n. length (waiting_of (take n old.rows))) all ∙ ap (λ l. length (waiting_of l)) (take_all (length old.rows) old.rows (omega arith)), refl);
    by = walked.by;
  }
