-- The exits of a row of a pass: passed over, no memory, a journal that wasn't made ready, and a visit whose event was recorded or not.
use Rattle.std.proofs.Common.{◌≡◌, ◌⊎◌, inl, inr, refl, sym, ◌∙◌, ap, subst, ℕ, ◌+◌, Bool, true, false, if◌then◌else◌, Option, Some, None, List, [], ◌∷◌, ◌++◌, length, Result, Ok, Err, arith}
use Rattle.fts_disk.specs.Disk.{DiskState, IsTold}
use Rattle.fts_store.specs.Calls.{Call}
use Rattle.fts_store.specs.Store.{StoreState}
use Rattle.fts_delete.specs.declared.events.Event.{Event}
use Rattle.fts_delete.specs.declared.events.Event.TheVariants.{Gone, Missed}
use Rattle.fts_delete.specs.declared.rows.DeleteRow.{DeleteRow}
use Rattle.fts_delete.specs.declared.visits.Visit.{Visit}
use Rattle.fts_delete.specs.declared.fault.DeleteFault.{DeleteFault}
use Rattle.fts_delete.specs.declared.fault.DeleteFault.TheVariants.{Damaged, DiskFailed, JournalFull, RowsFull, Memory}
use Rattle.fts_delete.specs.Rows.{is_waiting, rows_after}
use Rattle.fts_delete.specs.Visits.{saw_none, event_of}
use Rattle.fts_delete.specs.Looks.{calls_of, with_calls, Visits}
use Rattle.fts_delete.specs.Spelling.{body_of}
use Rattle.fts_delete.specs.Journals.{DeletesData, KeepsImages, IsDeletes}
use Rattle.fts_delete.specs.Recording.{has_room, fits, KeepsList, ReadyAnswer, Readied, AddAnswer, Added}
use Rattle.fts_delete.specs.Walking.{StopFault, RecordAnswer, PassesBy, PassesAt, PassesRow}
use Rattle.fts_delete.proofs.Moments.{rose_later}
use Rattle.fts_delete.proofs.Images.{images_more}
use Rattle.std.proofs.lemmas.List.{append-nil}
use Rattle.fts_delete.proofs.Since.{readied_list, added_list, readied_images, added_images}
use Rattle.fts_delete.proofs.Sizes.{same_size}

-- the event of either visit
event_as : (id : ℕ) (visit : Visit) (saw : Bool) → saw ≡ saw_none visit → event_of id visit ≡ (if saw then Gone id else Missed id)
event_as id visit saw is = ap (λ b. if b then Gone id else Missed id) (sym is)

-- where the one has no room, no visit's event has
pub no_room : (used id : ℕ) → has_room used (length (body_of (Gone id))) ≡ false → (visit : Visit) → fits used (event_of id visit) ≡ false
no_room used id full visit = by (saw_none visit)
  where
    by : (saw : Bool) → fits used (if saw then Gone id else Missed id) ≡ false
    by true = full
    by false = ap (has_room used) (sym (same_size id)) ∙ full

module _ {D E : Type 0} (state : D → DiskState) (faults : D → ℕ) (files : E → StoreState) (failures : E → ℕ) (calls : E → Option (List Call))
    (found : Option DeleteRow) (row : DeleteRow) (at : found ≡ Some row) where
  -- the row that is there
  here : (b : Bool) (old new : DeletesData D) (store left : E) (result : Result (Unit {0}) DeleteFault) → is_waiting row.state ≡ b
      → PassesBy state faults files failures calls b row old new store left result → PassesAt state faults files failures calls found old new store left result
  here b old new store left result waits by = subst (λ f. PassesAt state faults files failures calls f old new store left result) (sym at)
      (subst (λ w. PassesBy state faults files failures calls w row old new store left result) (sym waits) by)

  -- one that doesn't wait
  pub passed_over : (old : DeletesData D) (store : E) → is_waiting row.state ≡ false → KeepsImages state old old
      → PassesRow state faults files failures calls found old old store store (Ok tt)
  passed_over old store settled images = record {
    answer = here false old old store store (Ok tt) settled (refl, (refl, refl));
    told = refl;
    counts = omega arith;
    images = images;
  }

  -- no memory for its event
  pub passed_memory : (old : DeletesData D) (store : E) → is_waiting row.state ≡ true → KeepsImages state old old
      → PassesRow state faults files failures calls found old old store store (Err Memory)
  passed_memory old store waits images = record {
    answer = here true old old store store (Err Memory) waits (inr (record {
      untouched = refl;
      fault = Memory;
      is = refl;
      keeps = record { rows = refl; count = refl; used = refl; events = refl };
      cause = tt;
      doubt = λ told. inr refl;
    }));
    told = refl;
    counts = omega arith;
    images = images;
  }

  module _ (old mid : DeletesData D) (kept : IsDeletes state old) (waits : is_waiting row.state ≡ true) where
    -- why the journal wasn't made ready
    stop_cause : (fault : DeleteFault) → ReadyAnswer state faults old mid (length (body_of (Gone row.id))) (Err fault) → StopFault faults old mid row fault
    stop_cause DiskFailed answer = answer.1
    stop_cause (JournalFull used) answer = (
      answer.1 ∙ sym (ap (λ (d : DeletesData D). d.used) answer.2),
      λ visit. ap (λ n. fits n (event_of row.id visit)) answer.1 ∙ no_room old.used row.id answer.0 visit,
    )
    stop_cause Memory answer = absurd answer
    stop_cause (RowsFull rows) answer = absurd answer
    stop_cause (Damaged offset) answer = absurd answer

    -- what is in doubt then
    stop_doubt : (fault : DeleteFault) → ReadyAnswer state faults old mid (length (body_of (Gone row.id))) (Err fault) → IsTold (state old.disk)
        → (mid.doubt ≡ None) ⊎ (mid.doubt ≡ old.doubt)
    stop_doubt DiskFailed answer told = inr (answer.2 told)
    stop_doubt (JournalFull used) answer told = inr (ap (λ (d : DeletesData D). d.doubt) answer.2)
    stop_doubt Memory answer told = absurd answer
    stop_doubt (RowsFull rows) answer told = absurd answer
    stop_doubt (Damaged offset) answer told = absurd answer

    pub passed_unready : (store : E) (fault : DeleteFault) → Readied state faults old mid (length (body_of (Gone row.id))) (Err fault)
        → PassesRow state faults files failures calls found old mid store store (Err fault)
    passed_unready store fault readied = record {
      answer = here true old mid store store (Err fault) waits (inr (record {
        untouched = refl;
        fault = fault;
        is = refl;
        keeps = readied_list state faults old mid (length (body_of (Gone row.id))) (Err fault) readied.answer;
        cause = stop_cause fault readied.answer;
        doubt = stop_doubt fault readied.answer;
      }));
      told = readied.told;
      counts = readied.counts;
      images = readied_images state faults old mid kept (length (body_of (Gone row.id))) (Err fault) readied;
    }

    module _ (new : DeletesData D) (kept_then : IsDeletes state mid) (readied : Readied state faults old mid (length (body_of (Gone row.id))) (Ok tt))
        (store left : E) (came : Visit) (visited : Visits files failures store left row.place came)
        (called : calls left ≡ with_calls (calls store) (calls_of row.place came)) where
      -- list, rows and numbers were as before
      same : KeepsList state old mid
      same = readied_list state faults old mid (length (body_of (Gone row.id))) (Ok tt) readied.answer

      -- what was recorded behind a ready journal
      answered : (event : Event) (result : Result (Unit {0}) DeleteFault) → AddAnswer state faults mid new event result → RecordAnswer state faults old new event result
      answered event (Ok done) adds = record {
        rows = ap (λ rows. rows_after rows event) (sym same.rows) ∙ adds.rows;
        count = adds.count ∙ ap (λ n. n + 1) same.count;
        used = adds.used ∙ ap (λ n. n + 5 + length (body_of event)) same.used;
        sure = adds.sure;
        listed = λ told. adds.listed (readied.told ∙ told) ∙ ap (λ l. l ++ event ∷ []) same.events;
        no_doubt = λ told. adds.no_doubt (readied.told ∙ told);
      }
      answered event (Err DiskFailed) answer = (
        record {
          rows = answer.2.rows ∙ same.rows;
          count = answer.2.count ∙ same.count;
          used = answer.2.used ∙ same.used;
          events = answer.2.events ∙ same.events;
        },
        rose_later (faults old.disk) (faults mid.disk) (faults new.disk) readied.counts answer.0,
        λ told. answer.1 (readied.told ∙ told),
      )
      answered event (Err Memory) answer = (
        record {
          rows = ap (λ (d : DeletesData D). d.rows) answer ∙ same.rows;
          count = ap (λ (d : DeletesData D). d.count) answer ∙ same.count;
          used = ap (λ (d : DeletesData D). d.used) answer ∙ same.used;
          events = ap (λ (d : DeletesData D). d.events) answer ∙ same.events;
        },
        tt,
        λ told. inl (ap (λ (d : DeletesData D). d.doubt) answer ∙ readied.answer.2 told),
      )
      answered event (Err (JournalFull used)) answer = absurd answer
      answered event (Err (RowsFull rows)) answer = absurd answer
      answered event (Err (Damaged offset)) answer = absurd answer

      -- the event of the visit
      pub passed_visited : (saw : Bool) → saw ≡ saw_none came → (event : Event) → event ≡ (if saw then Gone row.id else Missed row.id) → (next : List DeleteRow)
          → rows_after mid.rows event ≡ Some next → (result : Result (Unit {0}) DeleteFault) → Added state faults mid new event result
          → PassesRow state faults files failures calls found old new store left result
      passed_visited saw is event own next taken result added = record {
        answer = here true old new store left result waits (inl (record {
          came = came;
          visited = visited;
          called = called;
          answer = subst (λ e. RecordAnswer state faults old new e result) (own ∙ sym (event_as row.id came saw is)) (answered event result added.answer);
        }));
        told = added.told ∙ readied.told;
        counts = omega (arith, readied.counts, added.counts);
        images = λ opening since parts told.
            let more = added_list state faults mid new event result added.answer (readied.told ∙ told) in
            images_more state old mid new [] more.0 readied.told (λ there. same.events ∙ sym (append-nil old.events)) (λ there. more.1)
            (readied_images state faults old mid kept (length (body_of (Gone row.id))) (Ok tt) readied)
            (added_images state faults mid new kept_then event next taken result added) opening since parts told;
      }
