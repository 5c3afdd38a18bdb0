-- The exits of asking: too many rows, no memory, a journal that wasn't made ready, and what came of recording.
use Rattle.std.proofs.Common.{◌≡◌, ◌⊎◌, inl, inr, ⊎_elim, refl, sym, ◌∙◌, ap, subst, ℕ, ◌+◌, ◌≤◌, Bool, true, false, nat_lt, if◌then◌else◌, Some, None, List, [], ◌∷◌, ◌++◌, length, Result, Ok, Err, arith}
use Rattle.std.proofs.lemmas.Bool.{le-leb, ltb-false, ltb-true, false_from_ne_true}
use Rattle.fts_tables.specs.declared.places.Place.{Place}
use Rattle.fts_disk.specs.Disk.{DiskState, IsTold, IsLawful, LeavesOnly}
use Rattle.fts_journal.proofs.Moments.{joins, weakened}
use Rattle.fts_delete.specs.declared.events.Event.TheVariants.{Ask}
use Rattle.fts_delete.specs.declared.rows.DeleteRow.{DeleteRow}
use Rattle.fts_delete.specs.declared.fault.DeleteFault.{DeleteFault}
use Rattle.fts_delete.specs.declared.fault.DeleteFault.TheVariants.{Damaged, DiskFailed, JournalFull, RowsFull, Memory}
use Rattle.fts_delete.specs.Rows.{rows_after, most_rows}
use Rattle.fts_delete.specs.Spelling.{body_of}
use Rattle.fts_delete.specs.Journals.{DeletesData, StandsFor, with_doubt, IsDeletes, KeepsImages}
use Rattle.fts_delete.specs.Recording.{fits, KeepsList, IsImageOf, IsImageWith, ReadyAnswer, Readied, AddAnswer, Added}
use Rattle.fts_delete.specs.Asked.{rows_with, asked_to, KeepsAll, AskAnswer, Asked}
use Rattle.fts_delete.proofs.Beginnings.{some_is}
use Rattle.fts_delete.proofs.Moments.{rose_later}
use Rattle.fts_delete.proofs.Images.{images_start}
use Rattle.std.proofs.lemmas.List.{append-nil}
use Rattle.fts_delete.proofs.Since.{readied_list, with_images}

-- what isn't passed
pub not_more : (limit count : ℕ) → count ≤ limit → nat_lt limit count ≡ false
not_more limit count below = false_from_ne_true (nat_lt limit count) (λ more. let past = ltb-true limit count more in omega (arith, past, below))

-- where the rows are few, an asking is legal
pub legal_ask : (rows : List DeleteRow) (places : List Place) → nat_lt most_rows (length rows + length places) ≡ false
    → rows_after rows (Ask places) ≡ Some (rows_with rows places)
legal_ask rows places few = ap (λ b. if b then Some (rows_with rows places) else None)
    (le-leb (length rows + length places) most_rows (omega (arith, ltb-false most_rows (length rows + length places) few)))

-- what an asking comes to by the room in the journal
came_by : (rows : List DeleteRow) (used : ℕ) (places : List Place) (b : Bool) → nat_lt most_rows (length rows + length places) ≡ false → fits used (Ask places) ≡ b
    → asked_to rows used places ≡ (if b then Ok (rows_with rows places) else Err (JournalFull used))
came_by rows used places b few room =
    ap (λ c. if c then Err (RowsFull (length rows)) else (if fits used (Ask places) then Ok (rows_with rows places) else Err (JournalFull used))) few
    ∙ ap (λ c. if c then Ok (rows_with rows places) else Err (JournalFull used)) room

-- too many rows
pub too_many : (rows : List DeleteRow) (used : ℕ) (places : List Place) → nat_lt most_rows (length rows + length places) ≡ true
    → asked_to rows used places ≡ Err (RowsFull (length rows))
too_many rows used places many =
    ap (λ c. if c then Err (RowsFull (length rows)) else (if fits used (Ask places) then Ok (rows_with rows places) else Err (JournalFull used))) many

module _ {D : Type 0} (state : D → DiskState) (faults : D → ℕ) (old : DeletesData D) (places : List Place) where
  -- it was refused before anything was looked at
  pub asked_many : nat_lt most_rows (length old.rows + length places) ≡ true
      → (IsTold (state old.disk) → LeavesOnly (state old.disk) (state old.disk) (IsImageOf old))
      → Asked state faults old old places (Err (RowsFull (length old.rows)))
  asked_many many still = record {
    answer = (too_many old.rows old.used places many, refl);
    told = refl;
    counts = omega arith;
    moments = λ told. weakened (state old.disk) (state old.disk) (IsImageOf old) (IsImageWith old (Ask places)) (still told) (λ content there. inl there);
  }

  module _ (below : length old.rows + length places ≤ most_rows) where
    few : nat_lt most_rows (length old.rows + length places) ≡ false
    few = not_more most_rows (length old.rows + length places) below

    -- there was no memory before any call
    pub asked_memory : (IsTold (state old.disk) → LeavesOnly (state old.disk) (state old.disk) (IsImageOf old))
        → (result : Result (Unit {0}) DeleteFault) → result ≡ Err Memory → Asked state faults old old places result
    asked_memory still result is = subst (λ r. Asked state faults old old places r) (sym is) (record {
      answer = (few, record { list = record { rows = refl; count = refl; used = refl; events = refl }; doubt = λ told. inr (inl refl) });
      told = refl;
      counts = omega arith;
      moments = λ told. weakened (state old.disk) (state old.disk) (IsImageOf old) (IsImageWith old (Ask places)) (still told) (λ content there. inl there);
    })

    module _ (mid : DeletesData D) where
      -- the journal wasn't made ready
      unready_answer : (fault : DeleteFault) → ReadyAnswer state faults old mid (length (body_of (Ask places))) (Err fault)
          → AskAnswer state faults old mid places (Err fault)
      unready_answer DiskFailed answer =
          (came_by old.rows old.used places true few answer.0, answer.1, record { list = answer.3; doubt = λ told. inr (inl (answer.2 told)) })
      unready_answer (JournalFull used) answer =
          (came_by old.rows old.used places false few answer.0 ∙ ap (λ n. full_at n) (sym answer.1), answer.2)
        where
          full_at : ℕ → Result (List DeleteRow) DeleteFault
          full_at n = Err (JournalFull n)
      unready_answer Memory answer = absurd answer
      unready_answer (RowsFull rows) answer = absurd answer
      unready_answer (Damaged offset) answer = absurd answer

      pub asked_unready : (fault : DeleteFault) → Readied state faults old mid (length (body_of (Ask places))) (Err fault)
          → Asked state faults old mid places (Err fault)
      asked_unready fault readied = record {
        answer = unready_answer fault readied.answer;
        told = readied.told;
        counts = readied.counts;
        moments = λ told. weakened (state old.disk) (state mid.disk) (IsImageOf old) (IsImageWith old (Ask places)) (readied.moments told)
            (λ content there. inl there);
      }

      module _ (new : DeletesData D) (readied : Readied state faults old mid (length (body_of (Ask places))) (Ok tt)) where
        -- list, rows and numbers were as before
        same : KeepsList state old mid
        same = readied_list state faults old mid (length (body_of (Ask places))) (Ok tt) readied.answer

        -- an image of the list then is one of the list before
        image_before : IsTold (state old.disk) → (content : List ℕ) → IsImageWith mid (Ask places) content → IsImageWith old (Ask places) content
        image_before told content (inl (inl stands)) = inl (inl (subst (StandsFor content) same.events stands))
        image_before told content (inl (inr stands)) = inl (inl (subst (StandsFor content) same.events
            (subst (λ d. StandsFor content (with_doubt mid.events d)) (readied.answer.2 told) stands)))
        image_before told content (inr stands) = inr (subst (λ l. StandsFor content (l ++ Ask places ∷ [])) same.events stands)

        -- no event more behind that
        kept_all : KeepsList state mid new → (IsTold (state old.disk) → (new.doubt ≡ None) ⊎ (new.doubt ≡ Some (Ask places)))
            → KeepsAll state old new places
        kept_all list doubt = record {
          list = record {
            rows = list.rows ∙ same.rows;
            count = list.count ∙ same.count;
            used = list.used ∙ same.used;
            events = list.events ∙ same.events;
          };
          doubt = λ told. ⊎_elim (λ none. inl none) (λ own. inr (inr own)) (doubt told);
        }

        added_answer : (result : Result (Unit {0}) DeleteFault) → AddAnswer state faults mid new (Ask places) result → AskAnswer state faults old new places result
        added_answer (Ok done) adds = record {
          came = came_by old.rows old.used places true few readied.answer.0
              ∙ ap (λ (l : List DeleteRow). ok_rows l)
              (some_is (rows_with old.rows places) new.rows
              (sym (legal_ask old.rows places few) ∙ ap (λ rows. rows_after rows (Ask places)) (sym same.rows) ∙ adds.rows));
          count = adds.count ∙ ap (λ n. n + 1) same.count;
          used = adds.used ∙ ap (λ n. n + 5 + length (body_of (Ask places))) same.used;
          sure = adds.sure;
          listed = λ told. adds.listed (readied.told ∙ told) ∙ ap (λ l. l ++ Ask places ∷ []) same.events;
          no_doubt = λ told. adds.no_doubt (readied.told ∙ told);
        }
          where
            ok_rows : List DeleteRow → Result (List DeleteRow) DeleteFault
            ok_rows l = Ok l
        added_answer (Err DiskFailed) answer = (
          came_by old.rows old.used places true few readied.answer.0,
          rose_later (faults old.disk) (faults mid.disk) (faults new.disk) readied.counts answer.0,
          kept_all answer.2 (λ told. answer.1 (readied.told ∙ told)),
        )
        added_answer (Err Memory) answer = (
          few,
          kept_all (record {
            rows = ap (λ (d : DeletesData D). d.rows) answer;
            count = ap (λ (d : DeletesData D). d.count) answer;
            used = ap (λ (d : DeletesData D). d.used) answer;
            events = ap (λ (d : DeletesData D). d.events) answer;
          }) (λ told. inl (ap (λ (d : DeletesData D). d.doubt) answer ∙ readied.answer.2 told)),
        )
        added_answer (Err (JournalFull used)) answer = absurd answer
        added_answer (Err (RowsFull rows)) answer = absurd answer
        added_answer (Err (Damaged offset)) answer = absurd answer

        pub asked_added : (result : Result (Unit {0}) DeleteFault) → Added state faults mid new (Ask places) result → Asked state faults old new places result
        asked_added result added = record {
          answer = added_answer result added.answer;
          told = added.told ∙ readied.told;
          counts = omega (arith, readied.counts, added.counts);
          moments = λ told. joins (state old.disk) (state mid.disk) (state new.disk) (IsImageWith old (Ask places))
              (weakened (state old.disk) (state mid.disk) (IsImageOf old) (IsImageWith old (Ask places)) (readied.moments told) (λ content there. inl there))
              (weakened (state mid.disk) (state new.disk) (IsImageWith mid (Ask places)) (IsImageWith old (Ask places)) (added.moments (readied.told ∙ told))
              (image_before told));
        }

-- what came to rows was few
few_by : (b : Bool) (rows found : List DeleteRow) (count : ℕ) (other : Result (List DeleteRow) DeleteFault) → (if b then Err (RowsFull count) else other) ≡ Ok found → b ≡ false
few_by true rows found count other e = absurd cc
few_by false rows found count other e = refl

few_of : (rows found : List DeleteRow) (used : ℕ) (places : List Place) → asked_to rows used places ≡ Ok found → nat_lt most_rows (length rows + length places) ≡ false
few_of rows found used places e = few_by (nat_lt most_rows (length rows + length places)) rows found (length rows)
    (if fits used (Ask places) then Ok (rows_with rows places) else Err (JournalFull used)) e

-- asking keeps images
pub asked_images : {D : Type 0} (state : D → DiskState) (faults : D → ℕ) (lawful : (disk : D) → IsTold (state disk) → IsLawful (state disk))
    (old new : DeletesData D) (places : List Place) → IsDeletes state old → (result : Result (Unit {0}) DeleteFault)
    → Asked state faults old new places result → KeepsImages state old new
asked_images {D = D} state faults lawful old new places kept result asked = by result asked.answer
  where
    -- nothing changed
    none : new ≡ old → KeepsImages state old new
    none is = subst (λ d. KeepsImages state old d) (sym is) (images_start state old kept (lawful old.disk))

    -- no event was added
    kept_by : nat_lt most_rows (length old.rows + length places) ≡ false → KeepsAll state old new places → KeepsImages state old new
    kept_by few all = with_images state faults old new kept (Ask places) (rows_with old.rows places) (legal_ask old.rows places few)
        (λ told. ([], all.list.events ∙ sym (append-nil old.events))) asked.moments

    by : (r : Result (Unit {0}) DeleteFault) → AskAnswer state faults old new places r → KeepsImages state old new
    by (Ok done) adds = with_images state faults old new kept (Ask places) (rows_with old.rows places)
        (legal_ask old.rows places (few_of old.rows new.rows old.used places adds.came)) (λ told. (Ask places ∷ [], adds.listed told)) asked.moments
    by (Err (RowsFull rows)) answer = none answer.1
    by (Err (JournalFull used)) answer = none answer.1
    by (Err DiskFailed) answer = kept_by (few_of old.rows (rows_with old.rows places) old.used places answer.0) answer.2
    by (Err Memory) answer = kept_by answer.0 answer.1
    by (Err (Damaged offset)) answer = absurd answer
