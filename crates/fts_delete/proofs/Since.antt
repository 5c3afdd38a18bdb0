-- Images since an opening of the list: of a journal that was made ready, and of one event more.
use Rattle.std.proofs.Common.{◌≡◌, inl, inr, sym, ◌∙◌, ap, subst, ℕ, Some, List, [], ◌∷◌, ◌++◌, Result, Ok, Err}
use Rattle.fts_disk.specs.Disk.{DiskState, IsTold, LeavesOnly}
use Rattle.fts_journal.proofs.Moments.{weakened}
use Rattle.fts_delete.specs.declared.events.Event.{Event}
use Rattle.fts_delete.specs.declared.rows.DeleteRow.{DeleteRow}
use Rattle.fts_delete.specs.declared.fault.DeleteFault.{DeleteFault}
use Rattle.fts_delete.specs.declared.fault.DeleteFault.TheVariants.{Damaged, DiskFailed, JournalFull, RowsFull, Memory}
use Rattle.fts_delete.specs.Rows.{rows_after}
use Rattle.fts_delete.specs.Journals.{DeletesData, StandsFor, IsLegal, IsImageSince, IsDeletes, KeepsImages}
use Rattle.fts_delete.specs.Recording.{KeepsList, IsImageOf, IsImageWith, ReadyAnswer, Readied, AddAnswer, Added}
use Rattle.fts_delete.proofs.Images.{image_more, image_now}
use Rattle.fts_delete.proofs.Lists.{rows_more}
use Rattle.std.proofs.lemmas.List.{append-nil}

-- nothing changed
same_list : {D : Type 0} (state : D → DiskState) (old new : DeletesData D) → new ≡ old → KeepsList state old new
same_list state old new is = record {
  rows = ap (λ (d : DeletesData _). d.rows) is;
  count = ap (λ (d : DeletesData _). d.count) is;
  used = ap (λ (d : DeletesData _). d.used) is;
  events = ap (λ (d : DeletesData _). d.events) is;
}

-- making ready adds no event
pub readied_list : {D : Type 0} (state : D → DiskState) (faults : D → ℕ) (old new : DeletesData D) (size : ℕ) (result : Result (Unit {0}) DeleteFault)
    → ReadyAnswer state faults old new size result → KeepsList state old new
readied_list state faults old new size (Ok done) answer = answer.3
readied_list state faults old new size (Err DiskFailed) answer = answer.3
readied_list state faults old new size (Err (JournalFull used)) answer = same_list state old new answer.2
readied_list state faults old new size _ answer = absurd answer

-- recording adds one event or none
pub added_list : {D : Type 0} (state : D → DiskState) (faults : D → ℕ) (old new : DeletesData D) (event : Event) (result : Result (Unit {0}) DeleteFault)
    → AddAnswer state faults old new event result → IsTold (state old.disk) → (added : List Event) × (new.events ≡ old.events ++ added)
added_list state faults old new event (Ok done) answer told = (event ∷ [], answer.listed told)
added_list state faults old new event (Err DiskFailed) answer told = ([], answer.2.events ∙ sym (append-nil old.events))
added_list state faults old new event (Err Memory) answer told = ([], ap (λ (d : DeletesData _). d.events) answer ∙ sym (append-nil old.events))
added_list state faults old new event _ answer told = absurd answer

module _ {D : Type 0} (state : D → DiskState) (faults : D → ℕ) (old new : DeletesData D) (kept : IsDeletes state old) where
  -- an image of the list, or of it with its doubt, is one since any opening
  image_here : (opening since : List Event) → old.events ≡ opening ++ since → IsTold (state old.disk) → (content : List ℕ) → IsImageOf old content
      → IsImageSince opening old.events content
  image_here opening since parts told content there =
      let holds = kept.holds told in
      image_now state old.events opening since old.doubt content parts (record { rows = old.rows; are = holds.folded }) holds.legal there

  -- making ready keeps images
  pub readied_images : (size : ℕ) (result : Result (Unit {0}) DeleteFault) → Readied state faults old new size result → KeepsImages state old new
  readied_images size result readied = λ opening since parts told.
      weakened (state old.disk) (state new.disk) (IsImageOf old) (IsImageSince opening new.events) (readied.moments told)
      (λ content there. subst (λ l. IsImageSince opening l content) (sym (readied_list state faults old new size result readied.answer).events)
      (image_here opening since parts told content there))

  -- an event that is legal, at moments of which each image is one of the list, or of it with its doubt, or with this event
  pub with_images : (event : Event) (next : List DeleteRow) → rows_after old.rows event ≡ Some next
      → (IsTold (state old.disk) → (added : List Event) × (new.events ≡ old.events ++ added))
      → (IsTold (state old.disk) → LeavesOnly (state old.disk) (state new.disk) (IsImageWith old event)) → KeepsImages state old new
  with_images event next taken listed moments = λ opening since parts told.
      let more = listed told in
      weakened (state old.disk) (state new.disk) (IsImageWith old event) (IsImageSince opening new.events) (moments told)
      (λ content there. image opening since parts told more.0 more.1 content there)
    where
      image : (opening since : List Event) → old.events ≡ opening ++ since → IsTold (state old.disk) → (later : List Event) → new.events ≡ old.events ++ later
          → (content : List ℕ) → IsImageWith old event content → IsImageSince opening new.events content
      image opening since parts told later is content (inl there) = subst (λ l. IsImageSince opening l content) (sym is)
          (image_more opening old.events later content (image_here opening since parts told content there))
      image opening since parts told later is content (inr stands) = record {
        since = since;
        later = later;
        parts = is ∙ ap (λ l. l ++ later) parts;
        doubt = Some event;
        legal = subst (λ l. IsLegal (l ++ event ∷ [])) parts
            (record { rows = next; are = rows_more old.rows next old.events event (kept.holds told).folded taken });
        stands = subst (λ l. StandsFor content (l ++ event ∷ [])) parts stands;
      }

  -- so recording it keeps images
  pub added_images : (event : Event) (next : List DeleteRow) → rows_after old.rows event ≡ Some next → (result : Result (Unit {0}) DeleteFault)
      → Added state faults old new event result → KeepsImages state old new
  added_images event next taken result added =
      with_images event next taken (added_list state faults old new event result added.answer) added.moments
