-- The loop over the bodies of a journal: one event more, a fault, and the end.
use Rattle.std.proofs.Common.{◌≡◌, refl, ap, sym, ◌∙◌, subst, ℕ, suc, ◌+◌, ◌≤◌, List, [], ◌∷◌, ◌++◌, length, take, drop, take-suc, drop-cons, slice_get, Option, Some, None, Result, Ok, Err, IfErr, inl, inr, ◌⊎◌, arith, add-one, true, false, is_some}
use Rattle.std.proofs.lemmas.List.{length-append}
use Rattle.std.proofs.lemmas.List.Elements.{All-nil, All-push}
use Rattle.std.proofs.lemmas.Option.{slice_get_within, get_or_from_slice_get}
use Rattle.std.proofs.lemmas.List.Sums.{sum_by_push, sum_by-take-le}
use Rattle.std.specs.List.{sum_by}
use Rattle.std.specs.Result.{IsErrAnd}
use Rattle.fts_tables.specs.Counts.{Rose}
use Rattle.fts_disk.specs.Disk.{DiskState, IsTold, IsLawful}
use Rattle.fts_journal.specs.Journal.{JournalData, Keeps, filled_by}
use Rattle.fts_journal.specs.declared.fault.JournalFault.{JournalFault}
use Rattle.fts_journal.specs.declared.fault.JournalFault.TheVariants.{DiskFailed as JournalDiskFailed, Memory as JournalMemory}
use Rattle.fts_delete.specs.Faults.{fault_of}
use Rattle.fts_record.specs.Laws.{AreBytes}
use Rattle.fts_tables.specs.SettingsData.{is_within}
use Rattle.std.specs.List.{list_all}
use Rattle.std.proofs.lemmas.Bool.{and_parts}
use Rattle.fts_delete.specs.declared.events.Event.{Event}
use Rattle.fts_delete.specs.declared.events.Event.TheVariants.{Ask, Gone, Missed}
use Rattle.fts_delete.specs.declared.rows.DeleteRow.{DeleteRow}
use Rattle.fts_delete.specs.declared.fault.DeleteFault.{DeleteFault}
use Rattle.fts_delete.specs.declared.fault.DeleteFault.TheVariants.{Damaged, DiskFailed, JournalFull, RowsFull, Memory}
use Rattle.fts_delete.specs.Rows.{rows_after, most_asked}
use Rattle.fts_delete.specs.Spelling.{IsProper, body_of, bodies_of, event_in, is_proper_place, has_places}
use Rattle.fts_delete.specs.Journals.{fault_behind, fault_at, fault_from, fault_in}
use Rattle.fts_delete.specs.Folding.{Takes, TakesEvent, LeavesJournal, HasFolded, FoldFault}
use Rattle.fts_delete.proofs.Lists.{rows_more, bodies_more, filled_more}
use Rattle.fts_delete.proofs.ReadBack.{spelled_is_read}
use Rattle.fts_delete.proofs.Moments.{same_still, more_still, rose_later}

-- the items from a place on
drop_at_place : {A : Type 0} (items : List A) (n : ℕ) (item : A) → slice_get items n ≡ Some item → drop n items ≡ item ∷ drop (suc n) items
drop_at_place items n item is = drop-cons items n item (slice_get_within items n item is)
    ∙ ap (λ x. x ∷ drop (suc n) items) (get_or_from_slice_get items n item item is)

-- the items up to a place
take_at_place : {A : Type 0} (items : List A) (n : ℕ) (item : A) → slice_get items n ≡ Some item → take (suc n) items ≡ take n items ++ item ∷ []
take_at_place items n item is = take-suc items n item (slice_get_within items n item is)
    ∙ ap (λ x. take n items ++ x ∷ []) (get_or_from_slice_get items n item item is)

-- the first so many sizes fill no more than all
pub filled_to : (sizes : List ℕ) (n : ℕ) → filled_by (take n sizes) ≤ filled_by sizes
filled_to sizes n = omega (arith, sum_by-take-le (λ s. 5 + s) sizes n)

-- the bytes that one size more fills
pub passes_more : (sizes : List ℕ) (n size : ℕ) → slice_get sizes n ≡ Some size → filled_by (take n sizes) + 5 + size ≡ filled_by (take (suc n) sizes)
passes_more sizes n size is = omega
    (arith, sum_by_push (λ s. 5 + s) (take n sizes) size, ap (λ l. sum_by (λ s. 5 + s) l) (take_at_place sizes n size is))

-- a body that is an event which is illegal: its gate is the fault
pub illegal_fault : (rows : List DeleteRow) (gate : ℕ) (body : List ℕ) (event : Event) → event_in body ≡ Ok event → is_some (rows_after rows event) ≡ false
    → (later : List DeleteRow → Option ℕ) → fault_at rows gate (event_in body) later ≡ Some gate
illegal_fault rows gate body event read illegal later = ap (λ r. fault_at rows gate r later) read ∙ by (rows_after rows event) illegal
  where
    by : (came : Option (List DeleteRow)) → is_some came ≡ false → fault_behind gate came later ≡ Some gate
    by None none = refl
    by (Some next) none = absurd cc

-- a body that is no event: the field is
pub broken_fault : (rows : List DeleteRow) (gate : ℕ) (body : List ℕ) (place : ℕ) → event_in body ≡ Err place
    → (later : List DeleteRow → Option ℕ) → fault_at rows gate (event_in body) later ≡ Some (gate + 5 + place)
broken_fault rows gate body place read later = ap (λ r. fault_at rows gate r later) read

-- an event that was read is proper, so it asks for as many places as it may
pub read_places : (bytes : List ℕ) (event : Event) → AreBytes bytes → event_in bytes ≡ Ok event → has_places event ≡ true
read_places bytes event are read = by event (spelled_is_read.spelled bytes event are read).1
  where
    by : (e : Event) → IsProper e → has_places e ≡ true
    by (Ask places) proper = (and_parts (is_within 1 most_asked (length places)) (list_all is_proper_place places) proper).0
    by (Gone id) proper = refl
    by (Missed id) proper = refl

-- one that is legal is taken
pub read_taken : (rows after : List DeleteRow) (bytes : List ℕ) (event : Event) → AreBytes bytes → event_in bytes ≡ Ok event
    → rows_after rows event ≡ Some after → TakesEvent rows bytes after
read_taken rows after bytes event are read taken =
    let spelled = spelled_is_read.spelled bytes event are read in
    record { event = event; spells = spelled.0; proper = spelled.1; read = read; taken = taken }

module _ {D : Type 0} (state : D → DiskState) (journal : JournalData D) where
  -- nothing was folded yet
  pub folded_none : HasFolded state journal [] 8 0
  folded_none = record {
    events = [];
    folded = refl;
    counted = refl;
    proper = All-nil IsProper;
    fills = refl;
    passes = refl;
    spells = λ told. refl;
    behind = λ told. refl;
  }

  -- one event more
  pub folded_more : (rows after : List DeleteRow) (gate n : ℕ) (body : List ℕ) → HasFolded state journal rows gate n → TakesEvent rows body after
      → slice_get journal.sizes n ≡ Some (length body)
      → (IsTold (state journal.disk) → slice_get journal.bodies n ≡ Some body) → HasFolded state journal after (gate + 5 + length body) (n + 1)
  folded_more rows after gate n body so_far takes long here = record {
    events = so_far.events ++ takes.event ∷ [];
    folded = rows_more rows after so_far.events takes.event so_far.folded takes.taken;
    counted = omega (arith, so_far.counted, length-append so_far.events (takes.event ∷ []));
    proper = All-push IsProper so_far.events takes.event so_far.proper takes.proper;
    fills = ap (λ b. gate + 5 + length b) takes.spells ∙ ap (λ n. n + 5 + length (body_of takes.event)) so_far.fills
        ∙ sym (filled_more so_far.events takes.event);
    passes = ap (λ n. n + 5 + length body) so_far.passes ∙ passes_more journal.sizes n (length body) long
        ∙ ap (λ k. filled_by (take k journal.sizes)) (sym (add-one n));
    spells = λ told. ap (λ k. take k journal.bodies) (add-one n) ∙ take_at_place journal.bodies n body (here told)
        ∙ ap (λ b. b ++ body ∷ []) (so_far.spells told)
        ∙ ap (λ x. bodies_of so_far.events ++ x ∷ []) takes.spells ∙ sym (bodies_more so_far.events takes.event);
    behind = λ told. so_far.behind told
        ∙ ap (λ rest. fault_from rows gate rest) (drop_at_place journal.bodies n body (here told))
        ∙ ap (λ read. fault_at rows gate read (λ next. fault_from next (gate + 5 + length body) (drop (suc n) journal.bodies))) takes.read
        ∙ ap (λ came. fault_behind gate came (λ next. fault_from next (gate + 5 + length body) (drop (suc n) journal.bodies))) takes.taken
        ∙ ap (λ k. fault_from after (gate + 5 + length body) (drop k journal.bodies)) (sym (add-one n));
  }

  -- a fault that a body is, whatever follows, is the first of all
  pub folded_fault : (rows : List DeleteRow) (gate n offset : ℕ) (body : List ℕ) → HasFolded state journal rows gate n
      → ((later : List DeleteRow → Option ℕ) → fault_at rows gate (event_in body) later ≡ Some offset)
      → IsTold (state journal.disk) → slice_get journal.bodies n ≡ Some body → fault_in journal.bodies ≡ Some offset
  folded_fault rows gate n offset body so_far fault told here =
      so_far.behind told
      ∙ ap (λ rest. fault_from rows gate rest) (drop_at_place journal.bodies n body here)
      ∙ fault (λ next. fault_from next (gate + 5 + length body) (drop (suc n) journal.bodies))

-- nothing was called yet
pub leaves_none : {D : Type 0} (state : D → DiskState) (faults : D → ℕ) → ((disk : D) → IsTold (state disk) → IsLawful (state disk))
    → (journal : JournalData D) → LeavesJournal state faults journal journal
leaves_none state faults lawful journal = record {
  count = refl;
  used = refl;
  in_doubt = refl;
  told = refl;
  counts = omega arith;
  sizes = refl;
  bodies = λ told. refl;
  doubt = λ told. refl;
  still = λ told. same_still (state journal.disk) (lawful journal.disk told);
}

-- one body more was read, or not
pub leaves_more : {D : Type 0} (state : D → DiskState) (faults : D → ℕ) → ((disk : D) → IsTold (state disk) → IsLawful (state disk))
    → (old mid new : JournalData D) → LeavesJournal state faults old mid
    → (state new.disk).told ≡ (state mid.disk).told → (new.count ≡ mid.count) × (new.used ≡ mid.used) × (new.in_doubt ≡ mid.in_doubt)
    → faults mid.disk ≤ faults new.disk → new.sizes ≡ mid.sizes
    → (IsTold (state mid.disk) → Keeps (state mid.disk) (state new.disk) mid.bodies new.bodies) → (IsTold (state mid.disk) → new.doubt ≡ mid.doubt)
    → LeavesJournal state faults old new
leaves_more state faults lawful old mid new so_far told kept counts sizes keeps doubt = record {
  count = kept.0 ∙ so_far.count;
  used = kept.1 ∙ so_far.used;
  in_doubt = kept.2 ∙ so_far.in_doubt;
  told = told ∙ so_far.told;
  counts = omega (arith, so_far.counts, counts);
  sizes = sizes ∙ so_far.sizes;
  bodies = λ is. (keeps (so_far.told ∙ is)).same ∙ so_far.bodies is;
  doubt = λ is. doubt (so_far.told ∙ is) ∙ so_far.doubt is;
  still = λ is. more_still (state old.disk) (state mid.disk) (state new.disk) (so_far.still is) (lawful new.disk (told ∙ so_far.told ∙ is))
      (keeps (so_far.told ∙ is)).moments;
}

-- why a body wasn't read
pub read_fault : {D : Type 0} (state : D → DiskState) (faults : D → ℕ) (old mid new : JournalData D) → faults old.disk ≤ faults mid.disk
    → (fault : JournalFault)
    → (fault ≡ JournalDiskFailed → Rose (faults mid.disk) (faults new.disk)) → (fault ≡ JournalDiskFailed) ⊎ (fault ≡ JournalMemory)
    → FoldFault state faults old new (fault_of fault)
read_fault state faults old mid new counts fault rose (inl is) = subst (λ f. FoldFault state faults old new (fault_of f)) (sym is)
    (rose_later (faults old.disk) (faults mid.disk) (faults new.disk) counts (rose is))
read_fault state faults old mid new counts fault rose (inr is) = subst (λ f. FoldFault state faults old new (fault_of f)) (sym is) tt

-- why a body wasn't taken
pub take_fault : {D : Type 0} (state : D → DiskState) (faults : D → ℕ) (old new : JournalData D) (rows after : List DeleteRow) (gate n : ℕ) (body : List ℕ)
    → HasFolded state old rows gate n
    → (IsTold (state old.disk) → slice_get old.bodies n ≡ Some body) → (fault : DeleteFault) → Takes rows gate body after (Err fault)
    → FoldFault state faults old new fault
take_fault state faults old new rows after gate n body so_far here (Damaged offset) takes =
    λ told. folded_fault state old rows gate n offset body so_far takes told (here told)
take_fault state faults old new rows after gate n body so_far here Memory takes = tt
take_fault state faults old new rows after gate n body so_far here _ takes = absurd takes

-- what holds of a fault holds of the answer that carries it
pub on_err : {T : Type 0} (result : Result T DeleteFault) (fault : DeleteFault) (P : DeleteFault → Type 0) → IsErrAnd result (λ e. e ≡ fault) → P fault
    → IfErr result P
on_err (Ok value) fault P is p = tt
on_err (Err error) fault P is p = subst P (sym is) p
