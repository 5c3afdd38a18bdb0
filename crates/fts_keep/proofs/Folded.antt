-- The loop over the bodies of a journal: one entry more, a fault, and the end.
use Rattle.std.proofs.Common.{◌≡◌, refl, ap, sym, ◌∙◌, subst, ℕ, zero, suc, ◌+◌, ◌≤◌, List, [], ◌∷◌, ◌++◌, length, take, drop, slice_get, Option, Some, Result, Ok, Err, IfErr, inl, inr, ◌⊎◌, arith, add-one}
use Rattle.std.proofs.lemmas.List.{length-append}
use Rattle.std.proofs.lemmas.List.Elements.{All-nil, All-push}
use Rattle.std.proofs.lemmas.List.Sums.{sum_by_push, sum_by-take-le}
use Rattle.std.specs.List.{sum_by}
use Rattle.std.specs.Result.{IsErrAnd}
use Rattle.fts_tables.specs.Counts.{Rose}
use Rattle.fts_tables.specs.Tables.{Tables, empty_tables}
use Rattle.fts_tables.specs.Step.{Outcomes, step}
use Rattle.fts_tables.specs.History.{tables_after, IsAccepted}
use Rattle.fts_tables.specs.declared.commands.Answer.{Answer}
use Rattle.fts_tables.specs.declared.commands.Entry.{Entry}
use Rattle.fts_record.specs.Spelling.{spelled}
use Rattle.fts_record.specs.Proper.{IsProper}
use Rattle.fts_record.specs.Reading.{entry_in}
use Rattle.fts_disk.specs.Disk.{DiskState, IsTold, IsLawful}
use Rattle.fts_journal.specs.Journal.{JournalData, Keeps, filled_by}
use Rattle.fts_journal.specs.declared.fault.JournalFault.{JournalFault}
use Rattle.fts_journal.specs.declared.fault.JournalFault.TheVariants.{DiskFailed as JournalDiskFailed, Memory as JournalMemory}
use Rattle.fts_keep.specs.Faults.{fault_of}
use Rattle.fts_keep.specs.declared.fault.KeepFault.{KeepFault}
use Rattle.fts_keep.specs.declared.fault.KeepFault.TheVariants.{Rule, DiskFailed, JournalFull, Damaged, Memory}
use Rattle.fts_keep.specs.Keeps.{bodies_of}
use Rattle.fts_keep.specs.Damage.{fault_behind, fault_at, fault_from, fault_in}
use Rattle.fts_keep.specs.Folding.{Takes, TakesEntry, LeavesJournal, HasFolded, FoldFault}
use Rattle.fts_keep.proofs.Lists.{tables_from-append, legal_more, bodies_more, filled_more}
use Rattle.fts_keep.proofs.Moments.{same_still, more_still, rose_later}

-- the items from a place on
drop_at_place : {A : Type 0} (items : List A) (n : ℕ) (item : A) → slice_get items n ≡ Some item → drop n items ≡ item ∷ drop (suc n) items
drop_at_place [] n item is = absurd cc
drop_at_place (first ∷ items) zero item is = let same : first ≡ item = cc in ap (λ x. x ∷ items) same
drop_at_place (first ∷ items) (suc n) item is = drop_at_place items n item is

-- the items up to a place
take_at_place : {A : Type 0} (items : List A) (n : ℕ) (item : A) → slice_get items n ≡ Some item → take (suc n) items ≡ take n items ++ item ∷ []
take_at_place [] n item is = absurd cc
take_at_place (first ∷ items) zero item is = let same : first ≡ item = cc in ap (λ x. x ∷ []) same
take_at_place (first ∷ items) (suc n) item is = ap (λ rest. first ∷ rest) (take_at_place items n item is)

-- none of no items
take_none : {A : Type 0} (n : ℕ) → take {A = A} n [] ≡ []
take_none zero = refl
take_none (suc n) = refl

-- all items
pub take_all : {A : Type 0} (items : List A) (n : ℕ) → length items ≡ n → take n items ≡ items
take_all [] n is = take_none n
take_all (item ∷ items) zero is = absurd (omega (arith, is))
take_all (item ∷ items) (suc n) is = ap (λ rest. item ∷ rest) (take_all items n (omega (arith, is)))

-- a step that was done is accepted, and leaves its tables
step_done : (before after : Tables) (answer : Answer) (came : Outcomes) → came ≡ Ok (after, answer) → IsAccepted came × (tables_after before came ≡ after)
step_done before after answer (Ok done) is = (tt, ap (λ (d : Tables × Answer). d.0) (let same : done ≡ (after, answer) = cc in same))
step_done before after answer (Err refusal) is = absurd cc

-- the first so many sizes fill no more than all
pub filled_to : (sizes : List ℕ) (n : ℕ) → filled_by (take n sizes) ≤ filled_by sizes
filled_to sizes n = omega (arith, sum_by-take-le (λ s. 5 + s) sizes n)

-- the bytes that one size more fills
pub passes_more : (sizes : List ℕ) (n size : ℕ) → slice_get sizes n ≡ Some size → filled_by (take n sizes) + 5 + size ≡ filled_by (take (suc n) sizes)
passes_more sizes n size is = omega
    (arith, sum_by_push (λ s. 5 + s) (take n sizes) size, ap (λ l. sum_by (λ s. 5 + s) l) (take_at_place sizes n size is))

module _ {D : Type 0} (state : D → DiskState) (journal : JournalData D) where
  -- nothing was folded yet
  pub folded_none : HasFolded state journal empty_tables [] 8 0
  folded_none = record {
    folded = refl;
    legal = tt;
    counted = refl;
    proper = All-nil IsProper;
    fills = refl;
    passes = refl;
    spells = λ told. refl;
    behind = λ told. refl;
  }

  -- one entry more
  pub folded_more : (tables after : Tables) (list longer : List Entry) (gate n : ℕ) (body : List ℕ) → HasFolded state journal tables list gate n
      → TakesEntry tables list body after longer → slice_get journal.sizes n ≡ Some (length body)
      → (IsTold (state journal.disk) → slice_get journal.bodies n ≡ Some body) → HasFolded state journal after longer (gate + 5 + length body) (n + 1)
  folded_more tables after list longer gate n body so_far takes long here =
      let done = step_done tables after takes.answer (step tables takes.entry.command) takes.stepped in
      subst (λ l. HasFolded state journal after l (gate + 5 + length body) (n + 1)) (sym takes.listed) (record {
        folded = sym done.1 ∙ ap (λ t. tables_after t (step t takes.entry.command)) so_far.folded
            ∙ sym (tables_from-append empty_tables list (takes.entry ∷ []));
        legal = legal_more empty_tables list takes.entry so_far.legal (subst (λ t. IsAccepted (step t takes.entry.command)) so_far.folded done.0);
        counted = omega (arith, so_far.counted, length-append list (takes.entry ∷ []));
        proper = All-push IsProper list takes.entry so_far.proper takes.proper;
        fills = ap (λ b. gate + 5 + length b) takes.spells ∙ ap (λ n. n + 5 + length (spelled takes.entry)) so_far.fills
            ∙ sym (filled_more list takes.entry);
        passes = ap (λ n. n + 5 + length body) so_far.passes ∙ passes_more journal.sizes n (length body) long
            ∙ ap (λ k. filled_by (take k journal.sizes)) (sym (add-one n));
        spells = λ told. ap (λ k. take k journal.bodies) (add-one n) ∙ take_at_place journal.bodies n body (here told)
            ∙ ap (λ b. b ++ body ∷ []) (so_far.spells told)
            ∙ ap (λ x. bodies_of list ++ x ∷ []) takes.spells ∙ sym (bodies_more list takes.entry);
        behind = λ told. so_far.behind told
            ∙ ap (λ rest. fault_from tables gate rest) (drop_at_place journal.bodies n body (here told))
            ∙ ap (λ read. fault_at tables gate read (λ next. fault_from next (gate + 5 + length body) (drop (suc n) journal.bodies))) takes.read
            ∙ ap (λ came. fault_behind gate came (λ next. fault_from next (gate + 5 + length body) (drop (suc n) journal.bodies))) takes.stepped
            ∙ ap (λ k. fault_from after (gate + 5 + length body) (drop k journal.bodies)) (sym (add-one n));
      })

  -- a fault that a body is, whatever follows, is the first of all
  pub folded_fault : (tables : Tables) (list : List Entry) (gate n offset : ℕ) (body : List ℕ) → HasFolded state journal tables list gate n
      → ((later : Tables → Option ℕ) → fault_at tables gate (entry_in body) later ≡ Some offset)
      → IsTold (state journal.disk) → slice_get journal.bodies n ≡ Some body → fault_in journal.bodies ≡ Some offset
  folded_fault tables list gate n offset body so_far fault told here =
      so_far.behind told
      ∙ ap (λ rest. fault_from tables gate rest) (drop_at_place journal.bodies n body here)
      ∙ fault (λ next. fault_from next (gate + 5 + length body) (drop (suc n) journal.bodies))

-- nothing was called yet
pub leaves_none : {D : Type 0} (state : D → DiskState) (faults : D → ℕ) → ((disk : D) → IsTold (state disk) → IsLawful (state disk))
    → (journal : JournalData D) → LeavesJournal state faults journal journal
leaves_none state faults lawful journal = record {
  count = refl;
  used = refl;
  in_doubt = refl;
  told = refl;
  counts = omega arith;
  sizes = refl;
  bodies = λ told. refl;
  doubt = λ told. refl;
  still = λ told. same_still (state journal.disk) (lawful journal.disk told);
}

-- one body more was read, or not
pub leaves_more : {D : Type 0} (state : D → DiskState) (faults : D → ℕ) → ((disk : D) → IsTold (state disk) → IsLawful (state disk))
    → (old mid new : JournalData D) → LeavesJournal state faults old mid
    → (state new.disk).told ≡ (state mid.disk).told → (new.count ≡ mid.count) × (new.used ≡ mid.used) × (new.in_doubt ≡ mid.in_doubt)
    → faults mid.disk ≤ faults new.disk → new.sizes ≡ mid.sizes
    → (IsTold (state mid.disk) → Keeps (state mid.disk) (state new.disk) mid.bodies new.bodies) → (IsTold (state mid.disk) → new.doubt ≡ mid.doubt)
    → LeavesJournal state faults old new
leaves_more state faults lawful old mid new so_far told kept counts sizes keeps doubt = record {
  count = kept.0 ∙ so_far.count;
  used = kept.1 ∙ so_far.used;
  in_doubt = kept.2 ∙ so_far.in_doubt;
  told = told ∙ so_far.told;
  counts = omega (arith, so_far.counts, counts);
  sizes = sizes ∙ so_far.sizes;
  bodies = λ is. (keeps (so_far.told ∙ is)).same ∙ so_far.bodies is;
  doubt = λ is. doubt (so_far.told ∙ is) ∙ so_far.doubt is;
  still = λ is. more_still (state old.disk) (state mid.disk) (state new.disk) (so_far.still is) (lawful new.disk (told ∙ so_far.told ∙ is))
      (keeps (so_far.told ∙ is)).moments;
}

-- why a body wasn't read
pub read_fault : {D : Type 0} (state : D → DiskState) (faults : D → ℕ) (old mid new : JournalData D) → faults old.disk ≤ faults mid.disk
    → (fault : JournalFault)
    → (fault ≡ JournalDiskFailed → Rose (faults mid.disk) (faults new.disk)) → (fault ≡ JournalDiskFailed) ⊎ (fault ≡ JournalMemory)
    → FoldFault state faults old new (fault_of fault)
read_fault state faults old mid new counts fault rose (inl is) = subst (λ f. FoldFault state faults old new (fault_of f)) (sym is)
    (rose_later (faults old.disk) (faults mid.disk) (faults new.disk) counts (rose is))
read_fault state faults old mid new counts fault rose (inr is) = subst (λ f. FoldFault state faults old new (fault_of f)) (sym is) tt

-- why a body wasn't taken
pub take_fault : {D : Type 0} (state : D → DiskState) (faults : D → ℕ) (old new : JournalData D) (tables after : Tables) (list longer : List Entry)
    (gate n : ℕ) (body : List ℕ) → HasFolded state old tables list gate n
    → (IsTold (state old.disk) → slice_get old.bodies n ≡ Some body) → (fault : KeepFault) → Takes tables list gate body after longer (Err fault)
    → FoldFault state faults old new fault
take_fault state faults old new tables after list longer gate n body so_far here (Damaged offset) takes =
    λ told. folded_fault state old tables list gate n offset body so_far takes told (here told)
take_fault state faults old new tables after list longer gate n body so_far here Memory takes = tt
take_fault state faults old new tables after list longer gate n body so_far here _ takes = absurd takes

-- what holds of a fault holds of the answer that carries it
pub on_err : {T : Type 0} (result : Result T KeepFault) (fault : KeepFault) (P : KeepFault → Type 0) → IsErrAnd result (λ e. e ≡ fault) → P fault
    → IfErr result P
on_err (Ok value) fault P is p = tt
on_err (Err error) fault P is p = subst P (sym is) p
