-- What a look makes of the lists that a monitor may be of: one entry more, the end, and each fault.
use Rattle.std.proofs.Common.{◌≡◌, ap, sym, ◌∙◌, subst, inl, inr, ℕ, ◌+◌, ◌*◌, ◌^◌, ◌≤◌, ◌<◌, false, is_some, IfErr, None, List, [], ◌∷◌, ◌++◌, length, take, drop, Option, Some, Result, Ok, Err, All, arith}
use Rattle.std.proofs.lemmas.List.{append_assoc, append-nil, length-append, length-map}
use Rattle.std.specs.Result.{IsErrAnd}
use Rattle.std.proofs.lemmas.List.Elements.{All-head, All-tail, All-push}
use Rattle.fts_tables.specs.Tables.{Tables, empty_tables}
use Rattle.fts_tables.specs.Step.{Outcomes, step}
use Rattle.fts_tables.specs.History.{tables_after, tables_of, IsAccepted}
use Rattle.fts_tables.specs.declared.commands.Answer.{Answer}
use Rattle.fts_tables.specs.declared.commands.Entry.{Entry}
use Rattle.fts_chronicle.specs.Chronicle.{ChronicleData, chronicle_of, chronicle_with}
use Rattle.fts_record.specs.Spelling.{spelled}
use Rattle.fts_record.specs.Proper.{IsProper}
use Rattle.fts_disk.specs.Disk.{DiskState, IsTold}
use Rattle.fts_journal.specs.Format.{IsBody, block, used_by, Stands}
use Rattle.fts_journal.specs.Loading.{IsCut}
use Rattle.fts_record.specs.Reading.{entry_in}
use Rattle.fts_keep.specs.Keeps.{bodies_of, used_of}
use Rattle.fts_keep.specs.Damage.{IsWhole, fault_at}
use Rattle.fts_keep.proofs.Lists.{tables_from-append, legal_more, bodies_more}
use Rattle.fts_desk.specs.DeskData.{DeskData}
use Rattle.fts_tail.specs.Tail.{TailData, HasPassed, EndsThere, LookCause, bodies_with}
use Rattle.fts_tail.proofs.Quiet.{quiet_quiet}
use Rattle.fts_tail.specs.declared.fault.TailFault.{TailFault}
use Rattle.fts_tail.specs.declared.fault.TailFault.TheVariants.{DiskFailed, NotJournal, Cut, Changed, Memory}
use Rattle.fts_tail.proofs.Passed.{used_more}
use Rattle.fts_watch.specs.Faults.{fault_of}
use Rattle.fts_watch.specs.Monitor.{MonitorData, IsFoldOf, IsMonitor, GoesOn, IsAll, OnlyLooks, LookFault, TakesEntry, Takes}
use Rattle.fts_watch.specs.declared.fault.MonitorFault.{MonitorFault}
use Rattle.fts_watch.specs.declared.fault.MonitorFault.TheVariants.{DiskFailed as MonitorDiskFailed, Damaged, Changed as MonitorChanged, Memory as MonitorMemory}

-- each body takes six bytes at least
least_used : (bodies : List (List ℕ)) → All IsBody bodies → (before : List (List ℕ)) → used_by before + 6 * length bodies ≤ used_by (before ++ bodies)
least_used [] all before = omega (arith, ap used_by (append-nil before))
least_used (body ∷ bodies) all before = omega (
  arith,
  least_used bodies (All-tail IsBody body bodies all) (before ++ body ∷ []),
  used_more before body,
  ap used_by (append_assoc before (body ∷ []) bodies),
  (All-head IsBody body bodies all).some,
)

-- so bodies can be counted
pub few_bodies : (bodies : List (List ℕ)) → All IsBody bodies → 8 + 6 * length bodies ≤ used_by bodies
few_bodies bodies all = least_used bodies all []

-- a step that was done is accepted, and leaves its tables
step_done : (before after : Tables) (answer : Answer) (came : Outcomes) → came ≡ Ok (after, answer) → IsAccepted came × (tables_after before came ≡ after)
step_done before after answer (Ok done) is = (tt, ap (λ (d : Tables × Answer). d.0) (let same : done ≡ (after, answer) = cc in same))
step_done before after answer (Err refusal) is = absurd cc

-- one entry more adds what its command and its answer tell
abbrev pub AreGrowing : Type 0
AreGrowing = (entries : List Entry) (next : Entry) (after : Tables) (answer : Answer) → step (tables_of entries) next.command ≡ Ok (after, answer)
    → chronicle_of (entries ++ next ∷ []) ≡ chronicle_with (chronicle_of entries) next.command answer after

module _ {D : Type 0} (state : D → DiskState) (old new : MonitorData D) (entries : List Entry) (so_far : IsFoldOf state old entries) where
  -- the list is the same where nothing but the disk is new, and what was passed stays so
  pub fold_same : new.tables ≡ old.tables → new.commands ≡ old.commands → new.chronicle ≡ old.chronicle → HasPassed (state new.disk) new.used (bodies_of entries) → IsFoldOf state new entries
  fold_same tables commands told passed = record {
    folded = tables ∙ so_far.folded;
    legal = so_far.legal;
    proper = so_far.proper;
    counted = commands ∙ so_far.counted;
    chronicled = told ∙ so_far.chronicled;
    passed = passed;
  }

  -- one entry more
  pub fold_more : (body : List ℕ) (takes : TakesEntry old.tables body new.tables) → new.commands ≡ old.commands + 1
      → new.chronicle ≡ chronicle_with old.chronicle takes.entry.command takes.answer new.tables → AreGrowing
      → HasPassed (state new.disk) new.used (bodies_of entries ++ body ∷ []) → IsFoldOf state new (entries ++ takes.entry ∷ [])
  fold_more body takes commands told growing passed =
      let done = step_done old.tables new.tables takes.answer (step old.tables takes.entry.command) takes.stepped in
      record {
        folded = sym done.1 ∙ ap (λ t. tables_after t (step t takes.entry.command)) so_far.folded
            ∙ sym (tables_from-append empty_tables entries (takes.entry ∷ []));
        legal = legal_more empty_tables entries takes.entry so_far.legal (subst (λ t. IsAccepted (step t takes.entry.command)) so_far.folded done.0);
        proper = All-push IsProper entries takes.entry so_far.proper takes.proper;
        counted = omega (arith, commands, so_far.counted, length-append entries (takes.entry ∷ []));
        chronicled = told ∙ ap (λ (before : ChronicleData). chronicle_with before takes.entry.command takes.answer new.tables) so_far.chronicled
            ∙ sym (growing entries takes.entry new.tables takes.answer
            (subst (λ t. step t takes.entry.command ≡ Ok (new.tables, takes.answer)) so_far.folded takes.stepped));
        passed = subst (λ bodies. HasPassed (state new.disk) new.used bodies)
            (ap (λ b. bodies_of entries ++ b ∷ []) takes.spells ∙ sym (bodies_more entries takes.entry)) passed;
      }

-- the list goes on by nothing
pub goes_nowhere : {D : Type 0} (state : D → DiskState) (old new : MonitorData D)
    → ((entries : List Entry) → IsFoldOf state old entries → IsFoldOf state new entries) → GoesOn state old new
goes_nowhere state old new same = record {
  added = [];
  each = λ entries fold. subst (λ list. IsFoldOf state new list) (sym (append-nil entries)) (same entries fold);
}

-- the list goes on once, and once more
pub goes_further : {D : Type 0} (state : D → DiskState) (old mid new : MonitorData D) → GoesOn state old mid → GoesOn state mid new → GoesOn state old new
goes_further state old mid new first second = record {
  added = first.added ++ second.added;
  each = λ entries fold. subst (λ list. IsFoldOf state new list) (append_assoc entries first.added second.added)
      (second.each (entries ++ first.added) (first.each entries fold));
}

-- where the bytes stand for the bodies the list is all of them
pub all_folded : {D : Type 0} (state : D → DiskState) (monitor : MonitorData D) (entries : List Entry) → IsFoldOf state monitor entries
    → Stands (state monitor.disk).seen (bodies_of entries) → IsWhole (state monitor.disk).seen entries
all_folded state monitor entries fold stands = record { stands = stands; proper = fold.proper; legal = fold.legal }

-- a monitor whose lists go on is one still
pub monitor_still : {D : Type 0} (state : D → DiskState) (old new : MonitorData D) → IsMonitor state old → GoesOn state old new → IsMonitor state new
monitor_still state old new is goes = (is.0 ++ goes.added, goes.each is.0 is.1)

-- where a look found none the bytes stand for what was passed
all_there : (disk : DiskState) (used : ℕ) (next : Option (List ℕ)) → is_some next ≡ false → EndsThere disk used next
    → (bodies : List (List ℕ)) → HasPassed disk used bodies → IsTold disk → Stands disk.seen bodies
all_there disk used None none ends = ends
all_there disk used (Some body) none ends = absurd cc

-- and the list is all of them
pub is_all : {D : Type 0} (state : D → DiskState) (monitor : MonitorData D) (next : Option (List ℕ)) → is_some next ≡ false
    → EndsThere (state monitor.disk) monitor.used next → IsAll state monitor
is_all state monitor next none ends told entries fold =
    all_folded state monitor entries fold (all_there (state monitor.disk) monitor.used next none ends (bodies_of entries) fold.passed told)

-- entries can be counted, and so can their offsets
pub few_entries : {D : Type 0} (state : D → DiskState) (monitor : MonitorData D) → IsMonitor state monitor
    → (monitor.commands < 4294967295) × (monitor.used < 2 ^ 62)
few_entries state monitor is =
    let fold = is.1 in
    let few = few_bodies (bodies_of is.0) fold.passed.each in (
      omega (arith, few, fold.counted, fold.passed.end, fold.passed.fits, length-map is.0 spelled),
      omega (arith, fold.passed.fits),
    )

module _ {D : Type 0} (state : D → DiskState) (faults : D → ℕ) (old new : MonitorData D) where
  -- why a look of the tail isn't done is why a look isn't
  pub tail_fault : (fault : TailFault) → LookCause state faults old.disk new.disk old.used fault → new.used ≡ old.used
      → (IsTold (state old.disk) → (state new.disk).seen ≡ (state old.disk).seen) → LookFault state faults old new (fault_of fault)
  tail_fault DiskFailed cause used seen = cause
  tail_fault NotJournal cause used seen = absurd cause
  tail_fault (Cut offset) cause used seen = λ told entries fold. inl
      (cause.0 ∙ sym used ∙ fold.passed.end, subst (λ content. IsCut content offset) (sym (seen told)) (subst (λ n. IsCut (state old.disk).seen n) (sym cause.0) (cause.1 told)))
  tail_fault Changed cause used seen = cause
  tail_fault Memory cause used seen = tt

  -- why a body isn't taken is why a look isn't done
  pub take_fault : (fault : MonitorFault) (after : Tables) (gate : ℕ) (body : List ℕ) → Takes old.tables gate body after (Err fault) → new.tables ≡ old.tables
      → gate ≡ new.used → (IsTold (state old.disk) → take (5 + length body) (drop gate (state new.disk).seen) ≡ block body) → LookFault state faults old new fault
  take_fault MonitorDiskFailed after gate body takes tables used stands = absurd takes
  take_fault (Damaged offset) after gate body takes tables used stands = λ told entries fold. inr (record {
    body = body;
    stands = ap (λ n. take (5 + length body) (drop n (state new.disk).seen)) (sym (used ∙ fold.passed.end)) ∙ stands told;
    fault = λ later. ap (λ t. fault_at t (used_of entries) (entry_in body) later) (sym fold.folded ∙ tables)
        ∙ ap (λ n. fault_at old.tables n (entry_in body) later) (sym (used ∙ fold.passed.end)) ∙ takes later;
  })
  take_fault MonitorChanged after gate body takes tables used stands = absurd takes
  take_fault MonitorMemory after gate body takes tables used stands = tt

-- what holds of a fault holds of the answer that carries it
pub on_err : {T : Type 0} (result : Result T MonitorFault) (fault : MonitorFault) (P : MonitorFault → Type 0) → IsErrAnd result (λ e. e ≡ fault) → P fault
    → IfErr result P
on_err (Ok value) fault P is p = tt
on_err (Err error) fault P is p = subst P (sym is) p

-- a monitor by its desk, its chronicle and its tail
abbrev pub view_of : {D : Type 0} → DeskData → ChronicleData → TailData D → MonitorData D
view_of desk told tail = record { tables = desk.tables; commands = desk.commands; chronicle = told; used = tail.used; disk = tail.disk }

-- where only the tail looked the lists go on by nothing
pub looked_on : {D : Type 0} (state : D → DiskState) (desk after : DeskData) (told then : ChronicleData) (old new : TailData D)
    → after.tables ≡ desk.tables → after.commands ≡ desk.commands → then ≡ told
    → ((bodies : List (List ℕ)) → HasPassed (state old.disk) old.used bodies → HasPassed (state new.disk) new.used bodies)
    → GoesOn state (view_of desk told old) (view_of after then new)
looked_on state desk after told then old new tables commands same passed = goes_nowhere state (view_of desk told old) (view_of after then new)
    (λ entries fold. fold_same state (view_of desk told old) (view_of after then new) entries fold tables commands same (passed (bodies_of entries) fold.passed))

-- where an entry was done, and its body passed, they go on by it
pub took_on : {D : Type 0} (state : D → DiskState) (desk after : DeskData) (told next_told : ChronicleData) (old mid new : TailData D) (body : List ℕ)
    → ((bodies : List (List ℕ)) → HasPassed (state old.disk) old.used bodies → HasPassed (state mid.disk) mid.used bodies)
    → mid.next ≡ Some body → TakesEntry desk.tables body after.tables → after.commands ≡ desk.commands + 1
    → ((entry : Entry) (answer : Answer) → IsProper entry → body ≡ spelled entry → step desk.tables entry.command ≡ Ok (after.tables, answer)
    → next_told ≡ chronicle_with told entry.command answer after.tables) → AreGrowing
    → ((bodies : List (List ℕ)) → HasPassed (state mid.disk) mid.used bodies → HasPassed (state new.disk) new.used (bodies_with bodies mid.next))
    → GoesOn state (view_of desk told old) (view_of after next_told new)
took_on state desk after told next_told old mid new body passed next takes commands tells growing then = record {
  added = takes.entry ∷ [];
  each = λ entries fold. fold_more state (view_of desk told old) (view_of after next_told new) entries fold body takes commands
      (tells takes.entry takes.answer takes.proper takes.spells takes.stepped) growing
      (subst (λ o. HasPassed (state new.disk) new.used (bodies_with (bodies_of entries) o)) next
      (then (bodies_of entries) (passed (bodies_of entries) fold.passed)));
}

-- a disk that is only looked at, and looked at again
pub looks_further : {D : Type 0} (state : D → DiskState) (faults : D → ℕ) (old mid new : D) → OnlyLooks state faults old mid → OnlyLooks state faults mid new
    → OnlyLooks state faults old new
looks_further state faults old mid new first second = record {
  told = second.told ∙ first.told;
  counts = omega (arith, first.counts, second.counts);
  quiet = λ told. quiet_quiet (state old) (state mid) (state new) (first.quiet told) (second.quiet (first.told ∙ told));
}
