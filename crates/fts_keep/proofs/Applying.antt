-- What an applied command comes to, as callers need it: settings stay in force, the list only grows, and images compose.
use Rattle.std.proofs.Common.{◌≡◌, refl, ap, sym, ◌∙◌, subst, inl, inr, ⊎_elim, ℕ, ◌≤◌, Bool, true, false, if◌then◌else◌, List, [], ◌∷◌, ◌++◌, Option, Some, None, IsSome, IsOk, Result, Ok, Err, All}
use Rattle.std.proofs.lemmas.List.Elements.{All-nil, All-cons}
use Rattle.fts_tables.specs.Tables.{Tables, empty_tables}
use Rattle.fts_tables.specs.Step.{Outcomes, step}
use Rattle.fts_tables.specs.History.{tables_of, IsAccepted, IsLegal}
use Rattle.fts_tables.specs.Settling.{settles}
use Rattle.fts_tables.specs.declared.commands.Entry.{Entry}
use Rattle.fts_tables.specs.declared.commands.Answer.{Answer}
use Rattle.fts_record.specs.Proper.{IsProper}
use Rattle.fts_desk.specs.DeskData.{DeskData}
use Rattle.fts_disk.specs.Disk.{DiskState, IsTold}
use Rattle.fts_journal.specs.Journal.{JournalData}
use Rattle.fts_keep.specs.Keeps.{KeepData, HoldsList, IsFilledBy, IsFold, used_of, IsImageSince, Grows, DoubtHasCause, KeepsImages, StandsFor, with_doubt}
use Rattle.fts_keep.specs.Views.{keep_of, IsTied, IsKept}
use Rattle.fts_keep.specs.Applied.{Applied, AppliesSafely, DoubtIsOwn, KeepsList, IsImageDuring, applied_to, applied_by, fits}
use Rattle.fts_keep.specs.Ending.{KeepsFirstLimit, LeavesRoom, HasRoom, IsNotFull, ShowsProper, StaysFilled}
use Rattle.fts_keep.specs.declared.fault.KeepFault.{KeepFault}
use Rattle.fts_keep.specs.declared.fault.KeepFault.TheVariants.{Rule, DiskFailed, JournalFull, Damaged, Memory}
use Rattle.fts_keep.proofs.Lists.{none_more, legal_list, legal_more, accepted_by, filled_by_more}
use Rattle.fts_keep.proofs.Exits.{fits_by}
use Rattle.fts_keep.proofs.Moments.{weakened}
use Rattle.fts_keep.proofs.Settled.{settings_stay}

-- what fits comes to what it is
fit_of : (fit : Bool) (used : ℕ) (found done : Tables × Answer) → (if fit then Ok found else Err (JournalFull used)) ≡ Ok done → found ≡ done
fit_of true used found done is = cc
fit_of false used found done is = absurd cc

-- what came to something was the step's
step_of : (used : ℕ) (entry : Entry) (came : Outcomes) (done : Tables × Answer) → applied_by used entry came ≡ Ok done → came ≡ Ok done
step_of used entry (Err refusal) done is = absurd cc
step_of used entry (Ok found) done is = ap (λ (d : Tables × Answer). Ok d) (fit_of (fits used entry) used found done is)

module _ {D : Type 0} (state : D → DiskState) (faults : D → ℕ) (desk next : DeskData) (journal last : JournalData D) (list longer : List Entry)
    (entry : Entry) where
  -- settings that were in force still are
  settings_in : IsSome desk.tables.settings → (result : Result Answer KeepFault)
      → Applied state faults (keep_of state desk journal list) (keep_of state next last longer) entry result → IsSome next.tables.settings
  settings_in some (Ok answer) applied = settings_stay desk.tables next.tables entry.command answer some
      (step_of journal.used entry (step desk.tables entry.command) (next.tables, answer) applied.done)
  settings_in some (Err (Rule refusal)) applied = subst (λ (t : Tables). IsSome t.settings) (sym (ap (λ (k : KeepData D). k.tables) applied.1)) some
  settings_in some (Err (JournalFull used)) applied = subst (λ (t : Tables). IsSome t.settings) (sym (ap (λ (k : KeepData D). k.tables) applied.1)) some
  settings_in some (Err DiskFailed) applied = subst (λ (t : Tables). IsSome t.settings) (sym applied.keeps.tables) some
  settings_in some (Err Memory) applied = subst (λ (t : Tables). IsSome t.settings) (sym applied.keeps.tables) some
  settings_in some (Err (Damaged offset)) applied = absurd applied

  -- a keep is one still
  pub kept_after : (result : Result Answer KeepFault) → IsKept state desk journal list
      → Applied state faults (keep_of state desk journal list) (keep_of state next last longer) entry result → IsTied state next last longer → IsKept state next last longer
  kept_after result kept applied tied = record { settings = settings_in kept.settings result applied; tied = tied }

  module _ (counts : faults journal.disk ≤ faults last.disk) where
    -- nothing was added
    added_none : longer ≡ list → (state last.disk).told ≡ (state journal.disk).told
        → Grows state faults entry.writer (keep_of state desk journal list) (keep_of state next last longer)
    added_none entries told = record {
      added = [];
      appended = entries ∙ sym (none_more list);
      by = All-nil (λ (other : Entry). other.writer ≡ entry.writer);
      counts = counts;
      told = told;
    }

    -- this entry was added
    added_one : longer ≡ list ++ entry ∷ [] → (state last.disk).told ≡ (state journal.disk).told
        → Grows state faults entry.writer (keep_of state desk journal list) (keep_of state next last longer)
    added_one listed told = record {
      added = entry ∷ [];
      appended = listed;
      by = All-cons (λ (other : Entry). other.writer ≡ entry.writer) entry [] refl (All-nil (λ (other : Entry). other.writer ≡ entry.writer));
      counts = counts;
      told = told;
    }

    -- the list only grows, by entries of this writer
    pub grown : (result : Result Answer KeepFault) → Applied state faults (keep_of state desk journal list) (keep_of state next last longer) entry result
        → Grows state faults entry.writer (keep_of state desk journal list) (keep_of state next last longer)
    grown (Ok answer) applied = added_one applied.listed applied.told
    grown (Err (Rule refusal)) applied = added_none (ap (λ (k : KeepData D). k.entries) applied.1) (ap (λ (k : KeepData D). (state k.disk).told) applied.1)
    grown (Err (JournalFull used)) applied = added_none (ap (λ (k : KeepData D). k.entries) applied.1) (ap (λ (k : KeepData D). (state k.disk).told) applied.1)
    grown (Err DiskFailed) applied = added_none applied.keeps.entries applied.keeps.told
    grown (Err Memory) applied = added_none applied.keeps.entries applied.keeps.told
    grown (Err (Damaged offset)) applied = absurd applied

-- an entry is in doubt only where one was, or by a failure of the disk
module _ {D : Type 0} (state : D → DiskState) (faults : D → ℕ) (old new : KeepData D) (entry : Entry) where
  -- where nothing changed, nothing came into doubt
  same_caused : new ≡ old → DoubtHasCause state faults old new
  same_caused same = record {
    in_doubt = λ doubted. inl (ap (λ k. k.in_doubt) (sym same) ∙ doubted);
    doubt = λ told. inr (inl (ap (λ k. k.doubt) same));
  }

  pub doubt_caused : (result : Result Answer KeepFault) → Applied state faults old new entry result → DoubtHasCause state faults old new
  doubt_caused (Ok answer) applied = record { in_doubt = λ doubted. let sure = applied.no_doubt in absurd cc; doubt = λ told. inl applied.cleared }
  doubt_caused (Err (Rule refusal)) applied = same_caused applied.1
  doubt_caused (Err (JournalFull used)) applied = same_caused applied.1
  doubt_caused (Err DiskFailed) applied = record { in_doubt = λ doubted. inr applied.rose; doubt = λ told. inr (inr applied.rose) }
  doubt_caused (Err Memory) applied = record {
    in_doubt = λ doubted. inl (was old.in_doubt refl doubted);
    doubt = λ told. ⊎_elim (λ same. inr (inl same)) (λ none. inl none) applied.doubt;
  }
    where
      was : (before : Bool) → old.in_doubt ≡ before → new.in_doubt ≡ true → old.in_doubt ≡ true
      was true is doubted = is
      was false is doubted = ap (λ (k : KeepData D). k.in_doubt) (sym (applied.untouched is)) ∙ doubted
  doubt_caused (Err (Damaged offset)) applied = absurd applied

-- and it is the old one, or the command's own
pub doubt_of : {D : Type 0} (state : D → DiskState) (faults : D → ℕ) (old new : KeepData D) (entry : Entry) (result : Result Answer KeepFault)
    → Applied state faults old new entry result → DoubtIsOwn faults old new entry
doubt_of state faults old new entry (Ok answer) applied = inr (inl applied.cleared)
doubt_of state faults old new entry (Err (Rule refusal)) applied = inl (ap (λ k. k.doubt) applied.1)
doubt_of state faults old new entry (Err (JournalFull used)) applied = inl (ap (λ k. k.doubt) applied.1)
doubt_of state faults old new entry (Err DiskFailed) applied =
    ⊎_elim (λ same. inl same) (λ other. inr (⊎_elim (λ none. inl none) (λ own. inr (own, applied.rose)) other)) applied.doubt
doubt_of state faults old new entry (Err Memory) applied = ⊎_elim (λ same. inl same) (λ none. inr (inl none)) applied.doubt
doubt_of state faults old new entry (Err (Damaged offset)) applied = absurd applied

-- images that are those of a list, with one entry more at most, are so since any opening of that list
pub images_since : {D : Type 0} (state : D → DiskState) (faults : D → ℕ) (old new : KeepData D) (entry : Entry) (opening since : List Entry)
    → IsFold state old → IsTold (state old.disk)
    → Grows state faults entry.writer old new → old.entries ≡ opening ++ since → AppliesSafely state old new entry → KeepsImages state opening old new
images_since state faults old new entry opening since fold told grows is safe = weakened (state old.disk) (state new.disk) (IsImageDuring old entry)
    (IsImageSince opening new.entries) (safe told) image
  where
    held : HoldsList (state old.disk) old.entries old.doubt old.tables old.commands old.used old.in_doubt
    held = fold.holds told

    -- the list then, with a doubt
    with : (doubt : Option Entry) (content : List ℕ) → IsLegal (with_doubt old.entries doubt) → StandsFor content (with_doubt old.entries doubt)
        → IsImageSince opening new.entries content
    with doubt content legal stands = record {
      since = since;
      later = grows.added;
      parts = grows.appended ∙ ap (λ l. l ++ grows.added) is;
      doubt = doubt;
      legal = subst (λ l. IsLegal (with_doubt l doubt)) is legal;
      stands = subst (λ l. StandsFor content (with_doubt l doubt)) is stands;
    }

    image : (content : List ℕ) → IsImageDuring old entry content → IsImageSince opening new.entries content
    image content (inl (inl stands)) = with None content (legal_list old.entries old.doubt held.legal) stands
    image content (inl (inr stands)) = with old.doubt content held.legal stands
    image content (inr done) = with (Some entry) content
        (legal_more empty_tables old.entries entry (legal_list old.entries old.doubt held.legal)
        (subst (λ t. IsAccepted (step t entry.command)) held.folded (accepted_by old.used entry (step old.tables entry.command) done.0))) done.1

-- what the machine accepts isn't refused for want of room where there is room
not_full_by : (tables : Tables) (used full : ℕ) (entry : Entry) (came : Outcomes) → (IsAccepted came → fits used entry ≡ true)
    → applied_by used entry came ≡ Err (JournalFull full) → ⊥
not_full_by tables used full entry (Err refusal) room is = cc
not_full_by tables used full entry (Ok done) room is =
    let no : Ok done ≡ Err (JournalFull full) = sym (ap (λ b. if b then Ok done else Err (JournalFull used)) (room tt)) ∙ is in cc

module _ {D : Type 0} (state : D → DiskState) (faults : D → ℕ) (old new : KeepData D) (entry : Entry) (result : Result Answer KeepFault)
    (applied : Applied state faults old new entry result) (fold : IsFold state old) where
  -- behind such a list, where it leaves room, what settles something has room
  pub not_full : ((entries : List Entry) → IsLegal entries → All IsProper entries → LeavesRoom entries → HasRoom (tables_of entries) (used_of entries))
      → ShowsProper entry result → (entries : List Entry) → IsFilledBy old entries → LeavesRoom entries → settles entry.command ≡ true
      → IsNotFull result
  not_full has_room proper entries is room settling = by result applied proper
    where
      here : HasRoom old.tables old.used
      here = subst (λ t. HasRoom t old.used) (sym is.list.folded)
          (subst (λ n. HasRoom (tables_of entries) n) (sym is.fills) (has_room entries is.list.legal is.proper room))

      by : (r : Result Answer KeepFault) → Applied state faults old new entry r → ShowsProper entry r → IsNotFull r
      by (Ok answer) a p = tt
      by (Err (JournalFull full)) a p = not_full_by old.tables old.used full entry (step old.tables entry.command)
          (λ accepted. here entry p settling accepted) a.0
      by (Err (Rule refusal)) a p = tt
      by (Err DiskFailed) a p = tt
      by (Err (Damaged offset)) a p = tt
      by (Err Memory) a p = tt

  -- an entry that would be accepted fits
  fits_here : IsOk (applied_to old.tables old.used entry) → fits (used_of old.entries) entry ≡ true
  fits_here would = ap (λ n. fits n entry) (sym fold.filled.fills) ∙ fits_by old.used entry (step old.tables entry.command) would

  -- its own list keeps the first limit
  pub own_limit_kept : ((entries : List Entry) (more : Entry) → KeepsFirstLimit entries → fits (used_of entries) more ≡ true
      → KeepsFirstLimit (entries ++ more ∷ [])) → KeepsFirstLimit old.entries → KeepsFirstLimit new.entries
  own_limit_kept more limit = by result applied
    where
      by : (r : Result Answer KeepFault) → Applied state faults old new entry r → KeepsFirstLimit new.entries
      by (Ok answer) a = subst KeepsFirstLimit (sym a.listed)
          (more old.entries entry limit (fits_here (subst (λ came. IsOk came) (sym a.done) refl)))
      by (Err (JournalFull full)) a = subst KeepsFirstLimit (sym (ap (λ (k : KeepData D). k.entries) a.1)) limit
      by (Err (Rule refusal)) a = subst KeepsFirstLimit (sym (ap (λ (k : KeepData D). k.entries) a.1)) limit
      by (Err DiskFailed) a = subst KeepsFirstLimit (sym a.keeps.entries) limit
      by (Err Memory) a = subst KeepsFirstLimit (sym a.keeps.entries) limit
      by (Err (Damaged offset)) a = absurd a

  -- and, with the entry in doubt, where the disk tells its contents
  pub limit_kept : ((entries : List Entry) (more : Entry) → KeepsFirstLimit entries → fits (used_of entries) more ≡ true
      → KeepsFirstLimit (entries ++ more ∷ [])) → ((entries more : List Entry) → KeepsFirstLimit (entries ++ more) → KeepsFirstLimit entries)
      → IsTold (state old.disk) → KeepsFirstLimit (with_doubt old.entries old.doubt) → KeepsFirstLimit (with_doubt new.entries new.doubt)
  limit_kept more front told limit = by result applied
    where
      -- without the doubt
      alone_by : (doubt : Option Entry) → KeepsFirstLimit (with_doubt old.entries doubt) → KeepsFirstLimit old.entries
      alone_by None kept = kept
      alone_by (Some doubted) kept = front old.entries (doubted ∷ []) kept

      alone : KeepsFirstLimit old.entries
      alone = alone_by old.doubt limit

      -- with what the list is now, and the doubt
      with : (entries : List Entry) (doubt : Option Entry) → new.entries ≡ entries → new.doubt ≡ doubt → KeepsFirstLimit (with_doubt entries doubt)
          → KeepsFirstLimit (with_doubt new.entries new.doubt)
      with entries doubt list is kept =
          subst (λ l. KeepsFirstLimit (with_doubt l new.doubt)) (sym list) (subst (λ d. KeepsFirstLimit (with_doubt entries d)) (sym is) kept)

      same : new ≡ old → KeepsFirstLimit (with_doubt new.entries new.doubt)
      same is = with old.entries old.doubt (ap (λ (k : KeepData D). k.entries) is) (ap (λ (k : KeepData D). k.doubt) is) limit

      by : (r : Result Answer KeepFault) → Applied state faults old new entry r → KeepsFirstLimit (with_doubt new.entries new.doubt)
      by (Ok answer) a = with (old.entries ++ entry ∷ []) None a.listed a.cleared
          (more old.entries entry alone (fits_here (subst (λ came. IsOk came) (sym a.done) refl)))
      by (Err (JournalFull full)) a = same a.1
      by (Err (Rule refusal)) a = same a.1
      by (Err DiskFailed) a = ⊎_elim (λ was. with old.entries old.doubt a.keeps.entries was limit)
          (λ other. ⊎_elim (λ none. with old.entries None a.keeps.entries none alone)
          (λ own. with old.entries (Some entry) a.keeps.entries own (more old.entries entry alone (fits_here a.would))) other)
          (a.doubt)
      by (Err Memory) a = ⊎_elim (λ was. with old.entries old.doubt a.keeps.entries was limit)
          (λ none. with old.entries None a.keeps.entries none alone) (a.doubt)
      by (Err (Damaged offset)) a = absurd a

-- where nothing was accepted a keep is of what it was of
filled_same : {D : Type 0} (state : D → DiskState) (old new : KeepData D) (entries : List Entry) → KeepsList state old new → IsFilledBy old entries
    → IsFilledBy new entries
filled_same state old new entries keeps filled = record {
  list = record {
    folded = keeps.tables ∙ filled.list.folded;
    legal = filled.list.legal;
    counted = keeps.commands ∙ filled.list.counted;
  };
  proper = filled.proper;
  fills = keeps.used ∙ filled.fills;
}

-- a list that a keep is of grows with it
pub stays_filled : {D : Type 0} (state : D → DiskState) (faults : D → ℕ) (old new : KeepData D) (entry : Entry) (result : Result Answer KeepFault)
    → Applied state faults old new entry result → ShowsProper entry result → StaysFilled old new entry result
stays_filled state faults old new entry (Ok answer) applied proper =
    λ entries filled. filled_by_more state old new entries entry answer filled proper applied
stays_filled state faults old new entry (Err (Rule refusal)) applied proper =
    λ entries filled. subst (λ k. IsFilledBy k entries) (sym applied.1) filled
stays_filled state faults old new entry (Err (JournalFull used)) applied proper =
    λ entries filled. subst (λ k. IsFilledBy k entries) (sym applied.1) filled
stays_filled state faults old new entry (Err DiskFailed) applied proper = λ entries filled. filled_same state old new entries applied.keeps filled
stays_filled state faults old new entry (Err Memory) applied proper = λ entries filled. filled_same state old new entries applied.keeps filled
stays_filled state faults old new entry (Err (Damaged offset)) applied proper = absurd applied
