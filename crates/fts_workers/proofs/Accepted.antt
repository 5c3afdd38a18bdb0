-- What a command's answer makes of the list that a keep is of, and of the images since an opening.
use Rattle.std.proofs.Common.{◌≡◌, refl, ap, sym, ◌∙◌, subst, inl, inr, ⊎_elim, ℕ, ◌≤◌, Bool, true, false, List, [], ◌∷◌, ◌++◌, Option, Some, None, Ok, Err, arith}
use Rattle.std.specs.Prelude.{if◌then◌else◌}
use Rattle.std.proofs.lemmas.List.{append_assoc, length-append}
use Rattle.std.proofs.lemmas.List.Elements.{All-nil, All-append}
use Rattle.fts_tables.specs.Counts.{Rose}
use Rattle.fts_tables.specs.Tables.{Tables, empty_tables}
use Rattle.fts_tables.specs.Step.{Outcomes, step}
use Rattle.fts_tables.specs.History.{tables_from, tables_after, IsAccepted, IsLegalFrom, IsLegal}
use Rattle.fts_tables.specs.declared.commands.Entry.{Entry}
use Rattle.fts_tables.specs.declared.commands.Answer.{Answer}
use Rattle.fts_tables.specs.declared.commands.Refusal.{Refusal}
use Rattle.fts_disk.specs.Disk.{DiskState, IsTold, IsLawful, LeavesOnly}
use Rattle.fts_keep.specs.Keeps.{KeepData, DoubtHasCause, IsKeep, IsListOf, IsImageOf, IsImageSince, StandsFor, with_doubt}
use Rattle.fts_keep.specs.Applied.{Applied, Accepts, KeepsList, applied_to, applied_by, fits}
use Rattle.fts_keep.specs.declared.fault.KeepFault.{KeepFault}
use Rattle.fts_keep.specs.declared.fault.KeepFault.TheVariants.{Rule, DiskFailed, JournalFull as Full, Damaged, Memory}
use Rattle.fts_workers.specs.Rounds.{StopsBy}
use Rattle.fts_workers.specs.ClaimSteps.{KeepsBy}
use Rattle.fts_workers.specs.Stops.{EndsBy}
use Rattle.fts_workers.specs.declared.ends.RoundEnd.{RoundEnd}
use Rattle.fts_workers.proofs.Copied.{none_more, tables_from-append}

-- what fits comes to what it is
fit_of : (fit : Bool) (used : ℕ) (found done : Tables × Answer) → (if fit then Ok found else Err (Full used)) ≡ Ok done → found ≡ done
fit_of true used found done is = cc
fit_of false used found done is = absurd cc

-- what came to something was the step's
pub step_of : (used : ℕ) (entry : Entry) (came : Outcomes) (done : Tables × Answer) → applied_by used entry came ≡ Ok done → came ≡ Ok done
step_of used entry (Err refusal) done is = absurd cc
step_of used entry (Ok found) done is = ap (λ (d : Tables × Answer). Ok d) (fit_of (fits used entry) used found done is)

-- what was refused was refused by the machine
unless_fit : (fit : Bool) (used : ℕ) (found : Tables × Answer) (refusal : Refusal) → (if fit then Ok found else Err (Full used)) ≡ Err (Rule refusal) → ⊥
unless_fit true used found refusal is = absurd cc
unless_fit false used found refusal is = absurd cc

pub refused_of : (used : ℕ) (entry : Entry) (came : Outcomes) (refusal : Refusal) → applied_by used entry came ≡ Err (Rule refusal) → came ≡ Err refusal
refused_of used entry (Err other) refusal is = cc
refused_of used entry (Ok found) refusal is = absurd (unless_fit (fits used entry) used found refusal is)

-- a limit is met behind the bytes that are used
limit_of : (fit : Bool) (used full : ℕ) (found : Tables × Answer) → (if fit then Ok found else Err (Full used)) ≡ Err (Full full) → full ≡ used
limit_of true used full found is = absurd cc
limit_of false used full found is = cc

pub full_of : (used full : ℕ) (entry : Entry) (came : Outcomes) → applied_by used entry came ≡ Err (Full full) → full ≡ used
full_of used full entry (Err refusal) is = absurd cc
full_of used full entry (Ok found) is = limit_of (fits used entry) used full found is

-- one entry more, which is accepted
pub legal_more : (tables : Tables) (entries : List Entry) (entry : Entry) → IsLegalFrom tables entries
    → IsAccepted (step (tables_from tables entries) entry.command)
    → IsLegalFrom tables (entries ++ entry ∷ [])
legal_more tables [] entry legal accepted = (accepted, tt)
legal_more tables (first ∷ entries) entry legal accepted =
    (legal.0, legal_more (tables_after tables (step tables first.command)) entries entry legal.1 accepted)

module _ {D : Type 0} (state : D → DiskState) (old new : KeepData D) (entry : Entry) (answer : Answer) (done : Accepts state old new entry answer) where
  -- the machine's step
  pub stepped : step old.tables entry.command ≡ Ok (new.tables, answer)
  stepped = step_of old.used entry (step old.tables entry.command) (new.tables, answer) done.done

  -- the tables that it leaves
  pub tables_more : new.tables ≡ tables_from old.tables (entry ∷ [])
  tables_more = sym (ap (tables_after old.tables) stepped)

  -- whatever list the keep was of, it is of that list with the entry
  pub list_more : (entries : List Entry) → IsListOf old entries → IsListOf new (entries ++ entry ∷ [])
  list_more entries list = record {
    folded = tables_more ∙ ap (λ t. tables_from t (entry ∷ [])) list.folded ∙ sym (tables_from-append empty_tables entries (entry ∷ []));
    legal = legal_more empty_tables entries entry list.legal
        (subst (λ t. IsAccepted (step t entry.command)) list.folded (subst (λ came. IsAccepted came) (sym stepped) tt));
    counted = omega (arith, done.commands, list.counted, length-append entries (entry ∷ []));
  }

-- where nothing was accepted it is of the list that it was of
pub list_same : {D : Type 0} (state : D → DiskState) (old new : KeepData D) (entries : List Entry) → KeepsList state old new → IsListOf old entries
    → IsListOf new entries
list_same state old new entries keeps list =
    record { folded = keeps.tables ∙ list.folded; legal = list.legal; counted = keeps.commands ∙ list.counted }

-- two keeps that are one
same_list : {D : Type 0} (state : D → DiskState) (old new : KeepData D) → new ≡ old → KeepsList state old new
same_list {D = D} state old new same = record {
  entries = ap (λ (k : KeepData D). k.entries) same;
  tables = ap (λ (k : KeepData D). k.tables) same;
  commands = ap (λ (k : KeepData D). k.commands) same;
  used = ap (λ (k : KeepData D). k.used) same;
  told = ap (λ (k : KeepData D). (state k.disk).told) same;
}

-- no fault accepts anything
pub fault_keeps : {D : Type 0} (state : D → DiskState) (faults : D → ℕ) (old new : KeepData D) (entry : Entry) (fault : KeepFault)
    → Applied state faults old new entry (Err fault) → KeepsList state old new
fault_keeps state faults old new entry (Rule refusal) applied = same_list state old new applied.1
fault_keeps state faults old new entry (Full used) applied = same_list state old new applied.1
fault_keeps state faults old new entry DiskFailed applied = applied.keeps
fault_keeps state faults old new entry Memory applied = applied.keeps
fault_keeps state faults old new entry (Damaged offset) applied = absurd applied

-- how a fault ends a round
pub stops_by : {D : Type 0} (state : D → DiskState) (faults : D → ℕ) (old new : KeepData D) (entry : Entry) (fault : KeepFault) (end : RoundEnd)
    → Applied state faults old new entry (Err fault) → EndsBy fault end
    → StopsBy (applied_to old.tables old.used entry) (Rose (faults old.disk) (faults new.disk)) end
stops_by {D = D} state faults old new entry fault end applied ends = by fault applied ends
  where
    came : RoundEnd → Type 0
    came e = StopsBy (applied_to old.tables old.used entry) (Rose (faults old.disk) (faults new.disk)) e

    by : (f : KeepFault) → Applied state faults old new entry (Err f) → EndsBy f end → came end
    by (Rule refusal) applied ends = absurd ends
    by (Full used) applied ends = subst came (sym ends) applied.0
    by DiskFailed applied ends = subst came (sym ends) (applied.would, applied.rose)
    by Memory applied ends = subst came (sym ends) tt
    by (Damaged offset) applied ends = absurd ends

-- two runs of calls, one after the other
joined : (old mid new : DiskState) (P : List ℕ → Type 0) → LeavesOnly old mid P → LeavesOnly mid new P → LeavesOnly old new P
joined old mid new P first second = record {
  later = omega (arith, first.later, second.later);
  each = λ c left. ⊎_elim (first.each c) (λ there. there) (second.before old.moment c first.later left);
  before = λ t c le left. ⊎_elim (first.before t c le) (λ there. inr there) (second.before t c (omega (arith, le, first.later)) left);
}

-- what is left has P, and so Q
weakened : (old new : DiskState) (P Q : List ℕ → Type 0) → LeavesOnly old new P → ((content : List ℕ) → P content → Q content) → LeavesOnly old new Q
weakened old new P Q only implies = record {
  later = only.later;
  each = λ c left. implies c (only.each c left);
  before = λ t c le left. ⊎_elim (λ past. inl past) (λ there. inr (implies c there)) (only.before t c le left);
}

-- an image of a list is one of a longer list
image_longer : (opening final more longer : List Entry) (content : List ℕ) → longer ≡ final ++ more → IsImageSince opening final content
    → IsImageSince opening longer content
image_longer opening final more longer content is image = record {
  since = image.since;
  later = image.later ++ more;
  parts = is ∙ ap (λ l. l ++ more) image.parts ∙ append_assoc (opening ++ image.since) image.later more;
  doubt = image.doubt;
  legal = image.legal;
  stands = image.stands;
}

-- the front of a legal list is legal
pub legal_front : (tables : Tables) (entries more : List Entry) → IsLegalFrom tables (entries ++ more) → IsLegalFrom tables entries
legal_front tables [] more legal = tt
legal_front tables (entry ∷ entries) more legal = (legal.0, legal_front (tables_after tables (step tables entry.command)) entries more legal.1)

legal_list : (entries : List Entry) (doubt : Option Entry) → IsLegal (with_doubt entries doubt) → IsLegal entries
legal_list entries None legal = legal
legal_list entries (Some entry) legal = legal_front empty_tables entries (entry ∷ []) legal

-- a count that rose before or behind other calls rose
rose_before : (old mid new : ℕ) → mid ≤ new → Rose old mid → Rose old new
rose_before old mid new keeps rose = ⊎_elim (λ more. inl (omega arith)) (λ most. inr (omega arith)) rose

rose_later : (old mid new : ℕ) → old ≤ mid → Rose mid new → Rose old new
rose_later old mid new keeps rose = ⊎_elim (λ more. inl (omega arith)) (λ most. inr most) rose

module _ {D : Type 0} (state : D → DiskState) (faults : D → ℕ) where
  -- a doubt behind both was there before, or came by a failure
  caused_more : (old mid new : KeepData D) → faults old.disk ≤ faults mid.disk → faults mid.disk ≤ faults new.disk
      → (state mid.disk).told ≡ (state old.disk).told
      → DoubtHasCause state faults old mid → DoubtHasCause state faults mid new → DoubtHasCause state faults old new
  caused_more old mid new first second told one two = record {
    in_doubt = λ doubted. ⊎_elim (λ between. ⊎_elim (λ was. inl was) (λ rose. inr (before rose)) (one.in_doubt between)) (λ rose. inr (later rose))
        (two.in_doubt doubted);
    doubt = λ tells. ⊎_elim (λ none. inl none)
        (λ some. ⊎_elim
        (λ same. ⊎_elim (λ none. inl (same ∙ none)) (λ known. inr (⊎_elim (λ was. inl (same ∙ was)) (λ rose. inr (before rose)) known)) (one.doubt tells))
        (λ rose. inr (inr (later rose)))
        some)
        (two.doubt (told ∙ tells));
  }
    where
      before : Rose (faults old.disk) (faults mid.disk) → Rose (faults old.disk) (faults new.disk)
      before rose = rose_before (faults old.disk) (faults mid.disk) (faults new.disk) second rose

      later : Rose (faults mid.disk) (faults new.disk) → Rose (faults old.disk) (faults new.disk)
      later rose = rose_later (faults old.disk) (faults mid.disk) (faults new.disk) first rose

  -- calls of a writer, and its calls behind them
  pub keeps_then : (writer : ℕ) (old mid new : KeepData D) → KeepsBy state faults writer old mid → KeepsBy state faults writer mid new
      → KeepsBy state faults writer old new
  keeps_then writer old mid new one two = record {
    grows = record {
      added = one.grows.added ++ two.grows.added;
      appended = two.grows.appended ∙ ap (λ l. l ++ two.grows.added) one.grows.appended ∙ append_assoc old.entries one.grows.added two.grows.added;
      by = All-append (λ (entry : Entry). entry.writer ≡ writer) one.grows.added two.grows.added one.grows.by two.grows.by;
      counts = omega (arith, one.grows.counts, two.grows.counts);
      told = two.grows.told ∙ one.grows.told;
    };
    images = λ opening since is told. joined (state old.disk) (state mid.disk) (state new.disk) (IsImageSince opening new.entries)
        (weakened (state old.disk) (state mid.disk) (IsImageSince opening mid.entries) (IsImageSince opening new.entries) (one.images opening since is told)
        (λ content image. image_longer opening mid.entries two.grows.added new.entries content two.grows.appended image))
        (two.images opening (since ++ one.grows.added)
        (one.grows.appended ∙ ap (λ l. l ++ one.grows.added) is ∙ append_assoc opening since one.grows.added) (one.grows.told ∙ told));
    doubt = caused_more old mid new one.grows.counts two.grows.counts one.grows.told one.doubt two.doubt;
  }

  -- the same of a round's calls
  pub keeps_more : (old mid new : KeepData D) → KeepsBy state faults 0 old mid → KeepsBy state faults 0 mid new → KeepsBy state faults 0 old new
  keeps_more = keeps_then 0

  -- no call at all
  pub keeps_none : (keep : KeepData D) → (IsTold (state keep.disk) → IsLawful (state keep.disk)) → IsKeep state keep → KeepsBy state faults 0 keep keep
  keeps_none keep lawful kept = record {
    grows = record {
      added = [];
      appended = sym (none_more keep.entries);
      by = All-nil (λ (entry : Entry). entry.writer ≡ 0);
      counts = omega arith;
      told = refl;
    };
    doubt = record { in_doubt = λ doubted. inl doubted; doubt = λ told. inr (inl refl) };
    images = λ opening since is told.
        let image = image_now opening since is told in
        record {
          later = omega arith;
          each = λ c left. image c ((lawful told).only_now c left);
          before = λ t c le left. inl left;
        };
  }
    where
      image_now : (opening since : List Entry) → keep.entries ≡ opening ++ since → IsTold (state keep.disk) → (content : List ℕ)
          → (state keep.disk).may_leave content → IsImageSince opening keep.entries content
      image_now opening since is told content left = by ((kept.fold.holds told).images content left)
        where
          legal : IsLegal (with_doubt keep.entries keep.doubt)
          legal = (kept.fold.holds told).legal

          with : (doubt : Option Entry) → IsLegal (with_doubt keep.entries doubt) → StandsFor content (with_doubt keep.entries doubt)
              → IsImageSince opening keep.entries content
          with doubt fine stands = record {
            since = since;
            later = [];
            parts = is ∙ sym (none_more (opening ++ since));
            doubt = doubt;
            legal = subst (λ l. IsLegal (with_doubt l doubt)) is fine;
            stands = subst (λ l. StandsFor content (with_doubt l doubt)) is stands;
          }

          by : IsImageOf keep.entries keep.doubt content → IsImageSince opening keep.entries content
          by (inl stands) = with None (legal_list keep.entries keep.doubt legal) stands
          by (inr stands) = with keep.doubt legal stands
