-- How a keep begins: the journal that was opened, the fold of its bodies, and the Restart that was accepted or not.
use Rattle.std.proofs.Common.{◌≡◌, ◌≢◌, refl, ap, sym, ◌∙◌, subst, inl, inr, ⊎_elim, ◌⊎◌, ℕ, ◌≤◌, Bool, true, false, if◌then◌else◌, List, [], ◌∷◌, ◌++◌, length, Some, None, Ok, Err, IsOk, arith}
use Rattle.std.proofs.lemmas.List.{length-append}
use Rattle.fts_tables.specs.SettingsData.{SettingsData}
use Rattle.fts_tables.specs.Tables.{Tables}
use Rattle.fts_tables.specs.Step.{step}
use Rattle.fts_tables.specs.History.{IsLegal}
use Rattle.fts_tables.specs.declared.commands.Entry.{Entry}
use Rattle.fts_tables.specs.declared.commands.Answer.{Answer}
use Rattle.fts_tables.specs.declared.commands.Refusal.{Refusal}
use Rattle.fts_record.specs.Spelling.{spelled}
use Rattle.fts_tables.specs.Counts.{Rose}
use Rattle.fts_record.specs.Proper.{IsProper}
use Rattle.fts_record.specs.Reading.{read_of}
use Rattle.fts_desk.specs.DeskData.{DeskData}
use Rattle.fts_disk.specs.Disk.{DiskState, IsTold, IsLawful, LeavesOnly}
use Rattle.fts_journal.specs.Format.{Stands, front}
use Rattle.fts_journal.specs.Journal.{JournalData, IsMaking, IsImageOf as IsJournalImage}
use Rattle.fts_keep.specs.Keeps.{KeepData, IsFilledBy, IsImageSince, StandsFor, bodies_of, with_doubt}
use Rattle.fts_keep.specs.Views.{keep_of, IsTied}
use Rattle.fts_keep.specs.Damage.{IsDamaged, IsWhole, DamageIsOne, fault_in}
use Rattle.fts_keep.specs.Applied.{Applied, AppliesSafely, IsImageDuring, fits}
use Rattle.fts_keep.specs.Folding.{Folds, LeavesJournal, FoldFault}
use Rattle.fts_keep.specs.Opening.{OpensJournal, OpensNot, Makes, OpenFault, StandsOrIsEmpty}
use Rattle.fts_keep.specs.Started.{restart_at, restarted, Opens, IsStill, IsOpened, StartFault, Started}
use Rattle.fts_keep.specs.declared.fault.KeepFault.{KeepFault}
use Rattle.fts_keep.specs.declared.fault.KeepFault.TheVariants.{Rule, DiskFailed, JournalFull, Damaged, Memory}
use Rattle.fts_keep.proofs.Moments.{joined, weakened, behind_still, still_still, quiet_still, rose_later}
use Rattle.fts_keep.proofs.Lists.{none_more, legal_more, accepted_tables, filled_by_more}
use Rattle.fts_keep.proofs.Tying.{IsHeld, seen_doubt, tie}
use Rattle.fts_keep.proofs.Ending.{limit_more}
use Rattle.fts_keep.proofs.Exits.{fits_by}

-- an empty content stands for nothing
pub none_stands : (bodies : List (List ℕ)) → Stands [] bodies → ⊥
none_stands bodies stands = absurd (omega (arith, ap length stands.closed.is, length-append (front bodies) (stands.closed.gate ∷ stands.closed.rest)))

-- so what is whole isn't empty
pub whole_some : (content : List ℕ) (entries : List Entry) → IsWhole content entries → content ≢ []
whole_some content entries sound none = none_stands (bodies_of entries) (subst (λ c. Stands c (bodies_of entries)) none sound.stands)

-- no bodies are those of no entry
no_entries : (entries : List Entry) → [] ≡ bodies_of entries → entries ≡ []
no_entries [] is = refl
no_entries (entry ∷ entries) is = absurd cc

-- an empty disk has no bodies
empty_bodies : (content : List ℕ) (bodies : List (List ℕ)) → content ≡ [] → StandsOrIsEmpty content bodies → bodies ≡ []
empty_bodies content bodies empty (inl none) = none.1
empty_bodies content bodies empty (inr some) = absurd (some.0 empty)

-- where a fault is answered, the bytes are damaged there
pub fault_damages : (content : List ℕ) (bodies : List (List ℕ)) (offset : ℕ) → StandsOrIsEmpty content bodies → fault_in bodies ≡ Some offset
    → (content ≢ []) × IsDamaged content offset
fault_damages content bodies offset (inl none) fault = let no : None ≡ Some offset = sym (ap fault_in none.1) ∙ fault in absurd cc
fault_damages content bodies offset (inr some) fault = (some.0, inr (inr (record { bodies = bodies; stands = some.1; fault = fault })))

-- an image of the opening list is one since the opening
image_before : (opening final : List Entry) (entry : Entry) (content : List ℕ) → final ≡ opening ++ entry ∷ [] → IsLegal opening → StandsFor content opening
    → IsImageSince opening final content
image_before opening final entry content is legal stands = record {
  since = [];
  later = entry ∷ [];
  parts = is ∙ ap (λ l. l ++ entry ∷ []) (sym (none_more opening));
  doubt = None;
  legal = rw (none_more opening) legal;
  stands = rw (none_more opening) stands;
}

-- and so is one of that list with the entry
image_with : (opening final : List Entry) (entry : Entry) (content : List ℕ) → final ≡ opening ++ entry ∷ [] → IsLegal (opening ++ entry ∷ [])
    → StandsFor content (opening ++ entry ∷ []) → IsImageSince opening final content
image_with opening final entry content is legal stands = record {
  since = [];
  later = entry ∷ [];
  parts = is ∙ ap (λ l. l ++ entry ∷ []) (sym (none_more opening));
  doubt = Some entry;
  legal = rw (none_more opening) legal;
  stands = rw (none_more opening) stands;
}

-- what is accepted by the machine is full only where it doesn't fit
full_by : (fit : Bool) (done : Tables × Answer) (before used : ℕ) → (if fit then Ok done else Err (JournalFull before)) ≡ Err (JournalFull used)
    → (used ≡ before) × (fit ≡ false)
full_by true done before used is = absurd cc
full_by false done before used is = (cc, refl)

-- and never refused by a rule
ruled_by : (fit : Bool) (done : Tables × Answer) (before : ℕ) (refusal : Refusal) → (if fit then Ok done else Err (JournalFull before)) ≡ Err (Rule refusal) → ⊥
ruled_by true done before refusal is = cc
ruled_by false done before refusal is = cc

-- a refused entry leaves what the disk tells
module _ {D : Type 0} (state : D → DiskState) (faults : D → ℕ) (old new : KeepData D) (entry : Entry) where
  told_still : (fault : KeepFault) → Applied state faults old new entry (Err fault) → (state new.disk).told ≡ (state old.disk).told
  told_still (Rule refusal) applied = ap (λ (k : KeepData D). (state k.disk).told) applied.1
  told_still (JournalFull used) applied = ap (λ (k : KeepData D). (state k.disk).told) applied.1
  told_still DiskFailed applied = applied.keeps.told
  told_still Memory applied = applied.keeps.told
  told_still (Damaged offset) applied = absurd applied

  -- and, where nothing was in doubt, the disk itself, but for a failure of it
  untouched_disk : old.in_doubt ≡ false → (fault : KeepFault) → Applied state faults old new entry (Err fault)
      → Rose (faults old.disk) (faults new.disk) ⊎ (old.disk ≡ new.disk)
  untouched_disk sure (Rule refusal) applied = inr (ap (λ (k : KeepData D). k.disk) (sym applied.1))
  untouched_disk sure (JournalFull used) applied = inr (ap (λ (k : KeepData D). k.disk) (sym applied.1))
  untouched_disk sure DiskFailed applied = inl applied.rose
  untouched_disk sure Memory applied = inr (ap (λ (k : KeepData D). k.disk) (sym (applied.untouched sure)))
  untouched_disk sure (Damaged offset) applied = absurd applied

module _ {D : Type 0} (state : D → DiskState) (faults : D → ℕ) (reads : (entry : Entry) → IsProper entry → read_of (spelled entry) ≡ Some entry)
    (lawful : (disk : D) → IsTold (state disk) → IsLawful (state disk)) (once : (content : List ℕ) → DamageIsOne content) (disk : D)
    (settings : SettingsData) (now : ℕ) where
  -- the Restart
  abbrev restart : Entry
  restart = restart_at now settings

  -- a journal that wasn't opened
  pub unopened : (left : D) (fault : KeepFault) → Makes (state disk) (state left)
      → OpensNot state faults disk left fault → Started state faults disk settings now (Err (fault, left))
  unopened left fault made opens = (
    why fault opens.cause,
    record {
      told = opens.told;
      counts = opens.counts;
      images = λ told opening sound. let still = quiet_still (state disk) (state left) (opens.quiet told (whole_some (state disk).seen opening sound)) in
          weakened (state disk) (state left) (state disk).may_leave _ still.moments (λ content there. inl there);
      made = λ told empty. weakened (state disk) (state left) (IsMaking (state disk)) _ (made told empty) (λ content there. inl there);
      doubt_cause = λ told some. inr (quiet_still (state disk) (state left) (opens.quiet told some));
      made_cause = λ told empty. inr (weakened (state disk) (state left) (IsMaking (state disk)) _ (made told empty) (λ content there. inl there));
      quiet = λ told offset some damaged. quiet_still (state disk) (state left) (opens.quiet told some);
    },
  )
    where
      why : (f : KeepFault) → OpenFault state faults disk left f → StartFault state faults disk left settings now f
      why (Damaged offset) cause = λ told. let c = cause told in (c.0, ⊎_elim (λ no. inl no) (λ cut. inr (inl cut)) c.1)
      why DiskFailed cause = cause
      why Memory cause = tt
      why (JournalFull used) cause = absurd cause
      why (Rule refusal) cause = absurd cause

  module _ (journal folded : JournalData D) (made : Makes (state disk) (state journal.disk))
      (opens : OpensJournal state faults disk journal) (leaves : LeavesJournal state faults journal folded) where
    -- it tells what the disk tells
    told_journal : IsTold (state disk) → IsTold (state journal.disk)
    told_journal told = opens.told ∙ told

    -- a journal that was there is only looked at
    looked_still : IsTold (state disk) → (state disk).seen ≢ [] → IsStill (state disk) (state folded.disk)
    looked_still told some = still_still (state disk) (state journal.disk) (state folded.disk)
        (quiet_still (state disk) (state journal.disk) ((opens.own told).quiet some)) (leaves.still (told_journal told))

    -- and one that was made stays empty
    made_still : IsTold (state disk) → (state disk).seen ≡ []
        → LeavesOnly (state disk) (state folded.disk) (λ content. IsMaking (state disk) content ⊎ StandsFor content [])
    made_still told empty = joined (state disk) (state journal.disk) (state folded.disk) (λ content. IsMaking (state disk) content ⊎ StandsFor content [])
        (weakened (state disk) (state journal.disk) (IsMaking (state disk)) _ (made told empty) (λ content there. inl there))
        (weakened (state journal.disk) (state folded.disk) (state journal.disk).may_leave _ (leaves.still (told_journal told)).moments
        (λ content there. inr (subst (Stands content) (empty_bodies (state disk).seen journal.bodies empty (opens.own told).list)
        ((opens.own told).sound content there))))

    -- bodies that weren't folded
    pub unfolded : (fault : KeepFault) → FoldFault state faults journal folded fault → Started state faults disk settings now (Err (fault, folded.disk))
    unfolded fault cause = (
      why fault cause,
      record {
        told = leaves.told ∙ opens.told;
        counts = omega (arith, opens.counts, leaves.counts);
        images = λ told opening sound. let still = looked_still told (whole_some (state disk).seen opening sound) in
            weakened (state disk) (state folded.disk) (state disk).may_leave _ still.moments (λ content there. inl there);
        made = λ told empty. joined (state disk) (state journal.disk) (state folded.disk)
            (λ content. IsMaking (state disk) content ⊎ IsImageSince [] (restarted [] now settings) content)
            (weakened (state disk) (state journal.disk) (IsMaking (state disk)) _ (made told empty) (λ content there. inl there))
            (weakened (state journal.disk) (state folded.disk) (state journal.disk).may_leave _ (leaves.still (told_journal told)).moments
            (λ content there. inr (image_before [] (restarted [] now settings) restart content refl tt
            (subst (Stands content) (empty_bodies (state disk).seen journal.bodies empty (opens.own told).list) ((opens.own told).sound content there)))));
        doubt_cause = λ told some. inr (looked_still told some);
        made_cause = λ told empty. inr (made_still told empty);
        quiet = λ told offset some damaged. looked_still told some;
      },
    )
      where
        why : (f : KeepFault) → FoldFault state faults journal folded f → StartFault state faults disk folded.disk settings now f
        why (Damaged offset) cause = λ told. fault_damages (state disk).seen journal.bodies offset (opens.own told).list (cause (told_journal told))
        why DiskFailed cause = rose_later (faults disk) (faults journal.disk) (faults folded.disk) opens.counts cause
        why Memory cause = tt
        why (JournalFull used) cause = absurd cause
        why (Rule refusal) cause = absurd cause

    module _ (desk : DeskData) (list : List Entry) (folds : Folds state journal desk.tables list desk.commands) where
      -- the list that was opened is held
      opened_held : IsTold (state disk) → IsHeld desk folded list None
      opened_held told =
          let there = told_journal told in
          record {
            bodies = leaves.bodies there ∙ folds.spells there;
            doubts = leaves.doubt there ∙ opens.no_doubt told;
            folded = folds.folded;
            legal = folds.legal;
            proper = folds.proper;
            counted = folds.counted;
            sure = leaves.in_doubt ∙ opens.sure;
            fills = leaves.used ∙ folds.fills;
          }

      -- it is what the disk stood for
      opened_list : IsTold (state disk) → Opens (state disk).seen list
      opened_list told = ⊎_elim
          (λ none. inl (none.0, no_entries list (sym none.1 ∙ folds.spells (told_journal told))))
          (λ some. inr (record {
            stands = subst (Stands (state disk).seen) (folds.spells (told_journal told))
                some.1;
            proper = folds.proper;
            legal = folds.legal;
          }))
          (opens.own told).list

      -- each image of the journal that was opened stands for it
      opened_sound : IsTold (state disk) → (content : List ℕ) → (state journal.disk).may_leave content → StandsFor content list
      opened_sound told content left = subst (Stands content) (folds.spells (told_journal told)) ((opens.own told).sound content left)

      -- the journal as it was opened
      opened_first : IsTold (state disk) → IsOpened state faults disk journal.disk list
      opened_first told = record {
        list = opened_list told;
        stands = opened_sound told (state journal.disk).seen (lawful journal.disk (told_journal told)).image;
        sound = opened_sound told;
        quiet = λ some. (opens.own told).quiet some;
        made = λ empty. made told empty;
        counts = opens.counts;
      }

      -- and fills what is used
      opened_filled : IsFilledBy (keep_of state desk folded list) list
      opened_filled = record {
        list = record { folded = folds.folded; legal = folds.legal; counted = folds.counted };
        proper = folds.proper;
        fills = leaves.used ∙ folds.fills;
      }

      -- the desk is tied to it
      pub folded_tied : IsTied state desk folded list
      folded_tied = tie state reads desk folded list (omega (arith, folds.low, folds.all, leaves.used)) (omega (arith, folds.high, leaves.used))
          (folds.all ∙ sym leaves.count) opened_filled
          (λ there. record { doubt = None; held = opened_held (sym opens.told ∙ sym leaves.told ∙ there) })
          (λ there content left. let told = sym opens.told ∙ sym leaves.told ∙ there in
          subst (λ d. IsJournalImage folded.bodies d content) (sym (leaves.doubt (told_journal told) ∙ opens.no_doubt told))
          (subst (Stands content) (sym (leaves.bodies (told_journal told)))
          ((opens.own told).sound content ((leaves.still (told_journal told)).images content left))))

      module _ (next : DeskData) (last : JournalData D) (longer : List Entry)
          (safe : AppliesSafely state (keep_of state desk folded list) (keep_of state next last longer) restart) (counts : faults folded.disk ≤ faults last.disk) where
        -- before the Restart there is no doubt
        before_doubt : IsTold (state disk) → (keep_of state desk folded list).doubt ≡ None
        before_doubt told = seen_doubt state reads desk folded list None (opened_held told) (leaves.told ∙ told_journal told)

        -- a Restart is never refused, so with it the list is legal
        with_restart : IsLegal (restarted list now settings)
        with_restart = legal_more _ list restart folds.legal tt

        -- an image of the acceptance is one since the opening
        during_since : (told : IsTold (state disk)) (final : List Entry) → final ≡ restarted list now settings → (content : List ℕ)
            → IsImageDuring (keep_of state desk folded list) restart content
            → IsImageSince list final content
        during_since told final is content (inl (inl stands)) = image_before list final restart content is folds.legal stands
        during_since told final is content (inl (inr stands)) = image_before list final restart content is folds.legal
            (subst (λ d. StandsFor content (with_doubt list d)) (before_doubt told) stands)
        during_since told final is content (inr with_it) = image_with list final restart content is with_restart with_it.1

        -- since the opening each image is one of the list
        since_opening : (told : IsTold (state disk)) (final : List Entry) → final ≡ restarted list now settings
            → LeavesOnly (state journal.disk) (state last.disk) (IsImageSince list final)
        since_opening told final is = joined (state journal.disk) (state folded.disk) (state last.disk) (IsImageSince list final)
            (weakened (state journal.disk) (state folded.disk) (state journal.disk).may_leave (IsImageSince list final)
            (leaves.still (told_journal told)).moments
            (λ content there. image_before list final restart content is folds.legal (opened_sound told content there)))
            (weakened (state folded.disk) (state last.disk) (IsImageDuring (keep_of state desk folded list) restart) (IsImageSince list final)
            (safe (leaves.told ∙ told_journal told)) (during_since told final is))

        -- the Restart was accepted
        pub started : (answer : Answer) → Applied state faults (keep_of state desk folded list) (keep_of state next last longer) restart (Ok answer)
            → IsProper restart → IsTied state next last longer
            → Started state faults disk settings now (Ok (keep_of state next last longer))
        started answer accepts proper tied = (
          list,
          record {
            legal = folds.legal;
            folded = accepted_tables list restart desk.tables next.tables folded.used answer folds.folded accepts.done;
            counted = omega (arith, accepts.commands, folds.counted);
            before = folded.used;
            least = omega (arith, folds.low, folds.all, folds.counted, leaves.used);
            fills = leaves.used ∙ folds.fills;
            room = has_room;
            filled = accepts.used;
            over = filled_by_more state (keep_of state desk folded list) (keep_of state next last longer) list restart answer opened_filled proper accepts;
            limit = λ kept. limit_more list restart kept (ap (λ n. fits n restart) (sym (leaves.used ∙ folds.fills)) ∙ has_room);
            sure = accepts.no_doubt;
            settled = accepts.cleared;
            told = accepts.told ∙ leaves.told ∙ opens.told;
            counts = omega (arith, opens.counts, leaves.counts, counts);
            listed = accepts.listed;
            own = λ told.
                let there = leaves.told ∙ told_journal told in
                record {
                  opened = journal.disk;
                  opens = opened_first told;
                  listed = accepts.listed;
                  holds = tied.fold.holds (accepts.told ∙ there);
                  images = since_opening told longer accepts.listed;
                  counts = omega (arith, leaves.counts, counts);
                };
          },
        )
          where
            has_room : fits folded.used restart ≡ true
            has_room = fits_by folded.used restart (step desk.tables restart.command) (subst (λ came. IsOk came) (sym accepts.done) refl)

        -- it wasn't
        pub unstarted : (fault : KeepFault) → Applied state faults (keep_of state desk folded list) (keep_of state next last longer) restart (Err fault)
            → Started state faults disk settings now (Err (fault, last.disk))
        unstarted fault applied = (
          why fault applied,
          record {
            told = told_still state faults (keep_of state desk folded list) (keep_of state next last longer) restart fault applied ∙ leaves.told ∙ opens.told;
            counts = omega (arith, opens.counts, leaves.counts, counts);
            images = λ told opening sound.
                let same : list ≡ opening = ⊎_elim
                (λ none. absurd (whole_some (state disk).seen opening sound none.0))
                (λ own. (once (state disk).seen).list list opening own sound)
                (opened_list told) in
                subst (λ l. LeavesOnly (state disk) (state last.disk)
                (λ content. (state disk).may_leave content ⊎ IsImageSince l (restarted l now settings) content)) same
                (behind_still (state disk) (state journal.disk) (state last.disk) (IsImageSince list (restarted list now settings))
                (quiet_still (state disk) (state journal.disk) ((opens.own told).quiet (whole_some (state disk).seen opening sound)))
                (since_opening told (restarted list now settings) refl));
            made = λ told empty.
                let same : list ≡ [] = ⊎_elim (λ none. none.1) (λ own. absurd (whole_some (state disk).seen list own empty))
                (opened_list told) in
                joined (state disk) (state journal.disk) (state last.disk)
                (λ content. IsMaking (state disk) content ⊎ IsImageSince [] (restarted [] now settings) content)
                (weakened (state disk) (state journal.disk) (IsMaking (state disk)) _ (made told empty) (λ content there. inl there))
                (weakened (state journal.disk) (state last.disk) (IsImageSince list (restarted list now settings)) _
                (since_opening told (restarted list now settings) refl)
                (λ content there. inr (subst (λ l. IsImageSince l (restarted l now settings) content) same there)));
            doubt_cause = λ told some. ⊎_elim (λ rose. inl (since_disk rose))
                (λ same. inr (subst (λ d. IsStill (state disk) (state d)) same (looked_still told some)))
                (untouched_disk state faults (keep_of state desk folded list) (keep_of state next last longer) restart (leaves.in_doubt ∙ opens.sure) fault applied);
            made_cause = λ told empty. ⊎_elim (λ rose. inl (since_disk rose))
                (λ same. inr (subst (λ d. LeavesOnly (state disk) (state d) (λ content. IsMaking (state disk) content ⊎ StandsFor content []))
                same (made_still told empty)))
                (untouched_disk state faults (keep_of state desk folded list) (keep_of state next last longer) restart (leaves.in_doubt ∙ opens.sure) fault applied);
            quiet = λ told offset some damaged. absurd (⊎_elim
                (λ none. some none.0)
                (λ own. (once (state disk).seen).apart offset list damaged own)
                (opened_list told));
          },
        )
          where
            since_disk : Rose (faults folded.disk) (faults last.disk) → Rose (faults disk) (faults last.disk)
            since_disk rose = rose_later (faults disk) (faults folded.disk) (faults last.disk) (omega (arith, opens.counts, leaves.counts)) rose

            why : (f : KeepFault) → Applied state faults (keep_of state desk folded list) (keep_of state next last longer) restart (Err f)
                → StartFault state faults disk last.disk settings now f
            why (Damaged offset) a = absurd a
            why DiskFailed a = since_disk a.rose
            why Memory a = tt
            why (JournalFull used) a = let l = full_by (fits folded.used restart) _ folded.used used a.0 in
                (ap (λ n. fits n restart) l.0 ∙ l.1, λ told. (list, (opened_list told, l.0 ∙ (opened_held told).fills)))
            why (Rule refusal) a = ruled_by (fits folded.used restart) _ folded.used refusal a.0
