-- How deletions are opened: the journal that was opened, and the fold of its bodies.
use Rattle.std.proofs.Common.{◌≡◌, ◌≢◌, refl, ap, sym, ◌∙◌, subst, inl, inr, ⊎_elim, ◌⊎◌, ℕ, List, [], ◌∷◌, Some, None, Ok, arith}
use Rattle.fts_disk.specs.Disk.{DiskState, IsTold, IsLawful}
use Rattle.fts_journal.specs.Format.{Stands}
use Rattle.fts_journal.specs.Journal.{JournalData, IsMaking, IsImageOf as IsJournalImage}
use Rattle.fts_journal.proofs.Moments.{joins, weakened}
use Rattle.fts_delete.specs.declared.events.Event.{Event}
use Rattle.fts_delete.specs.declared.rows.DeleteRow.{DeleteRow}
use Rattle.fts_delete.specs.declared.fault.DeleteFault.{DeleteFault}
use Rattle.fts_delete.specs.declared.fault.DeleteFault.TheVariants.{Damaged, DiskFailed, JournalFull, RowsFull, Memory}
use Rattle.fts_delete.specs.Spelling.{bodies_of}
use Rattle.fts_delete.specs.Journals.{IsDamaged, StandsFor, fault_in}
use Rattle.fts_delete.specs.Opened.{StandsOrIsEmpty, OpensJournal, OpensNot, NoJournalFault, Makes, Opens, IsLeft, OpenFault, OpensNone, Opened}
use Rattle.fts_delete.specs.Folding.{Folds, LeavesJournal, FoldFault}
use Rattle.fts_delete.specs.Views.{deletes_of, events_in, IsHeld, IsTied}
use Rattle.fts_delete.proofs.Moments.{still_still, quiet_still, rose_later}
use Rattle.fts_delete.proofs.Tying.{list_untold, seen_events, seen_doubt}

-- no bodies are those of no event
no_events : (events : List Event) → [] ≡ bodies_of events → events ≡ []
no_events [] is = refl
no_events (event ∷ events) is = absurd cc

-- an empty disk has no bodies
empty_bodies : (content : List ℕ) (bodies : List (List ℕ)) → content ≡ [] → StandsOrIsEmpty content bodies → bodies ≡ []
empty_bodies content bodies empty (inl none) = none.1
empty_bodies content bodies empty (inr some) = absurd (some.0 empty)

-- where a fault is answered, the bytes are damaged there
fault_damages : (content : List ℕ) (bodies : List (List ℕ)) (offset : ℕ) → StandsOrIsEmpty content bodies → fault_in bodies ≡ Some offset
    → (content ≢ []) × IsDamaged content offset
fault_damages content bodies offset (inl none) fault = let no : None ≡ Some offset = sym (ap fault_in none.1) ∙ fault in absurd cc
fault_damages content bodies offset (inr some) fault = (some.0, inr (inr (record { bodies = bodies; stands = some.1; fault = fault })))

module _ {D : Type 0} (state : D → DiskState) (faults : D → ℕ) (lawful : (disk : D) → IsTold (state disk) → IsLawful (state disk)) (disk : D) where
  -- a journal that wasn't opened
  pub unopened : (back : D) (fault : DeleteFault) → Makes (state disk) (state back) → OpensNot state faults disk back fault
      → OpensNone state faults disk back fault
  unopened back fault made opens = record {
    cause = why fault opens.cause;
    told = opens.told;
    counts = opens.counts;
    left = λ told. record {
      still = λ some. quiet_still (state disk) (state back) (opens.quiet told some);
      made = λ empty. weakened (state disk) (state back) (IsMaking (state disk)) _ (made told empty) (λ content there. inl there);
    };
  }
    where
      why : (f : DeleteFault) → NoJournalFault state faults disk back f → OpenFault state faults disk back f
      why (Damaged offset) cause = λ told. let c = cause told in (c.0, ⊎_elim (λ no. inl no) (λ cut. inr (inl cut)) c.1)
      why DiskFailed cause = cause
      why Memory cause = tt
      why _ cause = absurd cause

  module _ (journal folded : JournalData D) (made : Makes (state disk) (state journal.disk))
      (opens : OpensJournal state faults disk journal) (leaves : LeavesJournal state faults journal folded) where
    -- it tells what the disk tells
    told_journal : IsTold (state disk) → IsTold (state journal.disk)
    told_journal told = opens.told ∙ told

    -- a journal that was there is only looked at, and one that was made stays empty
    left_so : IsTold (state disk) → IsLeft (state disk) (state folded.disk)
    left_so told = record {
      still = λ some. still_still (state disk) (state journal.disk) (state folded.disk)
          (quiet_still (state disk) (state journal.disk) ((opens.own told).quiet some)) (leaves.still (told_journal told));
      made = λ empty. joins (state disk) (state journal.disk) (state folded.disk) (λ content. IsMaking (state disk) content ⊎ StandsFor content [])
          (weakened (state disk) (state journal.disk) (IsMaking (state disk)) _ (made told empty) (λ content there. inl there))
          (weakened (state journal.disk) (state folded.disk) (state journal.disk).may_leave _ (leaves.still (told_journal told)).moments
          (λ content there. inr (subst (Stands content) (empty_bodies (state disk).seen journal.bodies empty (opens.own told).list)
          ((opens.own told).sound content there))));
    }

    -- bodies that weren't folded
    pub unfolded : (fault : DeleteFault) → FoldFault state faults journal folded fault → OpensNone state faults disk folded.disk fault
    unfolded fault cause = record {
      cause = why fault cause;
      told = leaves.told ∙ opens.told;
      counts = omega (arith, opens.counts, leaves.counts);
      left = left_so;
    }
      where
        why : (f : DeleteFault) → FoldFault state faults journal folded f → OpenFault state faults disk folded.disk f
        why (Damaged offset) cause = λ told. fault_damages (state disk).seen journal.bodies offset (opens.own told).list (cause (told_journal told))
        why DiskFailed cause = rose_later (faults disk) (faults journal.disk) (faults folded.disk) opens.counts cause
        why Memory cause = tt
        why (JournalFull used) cause = absurd cause
        why (RowsFull rows) cause = absurd cause

    module _ (rows : List DeleteRow) (folds : Folds state journal rows) where
      -- the journal tells what the disk told
      told_disk : IsTold (state folded.disk) → IsTold (state disk)
      told_disk told = sym opens.told ∙ sym leaves.told ∙ told

      -- what was folded is held
      pub opened_held : IsHeld state rows folded folds.events None
      opened_held = record {
        folded = folds.folded;
        legal = record { rows = rows; are = folds.folded };
        proper = folds.proper;
        counted = leaves.count ∙ folds.counted;
        low = omega (arith, folds.low, leaves.count, leaves.used);
        high = omega (arith, folds.high, leaves.used);
        fills = leaves.used ∙ folds.fills;
        sure = leaves.in_doubt ∙ opens.sure;
        bodies = λ told. let there = told_journal (told_disk told) in leaves.bodies there ∙ folds.spells there;
        doubts = λ told. let own = told_disk told in leaves.doubt (told_journal own) ∙ opens.no_doubt own;
        images = λ there content left. let told = told_disk there in
            subst (λ d. IsJournalImage folded.bodies d content) (sym (leaves.doubt (told_journal told) ∙ opens.no_doubt told))
            (subst (Stands content) (sym (leaves.bodies (told_journal told)))
            ((opens.own told).sound content ((leaves.still (told_journal told)).images content left)));
      }

      pub opened_tied : IsTied state rows folded
      opened_tied = record { events = folds.events; doubt = None; held = opened_held }

      -- they are what the disk stood for
      opened_list : IsTold (state disk) → Opens (state disk).seen folds.events
      opened_list told = ⊎_elim
          (λ none. inl (none.0, no_events folds.events (sym none.1 ∙ folds.spells (told_journal told))))
          (λ some. inr (record {
            stands = subst (Stands (state disk).seen) (folds.spells (told_journal told)) some.1;
            proper = folds.proper;
            legal = record { rows = rows; are = folds.folded };
          }))
          (opens.own told).list

      -- and they are seen
      opened_seen : IsTold (state disk) → (deletes_of state rows folded).events ≡ folds.events
      opened_seen told = seen_events state rows folded folds.events None opened_held (leaves.told ∙ told_journal told)

      pub opened : Opened state faults disk (Ok (deletes_of state rows folded))
      opened = record {
        told = leaves.told ∙ opens.told;
        counts = omega (arith, opens.counts, leaves.counts);
        sure = leaves.in_doubt ∙ opens.sure;
        unlisted = λ untold. list_untold (state folded.disk).told (events_in folded.bodies) (leaves.told ∙ opens.told ∙ untold);
        list = λ told. subst (Opens (state disk).seen) (sym (opened_seen told)) (opened_list told);
        no_doubt = λ told. seen_doubt state rows folded folds.events None opened_held (leaves.told ∙ told_journal told);
        left = left_so;
        sound = λ told content left. subst (StandsFor content) (sym (opened_seen told))
            (subst (Stands content) (folds.spells (told_journal told))
            ((opens.own told).sound content ((leaves.still (told_journal told)).images content left)));
      }
