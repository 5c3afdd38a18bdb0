-- The exits of recording an event: no room, a doubt that couldn't be ended, one that was, an append that failed, and one that was done.
use Rattle.std.proofs.Common.{◌≡◌, ◌⊎◌, refl, ap, sym, ◌∙◌, subst, inl, inr, ⊎_elim, ℕ, ◌+◌, ◌≤◌, ◌<◌, Bool, true, false, leb, List, [], ◌∷◌, ◌++◌, length, Option, Some, None, option_map, All, IsSome, is_some, Result, Ok, Err, arith}
use Rattle.std.proofs.lemmas.Bool.{leb-true, le-leb, false_from_ne_true}
use Rattle.std.proofs.lemmas.List.{length-append}
use Rattle.std.proofs.lemmas.List.Elements.{All-push}
use Rattle.fts_tables.specs.declared.limits.TheConstants.{JOURNAL_END}
use Rattle.fts_disk.specs.Disk.{DiskState, IsTold, IsLawful, LeavesOnly}
use Rattle.fts_journal.specs.Format.{Stands}
use Rattle.fts_journal.specs.Journal.{JournalData, FailsToAppend, AppendCause, IsBeforeOrAfter, IsSound, IsImageOf as IsJournalImage}
use Rattle.fts_journal.specs.declared.fault.JournalFault.{JournalFault}
use Rattle.fts_journal.specs.declared.fault.JournalFault.TheVariants.{DiskFailed as JournalDiskFailed, Full, NotJournal, Cut, Memory as JournalMemory}
use Rattle.fts_journal.proofs.Moments.{started, weakened}
use Rattle.fts_delete.specs.Faults.{fault_of}
use Rattle.fts_delete.specs.declared.events.Event.{Event}
use Rattle.fts_delete.specs.declared.rows.DeleteRow.{DeleteRow}
use Rattle.fts_delete.specs.declared.fault.DeleteFault.TheVariants.{JournalFull}
use Rattle.fts_delete.specs.Rows.{rows_after}
use Rattle.fts_delete.specs.Spelling.{IsProper, body_of, bodies_of}
use Rattle.fts_delete.specs.Journals.{DeletesData, used_of, with_doubt, IsLegal}
use Rattle.fts_delete.specs.Views.{deletes_of, events_in, IsHeld, IsTied}
use Rattle.fts_delete.specs.Calls.{Settles, Appends}
use Rattle.fts_delete.specs.Recording.{has_room, fits, KeepsList, IsImageOf, IsImageWith, Readied, AddAnswer, Added}
use Rattle.fts_delete.proofs.Lists.{rows_more, legal_list, proper_list, bodies_more, filled_more, image_of}
use Rattle.fts_delete.proofs.Tying.{seen_events, seen_doubt, same_list}
use Rattle.fts_delete.proofs.Sizes.{body_some}

-- where the limit is passed there is no room
pub no_room_at : (used size : ℕ) → JOURNAL_END < used + 6 + size → has_room used size ≡ false
no_room_at used size past = false_from_ne_true (leb (used + 6 + size) JOURNAL_END)
    (λ fits. let low = leb-true (used + 6 + size) JOURNAL_END fits in omega (arith, low, past))

-- and below it there is
pub room_at : (used size : ℕ) → used + 6 + size ≤ JOURNAL_END → has_room used size ≡ true
room_at used size below = le-leb (used + 6 + size) JOURNAL_END below

-- what is there
pub some_of : {A : Type 0} (o : Option A) → IsSome o → (x : A) × (o ≡ Some x)
some_of (Some x) some = (x, refl)
some_of None some = absurd cc

-- no doubt is none
no_doubt : (doubt : Option Event) → is_some doubt ≡ false → doubt ≡ None
no_doubt None sure = refl
no_doubt (Some event) sure = absurd cc

module _ {D : Type 0} (state : D → DiskState) (faults : D → ℕ) (lawful : (disk : D) → IsTold (state disk) → IsLawful (state disk))
    (rows : List DeleteRow) (journal : JournalData D) (tied : IsTied state rows journal) where
  -- the deletions before
  abbrev old : DeletesData D
  old = deletes_of state rows journal

  -- its list is seen
  seen : IsTold (state journal.disk) → old.events ≡ tied.events
  seen told = seen_events state rows journal tied.events tied.doubt tied.held told

  -- an image of what is held is one of what is seen
  pub image_seen : IsTold (state journal.disk) → (content : List ℕ) → IsJournalImage journal.bodies journal.doubt content → IsImageOf old content
  image_seen told content there =
      let h = tied.held in
      let doubted = seen_doubt state rows journal tied.events tied.doubt h told in
      ⊎_elim (λ stands. inl (subst (λ l. Stands content (bodies_of l)) (sym (seen told)) stands))
      (λ stands. inr (subst (λ l. Stands content (bodies_of (with_doubt l old.doubt))) (sym (seen told))
      (subst (λ d. Stands content (bodies_of (with_doubt tied.events d))) (sym doubted) stands)))
      (image_of tied.events tied.doubt content
      (subst (λ d. IsJournalImage (bodies_of tied.events) d content) (h.doubts told) (subst (λ b. IsJournalImage b journal.doubt content) (h.bodies told) there)))

  -- the list is as before
  keeps : (mid : JournalData D) → mid.count ≡ journal.count → mid.used ≡ journal.used → (state mid.disk).told ≡ (state journal.disk).told
      → (IsTold (state journal.disk) → mid.bodies ≡ journal.bodies) → KeepsList state old (deletes_of state rows mid)
  keeps mid count used told bodies = record {
    rows = refl;
    count = count;
    used = used;
    events = same_list (state journal.disk).told (state mid.disk).told (events_in journal.bodies) (events_in mid.bodies) told (λ is. ap events_in (bodies is));
  }

  -- nothing was called
  pub untouched : IsTold (state journal.disk) → LeavesOnly (state journal.disk) (state journal.disk) (IsImageOf old)
  untouched told = started (state journal.disk) (lawful journal.disk told) (IsImageOf old)
      (λ content left. image_seen told content (tied.held.images told content left))

  -- the list as it was, with this doubt
  still_held : (mid : JournalData D) (doubt : Option Event) → IsLegal (with_doubt tied.events doubt) → All IsProper (with_doubt tied.events doubt)
      → (mid.count ≡ journal.count) × (mid.used ≡ journal.used) → mid.in_doubt ≡ is_some doubt → (state mid.disk).told ≡ (state journal.disk).told
      → (IsTold (state journal.disk) → mid.bodies ≡ journal.bodies) → (IsTold (state mid.disk) → mid.doubt ≡ option_map body_of doubt)
      → IsSound (state mid.disk) mid.bodies mid.doubt → IsHeld state rows mid tied.events doubt
  still_held mid doubt legal proper kept sure told bodies doubts images = let h = tied.held in record {
    folded = h.folded;
    legal = legal;
    proper = proper;
    counted = kept.0 ∙ h.counted;
    low = omega (arith, h.low, kept.0, kept.1);
    high = omega (arith, h.high, kept.1);
    fills = kept.1 ∙ h.fills;
    sure = sure;
    bodies = λ is. bodies (sym told ∙ is) ∙ h.bodies (sym told ∙ is);
    doubts = doubts;
    images = images;
  }

  -- there was no room
  pub readied_full : (size : ℕ) → has_room journal.used size ≡ false → Readied state faults old old size (Err (JournalFull journal.used))
  readied_full size full = record {
    answer = (full, refl, refl);
    told = refl;
    counts = omega arith;
    moments = untouched;
  }

  module _ (mid : JournalData D) where
    -- a doubt that couldn't be ended
    unsettled_held : (fault : JournalFault) → Settles state faults journal mid (Err fault) → IsHeld state rows mid tied.events tied.doubt
    unsettled_held fault settles = let h = tied.held in still_held mid tied.doubt h.legal h.proper settles.kept (settles.err ∙ h.sure) settles.told settles.bodies
        (λ told. settles.doubt (sym settles.told ∙ told) ∙ h.doubts (sym settles.told ∙ told)) settles.images

    pub unsettled_tied : (fault : JournalFault) → Settles state faults journal mid (Err fault) → IsTied state rows mid
    unsettled_tied fault settles = record { events = tied.events; doubt = tied.doubt; held = unsettled_held fault settles }

    -- at each moment of a settling an image is one of the list, or of it with its doubt
    settled_moments : (result : Result (Unit {0}) JournalFault) → Settles state faults journal mid result → IsTold (state journal.disk)
        → LeavesOnly (state journal.disk) (state mid.disk) (IsImageOf old)
    settled_moments result settles told = weakened (state journal.disk) (state mid.disk) (IsJournalImage journal.bodies journal.doubt) (IsImageOf old)
        (settles.any_moment told) (image_seen told)

    pub readied_not : (size : ℕ) (fault : JournalFault) → has_room journal.used size ≡ true → Settles state faults journal mid (Err fault)
        → Readied state faults old (deletes_of state rows mid) size (Err (fault_of fault))
    readied_not size fault room settles =
        subst (λ f. Readied state faults old (deletes_of state rows mid) size (Err (fault_of f))) (sym settles.cause.0) (record {
          answer = (
            room,
            settles.cause.1,
            λ told. seen_doubt state rows mid tied.events tied.doubt (unsettled_held fault settles) (settles.told ∙ told)
                ∙ sym (seen_doubt state rows journal tied.events tied.doubt tied.held told),
            keeps mid settles.kept.0 settles.kept.1 settles.told settles.bodies,
          );
          told = settles.told;
          counts = settles.counts;
          moments = settled_moments (Err fault) settles;
        })

    -- and one that was
    settled_held : Settles state faults journal mid (Ok tt) → IsHeld state rows mid tied.events None
    settled_held settles = let h = tied.held in
        still_held mid None (legal_list tied.events tied.doubt h.legal) (proper_list tied.events tied.doubt h.proper) settles.kept settles.ok settles.told
        settles.bodies (λ told. settles.settled (sym settles.told ∙ told)) settles.images

    pub settled_tied : Settles state faults journal mid (Ok tt) → IsTied state rows mid
    settled_tied settles = record { events = tied.events; doubt = None; held = settled_held settles }

    pub readied : (size : ℕ) → has_room journal.used size ≡ true → Settles state faults journal mid (Ok tt)
        → Readied state faults old (deletes_of state rows mid) size (Ok tt)
    readied size room settles = record {
      answer = (
        room,
        settles.ok,
        λ told. seen_doubt state rows mid tied.events None (settled_held settles) (settles.told ∙ told),
        keeps mid settles.kept.0 settles.kept.1 settles.told settles.bodies,
      );
      told = settles.told;
      counts = settles.counts;
      moments = settled_moments (Ok tt) settles;
    }

  module _ (sure : journal.in_doubt ≡ false) (event : Event) (body : List ℕ) (is_body : body ≡ body_of event) (proper : IsProper event)
      (legal : IsSome (rows_after rows event)) (room : fits journal.used event ≡ true) (last : JournalData D) where
    -- nothing is in doubt
    held_surely : IsHeld state rows journal tied.events None
    held_surely = subst (λ d. IsHeld state rows journal tied.events d) (no_doubt tied.doubt (sym tied.held.sure ∙ sure)) tied.held

    -- with the event the list is legal
    legal_with : IsLegal (tied.events ++ event ∷ [])
    legal_with = let next = some_of (rows_after rows event) legal in
        record { rows = next.0; are = rows_more rows next.0 tied.events event tied.held.folded next.1 }

    -- at each moment of an append an image is one of the list, or of it with this event
    appended_moments : (result : Result (Unit {0}) JournalFault) → Appends state faults journal last body result → IsTold (state journal.disk)
        → LeavesOnly (state journal.disk) (state last.disk) (IsImageWith old event)
    appended_moments result appends told = weakened (state journal.disk) (state last.disk) (IsBeforeOrAfter journal.bodies body) (IsImageWith old event)
        (appends.any_moment told) (λ content there. ⊎_elim
        (λ before. inl (inl (subst (λ l. Stands content (bodies_of l)) (sym (seen told)) (subst (Stands content) (held_surely.bodies told) before))))
        (λ after. inr (subst (λ l. Stands content (bodies_of (l ++ event ∷ []))) (sym (seen told))
        (subst (Stands content)
        (ap (λ b. b ++ body ∷ []) (held_surely.bodies told) ∙ ap (λ x. bodies_of tied.events ++ x ∷ []) is_body ∙ sym (bodies_more tied.events event)) after)))
        there)

    module _ (fault : JournalFault) (appends : Appends state faults journal last body (Err fault)) where
      -- the list is held, without doubt or with this event in doubt
      failed_held : IsHeld state rows last tied.events None ⊎ IsHeld state rows last tied.events (Some event)
      failed_held = by last.in_doubt refl
        where
          h : IsHeld state rows journal tied.events None
          h = held_surely

          failing : IsTold (state last.disk)
              → FailsToAppend (state journal.disk) (state last.disk) journal.bodies last.bodies last.doubt last.in_doubt body
          failing told = appends.failed (sym appends.told ∙ told)

          by : (b : Bool) → b ≡ last.in_doubt → IsHeld state rows last tied.events None ⊎ IsHeld state rows last tied.events (Some event)
          by false is = inl (still_held last None h.legal h.proper appends.err (sym is) appends.told (λ told. (appends.failed told).same)
              (λ told. ((failing told).closed (sym is)).0) appends.images)
          by true is = inr (still_held last (Some event) legal_with (All-push IsProper tied.events event h.proper proper) appends.err (sym is) appends.told
              (λ told. (appends.failed told).same) (λ told. (failing told).open_to_both (sym is) ∙ ap (λ x. Some x) is_body) appends.images)

      pub failed_tied : IsTied state rows last
      failed_tied = ⊎_elim (λ h. record { events = tied.events; doubt = None; held = h }) (λ h. record { events = tied.events; doubt = Some event; held = h })
          failed_held

      -- why, by the fault
      failed_by : (f : JournalFault) → AppendCause faults journal last (length body) f
          → AddAnswer state faults old (deletes_of state rows last) event (Err (fault_of f))
      failed_by JournalDiskFailed cause = (
        cause,
        λ told. ⊎_elim (λ h. inl (seen_doubt state rows last tied.events None h (appends.told ∙ told)))
            (λ h. inr (seen_doubt state rows last tied.events (Some event) h (appends.told ∙ told))) failed_held,
        keeps last appends.err.0 appends.err.1 appends.told (λ told. (appends.failed told).same),
      )
      failed_by (Full used) cause = absurd
          (omega (arith, cause.1, ap length is_body, leb-true (journal.used + 6 + length (body_of event)) JOURNAL_END room))
      failed_by JournalMemory cause = ap (deletes_of state rows) cause
      failed_by NotJournal cause = absurd cause
      failed_by (Cut offset) cause = absurd cause

      pub failed_added : Added state faults old (deletes_of state rows last) event (Err (fault_of fault))
      failed_added = record {
        answer = failed_by fault appends.cause;
        told = appends.told;
        counts = appends.counts;
        moments = appended_moments (Err fault) appends;
      }

    module _ (appends : Appends state faults journal last body (Ok tt)) (next : List DeleteRow) (taken : rows_after rows event ≡ Some next) where
      -- the list with the event is held
      done_held : IsHeld state next last (tied.events ++ event ∷ []) None
      done_held =
          let h = held_surely in
          record {
            folded = rows_more rows next tied.events event h.folded taken;
            legal = legal_with;
            proper = All-push IsProper tied.events event h.proper proper;
            counted = omega (arith, appends.ok.0, h.counted, length-append tied.events (event ∷ []));
            low = omega (arith, h.low, appends.ok.0, appends.ok.1, ap length is_body, body_some event);
            high = omega (arith, appends.ok.1, ap length is_body, leb-true (journal.used + 6 + length (body_of event)) JOURNAL_END room);
            fills = appends.ok.1 ∙ ap (λ n. n + 5 + length body) h.fills ∙ ap (λ x. used_of tied.events + 5 + length x) is_body
                ∙ sym (filled_more tied.events event);
            sure = appends.ok.2;
            bodies = λ told. (appends.appended (sym appends.told ∙ told)).0 ∙ ap (λ b. b ++ body ∷ []) (h.bodies (sym appends.told ∙ told))
                ∙ ap (λ x. bodies_of tied.events ++ x ∷ []) is_body ∙ sym (bodies_more tied.events event);
            doubts = λ told. (appends.appended (sym appends.told ∙ told)).1;
            images = appends.images;
          }

      pub done_tied : IsTied state next last
      done_tied = record { events = tied.events ++ event ∷ []; doubt = None; held = done_held }

      pub done_added : Added state faults old (deletes_of state next last) event (Ok tt)
      done_added = record {
        answer = record {
          rows = taken;
          count = appends.ok.0;
          used = appends.ok.1 ∙ ap (λ x. journal.used + 5 + length x) is_body;
          sure = appends.ok.2;
          listed = λ told. seen_events state next last (tied.events ++ event ∷ []) None done_held (appends.told ∙ told)
              ∙ ap (λ l. l ++ event ∷ []) (sym (seen told));
          no_doubt = λ told. seen_doubt state next last (tied.events ++ event ∷ []) None done_held (appends.told ∙ told);
        };
        told = appends.told;
        counts = appends.counts;
        moments = appended_moments (Ok tt) appends;
      }
