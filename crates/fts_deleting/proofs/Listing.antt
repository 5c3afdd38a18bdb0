-- What the list of a run is, by its steps, over a disk that tells its contents.
use Rattle.std.proofs.Common.{◌≡◌, ◌⊎◌, ⊎_elim, inl, inr, refl, sym, ◌∙◌, ap, subst, ℕ, ◌≤◌, Bool, true, false, List, [], ◌∷◌, ◌++◌, length, append_assoc, append-nil, length-append, Option, Some, None, Result, Ok, Err, arith}
use Rattle.fts_tables.specs.SettingsData.{SettingsData}
use Rattle.fts_tables.specs.declared.places.Place.{Place}
use Rattle.fts_tables.specs.declared.limits.TheConstants.{MAX_CONTENT_BYTES}
use Rattle.fts_disk.specs.Disk.{IsTold, IsLawful}
use Rattle.fts_wire.specs.ReadAll.{IsAll}
use Rattle.fts_delete.specs.declared.events.Event.{Event}
use Rattle.fts_delete.specs.declared.events.Event.TheVariants.{Ask}
use Rattle.fts_delete.specs.declared.fault.DeleteFault.{DeleteFault}
use Rattle.fts_delete.specs.declared.fault.DeleteFault.TheVariants as faults_of
use Rattle.fts_delete.specs.declared.rows.DeleteRow.{DeleteRow}
use Rattle.fts_delete.specs.declared.visits.Visit.{Visit}
use Rattle.fts_delete.specs.Asked.{AskAnswer}
use Rattle.fts_delete.specs.Journals.{DeletesData, IsDeletes, StandsFor, with_doubt, IsLegal, KeepsImages}
use Rattle.fts_delete.specs.Passed.{Passed, PassEnds, IsPassDoubt}
use Rattle.fts_delete.specs.Passes.{waiting_of, events_of}
use Rattle.fts_delete.specs.Rows.{AreRowsOf}
use Rattle.fts_delete.specs.Visits.{event_of}
use Rattle.std.proofs.lemmas.Option.{slice_get_within}
use Rattle.fts_delete.proofs.Growing.{none_come, events_more}
use Rattle.fts_delete.proofs.Images.{images_start, images_more}
use Rattle.fts_deleting.specs.Asking.{AsksFor, AsksDocument, AsksNoDocument, AsksNot}
use Rattle.fts_deleting.specs.Ends.{end_of, told}
use Rattle.fts_deleting.specs.Runs.{Surroundings, IsMade, IsBegun, StandsForSome, TellsAll, GoesOn, WritesText, StopsPassing, TellsRows, AsksAndPasses, RunsOver}
use Rattle.fts_deleting.specs.Told.{rows_text}
use Rattle.fts_deleting.specs.declared.ends.DeleteEnd.{DeleteEnd}
use Rattle.fts_deleting.specs.declared.ends.DeleteEnd.TheVariants.{Told}
use Rattle.fts_disk.specs.declared.disk.Disk as disk
use Rattle.fts_store.specs.declared.store.Store as store

-- no fault of the journal ends a run with status 0
not_told : (fault : DeleteFault) → end_of fault ≡ Told → ⊥
not_told (faults_of.Damaged offset) e = cc
not_told faults_of.DiskFailed e = cc
not_told (faults_of.JournalFull used) e = cc
not_told (faults_of.RowsFull rows) e = cc
not_told faults_of.Memory e = cc

-- nor does a write that failed
whole_told : (whole : Bool) → told whole ≡ Told → whole ≡ true
whole_told true e = refl
whole_told false e = absurd cc

-- a list with what may be in doubt behind it stands for one of these
in_doubt : (P : List Event → Type 0) (events : List Event) (doubt : Option Event) (content : List ℕ) → P events → ((event : Event) → doubt ≡ Some event → P (events ++ event ∷ []))
    → StandsFor content events ⊎ StandsFor content (with_doubt events doubt) → (list : List Event) × (StandsFor content list × P list)
in_doubt P events doubt content first second (inl stands) = (events, (stands, first))
in_doubt P events None content first second (inr stands) = (events, (stands, first))
in_doubt P events (Some event) content first second (inr stands) = (events ++ event ∷ [], (stands, second event refl))

-- where nothing is in doubt it stands for the list
sure_list : (events : List Event) (doubt : Option Event) (content : List ℕ) → doubt ≡ None → StandsFor content events ⊎ StandsFor content (with_doubt events doubt) → StandsFor content events
sure_list events doubt content none (inl stands) = stands
sure_list events doubt content none (inr stands) = subst (λ d. StandsFor content (with_doubt events d)) none stands

-- two options of which one is none
none_some : {A : Type 0} (found : Option A) (item : A) → found ≡ None → found ≡ Some item → ⊥
none_some None item none some = cc
none_some (Some x) item none some = cc

some_same : {A : Type 0} (found : Option A) (one other : A) → found ≡ Some one → found ≡ Some other → one ≡ other
some_same None one other first second = cc
some_same (Some x) one other first second = cc

-- the opening list with what was asked
asked_made : (opening asked : List Event) (rows : List DeleteRow) → AreRowsOf rows (opening ++ asked) → IsMade opening asked (opening ++ asked)
asked_made opening asked rows are = record {
  rows = rows;
  are = are;
  visits = [];
  few = omega arith;
  parts = sym (append-nil (opening ++ asked)) ∙ ap (λ l. (opening ++ asked) ++ l) (sym (none_come rows));
}

module _ {D E : Type 0} (disks : disk.Ghosts D) (stores : store.Ghosts E) (lawful : (d : D) → IsTold (disks.state d) → IsLawful (disks.state d))
    (settings : SettingsData) where
  -- where nothing was in doubt, what is as it was is none
  kept_doubt : (old new : DeletesData D) (places : List Place) → old.doubt ≡ None
      → (new.doubt ≡ None) ⊎ ((new.doubt ≡ old.doubt) ⊎ (new.doubt ≡ Some (Ask places))) → (new.doubt ≡ None) ⊎ (new.doubt ≡ Some (Ask places))
  kept_doubt old new places none (inl nothing) = inl nothing
  kept_doubt old new places none (inr (inl same)) = inl (same ∙ none)
  kept_doubt old new places none (inr (inr asked)) = inr asked

  -- what an asking that was refused leaves in doubt
  refused_doubt : (old new : DeletesData D) (places : List Place) (fault : DeleteFault) → IsTold (disks.state old.disk) → old.doubt ≡ None
      → AskAnswer disks.state disks.faults old new places (Err fault) → (new.events ≡ old.events) × ((new.doubt ≡ None) ⊎ (new.doubt ≡ Some (Ask places)))
  refused_doubt old new places (faults_of.Damaged offset) is none answer = absurd answer
  refused_doubt old new places (faults_of.RowsFull rows) is none answer =
      (ap (λ (d : DeletesData D). d.events) answer.1, inl (ap (λ (d : DeletesData D). d.doubt) answer.1 ∙ none))
  refused_doubt old new places (faults_of.JournalFull used) is none answer =
      (ap (λ (d : DeletesData D). d.events) answer.1, inl (ap (λ (d : DeletesData D). d.doubt) answer.1 ∙ none))
  refused_doubt old new places faults_of.DiskFailed is none answer = (answer.2.list.events, kept_doubt old new places none (answer.2.doubt is))
  refused_doubt old new places faults_of.Memory is none answer = (answer.1.list.events, kept_doubt old new places none (answer.1.doubt is))

  -- the list behind an asking
  record HasAsked (old new : DeletesData D) (asked : List Event) : Type 0 where
    told : (disks.state new.disk).told ≡ (disks.state old.disk).told
    events : IsTold (disks.state old.disk) → new.events ≡ old.events ++ asked
    no_doubt : IsTold (disks.state old.disk) → old.doubt ≡ None → new.doubt ≡ None

  asked_so : (document : List ℕ) (old new : DeletesData D) → AsksDocument disks.state disks.faults settings document old new
      → (asked : List Event) × (AsksFor settings document asked × HasAsked old new asked)
  asked_so [] old new same = (
    [],
    (
      refl,
      record {
        told = ap (λ (d : DeletesData D). (disks.state d.disk).told) same;
        events = λ is. ap (λ (d : DeletesData D). d.events) same ∙ sym (append-nil old.events);
        no_doubt = λ is none. ap (λ (d : DeletesData D). d.doubt) same ∙ none;
      },
    ),
  )
  asked_so (byte ∷ bytes) old new asks = (
    Ask asks.0 ∷ [],
    (
      (asks.0, asks.1, refl),
      record { told = asks.2.told; events = λ is. asks.2.answer.listed is; no_doubt = λ is none. asks.2.answer.no_doubt is },
    ),
  )

  module _ (opened closed : DeletesData D) (before after : Surroundings D E) (end : DeleteEnd) (kept : IsDeletes disks.state closed)
      (is : IsTold (disks.state opened.disk)) (none : opened.doubt ≡ None)
      (sound : (content : List ℕ) → (disks.state opened.disk).may_leave content → StandsFor content opened.events)
      (left : D) (disk_is : left ≡ closed.disk) where
    -- the list of a run
    abbrev pub Lists : Type 0
    Lists = StandsForSome (disks.state left) (λ list. list ≡ opened.events) ⊎ GoesOn settings (disks.state left) opened.events before after end

    -- a content that the disk may leave
    of_closed : (content : List ℕ) → (disks.state left).may_leave content → (disks.state closed.disk).may_leave content
    of_closed content there = subst (λ d. (disks.state d).may_leave content) disk_is there

    -- nothing was done to the list
    stays : closed ≡ opened → Lists
    stays same = inl (λ content there.
        (opened.events, (sound content (subst (λ d. (disks.state d.disk).may_leave content) same (of_closed content there)), refl)))

    -- the asking was refused
    refuses : (document : List ℕ) → IsAll MAX_CONTENT_BYTES before.input after.input document → AsksNoDocument disks.state disks.faults settings document opened closed end → Lists
    refuses [] all unasked = absurd unasked
    refuses (byte ∷ bytes) all (inl nothing) = stays nothing.1
    refuses (byte ∷ bytes) all (inr refused) =
        let asked : List Event = Ask refused.places ∷ [] in
        let is_then : IsTold (disks.state closed.disk) = refused.asked.told ∙ is in
        let holds = kept.holds is_then in
        let kept_so = refused_doubt opened closed refused.places refused.fault is none refused.asked.answer in
        inr (record {
          document = byte ∷ bytes;
          all = all;
          asked = asked;
          asks = (refused.places, refused.are, refl);
          images = λ content there. in_doubt (IsBegun opened.events asked) closed.events closed.doubt content (inl kept_so.0)
              (λ event doubted. inr (
              let same : closed.events ++ event ∷ [] ≡ opened.events ++ asked =
              ap (λ l. l ++ event ∷ []) kept_so.0
              ∙ ap (λ e. opened.events ++ e ∷ []) (⊎_elim (λ nothing. absurd (none_some closed.doubt event nothing doubted)) (λ asks. some_same closed.doubt event (Ask refused.places) doubted asks) kept_so.1) in
              let legal : IsLegal (closed.events ++ event ∷ []) = subst (λ d. IsLegal (with_doubt closed.events d)) doubted holds.legal in
              subst (IsMade opened.events asked) (sym same) (asked_made opened.events asked legal.rows (subst (AreRowsOf legal.rows) same legal.are))
              ))
              (holds.images content (of_closed content there));
          tells = λ told_so. absurd (not_told refused.fault (sym refused.end_is ∙ told_so));
        })

    unasked_lists : AsksNot disks.state disks.faults settings before.input after.input opened closed end → Lists
    unasked_lists (inl unread) = stays unread.same
    unasked_lists (inr unasked) = refuses unasked.document unasked.all unasked.unasked

    module _ (next : DeletesData D) (asked : List Event) (went : HasAsked opened next asked) (kept_next : IsDeletes disks.state next)
        (result : Result (Unit {0}) DeleteFault) (passed : Passed disks.state disks.faults stores.state stores.faults stores.calls next closed before.store after.store result) where
      is_next : IsTold (disks.state next.disk)
      is_next = went.told ∙ is

      is_closed : IsTold (disks.state closed.disk)
      is_closed = passed.by.told ∙ is_next

      -- the rows that the pass began with
      are : AreRowsOf next.rows (opened.events ++ asked)
      are = subst (AreRowsOf next.rows) (went.events is) (kept_next.holds is_next).folded

      -- so many visits, and their events
      abbrev made_by : (visits : List Visit) (list : List Event) → length visits ≤ length (waiting_of next.rows) → list ≡ next.events ++ events_of next.rows visits
          → IsMade opened.events asked list
      made_by visits list few parts = record {
        rows = next.rows;
        are = are;
        visits = visits;
        few = few;
        parts = parts ∙ ap (λ l. l ++ events_of next.rows visits) (went.events is);
      }

      -- how many were recorded
      few_done : length passed.done ≤ length (waiting_of next.rows)
      few_done = by result passed.ends
        where
          by : (r : Result (Unit {0}) DeleteFault) → PassEnds disks.faults next closed passed.done passed.last r → length passed.done ≤ length (waiting_of next.rows)
          by (Ok done) ends = omega (arith, ends.0)
          by (Err fault) ends = omega (arith, ends.0)

      abbrev done_made : IsMade opened.events asked closed.events
      done_made = made_by passed.done closed.events few_done (passed.by.listed is_next)

      -- the event of a visit that was not recorded
      more_made : (last : Option Visit) → IsPassDoubt next.rows next.doubt closed.doubt passed.done last → (event : Event) → closed.doubt ≡ Some event
          → IsMade opened.events asked (closed.events ++ event ∷ [])
      more_made None (inl nothing) event doubted = absurd (none_some closed.doubt event nothing doubted)
      more_made None (inr same) event doubted = absurd (none_some closed.doubt event (same ∙ went.no_doubt is none) doubted)
      more_made (Some came) (inl nothing) event doubted = absurd (none_some closed.doubt event nothing doubted)
      more_made (Some came) (inr visit) event doubted =
          let row = visit.0 in
          let same : event ≡ event_of row.id came = some_same closed.doubt event (event_of row.id came) doubted visit.2 in
          made_by (passed.done ++ came ∷ []) (closed.events ++ event ∷ [])
          (omega (arith, length-append passed.done (came ∷ []), slice_get_within (waiting_of next.rows) (length passed.done) row visit.1))
          (ap (λ l. l ++ event ∷ []) (passed.by.listed is_next) ∙ append_assoc next.events (events_of next.rows passed.done) (event ∷ [])
          ∙ ap (λ e. next.events ++ (events_of next.rows passed.done ++ e ∷ [])) same
          ∙ ap (λ l. next.events ++ l) (sym (events_more next.rows passed.done row came visit.1)))

      -- what a crash leaves stands for one of these lists
      some_list : StandsForSome (disks.state left) (IsBegun opened.events asked)
      some_list = λ content there. in_doubt (IsBegun opened.events asked) closed.events closed.doubt content (inr done_made)
          (λ event doubted. inr (more_made passed.last (passed.by.doubt is_next) event doubted)) ((kept.holds is_closed).images content (of_closed content there))

    -- a whole pass leaves no doubt
    sure_then : (next : DeletesData D) (asked : List Event) → HasAsked opened next asked
        → (passed : Passed disks.state disks.faults stores.state stores.faults stores.calls next closed before.store after.store (Ok tt)) → closed.doubt ≡ None
    sure_then next asked went passed = by (subst (IsPassDoubt next.rows next.doubt closed.doubt passed.done) passed.ends.1 (passed.by.doubt (went.told ∙ is)))
      where
        by : (closed.doubt ≡ None) ⊎ (closed.doubt ≡ next.doubt) → closed.doubt ≡ None
        by (inl nothing) = nothing
        by (inr same) = same ∙ went.no_doubt is none

    -- with status 0
    tells_all : (next : DeletesData D) (asked : List Event) (went : HasAsked opened next asked) (tells : TellsRows disks stores next closed before after end) → end ≡ Told
        → TellsAll (disks.state left) opened.events asked before.output after.output
    tells_all next asked went tells told_so =
        let passes = tells.passes in
        let passed = passes.passed in
        let holds = kept.holds (passed.by.told ∙ (went.told ∙ is)) in
        record {
          list = closed.events;
          whole = record { made = done_made next asked went passes.kept (Ok tt) passed; each = passed.ends.0 };
          images = λ content there. sure_list closed.events closed.doubt content (sure_then next asked went passed) (holds.images content (of_closed content there));
          rows = closed.rows;
          fold = holds.folded;
          written = subst (λ w. WritesText (rows_text closed.rows) before.output after.output w) (whole_told tells.whole (sym tells.end_is ∙ told_so)) tells.written;
        }

    passed_lists : AsksAndPasses disks stores settings opened closed before after end → Lists
    passed_lists run =
        let asks = asked_so run.asks.document opened run.next run.asks.asks in
        by asks.0 asks.1.0 asks.1.1 run.passes
      where
        by : (asked : List Event) → AsksFor settings run.asks.document asked → HasAsked opened run.next asked
            → StopsPassing disks stores run.next closed before after end ⊎ TellsRows disks stores run.next closed before after end → Lists
        by asked asks went (inl stops) = inr (record {
          document = run.asks.document;
          all = run.asks.all;
          asked = asked;
          asks = asks;
          images = some_list run.next asked went stops.passes.kept (Err stops.fault) stops.passes.passed;
          tells = λ told_so. absurd (not_told stops.fault (sym stops.end_is ∙ told_so));
        })
        by asked asks went (inr tells) = inr (record {
          document = run.asks.document;
          all = run.asks.all;
          asked = asked;
          asks = asks;
          images = some_list run.next asked went tells.passes.kept (Ok tt) tells.passes.passed;
          tells = tells_all run.next asked went tells;
        })

    pub run_lists : RunsOver disks stores settings opened closed before after end → Lists
    run_lists (inl stops) = unasked_lists stops.unasked
    run_lists (inr run) = passed_lists run

  -- images since the opening
  module _ (opened closed : DeletesData D) (before after : Surroundings D E) (end : DeleteEnd) (kept : IsDeletes disks.state closed) where
    same_images : closed ≡ opened → KeepsImages disks.state opened closed
    same_images same = subst (λ d. KeepsImages disks.state opened d) (sym same)
        (images_start disks.state opened (subst (IsDeletes disks.state) same kept) (lawful opened.disk))

    no_document : (document : List ℕ) → AsksNoDocument disks.state disks.faults settings document opened closed end → KeepsImages disks.state opened closed
    no_document [] unasked = absurd unasked
    no_document (byte ∷ bytes) (inl nothing) = same_images nothing.1
    no_document (byte ∷ bytes) (inr refused) = refused.images

    behind : (next : DeletesData D) (document : List ℕ) → AsksDocument disks.state disks.faults settings document opened next → KeepsImages disks.state next closed
        → (IsTold (disks.state next.disk) → (more : List Event) × (closed.events ≡ next.events ++ more)) → KeepsImages disks.state opened closed
    behind next [] same later more = subst (λ d. KeepsImages disks.state d closed) same later
    behind next (byte ∷ bytes) asks later more = λ opening since parts is.
        images_more disks.state opened next closed (Ask asks.0 ∷ []) (more (asks.2.told ∙ is)).0 asks.2.told asks.2.answer.listed
        (λ there. (more (asks.2.told ∙ is)).1) asks.3 later opening since parts is

    pub run_images : RunsOver disks stores settings opened closed before after end → KeepsImages disks.state opened closed
    run_images (inl stops) = ⊎_elim (λ unread. same_images unread.same) (λ unasked. no_document unasked.document unasked.unasked) stops.unasked
    run_images (inr run) = by run.passes
      where
        by : StopsPassing disks stores run.next closed before after end ⊎ TellsRows disks stores run.next closed before after end → KeepsImages disks.state opened closed
        by (inl stops) = behind run.next run.asks.document run.asks.asks stops.passes.passed.by.images
            (λ is. (events_of run.next.rows stops.passes.passed.done, stops.passes.passed.by.listed is))
        by (inr tells) = behind run.next run.asks.document run.asks.asks tells.passes.passed.by.images
            (λ is. (events_of run.next.rows tells.passes.passed.done, tells.passes.passed.by.listed is))
