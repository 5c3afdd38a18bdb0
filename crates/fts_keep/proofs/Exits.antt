-- The exits of an acceptance, each with what the keep is then: refused by a check, a doubt that couldn't be settled, an append that failed, and done.
use Rattle.std.proofs.Common.{◌≡◌, refl, ap, sym, ◌∙◌, subst, inl, inr, ⊎_elim, ◌⊎◌, ℕ, ◌+◌, ◌≤◌, Bool, true, false, List, [], ◌∷◌, ◌++◌, length, Option, Some, None, option_and_then, if◌then◌else◌, Result, Ok, Err, IsOk, IfErr, OnOk, OnErr, arith}
use Rattle.std.proofs.lemmas.Bool.{leb-true}
use Rattle.std.proofs.lemmas.List.{length-append}
use Rattle.std.proofs.lemmas.List.Elements.{All-push}
use Rattle.fts_tables.specs.Counts.{Rose}
use Rattle.fts_tables.specs.Tables.{Tables, empty_tables}
use Rattle.fts_tables.specs.Step.{Outcomes, step}
use Rattle.fts_tables.specs.History.{tables_of, IsAccepted, IsLegal}
use Rattle.fts_tables.specs.Settling.{opens, journal_limit}
use Rattle.fts_tables.specs.declared.limits.TheConstants.{MAX_OPENING_BYTES, JOURNAL_END}
use Rattle.fts_tables.specs.declared.commands.Command.{Command}
use Rattle.fts_tables.specs.declared.commands.Entry.{Entry}
use Rattle.fts_tables.specs.declared.commands.Answer.{Answer}
use Rattle.fts_record.specs.Spelling.{spelled}
use Rattle.fts_record.specs.Proper.{IsProper}
use Rattle.fts_record.specs.Reading.{read_of}
use Rattle.fts_desk.specs.DeskData.{DeskData}
use Rattle.fts_disk.specs.Disk.{DiskState, IsTold, IsLawful, LeavesOnly}
use Rattle.fts_journal.specs.Format.{Stands}
use Rattle.fts_journal.specs.Journal.{JournalData, IsSound, FailsToAppend, AppendCause, IsBeforeOrAfter, IsImageOf as IsJournalImage}
use Rattle.fts_journal.specs.declared.fault.JournalFault.{JournalFault}
use Rattle.fts_journal.specs.declared.fault.JournalFault.TheVariants.{DiskFailed as JournalDiskFailed, Full, NotJournal, Cut, Memory as JournalMemory}
use Rattle.fts_keep.specs.Faults.{fault_of}
use Rattle.fts_keep.specs.Keeps.{KeepData, IsFilledBy, IsFold, bodies_of, used_of}
use Rattle.fts_keep.specs.Views.{keep_of, IsTied, option_if}
use Rattle.fts_keep.specs.Applied.{Applied, AppliesSafely, KeepsList, IsImageDuring, Checks, applied_to, applied_by, fits}
use Rattle.fts_keep.specs.declared.fault.KeepFault.{KeepFault}
use Rattle.fts_keep.specs.declared.fault.KeepFault.TheVariants.{Rule, DiskFailed, JournalFull, Damaged, Memory}
use Rattle.fts_keep.proofs.Moments.{begun, joined, weakened, rose_later}
use Rattle.fts_keep.proofs.Lists.{legal_list, legal_more, proper_list, bodies_more, filled_more, image_of, accepted_by, accepted_tables, filled_by_more, spelled_some}
use Rattle.fts_keep.proofs.Tying.{IsHeld, option_told, option_untold, told_or_not, seen_doubt, tie, held}

-- what a settling did, by its clauses
pub record Settles {D : Type 0} (state : D → DiskState) (faults : D → ℕ) (old new : JournalData D) (result : Result (Unit {0}) JournalFault) : Type 0 where
  pub told : (state new.disk).told ≡ (state old.disk).told
  pub nothing : old.in_doubt ≡ false → OnOk result (new ≡ old) × OnErr result ⊥
  pub kept : (new.count ≡ old.count) × (new.used ≡ old.used)
  pub ok : OnOk result (new.in_doubt ≡ false)
  pub err : OnErr result (new.in_doubt ≡ old.in_doubt)
  pub counts : faults old.disk ≤ faults new.disk
  pub cause : IfErr result (λ e. (e ≡ JournalDiskFailed) × Rose (faults old.disk) (faults new.disk))
  pub bodies : IsTold (state old.disk) → new.bodies ≡ old.bodies
  pub settled : IsTold (state old.disk) → OnOk result (new.doubt ≡ None)
  pub doubt : IsTold (state old.disk) → OnErr result (new.doubt ≡ old.doubt)
  pub any_moment : IsTold (state old.disk) → LeavesOnly (state old.disk) (state new.disk) (IsJournalImage old.bodies old.doubt)
  pub images : IsSound (state new.disk) new.bodies new.doubt

-- what an append did, by its clauses
pub record Appends {D : Type 0} (state : D → DiskState) (faults : D → ℕ) (old new : JournalData D) (body : List ℕ) (result : Result (Unit {0}) JournalFault)
    : Type 0 where
  pub told : (state new.disk).told ≡ (state old.disk).told
  pub ok : OnOk result ((new.count ≡ old.count + 1) × (new.used ≡ old.used + 5 + length body) × (new.in_doubt ≡ false))
  pub err : OnErr result ((new.count ≡ old.count) × (new.used ≡ old.used))
  pub counts : faults old.disk ≤ faults new.disk
  pub cause : IfErr result (AppendCause faults old new (length body))
  pub appended : IsTold (state old.disk) → OnOk result ((new.bodies ≡ old.bodies ++ body ∷ []) × (new.doubt ≡ None))
  pub failed : IsTold (state old.disk) → OnErr result (FailsToAppend (state old.disk) (state new.disk) old.bodies new.bodies new.doubt new.in_doubt body)
  pub any_moment : IsTold (state old.disk) → LeavesOnly (state old.disk) (state new.disk) (IsBeforeOrAfter old.bodies body)
  pub images : IsSound (state new.disk) new.bodies new.doubt

-- two keeps that see the same are one
pub same_keep : {D : Type 0} (state : D → DiskState) (desk next : DeskData) (journal other : JournalData D) (list : List Entry) → next.tables ≡ desk.tables
    → next.commands ≡ desk.commands → other ≡ journal
    → keep_of state next other list ≡ keep_of state desk journal list
same_keep state desk next journal other list tables commands same =
    ap (λ t. keep_of state (record { tables = t; commands = next.commands; planned = next.planned }) other list) tables
    ∙ ap (λ n. keep_of state (record { tables = desk.tables; commands = n; planned = desk.planned }) other list) commands
    ∙ ap (λ j. keep_of state desk j list) same

-- what is seen of one option, by two disks of which both tell or none
same_option : {A : Type 0} (before after : Bool) (item other : Option A) → after ≡ before → (before ≡ true → other ≡ item)
    → option_if after other ≡ option_if before item
same_option true after item other is same = ap (λ t. option_if t other) is ∙ same refl
same_option false after item other is same = ap (λ t. option_if t other) is

-- what would be accepted fits
pub fits_by : (used : ℕ) (entry : Entry) (came : Outcomes) → IsOk (applied_by used entry came) → fits used entry ≡ true
fits_by used entry (Err refusal) ok = absurd cc
fits_by used entry (Ok done) ok = by (fits used entry) ok
  where
    by : (b : Bool) → IsOk (if b then Ok done else Err (JournalFull used)) → b ≡ true
    by true ok = refl
    by false ok = absurd cc

-- no command has room beyond the journal's end
limit_below : (command : Command) → journal_limit command ≤ JOURNAL_END
limit_below command = by (opens command)
  where
    by : (b : Bool) → (if b then MAX_OPENING_BYTES else JOURNAL_END) ≤ JOURNAL_END
    by true = omega arith
    by false = omega arith

-- with the gate behind it
room_by : (used : ℕ) (entry : Entry) (came : Outcomes) → IsOk (applied_by used entry came) → used + 6 + length (spelled entry) ≤ JOURNAL_END
room_by used entry came ok = omega (
  arith,
  leb-true (used + 6 + length (spelled entry)) (journal_limit entry.command) (fits_by used entry came ok),
  limit_below entry.command,
)

-- and comes to what its step comes to
came_by : (used : ℕ) (entry : Entry) (came : Outcomes) (done : Tables × Answer) → came ≡ Ok done → IsOk (applied_by used entry came)
    → applied_by used entry came ≡ Ok done
came_by used entry came done is ok = ap (applied_by used entry) is ∙ ap (λ b. if b then Ok done else Err (JournalFull used)) (fits_by used entry came ok)

module _ {D : Type 0} (state : D → DiskState) (faults : D → ℕ) (reads : (entry : Entry) → IsProper entry → read_of (spelled entry) ≡ Some entry)
    (lawful : (disk : D) → IsTold (state disk) → IsLawful (state disk)) (desk next : DeskData) (journal : JournalData D) (list : List Entry)
    (entry : Entry) (tables : next.tables ≡ desk.tables) (commands : next.commands ≡ desk.commands) (tied : IsTied state desk journal list) where
  -- the keep before
  abbrev old : KeepData D
  old = keep_of state desk journal list

  -- a desk that only made room is tied as well
  pub checked_tied : IsTied state next journal list
  checked_tied = record {
    fold = subst (IsFold state) (sym (same_keep state desk next journal journal list tables commands refl)) tied.fold;
    counted = commands ∙ tied.counted;
    bodies = tied.bodies;
    doubt = tied.doubt;
  }

  -- a check that failed
  pub checked_applied : (T : Type 0) (fault : KeepFault) → Checks {T = T} desk.tables journal.used entry (Err fault)
      → Applied state faults old (keep_of state next journal list) entry (Err fault)
  checked_applied T (Rule refusal) checks = (checks, same_keep state desk next journal journal list tables commands refl)
  checked_applied T (JournalFull used) checks = (checks, same_keep state desk next journal journal list tables commands refl)
  checked_applied T Memory checks = record {
    keeps = record { entries = refl; tables = tables; commands = commands; used = refl; told = refl };
    doubt = inl refl;
    untouched = λ sure. same_keep state desk next journal journal list tables commands refl;
  }
  checked_applied T DiskFailed checks = absurd checks
  checked_applied T (Damaged offset) checks = absurd checks

  -- nothing was written
  pub checked_safe : AppliesSafely state old (keep_of state next journal list) entry
  checked_safe told = begun (state journal.disk) (IsImageDuring old entry) (lawful journal.disk told)
      (λ content left. inl ((tied.fold.holds told).images content left))

  -- tables and number are still those of the list, which fills what is used
  filled_list : (mid : JournalData D) → mid.used ≡ journal.used → IsFilledBy (keep_of state next mid list) list
  filled_list mid used = let filled = tied.fold.filled in record {
    list = record { folded = tables ∙ filled.list.folded; legal = filled.list.legal; counted = commands ∙ filled.list.counted };
    proper = filled.proper;
    fills = used ∙ filled.fills;
  }

  -- list, tables and numbers are as before
  keeps_list : (mid : JournalData D) → mid.used ≡ journal.used → (state mid.disk).told ≡ (state journal.disk).told
      → KeepsList state old (keep_of state next mid list)
  keeps_list mid used told = record {
    entries = refl;
    tables = tables;
    commands = commands;
    used = used;
    told = told;
  }

  module _ (checked : IsOk (applied_to desk.tables journal.used entry)) where
    -- the machine accepts it
    accepted : IsAccepted (step (tables_of list) entry.command)
    accepted = subst (λ t. IsAccepted (step t entry.command)) tied.fold.filled.list.folded
        (accepted_by journal.used entry (step desk.tables entry.command) checked)

    -- the list with it is legal
    longer : IsLegal (list ++ entry ∷ [])
    longer = legal_more empty_tables list entry tied.fold.filled.list.legal accepted

    module _ (mid : JournalData D) where
      module _ (fault : JournalFault) (settles : Settles state faults journal mid (Err fault)) where
        -- list and doubt are held still
        unsettled_held : IsTold (state journal.disk) → IsHeld next mid list old.doubt
        unsettled_held told =
            let h = held state reads desk journal list tied told in
            record {
              bodies = settles.bodies told ∙ h.bodies;
              doubts = settles.doubt told ∙ h.doubts;
              folded = tables ∙ h.folded;
              legal = h.legal;
              proper = h.proper;
              counted = commands ∙ h.counted;
              sure = settles.err ∙ h.sure;
              fills = settles.kept.1 ∙ h.fills;
            }

        pub unsettled_tied : IsTied state next mid list
        unsettled_tied = tie state reads next mid list (omega (arith, commands, settles.kept.1, tied.fold.low)) (omega (arith, settles.kept.1, tied.fold.high))
            (commands ∙ tied.counted ∙ sym settles.kept.0)
            (filled_list mid settles.kept.1)
            (λ told. record { doubt = old.doubt; held = unsettled_held (sym settles.told ∙ told) }) settles.images

        pub unsettled_applied : Applied state faults old (keep_of state next mid list) entry (Err (fault_of fault))
        unsettled_applied = subst (λ f. Applied state faults old (keep_of state next mid list) entry (Err (fault_of f))) (sym settles.cause.0) (record {
          would = checked;
          rose = settles.cause.1;
          keeps = keeps_list mid settles.kept.1 settles.told;
          doubt = inl (same_option (state journal.disk).told (state mid.disk).told (option_and_then read_of journal.doubt)
              (option_and_then read_of mid.doubt) settles.told (λ is. ap (λ found. option_and_then read_of found) (settles.doubt is)));
        })

      -- at each moment of a settling an image is one of the list, with its doubt
      pub settled_safe : (result : Result (Unit {0}) JournalFault) → Settles state faults journal mid result
          → AppliesSafely state old (keep_of state next mid list) entry
      settled_safe result settles told =
          let h = held state reads desk journal list tied told in
          weakened (state journal.disk) (state mid.disk) (IsJournalImage journal.bodies journal.doubt) (IsImageDuring old entry) (settles.any_moment told)
          (λ content there. inl
          (image_of list old.doubt content
          (subst (λ d. IsJournalImage (bodies_of list) d content) h.doubts (subst (λ b. IsJournalImage b journal.doubt content) h.bodies there))))

      module _ (settles : Settles state faults journal mid (Ok tt)) (last : JournalData D) (body : List ℕ) (is_body : body ≡ spelled entry)
          (proper : IsProper entry) where
        -- the bodies are those of the list
        settled_bodies : IsTold (state journal.disk) → mid.bodies ≡ bodies_of list
        settled_bodies told = settles.bodies told ∙ (held state reads desk journal list tied told).bodies

        -- at each moment of both an image is one of the list with its doubt, or of the list with this entry
        pub appended_safe : (result : Result (Unit {0}) JournalFault) → Appends state faults mid last body result
            → AppliesSafely state old (keep_of state next last list) entry
        appended_safe result appends told = joined (state journal.disk) (state mid.disk) (state last.disk) (IsImageDuring old entry)
            (settled_safe (Ok tt) settles told)
            (weakened (state mid.disk) (state last.disk) (IsBeforeOrAfter mid.bodies body) (IsImageDuring old entry)
            (appends.any_moment (settles.told ∙ told)) (λ content there. ⊎_elim
            (λ before. inl (inl (subst (Stands content) (settled_bodies told) before)))
            (λ after. inr (
              checked,
              subst (Stands content)
                  (ap (λ b. b ++ body ∷ []) (settled_bodies told) ∙ ap (λ x. bodies_of list ++ x ∷ []) is_body ∙ sym (bodies_more list entry))
                  after,
            ))
            there))

        module _ (fault : JournalFault) (appends : Appends state faults mid last body (Err fault)) where
          -- the list is held, without doubt or with this entry in doubt
          failed_held : IsTold (state journal.disk) → IsHeld next last list None ⊎ IsHeld next last list (Some entry)
          failed_held told = by last.in_doubt refl
            where
              h : IsHeld desk journal list old.doubt
              h = held state reads desk journal list tied told

              failing : FailsToAppend (state mid.disk) (state last.disk) mid.bodies last.bodies last.doubt last.in_doubt body
              failing = appends.failed (settles.told ∙ told)

              by : (b : Bool) → b ≡ last.in_doubt → IsHeld next last list None ⊎ IsHeld next last list (Some entry)
              by false is = inl (record {
                bodies = failing.same ∙ settled_bodies told;
                doubts = (failing.closed (sym is)).0;
                folded = tables ∙ h.folded;
                legal = legal_list list old.doubt h.legal;
                proper = proper_list list old.doubt h.proper;
                counted = commands ∙ h.counted;
                sure = sym is;
                fills = appends.err.1 ∙ settles.kept.1 ∙ h.fills;
              })
              by true is = inr (record {
                bodies = failing.same ∙ settled_bodies told;
                doubts = failing.open_to_both (sym is) ∙ ap (λ x. Some x) is_body;
                folded = tables ∙ h.folded;
                legal = longer;
                proper = All-push IsProper list entry (proper_list list old.doubt h.proper) proper;
                counted = commands ∙ h.counted;
                sure = sym is;
                fills = appends.err.1 ∙ settles.kept.1 ∙ h.fills;
              })

          pub failed_tied : IsTied state next last list
          failed_tied = tie state reads next last list (omega (arith, commands, settles.kept.1, appends.err.1, tied.fold.low))
              (omega (arith, settles.kept.1, appends.err.1, tied.fold.high))
              (commands ∙ tied.counted ∙ sym settles.kept.0 ∙ sym appends.err.0) (filled_list last (appends.err.1 ∙ settles.kept.1)) (λ told. ⊎_elim
              (λ sure. record { doubt = None; held = sure })
              (λ unsure. record { doubt = Some entry; held = unsure })
              (failed_held (sym settles.told ∙ sym appends.told ∙ told))) appends.images

          failed_keeps : KeepsList state old (keep_of state next last list)
          failed_keeps = keeps_list last (appends.err.1 ∙ settles.kept.1) (appends.told ∙ settles.told)

          -- no doubt is seen where the disk tells nothing
          untold_doubt : (state journal.disk).told ≡ false → (keep_of state next last list).doubt ≡ None
          untold_doubt not = option_untold (state last.disk).told (option_and_then read_of last.doubt) (appends.told ∙ settles.told ∙ not)

          -- why, by the fault
          failed_by : (f : JournalFault) → AppendCause faults mid last (length body) f
              → Applied state faults old (keep_of state next last list) entry (Err (fault_of f))
          failed_by JournalDiskFailed cause = record {
            would = checked;
            rose = rose_later (faults journal.disk) (faults mid.disk) (faults last.disk) settles.counts cause;
            keeps = failed_keeps;
            doubt = inr (told_or_not (state journal.disk).told
                (λ told. ⊎_elim
                (λ sure. inl (seen_doubt state reads next last list None sure (appends.told ∙ settles.told ∙ told)))
                (λ unsure. inr (seen_doubt state reads next last list (Some entry) unsure (appends.told ∙ settles.told ∙ told)))
                (failed_held told))
                (λ not. inl (untold_doubt not)));
          }
          failed_by (Full used) cause = absurd
              (omega (arith, cause.1, settles.kept.1, ap length is_body, room_by journal.used entry (step desk.tables entry.command) checked))
          failed_by JournalMemory cause = record {
            keeps = failed_keeps;
            doubt = inr (told_or_not (state journal.disk).told
                (λ told. option_told (state last.disk).told (option_and_then read_of last.doubt) (appends.told ∙ settles.told ∙ told)
                ∙ ap (λ found. option_and_then read_of found) (ap (λ (j : JournalData D). j.doubt) cause ∙ settles.settled told))
                untold_doubt);
            untouched = λ sure. same_keep state desk next journal last list tables commands (cause ∙ (settles.nothing sure).0);
          }
          failed_by NotJournal cause = absurd cause
          failed_by (Cut offset) cause = absurd cause

          pub failed_applied : Applied state faults old (keep_of state next last list) entry (Err (fault_of fault))
          failed_applied = failed_by fault appends.cause

        module _ (appends : Appends state faults mid last body (Ok tt)) (done : DeskData) (answer : Answer)
            (stepped : step next.tables entry.command ≡ Ok (done.tables, answer)) (more : done.commands ≡ next.commands + 1) where
          -- what it comes to
          done_came : applied_to desk.tables journal.used entry ≡ Ok (done.tables, answer)
          done_came = came_by journal.used entry (step desk.tables entry.command) (done.tables, answer)
              (subst (λ t. step t entry.command ≡ Ok (done.tables, answer)) tables stepped) checked

          -- the list with the entry is held
          done_held : IsTold (state journal.disk) → IsHeld done last (list ++ entry ∷ []) None
          done_held told =
              let h = held state reads desk journal list tied told in
              record {
                bodies = (appends.appended (settles.told ∙ told)).0 ∙ ap (λ b. b ++ body ∷ []) (settled_bodies told)
                    ∙ ap (λ x. bodies_of list ++ x ∷ []) is_body ∙ sym (bodies_more list entry);
                doubts = (appends.appended (settles.told ∙ told)).1;
                folded = accepted_tables list entry desk.tables done.tables journal.used answer h.folded done_came;
                legal = longer;
                proper = All-push IsProper list entry (proper_list list old.doubt h.proper) proper;
                counted = omega (arith, more, commands, h.counted, length-append list (entry ∷ []));
                sure = appends.ok.2;
                fills = appends.ok.1 ∙ ap (λ n. n + 5 + length body) (settles.kept.1 ∙ h.fills) ∙ ap (λ x. used_of list + 5 + length x) is_body
                    ∙ sym (filled_more list entry);
              }

          pub done_applied : Applied state faults old (keep_of state done last (list ++ entry ∷ [])) entry (Ok answer)
          done_applied = record {
            done = done_came;
            commands = more ∙ ap (λ n. n + 1) commands;
            used = appends.ok.1 ∙ ap (λ n. n + 5 + length body) settles.kept.1 ∙ ap (λ x. journal.used + 5 + length x) is_body;
            no_doubt = appends.ok.2;
            told = appends.told ∙ settles.told;
            listed = refl;
            cleared = told_or_not (state journal.disk).told
                (λ told. seen_doubt state reads done last (list ++ entry ∷ []) None (done_held told) (appends.told ∙ settles.told ∙ told))
                (λ not. option_untold (state last.disk).told (option_and_then read_of last.doubt) (appends.told ∙ settles.told ∙ not));
          }

          pub done_tied : IsTied state done last (list ++ entry ∷ [])
          done_tied = tie state reads done last (list ++ entry ∷ [])
              (omega (arith, more, commands, appends.ok.1, settles.kept.1, tied.fold.low, ap length is_body, spelled_some entry))
              (omega (arith, appends.ok.1, settles.kept.1, ap length is_body, room_by journal.used entry (step desk.tables entry.command) checked))
              (omega (arith, more, commands, tied.counted, settles.kept.0, appends.ok.0))
              (filled_by_more state old (keep_of state done last (list ++ entry ∷ [])) list entry answer tied.fold.filled proper done_applied)
              (λ told. record { doubt = None; held = done_held (sym settles.told ∙ sym appends.told ∙ told) })
              appends.images

          pub done_safe : AppliesSafely state old (keep_of state done last (list ++ entry ∷ [])) entry
          done_safe = appended_safe (Ok tt) appends
