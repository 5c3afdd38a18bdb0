-- The first file that is held, once its outcome is kept: how a copy and its report are one step of a round.
use Rattle.std.proofs.Common.{◌≡◌, refl, ap, sym, ◌∙◌, subst, inl, inr, ℕ, ◌≤◌, true, false, List, [], ◌∷◌, ◌++◌, length, get_or, Option, Some, None, IsSome, Result, Ok, Err, arith}
use Rattle.std.specs.Prelude.{is_some}
use Rattle.std.specs.Option.{option_map_or}
use Rattle.fts_tables.specs.Coming.{Coming}
use Rattle.fts_tables.specs.Tables.{Tables, AreWellFormed}
use Rattle.fts_tables.specs.Laws.{AreTheActive}
use Rattle.fts_tables.specs.History.{tables_of, out_of_list, IsLegal}
use Rattle.fts_tables.specs.declared.rows.Outcome.{Outcome}
use Rattle.fts_tables.specs.declared.commands.Entry.{Entry}
use Rattle.fts_disk.specs.Disk.{DiskState}
use Rattle.fts_store.specs.Calls.{Call}
use Rattle.fts_store.specs.Store.{StoreState}
use Rattle.fts_keep.specs.Keeps.{KeepData}
use Rattle.fts_workers.specs.Benches.{BenchData, attempt_of, KeepsNoStop, KeepsOne, held_as, held_over, is_stopped, kept_of}
use Rattle.fts_workers.specs.Copies.{Copy, AreCopied, copies_kept, copies_of_file}
use Rattle.fts_workers.specs.FirstFile.{CopiesFirst, HasFirst, IsFirstCopied, copies_unless}
use Rattle.fts_workers.specs.Rounds.{Walk, IsOutcome, IsRound, IsWorkedOver, Reports, ReportStops, WorksOff}
use Rattle.fts_workers.specs.Steps.{Stand, stand, walk_of, MakesNoCopy, MakesCopies, WorksOn, kept_at}
use Rattle.fts_workers.specs.declared.held.Held.{Held}
use Rattle.fts_workers.specs.declared.ends.RoundEnd.{RoundEnd}
use Rattle.fts_workers.proofs.Copied.{none_more, copies_kept-none}
use Rattle.fts_workers.proofs.OutFiles.{outcomes-held_as}
use Rattle.fts_workers.proofs.Reported.{IsFirstOut, first_out, first_reportable}

-- the first of what is held, whose outcome is kept
pub record HasHead (held : List Held) (first : Held) (outcome : Outcome) : Type 0 where
  pub others : List Held
  pub is : held ≡ first ∷ others
  pub wanted : is_stopped outcome ≡ false

pub head_of : (held given : List Held) (default : Held) (outcome : Outcome) → given ≡ held → IsFirstCopied held
    → (get_or given 0 default).outcome ≡ Some outcome → HasHead held (get_or given 0 default) outcome
head_of [] given default outcome same copied kept = absurd copied
head_of (first ∷ others) given default outcome same copied kept =
    let here : get_or given 0 default ≡ first = ap (λ (held : List Held). get_or held 0 default) same in
    let the_outcome : outcome ≡ copied.0 = some_same outcome copied.0 (sym kept ∙ ap (λ (held : Held). held.outcome) here ∙ copied.1) in
    record {
      others = others;
      is = ap (λ head. head ∷ others) (sym here);
      wanted = ap is_stopped the_outcome ∙ copied.2;
    }
  where
    some_same : (one other : Outcome) → ◌≡◌ {A = Option Outcome} (Some one) (Some other) → one ≡ other
    some_same one other is = cc

-- what is held behind the first of what is held over a list keeps no outcome
pub rest_keeps : (tables : Tables) (files : List ℕ) → KeepsOne (held_as tables None files)
rest_keeps tables [] = tt
rest_keeps tables (file ∷ files) = (tt, outcomes-held_as tables files)

-- and with the first, where its outcome isn't that of a copy that was called off
pub all_keeps : (tables : Tables) (kept : Option Outcome) (files : List ℕ) → KeepsNoStop kept → KeepsOne (held_as tables kept files)
all_keeps tables kept [] wanted = tt
all_keeps tables kept (file ∷ files) wanted = (wanted, outcomes-held_as tables files)

-- an outcome that is wanted may be kept
no_stop : (outcome : Outcome) (kept : Option Outcome) → kept ≡ Some outcome → is_stopped outcome ≡ false → KeepsNoStop kept
no_stop outcome None is wanted = absurd cc
no_stop outcome (Some other) is wanted = let same : other ≡ outcome = cc in ap is_stopped same ∙ wanted

-- what is held over a list, where the first was copied
pub copied_keeps : (entries : List Entry) (held : List Held) (first : Held) (outcome : Outcome) → held ≡ held_over entries (kept_of held)
    → HasHead held first outcome → first.outcome ≡ Some outcome → KeepsOne held
copied_keeps entries held first outcome over head kept =
    subst KeepsOne (sym over)
    (all_keeps (tables_of entries) (kept_of held) (out_of_list entries) (no_stop outcome (kept_of held) (ap kept_of head.is ∙ kept) head.wanted))

-- and what is held behind it
pub others_keep : (entries : List Entry) (held : List Held) (first : Held) (others : List Held) → held ≡ held_over entries (kept_of held)
    → held ≡ first ∷ others → KeepsOne others
others_keep entries held first others over is =
    let out = first_out entries (kept_of held) first others (sym is ∙ over) in
    subst KeepsOne (sym out.rest) (rest_keeps (tables_of entries) out.files)

-- the first file was copied before: nothing is left to do
pub copied_before : {E : Type 0} (state : E → StoreState) (calls : E → Option (List Call)) (faults : E → ℕ) (tables : Tables) (first : Held)
    (others : List Held) (bench : BenchData) (store : E) → bench.held ≡ first ∷ others → KeepsOne bench.held → is_some first.outcome ≡ true
    → CopiesFirst state calls faults tables first others bench bench store store
copied_before {E = E} state calls faults tables first others bench store is keeps some = by first.outcome refl some
  where
    wanted_of : (o : Option Outcome) → first.outcome ≡ o → KeepsNoStop o
    wanted_of o here = subst KeepsNoStop here (subst KeepsOne is keeps).0

    by : (o : Option Outcome) → first.outcome ≡ o → is_some o ≡ true → CopiesFirst state calls faults tables first others bench bench store store
    by None here some = absurd cc
    by (Some outcome) here some = record {
      outcome = outcome;
      ended = subst (λ o. IsOutcome o outcome) (sym here) (refl, wanted_of (Some outcome) here);
      keeps = ap (λ held. record bench { held = held }) is ∙ ap (λ o. record bench { held = record first { outcome = o } ∷ others }) here;
      copied = subst (λ o. AreCopied state calls faults store (copies_unless o (copies_of_file tables first.file outcome)) store) (sym here) refl;
    }

-- a copy that is made now counts as one that was kept
report_counts : (mid walk next : Walk) (file : ℕ) (outcome : Outcome) → mid ≡ record walk { kept = Some outcome } → IsOutcome walk.kept outcome
    → Reports mid file next → Reports walk file next
report_counts mid walk next file outcome is ended reports =
    let here = subst (λ w. Reports w file next) is reports in
    record {
      outcome = here.outcome;
      ended = subst (IsOutcome walk.kept) (sym here.ended.0) ended;
      now = here.now;
      moment = here.moment;
      words = here.words;
      adds = record { accepted = here.adds.accepted; listed = here.adds.listed; filled = here.adds.filled; counts = here.adds.counts; settled = here.adds.settled };
      kept = here.kept;
    }

stop_counts : (mid walk after : Walk) (file : ℕ) (end : RoundEnd) (outcome : Outcome) → mid ≡ record walk { kept = Some outcome }
    → IsOutcome walk.kept outcome
    → ReportStops mid file end after → ReportStops walk file end after
stop_counts mid walk after file end outcome is ended stops =
    let here = subst (λ w. ReportStops w file end after) is stops in
    record {
      outcome = here.outcome;
      ended = subst (IsOutcome walk.kept) (sym here.ended.0) ended;
      now = here.now;
      moment = here.moment;
      words = here.words;
      stops = here.stops;
      none = record { listed = here.none.listed; filled = here.none.filled; counts = here.none.counts; doubt = here.none.doubt };
      kept = here.kept;
    }

-- so a round from there is one from before the copy
round_counts : (workers : ℕ) (mid walk after : Walk) (file : ℕ) (files : List ℕ) (end : RoundEnd) (outcome : Outcome)
    → mid ≡ record walk { kept = Some outcome }
    → IsOutcome walk.kept outcome → WorksOff workers (file ∷ files) mid end after → WorksOff workers (file ∷ files) walk end after
round_counts workers mid walk after file files end outcome is ended (inl on) =
    inl (on.0, (report_counts mid walk on.0 file outcome is ended on.1.0, on.1.1))
round_counts workers mid walk after file files end outcome is ended (inr stops) = inr (stop_counts mid walk after file end outcome is ended stops)

module _ {D E : Type 0} (state : D → DiskState) (faults : D → ℕ) (store_state : E → StoreState) (calls : E → Option (List Call)) (store_faults : E → ℕ)
    (old new : KeepData D) (bench mid last : BenchData) (first : Held) (others : List Held) (store store_now : E) (held : bench.held ≡ first ∷ others)
    (copies : CopiesFirst store_state calls store_faults old.tables first others bench mid store store_now) where
  -- what is held then
  mid_is : mid.held ≡ record first { outcome = Some copies.outcome } ∷ others
  mid_is = ap (λ (b : BenchData). b.held) copies.keeps

  kept_mid : kept_of mid.held ≡ Some copies.outcome
  kept_mid = ap kept_of mid_is

  -- as many as before, in as many places
  pub mid_length : length mid.held ≡ length bench.held
  mid_length = ap length mid_is ∙ sym (ap length held)

  pub mid_places : mid.places ≡ bench.places
  mid_places = ap (λ (b : BenchData). b.places) copies.keeps

  -- the files that are out before the copy
  out_at : (entries : List Entry) → IsWorkedOver old bench entries → IsFirstOut entries (kept_of bench.held) first others
  out_at entries over = first_out entries (kept_of bench.held) first others (sym held ∙ over.held)

  -- are out then
  pub over_mid : (entries : List Entry) → IsWorkedOver old bench entries → IsWorkedOver old mid entries
  over_mid entries over =
      let out = out_at entries over in
      let tables = tables_of entries in
      let kept : Option Outcome = Some copies.outcome in
      record {
        list = over.list;
        held = mid_is
            ∙ ap (λ attempt. record { file = first.file; attempt = attempt; outcome = kept } ∷ others) out.attempt
            ∙ ap (λ rest. record { file = first.file; attempt = attempt_of tables first.file; outcome = kept } ∷ rest) out.rest
            ∙ ap (λ files. held_as tables kept files) (sym out.out)
            ∙ ap (λ k. held_as tables k (out_of_list entries)) (sym kept_mid);
      }

  -- the outcome was kept, or is that of the copy
  ended_at : IsOutcome (kept_of bench.held) copies.outcome
  ended_at = subst (λ k. IsOutcome k copies.outcome) (sym (ap kept_of held)) copies.ended

  -- the first file's outcome is kept
  pub mid_copied : IsFirstCopied mid.held
  mid_copied = subst IsFirstCopied (sym mid_is) (copies.outcome, refl, wanted first.outcome copies.ended)
    where
      wanted : (kept : Option Outcome) → IsOutcome kept copies.outcome → is_stopped copies.outcome ≡ false
      wanted None ended = ended
      wanted (Some outcome) ended = ended.1

  module _ (moments later words : Option Coming) (workers : ℕ) (result : Result (Unit {0}) RoundEnd) where
    -- where the thread stands before the copy, behind it, and behind the report
    abbrev before : Stand D
    before = stand old bench moments words

    abbrev copied : Stand D
    copied = stand old mid moments words

    abbrev after : Stand D
    after = stand new last later words

    -- a round from behind the copy is one from before it
    round_at : (entries : List Entry) → IsWorkedOver old bench entries → (end : RoundEnd) (then : Walk)
        → IsRound workers (walk_of faults entries copied) end then → IsRound workers (walk_of faults entries before) end then
    round_at entries over end then round =
        let out = out_at entries over in
        subst (λ files. WorksOff workers files (walk_of faults entries before) end then) (sym out.out)
        (round_counts workers (walk_of faults entries copied) (walk_of faults entries before) then first.file out.files end copies.outcome
        (ap (λ k. record (walk_of faults entries before) { kept = k }) kept_mid) ended_at
        (subst (λ files. WorksOff workers files (walk_of faults entries copied) end then) out.out round))

    works_at : (r : Result (Unit {0}) RoundEnd) (entries : List Entry) → IsWorkedOver old bench entries → (then : Walk)
        → WorksOn workers r (walk_of faults entries copied) then → WorksOn workers r (walk_of faults entries before) then
    works_at (Ok done) entries over then works = λ end last rest. round_at entries over end last (works end last rest)
    works_at (Err end) entries over then works = round_at entries over end then works

    -- the copy of the first file that ended so
    abbrev first_copies : Outcome → List Copy
    first_copies outcome = copies_of_file old.tables first.file outcome

    -- the copies that were kept, and the one that was made
    kept_then : (entries : List Entry) → IsWorkedOver old bench entries
        → kept_at before ++ copies_unless first.outcome (copies_of_file old.tables first.file copies.outcome) ≡ kept_at copied
    kept_then entries over =
        let out = out_at entries over in
        let none : copies_kept old.tables others ≡ [] = ap (copies_kept old.tables) out.rest ∙ copies_kept-none old.tables (tables_of entries) out.files in
        ap (λ all. copies_kept old.tables all ++ copies_unless first.outcome (copies_of_file old.tables first.file copies.outcome)) held
        ∙ by first.outcome copies.ended none
        ∙ sym (ap (copies_kept old.tables) mid_is)
      where
        by : (kept : Option Outcome) → IsOutcome kept copies.outcome → copies_kept old.tables others ≡ []
            → (option_map_or first_copies kept [] ++ copies_kept old.tables others) ++ copies_unless kept (first_copies copies.outcome)
            ≡ first_copies copies.outcome ++ copies_kept old.tables others
        by None ended none =
            ap (λ rest. rest ++ first_copies copies.outcome) none ∙ sym (none_more (first_copies copies.outcome))
            ∙ ap (λ rest. first_copies copies.outcome ++ rest) (sym none)
        by (Some outcome) ended none =
            none_more (first_copies outcome ++ copies_kept old.tables others) ∙ ap (λ o. first_copies o ++ copies_kept old.tables others) (sym ended.0)

    -- a copy and its report
    pub worked_part : (entries : List Entry) → IsWorkedOver old bench entries → MakesNoCopy state faults (WorksOn workers result) copied after
        → MakesCopies state faults store_state calls store_faults (WorksOn workers result) before after store store_now
    worked_part entries over part = record {
      walks = record {
        added = part.walks.added;
        walked = λ all there. works_at result all there (walk_of faults (all ++ part.walks.added) after) (part.walks.walked all (over_mid all there));
        over = λ all there. part.walks.over all (over_mid all there);
        tables = part.walks.tables;
        told = part.walks.told;
        listed = part.walks.listed;
      };
      follows = record {
        made = copies_unless first.outcome (copies_of_file old.tables first.file copies.outcome);
        balance = kept_then entries over ∙ part.balance;
        copied = copies.copied;
      };
    }

-- what is held has a first file
pub record HasFront (held : List Held) : Type 0 where
  pub first : Held
  pub others : List Held
  pub is : held ≡ first ∷ others

pub front_of : (held : List Held) → 1 ≤ length held → HasFront held
front_of [] some = absurd (omega arith)
front_of (first ∷ others) some = record { first = first; others = others; is = refl }

-- which has its row
pub first_there : (formed : (entries : List Entry) → IsLegal entries → AreWellFormed (tables_of entries))
    (outs : (entries : List Entry) → IsLegal entries → AreTheActive (out_of_list entries) (tables_of entries).rows) (entries : List Entry) → IsLegal entries
    → (held : List Held) → held ≡ held_over entries (kept_of held) → 1 ≤ length held → HasFirst (tables_of entries) held
first_there formed outs entries legal [] over some = absurd (omega arith)
first_there formed outs entries legal (first ∷ others) over some =
    let found = first_reportable formed outs entries legal first.outcome first others (first_out entries first.outcome first others over) in
    subst (λ row. IsSome row) (sym found.at) refl
