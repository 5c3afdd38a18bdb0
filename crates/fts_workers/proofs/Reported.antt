-- The report of the first file that is held: why it is never refused, and what its answer leaves.
use Rattle.std.proofs.Common.{◌≡◌, refl, ap, sym, ◌∙◌, subst, inl, inr, ℕ, ◌+◌, ◌≤◌, Bool, true, false, cond, List, [], ◌∷◌, ◌++◌, length, max, Option, Some, None, Ok, Err, IsOk, arith, eq-eqb}
use Rattle.std.specs.Prelude.{◌==◌, ◌&&◌}
use Rattle.std.specs.Option.{option_map_or}
use Rattle.std.proofs.lemmas.List.Sums.{sum_by-cons}
use Rattle.fts_tables.specs.Counts.{Rose}
use Rattle.fts_tables.specs.Coming.{Coming, Gives}
use Rattle.fts_tables.specs.Tables.{Tables, empty_tables, AreWellFormed, is_active, job_at, row_at}
use Rattle.fts_tables.specs.Laws.{AreTheActive}
use Rattle.fts_tables.specs.Moves.{change_row, reported, followed}
use Rattle.fts_tables.specs.Step.{Outcomes, step, report, report_of, with_rows}
use Rattle.fts_tables.specs.History.{tables_of, tables_after, out_of_list, out_step, without, IsLegal}
use Rattle.fts_record.specs.Spelling.{spelled}
use Rattle.fts_tables.specs.declared.rows.FileRow.{FileRow}
use Rattle.fts_tables.specs.declared.rows.JobRow.{JobRow}
use Rattle.fts_tables.specs.declared.rows.Outcome.{Outcome}
use Rattle.fts_tables.specs.declared.commands.Entry.{Entry}
use Rattle.fts_tables.specs.declared.commands.Answer.{Answer}
use Rattle.fts_tables.specs.declared.commands.Answer.TheVariants.{Reported}
use Rattle.fts_tables.specs.declared.commands.Refusal.{Refusal}
use Rattle.fts_tables.specs.declared.commands.Refusal.TheVariants.{Stale}
use Rattle.fts_tables.specs.declared.commands.Command.TheVariants.{Report}
use Rattle.fts_disk.specs.Disk.{DiskState}
use Rattle.fts_keep.specs.Keeps.{KeepData}
use Rattle.fts_keep.specs.Applied.{Applied, Accepts, DoubtMoves, KeepsList, applied_to, entry_by}
use Rattle.fts_keep.specs.declared.fault.KeepFault.{KeepFault}
use Rattle.fts_keep.specs.declared.fault.KeepFault.TheVariants.{Rule, DiskFailed as KeepDiskFailed, JournalFull as Full, Damaged, Memory as KeepMemory}
use Rattle.fts_keep.proofs.Applying.{doubt_of}
use Rattle.fts_workers.specs.Benches.{BenchData, attempt_of, held_as, held_over, is_stopped, kept_of}
use Rattle.fts_workers.specs.Copies.{copies_of_file, copies_kept}
use Rattle.fts_workers.specs.Rounds.{StopsBy, IsOutcome, Reports, WorksOff, IsWorkedOver, applied_at, report_in}
use Rattle.fts_workers.specs.Stops.{IsStop, EndsBy}
use Rattle.fts_workers.specs.Steps.{Stand, stand, walk_of, Walks, MakesNoCopy, WorksOn}
use Rattle.fts_workers.specs.declared.held.Held.{Held}
use Rattle.fts_workers.specs.declared.ends.RoundEnd.{RoundEnd}
use Rattle.fts_workers.proofs.Accepted.{refused_of, stops_by, tables_more, list_more, fault_keeps}
use Rattle.fts_workers.proofs.Attempts.{report_attempts}
use Rattle.fts_workers.proofs.Copied.{none_more, tables_from-append, copies_kept-none}
use Rattle.fts_workers.proofs.Stayed.{stays}
use Rattle.fts_workers.proofs.Numbered.{active_found, row_at-id, job_stands}
use Rattle.fts_workers.proofs.OutFiles.{times, out_of_list-last, without-first, held_as-same}

-- the first file that is held, by the files that are out
pub record IsFirstOut (entries : List Entry) (kept : Option Outcome) (first : Held) (others : List Held) : Type 0 where
  pub files : List ℕ
  pub out : out_of_list entries ≡ first.file ∷ files
  pub attempt : first.attempt ≡ attempt_of (tables_of entries) first.file
  pub outcome : first.outcome ≡ kept
  pub rest : others ≡ held_as (tables_of entries) None files

pub first_out : (entries : List Entry) (kept : Option Outcome) (first : Held) (others : List Held) → first ∷ others ≡ held_over entries kept
    → IsFirstOut entries kept first others
first_out entries kept first others is = by (out_of_list entries) refl is
  where
    by : (out : List ℕ) → out_of_list entries ≡ out → first ∷ others ≡ held_as (tables_of entries) kept out → IsFirstOut entries kept first others
    by [] out same = absurd cc
    by (file ∷ files) out same =
        let here : first ≡ record { file = file; attempt = attempt_of (tables_of entries) file; outcome = kept } = cc in
        let file_is : first.file ≡ file = ap (λ (h : Held). h.file) here in
        record {
          files = files;
          out = out ∙ ap (λ f. f ∷ files) (sym file_is);
          attempt = ap (λ (h : Held). h.attempt) here ∙ ap (attempt_of (tables_of entries)) (sym file_is);
          outcome = ap (λ (h : Held). h.outcome) here;
          rest = cc;
        }

-- a file's row that may be reported at an attempt, and its job
pub record IsReportable (tables : Tables) (file attempt : ℕ) : Type 0 where
  pub row : FileRow
  pub at : row_at tables.rows file ≡ Some row
  pub active : is_active row.state ≡ true
  pub attempt_is : row.attempt ≡ attempt
  pub job : JobRow
  pub found : job_at tables.jobs row.job ≡ Some job

-- the rows that a report leaves
abbrev pub rows_reported : (tables : Tables) (now file attempt : ℕ) → Outcome → IsReportable tables file attempt → List FileRow
rows_reported tables now file attempt outcome r =
    followed r.job (reported r.job now outcome r.row) (change_row r.row.id (reported r.job now outcome) tables.rows)

-- its step
pub report_steps : (tables : Tables) (now file attempt : ℕ) (outcome : Outcome) (r : IsReportable tables file attempt)
    → step tables (Report now file attempt outcome)
    ≡ Ok (
      with_rows tables (max now tables.moment) (rows_reported tables (max now tables.moment) file attempt outcome r),
      Reported r.row.id (reported r.job (max now tables.moment) outcome r.row).state,
    )
report_steps tables now file attempt outcome r =
    let moment = max now tables.moment in
    ap (λ found. report tables moment found attempt outcome) r.at
    ∙ ap (λ found. report_of tables moment r.row attempt outcome found) r.found
    ∙ ap (λ (passes : Bool). cond {A = Outcomes} passes
    (Ok (
      with_rows tables moment (rows_reported tables moment file attempt outcome r),
      Reported r.row.id (reported r.job moment outcome r.row).state,
    ))
    (Err (Stale r.row.state r.row.attempt)))
    (ap (λ active. active && (r.row.attempt == attempt)) r.active ∙ eq-eqb r.row.attempt attempt r.attempt_is)

module _ (formed : (entries : List Entry) → IsLegal entries → AreWellFormed (tables_of entries))
    (outs : (entries : List Entry) → IsLegal entries → AreTheActive (out_of_list entries) (tables_of entries).rows) where
  -- the first file that is out has an ACTIVE row, and a job
  pub first_reportable : (entries : List Entry) → IsLegal entries → (kept : Option Outcome) (first : Held) (others : List Held)
      → IsFirstOut entries kept first others → IsReportable (tables_of entries) first.file first.attempt
  first_reportable entries legal kept first others out =
      let tables = tables_of entries in
      let head = sum_by-cons (λ other. cond {A = ℕ} (other == first.file) 1 0) first.file out.files in
      let one : cond {A = ℕ} (first.file == first.file) 1 0 ≡ 1 = ap (λ b. cond {A = ℕ} b 1 0) (eq-eqb first.file first.file refl) in
      let among : 1 ≤ times first.file (first.file ∷ out.files) = omega (arith, head, one) in
      let counted = (outs entries legal).counts (λ other. other == first.file) in
      let found = active_found 1 tables.rows first.file (formed entries legal).rows
      (subst (λ n. 1 ≤ n) counted (subst (λ all. 1 ≤ times first.file all) (sym out.out) among)) in
      let job = job_stands tables first.file found.row (formed entries legal) found.at in
      record {
        row = found.row;
        at = found.at;
        active = found.active;
        attempt_is = ap (λ at. option_map_or (λ (row : FileRow). row.attempt) at 0) (sym found.at) ∙ sym out.attempt;
        job = job.job;
        found = job.found;
      }

-- of the first file, and so of none, nothing is kept
kept_none : (tables : Tables) (files : List ℕ) → kept_of (held_as tables None files) ≡ None
kept_none tables [] = refl
kept_none tables (file ∷ files) = refl

module _ {D : Type 0} (state : D → DiskState) (faults : D → ℕ) (formed : (entries : List Entry) → IsLegal entries → AreWellFormed (tables_of entries))
    (outs : (entries : List Entry) → IsLegal entries → AreTheActive (out_of_list entries) (tables_of entries).rows)
    (old new : KeepData D) (bench : BenchData) (first : Held) (others : List Held) (outcome : Outcome) (held : bench.held ≡ first ∷ others)
    (kept : first.outcome ≡ Some outcome) (wanted : is_stopped outcome ≡ false)
    (moments later words : Option Coming) (now : ℕ) (moment : Gives moments later now) (counts : faults old.disk ≤ faults new.disk) (workers : ℕ) where
  -- the report
  abbrev the_report : Entry
  the_report = entry_by 0 (Report now first.file first.attempt outcome)

  -- where the thread stands before it
  abbrev before : Stand D
  before = stand old bench moments words

  -- the files that are out then
  out_at : (entries : List Entry) → IsWorkedOver old bench entries → IsFirstOut entries (kept_of bench.held) first others
  out_at entries over = first_out entries (kept_of bench.held) first others (sym held ∙ over.held)

  -- the row of the first
  reportable_at : (entries : List Entry) → IsWorkedOver old bench entries → IsReportable (tables_of entries) first.file first.attempt
  reportable_at entries over = first_reportable formed outs entries over.list.legal (kept_of bench.held) first others (out_at entries over)

  -- the report is at the attempt at which the file stands
  entry_at : (entries : List Entry) → IsWorkedOver old bench entries → report_in entries now first.file outcome ≡ the_report
  entry_at entries over = ap (λ attempt. entry_by 0 (Report now first.file attempt outcome)) (sym (out_at entries over).attempt)

  -- its outcome is the one that is kept
  kept_is : kept_of bench.held ≡ Some outcome
  kept_is = ap kept_of held ∙ kept

  outcome_at : IsOutcome (kept_of bench.held) outcome
  outcome_at = subst (λ k. IsOutcome k outcome) (sym kept_is) (refl, wanted)

  -- what it comes to over a list
  comes_at : (entries : List Entry) → IsWorkedOver old bench entries
      → applied_at (walk_of faults entries before) (report_in entries now first.file outcome) ≡ applied_to old.tables old.used the_report
  comes_at entries over =
      ap (λ e. applied_to (tables_of entries) old.used e) (entry_at entries over) ∙ ap (λ t. applied_to t old.used the_report) (sym over.list.folded)

  -- the machine accepts it
  pub report_accepted : (entries : List Entry) → IsWorkedOver old bench entries → (refusal : Refusal) → step old.tables the_report.command ≡ Err refusal → ⊥
  report_accepted entries over refusal is =
      let r = reportable_at entries over in
      let no = sym is ∙ ap (λ t. step t the_report.command) over.list.folded
      ∙ report_steps (tables_of entries) now first.file first.attempt outcome r in
      absurd cc

  module _ (answer : Answer) (done : Accepts state old new the_report answer) where
    -- the bench without the first
    abbrev left : BenchData
    left = record bench { held = others }

    abbrev after : Stand D
    after = stand new left later words

    -- the files that are out behind it
    out_after : (entries : List Entry) (over : IsWorkedOver old bench entries) → out_of_list (entries ++ the_report ∷ []) ≡ (out_at entries over).files
    out_after entries over =
        let r = reportable_at entries over in
        let out = out_at entries over in
        let once : times first.file (first.file ∷ out.files) ≤ 1 = subst (λ all. times first.file all ≤ 1) out.out
        ((outs entries over.list.legal).once first.file) in
        out_of_list-last entries the_report
        ∙ ap (λ came. out_step (out_of_list entries) came) (report_steps (tables_of entries) now first.file first.attempt outcome r)
        ∙ ap (λ id. without id (out_of_list entries)) (row_at-id (tables_of entries).rows first.file r.row r.at)
        ∙ ap (λ all. without first.file all) out.out
        ∙ without-first first.file out.files once

    -- the attempts are as before
    attempts_after : (entries : List Entry) (over : IsWorkedOver old bench entries) (file : ℕ)
        → attempt_of (tables_of (entries ++ the_report ∷ [])) file ≡ attempt_of (tables_of entries) file
    attempts_after entries over file =
        let r = reportable_at entries over in
        ap (λ t. attempt_of t file)
        (tables_from-append empty_tables entries (the_report ∷ [])
        ∙ ap (tables_after (tables_of entries)) (report_steps (tables_of entries) now first.file first.attempt outcome r))
        ∙ report_attempts r.job (reported r.job (max now (tables_of entries).moment) outcome r.row) (max now (tables_of entries).moment) outcome r.row.id
        (tables_of entries).rows file

    -- keep and bench are over the list with it
    over_after : (entries : List Entry) → IsWorkedOver old bench entries → IsWorkedOver new left (entries ++ the_report ∷ [])
    over_after entries over =
        let out = out_at entries over in
        let none : kept_of others ≡ None = ap kept_of out.rest ∙ kept_none (tables_of entries) out.files in
        record {
          list = list_more state old new the_report answer done entries over.list;
          held = out.rest
              ∙ held_as-same (tables_of entries) (tables_of (entries ++ the_report ∷ [])) None out.files (λ file among. attempts_after entries over file)
              ∙ ap (λ k. held_as (tables_of (entries ++ the_report ∷ [])) k out.files) (sym none)
              ∙ ap (λ fs. held_as (tables_of (entries ++ the_report ∷ [])) (kept_of others) fs) (sym (out_after entries over));
        }

    -- the first file was reported
    reports : (entries : List Entry) → IsWorkedOver old bench entries
        → Reports (walk_of faults entries before) first.file (walk_of faults (entries ++ the_report ∷ []) after)
    reports entries over =
        let out = out_at entries over in
        record {
          outcome = outcome;
          ended = outcome_at;
          now = now;
          moment = moment;
          words = refl;
          adds = record {
            accepted = subst (λ came. IsOk came) (sym (comes_at entries over)) (subst (λ came. IsOk came) (sym done.done) refl);
            listed = ap (λ e. entries ++ e ∷ []) (sym (entry_at entries over));
            filled = done.used ∙ ap (λ e. old.used + 5 + length (spelled e)) (sym (entry_at entries over));
            counts = counts;
            settled = done.cleared;
          };
          kept = ap kept_of out.rest ∙ kept_none (tables_of entries) out.files;
        }

    -- so the round goes on from there
    pub reported_walks : Walks state faults (WorksOn workers (Ok tt)) before after
    reported_walks = record {
      added = the_report ∷ [];
      walked = λ entries over. λ end last rest.
          let out = out_at entries over in
          subst (λ files. WorksOff workers files (walk_of faults entries before) end last) (sym out.out)
          (inl (
            walk_of faults (entries ++ the_report ∷ []) after,
            (
              reports entries over,
              subst (λ files. WorksOff workers files (walk_of faults (entries ++ the_report ∷ []) after) end last)
                  (out_after entries over) rest,
            ),
          ));
      over = over_after;
      tables = tables_more state old new the_report answer done;
      told = done.told;
      listed = done.listed;
    }

    -- and its copy is the one that was kept
    pub reported_part : (entries : List Entry) → IsWorkedOver old bench entries → MakesNoCopy state faults (WorksOn workers (Ok tt)) before after
    unfolding reported_walks
    reported_part entries over =
        let out = out_at entries over in
        let none : copies_kept new.tables others ≡ [] = ap (copies_kept new.tables) out.rest ∙ copies_kept-none new.tables (tables_of entries) out.files in
        let none_before : copies_kept old.tables others ≡ [] = ap (copies_kept old.tables) out.rest
        ∙ copies_kept-none old.tables (tables_of entries) out.files in
        record {
          walks = reported_walks;
          balance = ap (copies_kept old.tables) held
              ∙ ap (λ k. option_map_or (copies_of_file old.tables first.file) k [] ++ copies_kept old.tables others) kept
              ∙ ap (λ rest. copies_of_file old.tables first.file outcome ++ rest) none_before
              ∙ sym (none_more (copies_of_file old.tables first.file outcome ++ []))
              ∙ ap (λ rest. (copies_of_file old.tables first.file outcome ++ []) ++ rest) (sym none);
        }

  module _ (fault : KeepFault) (end : RoundEnd) (applied : Applied state faults old new the_report (Err fault)) (ends : EndsBy fault end) where
    keeps : KeepsList state old new
    keeps = fault_keeps state faults old new the_report fault applied

    -- the outcome is kept, and the round ends
    pub report_stops : MakesNoCopy state faults (WorksOn workers (Err end)) before (stand new bench later words)
    report_stops = stays state faults (WorksOn workers (Err end)) old new bench moments later words words keeps (λ entries over.
        let out = out_at entries over in
        subst (λ files. WorksOff workers files (walk_of faults entries before) end (walk_of faults (entries ++ []) (stand new bench later words)))
        (sym out.out)
        (inr (record {
          outcome = outcome;
          ended = outcome_at;
          now = now;
          moment = moment;
          words = refl;
          stops = subst (λ came. StopsBy came (Rose (faults old.disk) (faults new.disk)) end) (sym (comes_at entries over))
              (stops_by state faults old new the_report fault end applied ends);
          none = record {
            listed = none_more entries;
            filled = keeps.used;
            counts = counts;
            doubt = subst (λ e. DoubtMoves (faults old.disk) (faults new.disk) old.doubt new.doubt e) (sym (entry_at entries over))
                (doubt_of state faults old new the_report (Err fault) applied);
          };
          kept = kept_is;
        })))

  -- no refusal comes of it, and no damage
  pub report_stop : (entries : List Entry) → IsWorkedOver old bench entries → (fault : KeepFault)
      → Applied state faults old new the_report (Err fault) → IsStop fault
  report_stop entries over (Rule refusal) applied =
      report_accepted entries over refusal (refused_of old.used the_report (step old.tables the_report.command) refusal applied.0)
  report_stop entries over (Full used) applied = tt
  report_stop entries over KeepDiskFailed applied = tt
  report_stop entries over KeepMemory applied = tt
  report_stop entries over (Damaged offset) applied = absurd applied
