-- An accepted report is that of a row and of its job, and what it leaves is the machine's step.
use Rattle.std.proofs.Common.{◌≡◌, ℕ, ◌<◌, Bool, true, false, cond, List, length, get_or, Option, Some, None, Ok, refl, ap, sym, ◌∙◌, subst, arith}
use Rattle.std.specs.Prelude.{◌&&◌, ◌==◌, slice_get}
use Rattle.std.proofs.lemmas.Option.{slice_get_read}
use Rattle.fts_tables.specs.Tables.{Tables, is_active, row_at, job_at}
use Rattle.fts_tables.specs.Moves.{change_row, reported, followed}
use Rattle.fts_tables.specs.Step.{Outcomes, with_rows, report, report_of}
use Rattle.fts_tables.specs.History.{IsAccepted}
use Rattle.fts_tables.specs.declared.rows.FileRow.{FileRow}
use Rattle.fts_tables.specs.declared.rows.JobRow.{JobRow}
use Rattle.fts_tables.specs.declared.rows.Outcome.{Outcome}
use Rattle.fts_tables.specs.declared.commands.Answer.{Answer}
use Rattle.fts_tables.specs.declared.commands.Answer.TheVariants.{Reported}

-- what stands at the place that a look-up in a lent list gave is what the list's own look-up finds
pub found_there : {Item : Type 0} (find_in : List Item → Option Item) {lent items : List Item} (place : ℕ) (item : Item) → lent ≡ items
    → slice_get lent place ≡ find_in lent → place < length lent
    → item ≡ get_or items place item → find_in items ≡ Some item
found_there find_in {items} place item same found inside here =
    let within : place < length items = omega (arith, ap length same) in
    sym (subst (λ some. slice_get some place ≡ find_in some) same found) ∙ slice_get_read items (length items) place item refl within here

-- what is accepted on a test is what the test allows
accepted_if : (test : Bool) (done : Tables × Answer) (refused : Outcomes) → (IsAccepted refused → ⊥) → IsAccepted (cond test (Ok done) refused)
    → cond test (Ok done) refused ≡ Ok done
accepted_if true done refused never accepted = refl
accepted_if false done refused never accepted = absurd (never accepted)

module _ (tables : Tables) (now file attempt : ℕ) (outcome : Outcome) (row : FileRow) (found : row_at tables.rows file ≡ Some row)
    (accepted : IsAccepted (report tables now (row_at tables.rows file) attempt outcome)) where
  -- the row's report is accepted
  accepted_of_row : IsAccepted (report_of tables now row attempt outcome (job_at tables.jobs row.job))
  accepted_of_row = subst (λ found. IsAccepted (report tables now found attempt outcome)) found accepted

  -- the row is a job's
  pub reported_of_job : job_at tables.jobs row.job ≡ None → ⊥
  reported_of_job none = subst (λ found. IsAccepted (report_of tables now row attempt outcome found)) none accepted_of_row

  -- the step leaves the row reported, and what follows it
  pub report_is : (job : JobRow) (after : List FileRow) (answer : Answer) → job_at tables.jobs row.job ≡ Some job
      → after ≡ followed job (reported job now outcome row) (change_row row.id (reported job now outcome) tables.rows)
      → answer ≡ Reported row.id (reported job now outcome row).state
      → report tables now (row_at tables.rows file) attempt outcome ≡ Ok (with_rows tables now after, answer)
  report_is job after answer of_job left told =
      let accepted_of_job = subst (λ found. IsAccepted (report_of tables now row attempt outcome found)) of_job accepted_of_row in
      ap (λ found. report tables now found attempt outcome) found
      ∙ (ap (report_of tables now row attempt outcome) of_job
      ∙ (accepted_if (is_active row.state && (row.attempt == attempt)) _ _ (λ refused. refused) accepted_of_job
      ∙ (ap (λ (rows : List FileRow). Ok (with_rows tables now rows, Reported row.id (reported job now outcome row).state)) (sym left)
      ∙ ap (λ told. Ok (with_rows tables now after, told)) (sym told))))
