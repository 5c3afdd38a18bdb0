-- The lines of a list's items, gathered one after another.
use Rattle.std.proofs.Common.{◌≡◌, ℕ, ◌+◌, ◌<◌, List, [], ◌++◌, length, get_or, take, drop, Option, Some, Result, Err, ap, sym, ◌∙◌, subst}
use Rattle.std.specs.Prelude.{option_map}
use Rattle.std.specs.List.{flat_map}
use Rattle.fts_tables.specs.Tables.{Tables, job_at, rows_of_job}
use Rattle.fts_tables.specs.declared.rows.FileRow.{FileRow}
use Rattle.fts_tables.specs.declared.rows.JobRow.{JobRow}
use Rattle.fts_tables.specs.declared.rows.JobState.{JobState}
use Rattle.fts_tables.specs.Moves.{state_of_job}
use Rattle.fts_desk.specs.DeskData.{state_at}
use Rattle.fts_routes.specs.Objects.{state_in}
use Rattle.std.proofs.lemmas.List.{take_more, take-append-drop, flat_map_more}
use Rattle.std.proofs.lemmas.Grind.{flat_map-append}
use Rattle.fts_wire.specs.Response.{Sends}
use Rattle.fts_wire.specs.declared.outside.SinkFailed.{SinkFailed}
use Rattle.fts_show.specs.Gathered.{IsGathered, Gathers}
use Rattle.fts_show.specs.Shown.{line_of_job, lines_of, file_line}
use Rattle.fts_show.proofs.Gathering.{gathered_then, gathered_cut, gathers_then, gathers_no_more}

module _ {Item : Type 0} (line : Item → List ℕ) (items : List Item) (i : ℕ) (other item : Item) (inside : i < length items) (is : get_or items i other ≡ item)
    (old mid new : Option (List ℕ)) (before between after : List ℕ)
    (so_far : IsGathered old mid before between (flat_map line (take i items))) where
  one_more : flat_map line (take (i + 1) items) ≡ flat_map line (take i items) ++ line item
  one_more = ap (flat_map line) (take_more items i other inside) ∙ sym (flat_map_more line [] (take i items) (get_or items i other))
      ∙ ap (λ (one : Item). flat_map line (take i items) ++ line one) is

  all_lines : (flat_map line (take i items) ++ line item) ++ flat_map line (drop (i + 1) items) ≡ flat_map line items
  all_lines = ap (λ (text : List ℕ). text ++ flat_map line (drop (i + 1) items)) (sym one_more)
      ∙ sym (flat_map-append line (take (i + 1) items) (drop (i + 1) items)) ∙ ap (flat_map line) (take-append-drop (i + 1) items)

  -- a line more
  pub line_gathered : IsGathered mid new between after (line item) → IsGathered old new before after (flat_map line (take (i + 1) items))
  line_gathered next = subst (λ (text : List ℕ). IsGathered old new before after text) (sym one_more)
      (gathered_then old mid new before between after (flat_map line (take i items)) (line item) so_far next)

  -- a line that was cut short
  pub line_cut : (failed : SinkFailed) → Sends mid new (between ++ line item) (Err failed) → Sends old new (before ++ flat_map line items) (Err failed)
  line_cut failed cut = subst (λ (text : List ℕ). Sends old new (before ++ text) (Err failed)) all_lines
      (gathers_no_more old new before (flat_map line (take i items) ++ line item) (flat_map line (drop (i + 1) items)) failed
      (gathered_cut old mid new before between after (flat_map line (take i items)) (line item) so_far failed cut))

-- its state is that by its rows
pub state_is : (tables : Tables) (job : JobRow) (state : JobState) → job_at tables.jobs job.number ≡ Some job → Some state ≡ state_at tables job.number
    → state ≡ state_in tables job
state_is tables job state found told =
    let told2 : Some state ≡ Some (state_in tables job) = told ∙ ap (λ (o : Option JobRow). option_map (λ (one : JobRow). state_of_job one.kind (rows_of_job tables.rows job.number)) o) found in
    cc

module _ (tables : Tables) (job : JobRow) (state : JobState) (old mid new : Option (List ℕ)) (before between after : List ℕ) (is : state ≡ state_in tables job) where
  -- the line of a job was cut short
  pub job_cut : (failed : SinkFailed) → Sends old new (before ++ line_of_job job state) (Err failed) → Sends old new (before ++ lines_of tables job) (Err failed)
  job_cut failed cut =
      subst (λ (s : JobState). Sends old new (before ++ (line_of_job job s ++ flat_map file_line (rows_of_job tables.rows job.number))) (Err failed)) is
      (gathers_no_more old new before (line_of_job job state) (flat_map file_line (rows_of_job tables.rows job.number)) failed cut)

  -- it was gathered, and behind it the lines of its files
  pub job_gathered : (rows : List FileRow) (result : Result (Unit {0}) SinkFailed) → rows ≡ rows_of_job tables.rows job.number
      → IsGathered old mid before between (line_of_job job state) → Gathers mid new between after (flat_map file_line rows) result
      → Gathers old new before after (lines_of tables job) result
  job_gathered rows result same first second =
      subst (λ (s : JobState). Gathers old new before after (line_of_job job s ++ flat_map file_line (rows_of_job tables.rows job.number)) result) is
      (gathers_then old mid new before between after (line_of_job job state) (flat_map file_line (rows_of_job tables.rows job.number)) result first
      (subst (λ (l : List FileRow). Gathers mid new between after (flat_map file_line l) result) same second))
