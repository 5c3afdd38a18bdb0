-- The files that become CANCELED, counted row by row with what holds of the row's job.
use Rattle.std.proofs.Common.{◌≡◌, ℕ, ◌+◌, ◌<◌, Bool, true, false, cond, List, [], ◌∷◌, length, get_or, take, refl, sym, ◌∙◌, ap, arith}
use Rattle.std.specs.Prelude.{◌==◌, ◌&&◌, ◌||◌, count_by, if◌then◌else◌}
use Rattle.std.specs.List.{list_any}
use Rattle.std.specs.Option.{option_map_or}
use Rattle.std.proofs.lemmas.List.Sums.{sum_by_more}
use Rattle.fts_tables.specs.Tables.{Tables, is_pending, job_at, rows_of_job}
use Rattle.fts_tables.specs.Waits.{goes_as_a_whole, goes_with}
use Rattle.fts_tables.specs.declared.rows.FileRow.{FileRow}
use Rattle.fts_tables.specs.declared.rows.JobRow.{JobRow}
use Rattle.fts_routes.specs.Changes.{goes_whole}

-- some row of a job passes where some of the job's rows does
any-of_job : (test : FileRow → Bool) (rows : List FileRow) (number : ℕ)
    → list_any (λ (other : FileRow). (other.job == number) && test other) rows ≡ list_any test (rows_of_job rows number)
any-of_job test [] number = refl
any-of_job test (row ∷ rows) number = by_head (any-of_job test rows number) (row.job == number)
  where
    by_head : list_any (λ (other : FileRow). (other.job == number) && test other) rows ≡ list_any test (rows_of_job rows number) → (own : Bool)
        → ((own && test row) || list_any (λ (other : FileRow). (other.job == number) && test other) rows)
        ≡ list_any test (if own then row ∷ rows_of_job rows number else rows_of_job rows number)
    by_head behind true = ap (λ (any : Bool). test row || any) behind
    by_head behind false = behind

-- whether a row becomes CANCELED where those that pass a test are cancelled
abbrev pub is_counted : Tables → (FileRow → Bool) → FileRow → Bool
is_counted tables test row = goes_with tables.jobs tables.rows test row && is_pending row.state

-- it does by what holds of its job
counts-by_job : (tables : Tables) (test : FileRow → Bool) (row : FileRow)
    → is_counted tables test row ≡ ((test row || goes_whole tables test row.job) && is_pending row.state)
counts-by_job tables test row =
    ap (λ (any : Bool). (test row || (option_map_or (λ (job : JobRow). goes_as_a_whole job.kind) (job_at tables.jobs row.job) false && any)) && is_pending row.state)
    (any-of_job test tables.rows row.job)

-- one row more is counted, or not
pub counts-next : (tables : Tables) (test : FileRow → Bool) (place count : ℕ) (row : FileRow) (whole counted : Bool) → place < length tables.rows
    → row ≡ get_or tables.rows place row → whole ≡ goes_whole tables test row.job → counted ≡ ((test row || whole) && is_pending row.state)
    → count ≡ count_by (is_counted tables test) (take place tables.rows)
    → (if counted then count + 1 else count) ≡ count_by (is_counted tables test) (take (place + 1) tables.rows)
counts-next tables test place count row whole counted inside here is_whole is_counted_ before =
    let answer : counted ≡ is_counted tables test (get_or tables.rows place row) =
    is_counted_ ∙ ap (λ (all : Bool). (test row || all) && is_pending row.state) is_whole ∙ sym (counts-by_job tables test row)
    ∙ ap (is_counted tables test) here in
    let more = sum_by_more (λ (other : FileRow). cond (is_counted tables test other) 1 0) tables.rows place row inside in
    by_answer counted (is_counted tables test (get_or tables.rows place row)) answer more
  where
    by_answer : (counted also : Bool) → counted ≡ also
        → count_by (is_counted tables test) (take (place + 1) tables.rows) ≡ count_by (is_counted tables test) (take place tables.rows) + cond also 1 0
        → (if counted then count + 1 else count) ≡ count_by (is_counted tables test) (take (place + 1) tables.rows)
    by_answer true true same more = omega (arith, before, more)
    by_answer true false same more = absurd (cc)
    by_answer false true same more = absurd (cc)
    by_answer false false same more = omega (arith, before, more)
