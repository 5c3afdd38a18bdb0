-- What the tables say of a pair of listed names is what its link's rows and reports say.
use Rattle.std.proofs.Common.{◌≡◌, ◌≢◌, ℕ, ◌+◌, ◌<◌, ◌≤◌, Bool, true, false, cond, List, [], ◌∷◌, ◌++◌, length, get_or, take, Option, Some, None, refl, ap, sym, ◌∙◌, arith, zero-add}
use Rattle.std.specs.Prelude.{not, ◌||◌, ◌==◌, slice_get, option_map, map, filter, unwrap_or}
use Rattle.std.specs.List.{list_any, last_or}
use Rattle.std.specs.Option.{option_map_or}
use Rattle.std.proofs.lemmas.Bool.{ne_eqb, eqb-true}
use Rattle.std.proofs.lemmas.List.{length-take-le, length-map, map-append, length-append}
use Rattle.std.proofs.lemmas.Option.{slice_get-map}
use Rattle.std.proofs.lemmas.List.Sums.{sum_by_push, count_by-le-length, length-filter}
use Rattle.fts_tables.specs.SettingsData.{is_listed}
use Rattle.fts_tables.specs.Tables.{is_submitted, is_active, is_finished, is_failed, is_canceled, row_at}
use Rattle.fts_tables.specs.Limits.{is_on_link}
use Rattle.fts_tables.specs.declared.rows.FileRow.{FileRow}
use Rattle.fts_tables.specs.declared.rows.FileState.{FileState}
use Rattle.fts_tables.specs.declared.settings.Endpoint.{Endpoint}
use Rattle.fts_chronicle.specs.declared.chronicle.CopyReport.{CopyReport}
use Rattle.fts_counts.specs.Rows.{rows_in}
use Rattle.fts_board.specs.Snapshot.{rows_on, is_report_on, reports_on, last_moment}
use Rattle.fts_board.specs.Tallied.{pair_of, pairs_of, pair_of_row, going_of, goings_in, goes_by, row_tally_of, row_tally_with, AreBelow, row_tallies_of, report_tally_of, report_tally_with, is_report_by, report_tallies_of}
use Rattle.fts_board.specs.declared.goings.Going.{Going}
use Rattle.fts_board.specs.declared.tallies.RowTally.{RowTally}
use Rattle.fts_board.specs.declared.tallies.ReportTally.{ReportTally}
use Rattle.fts_board.proofs.Counted.{bytes_more}
use Rattle.fts_counts.proofs.Counting.{count_read}
use Rattle.fts_board.proofs.Pairs.{same_pair, pair_within}
use Rattle.fts_board.proofs.Summed.{tallies_at}

-- tests that agree keep the same
pub kept_alike : {Item : Type 0} (one other : Item → Bool) → ((item : Item) → one item ≡ other item) → (items : List Item) → filter one items ≡ filter other items
kept_alike one other alike [] = refl
kept_alike one other alike (item ∷ items) =
    (λ i. cond (alike item i) (item ∷ kept_alike one other alike items i) (kept_alike one other alike items i))

-- what is kept of what is read
kept_read : {Item Read : Type 0} (read : Item → Read) (test : Read → Bool) (items : List Item)
    → filter test (map read items) ≡ map read (filter (λ item. test (read item)) items)
kept_read read test [] = refl
kept_read {Item} {Read} read test (item ∷ items) = by_test (test (read item)) (kept_read read test items)
  where
    by_test : (answer : Bool) → filter test (map read items) ≡ map read (filter (λ item. test (read item)) items)
        → cond answer (read item ∷ filter test (map read items)) (filter test (map read items))
        ≡ map read (cond answer (item ∷ filter (λ item. test (read item)) items) (filter (λ item. test (read item)) items))
    by_test true behind = ap (λ (l : List Read). read item ∷ l) behind
    by_test false behind = behind

-- a going more
pub row_tally_more : (goings : List Going) (going : Going) → row_tally_of (goings ++ going ∷ []) ≡ row_tally_with (row_tally_of goings) going.state
row_tally_more goings going = λ i. record {
  rows = length-append goings (going ∷ []) i;
  active = counted is_active i;
  canceled = counted is_canceled i;
  failed = counted is_failed i;
  finished = counted is_finished i;
  submitted = counted is_submitted i;
}
  where
    counted : (is_state : FileState → Bool) → goings_in is_state (goings ++ going ∷ []) ≡ goings_in is_state goings + cond (is_state going.state) 1 0
    counted is_state = sum_by_push (λ (going : Going). cond (is_state going.state) 1 0) goings going

-- a going that goes by a pair goes by no other
pub goes_by_one : (going : Going) (pair other : ℕ) → goes_by pair going ≡ true → other ≢ pair → goes_by other going ≡ false
goes_by_one going pair other is apart = ne_eqb going.pair other (λ same. apart (sym same ∙ eqb-true going.pair pair is))

module _ (goings : List Going) (count i place : ℕ) (tally : RowTally) (all : List RowTally) (inside : i < length goings)
    (so_far : all ≡ row_tallies_of (take i goings) count) (within : place < count) (is : tally ≡ get_or all place tally) where
  -- what is counted at the place
  counted : tally ≡ row_tally_of (filter (goes_by place) (take i goings))
  counted = is ∙ ap (λ (l : List RowTally). get_or l place tally) so_far ∙ tallies_at goes_by row_tally_of 0 count (take i goings) place tally within
      ∙ ap (λ (number : ℕ). row_tally_of (filter (goes_by number) (take i goings))) (zero-add place)

  -- no more than goings so far
  few : length (filter (goes_by place) (take i goings)) ≤ i
  few = omega (arith, length-filter (goes_by place) (take i goings), count_by-le-length (goes_by place) (take i goings), length-take-le i goings (omega arith))

  -- and in a state no more than these
  few_in : (is_state : FileState → Bool) → goings_in is_state (filter (goes_by place) (take i goings)) ≤ i
  few_in is_state = omega (arith, few, count_by-le-length (λ (going : Going). is_state going.state) (filter (goes_by place) (take i goings)))

  -- so each count is below a bound of the place in the walk
  pub below : (bound : ℕ) → i < bound → AreBelow bound tally
  below bound small = record {
    rows = omega (arith, ap (λ (t : RowTally). t.rows) counted, few);
    active = omega (arith, ap (λ (t : RowTally). t.active) counted, few_in is_active);
    canceled = omega (arith, ap (λ (t : RowTally). t.canceled) counted, few_in is_canceled);
    failed = omega (arith, ap (λ (t : RowTally). t.failed) counted, few_in is_failed);
    finished = omega (arith, ap (λ (t : RowTally). t.finished) counted, few_in is_finished);
    submitted = omega (arith, ap (λ (t : RowTally). t.submitted) counted, few_in is_submitted);
  }

-- the last of a list with an item more
pub last_more : {Item : Type 0} (before : Option Item) (items : List Item) (item : Item) → last_or before (items ++ item ∷ []) ≡ Some item
last_more before [] item = refl
last_more before (first ∷ items) item = last_more (Some first) items item

-- the moment of the last of reports with one more
last_moment_more : (reports : List CopyReport) (report : CopyReport) → last_moment (reports ++ report ∷ []) ≡ report.moment
last_moment_more reports report =
    ap (λ (l : List ℕ). unwrap_or (last_or None l) 0) (map-append (λ (report : CopyReport). report.moment) reports (report ∷ []))
    ∙ ap (λ (o : Option ℕ). unwrap_or o 0) (last_more None (map (λ (report : CopyReport). report.moment) reports) report.moment)

-- a report more
pub report_tally_more : (reports : List CopyReport) (report : CopyReport) → report_tally_of (reports ++ report ∷ []) ≡ report_tally_with (report_tally_of reports) report
report_tally_more reports report = λ i. record { bytes = bytes_more reports report i; last = last_moment_more reports report i }

-- a report of a row of a pair is of no other
pub reported_by_one : (endpoints : List Endpoint) (rows : List FileRow) (report : CopyReport) (pair other : ℕ) → is_report_by endpoints rows pair report ≡ true
    → other ≢ pair → is_report_by endpoints rows other report ≡ false
reported_by_one endpoints rows report pair other is apart = by_row (row_at rows report.file) is
  where
    by_row : (found : Option FileRow) → option_map_or (λ row. pair_of_row endpoints row == pair) found false ≡ true
        → option_map_or (λ row. pair_of_row endpoints row == other) found false ≡ false
    by_row None is = refl
    by_row (Some row) is = ne_eqb (pair_of_row endpoints row) other (λ same. apart (sym same ∙ eqb-true (pair_of_row endpoints row) pair is))

module _ (endpoints : List Endpoint) (source dest : List ℕ) (from : is_listed endpoints source ≡ true) (to : is_listed endpoints dest ≡ true) (rows : List FileRow) where
  -- the goings by the pair are those of the link's rows
  gone : filter (goes_by (pair_of endpoints source dest)) (map (going_of endpoints) rows) ≡ map (going_of endpoints) (rows_on rows source dest)
  gone =
      kept_read (going_of endpoints) (goes_by (pair_of endpoints source dest)) rows
      ∙ ap (map (going_of endpoints))
      (kept_alike (λ row. goes_by (pair_of endpoints source dest) (going_of endpoints row)) (is_on_link source dest) (same_pair endpoints source dest from to) rows)

  -- those in a state
  gone_in : (is_state : FileState → Bool)
      → goings_in is_state (filter (goes_by (pair_of endpoints source dest)) (map (going_of endpoints) rows)) ≡ rows_in is_state (rows_on rows source dest)
  gone_in is_state =
      ap (goings_in is_state) gone ∙ count_read (going_of endpoints) (λ (going : Going). is_state going.state) (rows_on rows source dest)

  -- what the table of the rows says of the pair
  at_pair : (other : RowTally)
      → get_or (row_tallies_of (map (going_of endpoints) rows) (pairs_of endpoints)) (pair_of endpoints source dest) other
      ≡ row_tally_of (filter (goes_by (pair_of endpoints source dest)) (map (going_of endpoints) rows))
  at_pair other =
      tallies_at goes_by row_tally_of 0 (pairs_of endpoints) (map (going_of endpoints) rows) (pair_of endpoints source dest) other (pair_within endpoints source dest)
      ∙ ap (λ (number : ℕ). row_tally_of (filter (goes_by number) (map (going_of endpoints) rows))) (zero-add (pair_of endpoints source dest))

  -- is what the link's rows come to
  pub rows_at_pair : (other : RowTally)
      → get_or (row_tallies_of (map (going_of endpoints) rows) (pairs_of endpoints)) (pair_of endpoints source dest) other
      ≡ record {
        rows = length (rows_on rows source dest);
        active = rows_in is_active (rows_on rows source dest);
        canceled = rows_in is_canceled (rows_on rows source dest);
        failed = rows_in is_failed (rows_on rows source dest);
        finished = rows_in is_finished (rows_on rows source dest);
        submitted = rows_in is_submitted (rows_on rows source dest);
      }
  rows_at_pair other = at_pair other ∙ (λ i. record {
    rows = (ap length gone ∙ length-map (rows_on rows source dest) (going_of endpoints)) i;
    active = gone_in is_active i;
    canceled = gone_in is_canceled i;
    failed = gone_in is_failed i;
    finished = gone_in is_finished i;
    submitted = gone_in is_submitted i;
  })

  -- the reports by the pair are those of the link's rows
  reported : (reports : List CopyReport) → filter (is_report_by endpoints rows (pair_of endpoints source dest)) reports ≡ reports_on rows reports source dest
  reported reports = kept_alike (is_report_by endpoints rows (pair_of endpoints source dest)) (is_report_on rows source dest) alike reports
    where
      alike : (report : CopyReport) → is_report_by endpoints rows (pair_of endpoints source dest) report ≡ is_report_on rows source dest report
      alike report = by_row (row_at rows report.file)
        where
          by_row : (found : Option FileRow)
              → option_map_or (λ row. pair_of_row endpoints row == pair_of endpoints source dest) found false ≡ option_map_or (is_on_link source dest) found false
          by_row None = refl
          by_row (Some row) = same_pair endpoints source dest from to row

  -- what the table of the reports says of the pair is what the link's reports come to
  pub reports_at_pair : (reports : List CopyReport) (other : ReportTally)
      → get_or (report_tallies_of endpoints rows reports (pairs_of endpoints)) (pair_of endpoints source dest) other ≡ report_tally_of (reports_on rows reports source dest)
  reports_at_pair reports other =
      tallies_at (is_report_by endpoints rows) report_tally_of 0 (pairs_of endpoints) reports (pair_of endpoints source dest) other (pair_within endpoints source dest)
      ∙ ap (λ (number : ℕ). report_tally_of (filter (is_report_by endpoints rows number) reports)) (zero-add (pair_of endpoints source dest))
      ∙ ap report_tally_of (reported reports)

-- a link has a row where its rows are some
pub any_kept : {Item : Type 0} (test : Item → Bool) (items : List Item) → list_any test items ≡ not (length (filter test items) == 0)
any_kept test [] = refl
any_kept test (item ∷ items) = by_test (test item) (any_kept test items)
  where
    by_test : (answer : Bool) → list_any test items ≡ not (length (filter test items) == 0)
        → (answer || list_any test items) ≡ not (length (cond answer (item ∷ filter test items) (filter test items)) == 0)
    by_test true behind = sym (ap not (ne_eqb (length (item ∷ filter test items)) 0 (λ same. omega arith)))
    by_test false behind = behind

-- the pair of a row is that of the going at its place
pub pair_found : (endpoints : List Endpoint) (rows : List FileRow) (goings : List Going) (place : ℕ) (row : FileRow)
    → goings ≡ map (going_of endpoints) rows → slice_get rows place ≡ Some row
    → option_map (λ (going : Going). going.pair) (slice_get goings place) ≡ Some (pair_of_row endpoints row)
pair_found endpoints rows goings place row are at =
    ap (λ (l : List Going). option_map (λ (going : Going). going.pair) (slice_get l place)) are
    ∙ ap (λ (o : Option Going). option_map (λ (going : Going). going.pair) o) (slice_get-map (going_of endpoints) rows place)
    ∙ ap (λ (o : Option FileRow). option_map (λ (going : Going). going.pair) (option_map (going_of endpoints) o)) at
