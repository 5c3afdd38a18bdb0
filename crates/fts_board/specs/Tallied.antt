-- How links are counted: by numbers of pairs of endpoints, with a table over all pairs for the rows, and one for the reports.
use Rattle.std.specs.Prelude.{ℕ, Bool, false, ◌+◌, ◌*◌, ◌<◌, ◌==◌, cond, List, map, filter, length, count_by}
use Rattle.std.specs.List.{range_with_len}
use Rattle.std.specs.Option.{option_map_or}
use Rattle.fts_tables.specs.Tables.{is_submitted, is_active, is_finished, is_failed, is_canceled, row_at}
use Rattle.fts_tables.specs.declared.settings.Endpoint.{Endpoint}
use Rattle.fts_tables.specs.declared.rows.FileRow.{FileRow}
use Rattle.fts_tables.specs.declared.rows.FileState.{FileState}
use Rattle.fts_chronicle.specs.declared.chronicle.CopyReport.{CopyReport}
use Rattle.fts_counts.specs.Listed.{place_among}
use Rattle.fts_counts.specs.Outcomes.{bytes_by}
use Rattle.fts_board.specs.Reports.{bytes_shown, bytes_of}
use Rattle.fts_board.specs.Snapshot.{last_moment}
use Rattle.fts_board.specs.declared.goings.Going.{Going}
use Rattle.fts_board.specs.declared.tallies.RowTally.{RowTally}
use Rattle.fts_board.specs.declared.tallies.ReportTally.{ReportTally}

-- the number of a pair of names among so many
abbrev pub pair_of : List Endpoint → List ℕ → List ℕ → ℕ
pair_of endpoints source dest = place_among endpoints source * (length endpoints + 1) + place_among endpoints dest

-- how many numbers there are
abbrev pub pairs_of : List Endpoint → ℕ
pairs_of endpoints = (length endpoints + 1) * (length endpoints + 1)

-- the pair of a row
abbrev pub pair_of_row : List Endpoint → FileRow → ℕ
pair_of_row endpoints row = pair_of endpoints row.source.endpoint row.dest.endpoint

-- where a row goes, and its state
abbrev pub going_of : List Endpoint → FileRow → Going
going_of endpoints row = record { pair = pair_of_row endpoints row; state = row.state }

-- how many go in a state
abbrev pub goings_in : (FileState → Bool) → List Going → ℕ
goings_in is_state goings = count_by (λ going. is_state going.state) goings

-- what is counted of goings
abbrev pub row_tally_of : List Going → RowTally
row_tally_of goings = record {
  rows = length goings;
  active = goings_in is_active goings;
  canceled = goings_in is_canceled goings;
  failed = goings_in is_failed goings;
  finished = goings_in is_finished goings;
  submitted = goings_in is_submitted goings;
}

-- with one in this state more
abbrev pub row_tally_with : RowTally → FileState → RowTally
row_tally_with tally state = record {
  rows = tally.rows + 1;
  active = tally.active + cond (is_active state) 1 0;
  canceled = tally.canceled + cond (is_canceled state) 1 0;
  failed = tally.failed + cond (is_failed state) 1 0;
  finished = tally.finished + cond (is_finished state) 1 0;
  submitted = tally.submitted + cond (is_submitted state) 1 0;
}

-- each count is below a bound
pub record AreBelow (bound : ℕ) (tally : RowTally) : Type 0 where
  pub rows : tally.rows < bound
  pub active : tally.active < bound
  pub canceled : tally.canceled < bound
  pub failed : tally.failed < bound
  pub finished : tally.finished < bound
  pub submitted : tally.submitted < bound

-- whether something goes by a pair
abbrev pub goes_by : ℕ → Going → Bool
goes_by pair going = going.pair == pair

-- what is counted of the goings of each pair, of so many
abbrev pub row_tallies_of : List Going → ℕ → List RowTally
row_tallies_of goings count = map (λ pair. row_tally_of (filter (goes_by pair) goings)) (range_with_len 0 count)

-- what is counted of reports
abbrev pub report_tally_of : List CopyReport → ReportTally
report_tally_of reports = record { bytes = bytes_of reports; last = last_moment reports }

-- with a report more
abbrev pub report_tally_with : ReportTally → CopyReport → ReportTally
report_tally_with tally report = record { bytes = bytes_shown (tally.bytes + bytes_by report.outcome); last = report.moment }

-- whether a report is of a row of a pair
abbrev pub is_report_by : List Endpoint → List FileRow → ℕ → CopyReport → Bool
is_report_by endpoints rows pair report = option_map_or (λ row. pair_of_row endpoints row == pair) (row_at rows report.file) false

-- what is counted of the reports of each pair, of so many
abbrev pub report_tallies_of : List Endpoint → List FileRow → List CopyReport → ℕ → List ReportTally
report_tallies_of endpoints rows reports count = map (λ pair. report_tally_of (filter (is_report_by endpoints rows pair) reports)) (range_with_len 0 count)
