-- A history: what ended in each of the last steps of a clock, over all links, or of a link or a storage.
use Rattle.std.specs.Prelude.{ℕ, Bool, true, false, ◌+◌, ◌-◌, ◌*◌, ◌/◌, min, not, ◌&&◌, ◌||◌, ◌==◌, bytes_eq, List, [], ◌∷◌, filter, count_by, Option, is_some, option_copied, codes}
use Rattle.std.specs.List.{range_with_len}
use Rattle.std.specs.Option.{option_map_or}
use Rattle.serde_json.specs.Data.{Data}
use Rattle.fts_tables.specs.Tables.{row_at}
use Rattle.fts_tables.specs.declared.rows.FileRow.{FileRow}
use Rattle.fts_chronicle.specs.declared.chronicle.CopyReport.{CopyReport}
use Rattle.fts_board.specs.Json.{array_of, object_of, whole_number, text_of}
use Rattle.fts_counts.specs.Outcomes.{is_verified}
use Rattle.fts_board.specs.Reports.{bytes_of}
use Rattle.fts_board.specs.declared.histories.HistoryAsked.{HistoryAsked}
use Rattle.fts_board.specs.declared.histories.StepLength.{StepLength}
use Rattle.fts_board.specs.declared.histories.StepLength.TheVariants.{Minute, TenMinutes, Hour}

-- what a history is asked for: all that goes from a source, to a destination, or both, where they are named; how long a step is, and how many there are
pub record HistoryQuestion : Type 0 where
  pub source : Option (List ℕ)
  pub destination : Option (List ℕ)
  pub step : StepLength
  pub count : ℕ

-- the same of what the code is asked
abbrev pub question_of : HistoryAsked → HistoryQuestion
question_of asked =
    record { source = option_copied asked.source; destination = option_copied asked.destination; step = asked.step; count = asked.count }

-- the seconds of a step
abbrev pub seconds_of : StepLength → ℕ
seconds_of Minute = 60
seconds_of TenMinutes = 600
seconds_of Hour = 3600

-- the number of the step that a moment is in, counted from 1970
abbrev pub step_of : ℕ → ℕ → ℕ
step_of seconds moment = moment / seconds

-- how many steps are shown before the one that holds the present moment: one fewer than are asked for, and no more than there were since 1970
abbrev pub earlier_steps : HistoryQuestion → ℕ → ℕ
earlier_steps asked now = min (asked.count - 1) (step_of (seconds_of asked.step) now)

-- the number of the first step that is shown
abbrev pub first_step : HistoryQuestion → ℕ → ℕ
first_step asked now = step_of (seconds_of asked.step) now - earlier_steps asked now

-- the numbers of the steps that are shown: the last one holds the present moment
abbrev pub steps_shown : HistoryQuestion → ℕ → List ℕ
steps_shown asked now = range_with_len (first_step asked now) (earlier_steps asked now + 1)

-- whether a name is the one that is asked for, where one is
abbrev pub is_wanted : Option (List ℕ) → List ℕ → Bool
is_wanted asked name = option_map_or (bytes_eq name) asked true

-- whether a row goes from the source and to the destination that are asked for, where they are
abbrev pub is_row_asked : HistoryQuestion → FileRow → Bool
is_row_asked asked row =
    is_wanted asked.source row.source.endpoint && is_wanted asked.destination row.dest.endpoint

-- whether all reports are asked for
abbrev pub are_all_asked : HistoryQuestion → Bool
are_all_asked asked = not (is_some asked.source) && not (is_some asked.destination)

-- whether a report is asked for: where not all are, by its row
abbrev pub is_asked : List FileRow → HistoryQuestion → CopyReport → Bool
is_asked rows asked report = are_all_asked asked || option_map_or (is_row_asked asked) (row_at rows report.file) false

-- whether a report that is asked for ended in a step
abbrev pub ends_in : List FileRow → HistoryQuestion → ℕ → CopyReport → Bool
ends_in rows asked step report = is_asked rows asked report && (step_of (seconds_of asked.step) report.moment == step)

-- the reports that are asked for and ended in a step
abbrev pub ended_in : List FileRow → List CopyReport → HistoryQuestion → ℕ → List CopyReport
ended_in rows reports asked step = filter (ends_in rows asked step) reports

-- how many reports say verified
abbrev pub finished_of : List CopyReport → ℕ
finished_of reports = count_by (λ report. is_verified report.outcome) reports

-- how many say another outcome, whether or not the file was tried again
abbrev pub failed_of : List CopyReport → ℕ
failed_of reports = count_by (λ report. not (is_verified report.outcome)) reports

-- the object of a history
abbrev pub history_data : List FileRow → List CopyReport → HistoryQuestion → ℕ → Data
history_data rows reports asked now = object_of (
    (codes "bytes", array_of (λ step. whole_number (bytes_of (ended_in rows reports asked step))) (steps_shown asked now))
    ∷ (codes "failed", array_of (λ step. whole_number (failed_of (ended_in rows reports asked step))) (steps_shown asked now))
    ∷ (codes "finished", array_of (λ step. whole_number (finished_of (ended_in rows reports asked step))) (steps_shown asked now))
    ∷ (codes "from", whole_number (first_step asked now * seconds_of asked.step))
    ∷ (codes "step", whole_number (seconds_of asked.step))
    ∷ [])

-- its text
abbrev pub history_text : List FileRow → List CopyReport → HistoryQuestion → ℕ → List ℕ
history_text rows reports asked now = text_of (history_data rows reports asked now)
