-- How a history is counted: the steps that it shows, and for each what ended in it.
use Rattle.std.specs.Prelude.{ℕ, ◌+◌, ◌*◌, not, cond, List, [], ◌∷◌, map, codes}
use Rattle.std.specs.List.{range_with_len}
use Rattle.serde_json.specs.Data.{Data}
use Rattle.fts_tables.specs.declared.rows.FileRow.{FileRow}
use Rattle.fts_tables.specs.declared.rows.Outcome.{Outcome}
use Rattle.fts_chronicle.specs.declared.chronicle.CopyReport.{CopyReport}
use Rattle.fts_board.specs.Json.{array_of, object_of, whole_number}
use Rattle.fts_counts.specs.Outcomes.{is_verified, bytes_by}
use Rattle.fts_board.specs.Reports.{bytes_shown, bytes_of}
use Rattle.fts_board.specs.History.{HistoryQuestion, seconds_of, earlier_steps, first_step, ended_in, finished_of, failed_of}
use Rattle.fts_board.specs.declared.steps.Ended.{Ended}
use Rattle.fts_board.specs.declared.steps.Steps.{Steps}

-- the steps that are shown
abbrev pub steps_of : HistoryQuestion → ℕ → Steps
steps_of asked now = record { seconds = seconds_of asked.step; first = first_step asked now; count = earlier_steps asked now + 1 }

-- what ended, by its reports
abbrev pub ended_of : List CopyReport → Ended
ended_of reports = record { finished = finished_of reports; failed = failed_of reports; bytes = bytes_of reports }

-- what ended, with a report of this outcome more
abbrev pub ended_with : Ended → Outcome → Ended
ended_with ended outcome = record {
  finished = ended.finished + cond (is_verified outcome) 1 0;
  failed = ended.failed + cond (not (is_verified outcome)) 1 0;
  bytes = bytes_shown (ended.bytes + bytes_by outcome);
}

-- what ended in each of so many steps from a first one on
abbrev pub ended_from : List FileRow → List CopyReport → HistoryQuestion → ℕ → ℕ → List Ended
ended_from rows reports asked first count = map (λ step. ended_of (ended_in rows reports asked step)) (range_with_len first count)

-- the object of a history of these steps, in which that ended
abbrev pub steps_object : Steps → List Ended → Data
steps_object steps ended = object_of (
    (codes "bytes", array_of whole_number (map (λ (ended : Ended). ended.bytes) ended))
    ∷ (codes "failed", array_of whole_number (map (λ (ended : Ended). ended.failed) ended))
    ∷ (codes "finished", array_of whole_number (map (λ (ended : Ended). ended.finished) ended))
    ∷ (codes "from", whole_number (steps.first * steps.seconds))
    ∷ (codes "step", whole_number steps.seconds)
    ∷ [])
