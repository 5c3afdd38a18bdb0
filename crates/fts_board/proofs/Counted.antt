-- What ended in a step, with a report more.
use Rattle.std.proofs.Common.{◌≡◌, ◌≢◌, ℕ, ◌+◌, ◌<◌, ◌≤◌, Bool, true, false, cond, refl, List, [], ◌∷◌, ◌++◌, length, get_or, take, ap, sym, ◌∙◌, arith}
use Rattle.std.specs.Prelude.{not, ◌&&◌, ◌==◌, count_by}
use Rattle.std.specs.List.{sum_by}
use Rattle.std.proofs.lemmas.Bool.{ne_eqb, eqb-true}
use Rattle.std.proofs.lemmas.List.{length-take-le}
use Rattle.std.proofs.lemmas.List.Sums.{sum_by_push, count_by-le-length, length-filter}
use Rattle.fts_tables.specs.declared.rows.FileRow.{FileRow}
use Rattle.fts_chronicle.specs.declared.chronicle.CopyReport.{CopyReport}
use Rattle.fts_counts.specs.Outcomes.{is_verified, bytes_by}
use Rattle.fts_board.specs.Reports.{bytes_shown, bytes_of}
use Rattle.fts_board.specs.History.{HistoryQuestion, seconds_of, step_of, is_asked, ends_in, ended_in}
use Rattle.fts_board.specs.Steps.{ended_of, ended_with, ended_from}
use Rattle.fts_board.specs.declared.steps.Ended.{Ended}
use Rattle.fts_board.proofs.Summed.{tallies_at}

-- a sum that is shown, and a number more
pub shown_more : (sum more : ℕ) → bytes_shown (bytes_shown sum + more) ≡ bytes_shown (sum + more)
shown_more sum more = omega arith

-- the bytes of reports, with one more
pub bytes_more : (reports : List CopyReport) (report : CopyReport) → bytes_of (reports ++ report ∷ []) ≡ bytes_shown (bytes_of reports + bytes_by report.outcome)
bytes_more reports report =
    ap bytes_shown (sum_by_push (λ (report : CopyReport). bytes_by report.outcome) reports report)
    ∙ sym (shown_more (sum_by (λ (report : CopyReport). bytes_by report.outcome) reports) (bytes_by report.outcome))

-- what ended, with a report more
pub ended_more : (reports : List CopyReport) (report : CopyReport) → ended_of (reports ++ report ∷ []) ≡ ended_with (ended_of reports) report.outcome
ended_more reports report = λ i. record {
  finished = sum_by_push (λ (report : CopyReport). cond (is_verified report.outcome) 1 0) reports report i;
  failed = sum_by_push (λ (report : CopyReport). cond (not (is_verified report.outcome)) 1 0) reports report i;
  bytes = bytes_more reports report i;
}

-- a report that ended in a step ended in no other
pub elsewhere : (rows : List FileRow) (asked : HistoryQuestion) (report : CopyReport) (step other : ℕ) → ends_in rows asked step report ≡ true
    → other ≢ step → ends_in rows asked other report ≡ false
elsewhere rows asked report step other there apart = by_test (is_asked rows asked report) (step_of (seconds_of asked.step) report.moment) there
  where
    by_test : (answer : Bool) (number : ℕ) → (answer && (number == step)) ≡ true → (answer && (number == other)) ≡ false
    by_test true number is = ne_eqb number other (λ same. apart (sym same ∙ eqb-true number step is))
    by_test false number is = refl

module _ (rows : List FileRow) (asked : HistoryQuestion) (first count : ℕ) (reports : List CopyReport) (i place : ℕ) (ended : Ended) (all : List Ended)
    (inside : i < length reports) (so_far : all ≡ ended_from rows (take i reports) asked first count) (within : place < count) (is : ended ≡ get_or all place ended) where
  -- what is counted at the place
  counted : ended ≡ ended_of (ended_in rows (take i reports) asked (first + place))
  counted = is ∙ ap (λ (l : List Ended). get_or l place ended) so_far ∙ tallies_at (ends_in rows asked) ended_of first count (take i reports) place ended within

  -- no more than reports so far
  few : (test : CopyReport → Bool) → count_by test (ended_in rows (take i reports) asked (first + place)) ≤ i
  few test = omega (
    arith,
    count_by-le-length test (ended_in rows (take i reports) asked (first + place)),
    length-filter (ends_in rows asked (first + place)) (take i reports),
    count_by-le-length (ends_in rows asked (first + place)) (take i reports),
    length-take-le i reports (omega arith),
  )

  -- so the verified ones
  pub few_finished : ended.finished ≤ i
  few_finished = omega (arith, ap (λ (e : Ended). e.finished) counted, few (λ report. is_verified report.outcome))

  -- and the others
  pub few_failed : ended.failed ≤ i
  few_failed = omega (arith, ap (λ (e : Ended). e.failed) counted, few (λ report. not (is_verified report.outcome)))
