-- The samples of a link's reports, one behind the other.
use Rattle.std.proofs.Common.{◌≡◌, [], ◌++◌, ◌+◌, ◌*◌, ◌<◌, ◌∙◌, List, ℕ, ap, arith, append_assoc, codes}
use Rattle.std.specs.Prelude.{◌==◌, count_by, slice_index}
use Rattle.fts_tables.specs.declared.rows.Outcome.TheVariants.{Verified, SourceMissing, DestinationExists, SourceSize, SourceDigest, ReadBackDiffers, StoreFailed, Stopped}
use Rattle.fts_chronicle.specs.declared.chronicle.CopyReport.{CopyReport}
use Rattle.fts_metrics.specs.Form.{label, sample, two_labels}
use Rattle.fts_metrics.specs.Metrics.{outcome_samples, reports_of_word}
use Rattle.fts_metrics.specs.Totals.{outcome_place}
use Rattle.fts_metrics.proofs.LinkTotals.{reports_like}
use Rattle.fts_metrics.proofs.copies.put_outcomes.Goals as goal

pub returns : goal.returns
unfolding outcome_samples
returns c = λ reports stand.
    let line : List ℕ → ℕ → List ℕ =
    λ word number. sample (codes "fts_reports_total") (two_labels c.args.labels.now (label (codes "outcome") word)) number in
    let told : (word : List ℕ) (place at : ℕ) → place < 8 → at ≡ c.args.place * 8 + place
    → count_by (λ (report : CopyReport). outcome_place report.outcome == place) reports ≡ reports_of_word reports word
    → slice_index c.args.numbers.now at ≡ reports_of_word reports word
    = λ word place at low is counted. ap (slice_index c.args.numbers.now) is ∙ stand place low ∙ counted in
    let verified = told (codes "verified") 0 (c.args.place * 8) (omega arith) (omega arith) (reports_like reports (Verified 0 [])) in
    let missing = told (codes "source_missing") 1 (c.args.place * 8 + 1) (omega arith) (omega arith) (reports_like reports SourceMissing) in
    let exists = told (codes "destination_exists") 2 (c.args.place * 8 + 2) (omega arith) (omega arith) (reports_like reports DestinationExists) in
    let size = told (codes "source_size") 3 (c.args.place * 8 + 3) (omega arith) (omega arith) (reports_like reports (SourceSize 0)) in
    let digest = told (codes "source_digest") 4 (c.args.place * 8 + 4) (omega arith) (omega arith) (reports_like reports (SourceDigest [])) in
    let differs = told (codes "read_back_differs") 5 (c.args.place * 8 + 5) (omega arith) (omega arith) (reports_like reports (ReadBackDiffers 0)) in
    let failed = told (codes "store_failed") 6 (c.args.place * 8 + 6) (omega arith) (omega arith) (reports_like reports StoreFailed) in
    let stopped = told (codes "stopped") 7 (c.args.place * 8 + 7) (omega arith) (omega arith) (reports_like reports Stopped) in
    let one = c.in_ok-put_outcome.ensures ∙ (λ i. c.args.text.now.items ++ line (codes "verified") (verified i)) in
    let two = c.in_ok-put_outcome-2.ensures ∙ (λ i. one i ++ line (codes "source_missing") (missing i)) in
    let three = c.in_ok-put_outcome-3.ensures ∙ (λ i. two i ++ line (codes "destination_exists") (exists i)) in
    let four = c.in_ok-put_outcome-4.ensures ∙ (λ i. three i ++ line (codes "source_size") (size i)) in
    let five = c.in_ok-put_outcome-5.ensures ∙ (λ i. four i ++ line (codes "source_digest") (digest i)) in
    let six = c.in_ok-put_outcome-6.ensures ∙ (λ i. five i ++ line (codes "read_back_differs") (differs i)) in
    let seven = c.in_ok-put_outcome-7.ensures ∙ (λ i. six i ++ line (codes "store_failed") (failed i)) in
    let eight = c.in_ok-put_outcome-8.ensures ∙ (λ i. seven i ++ line (codes "stopped") (stopped i)) in
    eight ∙ simp append_assoc
