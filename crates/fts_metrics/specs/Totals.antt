-- What is gathered of each link: how many rows it has, what was copied over it, and its reports by outcome, at places of links and outcomes.
use Rattle.std.specs.Prelude.{◌≡◌, ℕ, ◌+◌, ◌*◌, ◌<◌, true, ◌==◌, List, ◌++◌, codes, count_by, slice_index, Option, option_map}
use Rattle.fts_tables.specs.SettingsData.{is_listed}
use Rattle.fts_tables.specs.Tables.{Tables, row_at}
use Rattle.fts_tables.specs.Limits.{is_on_link}
use Rattle.fts_tables.specs.declared.rows.FileRow.{FileRow}
use Rattle.fts_tables.specs.declared.rows.Outcome.{Outcome}
use Rattle.fts_tables.specs.declared.rows.Outcome.TheVariants.{Verified, SourceMissing, DestinationExists, SourceSize, SourceDigest, ReadBackDiffers, StoreFailed, Stopped}
use Rattle.fts_tables.specs.declared.settings.Endpoint.{Endpoint}
use Rattle.fts_chronicle.specs.declared.chronicle.CopyReport.{CopyReport}
use Rattle.fts_counts.specs.Listed.{place_among}
use Rattle.fts_counts.specs.Outcomes.{bytes_by}
use Rattle.fts_metrics.specs.Form.{head}
use Rattle.fts_metrics.specs.Metrics.{reports_on, copied_on, copied_sample, reports_samples, each_link}
use Rattle.fts_metrics.specs.declared.sums.Share.{Share}
use Rattle.fts_metrics.specs.declared.totals.LinkMetric.{LinkMetric}
use Rattle.fts_metrics.specs.declared.totals.LinkMetric.TheVariants.{Copied, Reports}
use Rattle.fts_metrics.specs.declared.totals.Totals.{Totals}

-- the place of a link by those of its ends: an end has one of 257 places, and the links from one source stand together
abbrev pub link_at : ℕ → ℕ → ℕ
link_at source dest = source * 257 + dest

-- the place of a link by the names of its ends
abbrev pub link_place : List Endpoint → List ℕ → List ℕ → ℕ
link_place endpoints source dest = link_at (place_among endpoints source) (place_among endpoints dest)

-- the place of a row's link
abbrev pub row_place : List Endpoint → FileRow → ℕ
row_place endpoints row = link_place endpoints row.source.endpoint row.dest.endpoint

-- the place of an outcome in their order
abbrev pub outcome_place : Outcome → ℕ
outcome_place (Verified size digest) = 0
outcome_place SourceMissing = 1
outcome_place DestinationExists = 2
outcome_place (SourceSize seen) = 3
outcome_place (SourceDigest seen) = 4
outcome_place (ReadBackDiffers at) = 5
outcome_place StoreFailed = 6
outcome_place Stopped = 7

-- what a report adds to a metric: its bytes at its link, or one at its link's outcome
abbrev pub share_of : LinkMetric → ℕ → Outcome → Share
share_of Copied place outcome = record { place = place; amount = bytes_by outcome }
share_of Reports place outcome = record { place = place * 8 + outcome_place outcome; amount = 1 }

-- the same by the row of its file; nothing where the file has none
abbrev pub report_share : LinkMetric → (FileRow → ℕ) → List FileRow → CopyReport → Option Share
report_share metric place_of rows report = option_map (λ row. share_of metric (place_of row) report.outcome) (row_at rows report.file)

-- one row, at the place of its link
abbrev pub row_share : ℕ → Share
row_share place = record { place = place; amount = 1 }

-- these reports by outcome stand at eight places from this one on
abbrev pub StandByOutcome : List CopyReport → ℕ → List ℕ → Type 0
StandByOutcome reports first numbers =
    (place : ℕ) → place < 8 → slice_index numbers (first + place) ≡ count_by (λ report. outcome_place report.outcome == place) reports

-- what there is of a link stands at this place
pub record StandsAt (tables : Tables) (reports : List CopyReport) (source dest : List ℕ) (place : ℕ) (totals : Totals) : Type 0 where
  pub rows : slice_index totals.rows.items place ≡ count_by (is_on_link source dest) tables.rows
  pub copied : slice_index totals.copied.items place ≡ copied_on tables reports source dest
  pub ended : StandByOutcome (reports_on tables reports source dest) (place * 8) totals.reports.items

-- what there is of each link between listed endpoints stands at its place
abbrev pub AreTotals : List Endpoint → Tables → List CopyReport → Totals → Type 0
AreTotals endpoints tables reports totals = (source dest : List ℕ) → is_listed endpoints source ≡ true → is_listed endpoints dest ≡ true
    → StandsAt tables reports source dest (link_place endpoints source dest) totals

-- the samples of a link, by the metric
abbrev pub samples_of : LinkMetric → Tables → List CopyReport → List ℕ → List ℕ → List ℕ
samples_of Copied tables reports = copied_sample tables reports
samples_of Reports tables reports = reports_samples tables reports

-- what a metric of the links is
abbrev pub copies_head : LinkMetric → List ℕ
copies_head Copied = head (codes "fts_copied_bytes_total") (codes "Bytes of verified copies over each link.") (codes "counter")
copies_head Reports = head (codes "fts_reports_total") (codes "Reports of copies over each link by outcome.") (codes "counter")

-- a metric of the links: copied_text, or reports_text
abbrev pub copies_text : LinkMetric → Tables → List CopyReport → List Endpoint → List ℕ
copies_text metric tables reports endpoints = copies_head metric ++ each_link (samples_of metric tables reports) tables.rows endpoints
