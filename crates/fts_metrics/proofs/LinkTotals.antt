-- What is gathered at the place of a link is what the definitions say of it.
use Rattle.std.proofs.Common.{◌≡◌, ℕ, ◌+◌, ◌*◌, ◌<◌, ◌≤◌, Bool, true, false, cond, List, [], ◌∷◌, ◌++◌, length, get_or, take, Option, Some, None, refl, ap, sym, ◌∙◌, arith}
use Rattle.std.specs.Prelude.{not, ◌&&◌, ◌||◌, ◌==◌, bytes_eq, map, count_by, sum_by, option_map, option_to_list}
use Rattle.std.specs.List.{cons_option, filter_map, list_any}
use Rattle.std.specs.Option.{option_map_or}
use Rattle.std.proofs.Math.Nat.{zero-add}
use Rattle.std.proofs.lemmas.Bool.{ne_eqb}
use Rattle.std.proofs.lemmas.List.{length-append, take_more}
use Rattle.std.proofs.lemmas.List.Elements.{filter_map-append}
use Rattle.std.proofs.lemmas.List.Sums.{sum_by-cons}
use Rattle.fts_tables.specs.SettingsData.{is_listed}
use Rattle.fts_tables.specs.Tables.{Tables, row_at}
use Rattle.fts_tables.specs.Limits.{is_on_link}
use Rattle.fts_tables.specs.declared.rows.FileRow.{FileRow}
use Rattle.fts_tables.specs.declared.rows.Outcome.{Outcome}
use Rattle.fts_tables.specs.declared.rows.Outcome.TheVariants.{Verified, SourceMissing, DestinationExists, SourceSize, SourceDigest, ReadBackDiffers, StoreFailed, Stopped}
use Rattle.fts_tables.specs.declared.settings.Endpoint.{Endpoint}
use Rattle.fts_chronicle.specs.declared.chronicle.CopyReport.{CopyReport}
use Rattle.fts_counts.specs.Listed.{place_among}
use Rattle.fts_metrics.specs.Goings.{going_of}
use Rattle.fts_counts.specs.Outcomes.{bytes_by}
use Rattle.fts_metrics.specs.Metrics.{reports_on, copied_on, word_of, reports_of_word}
use Rattle.fts_metrics.specs.Sums.{sum_at}
use Rattle.fts_metrics.specs.Totals.{link_at, link_place, row_place, outcome_place, share_of, report_share, row_share}
use Rattle.fts_metrics.specs.declared.goings.Going.{Going}
use Rattle.fts_metrics.specs.declared.sums.Share.{Share}
use Rattle.fts_metrics.specs.declared.totals.LinkMetric.{LinkMetric}
use Rattle.fts_metrics.specs.declared.totals.LinkMetric.TheVariants.{Copied, Reports}
use Rattle.fts_counts.proofs.Places.{place_within, same_place, same_number}

-- a place among endpoints is at most their number
place_low : (endpoints : List Endpoint) (name : List ℕ) → place_among endpoints name ≤ length endpoints
place_low endpoints name = place_within (λ (endpoint : Endpoint). bytes_eq endpoint.name name) endpoints

module _ (endpoints : List Endpoint) (few : length endpoints ≤ 256) where
  -- the place of a link is inside the table of all links
  pub link_inside : (source dest : List ℕ) → link_place endpoints source dest < (length endpoints + 1) * 257
  link_inside source dest = omega (arith, few, place_low endpoints source, place_low endpoints dest)

  -- the places that come of where rows go are those of their links
  pub places_are : (rows : List FileRow)
      → map (λ (going : Going). link_at going.source going.dest) (map (going_of endpoints) rows) ≡ map (row_place endpoints) rows
  places_are [] = refl
  places_are (row ∷ rows) = ap (λ places. row_place endpoints row ∷ places) (places_are rows)

  module _ (source dest : List ℕ) (from : is_listed endpoints source ≡ true) (to : is_listed endpoints dest ≡ true) where
    -- the place of a row's link tells whether the row is on a link
    pub same_link : (row : FileRow) → (row_place endpoints row == link_place endpoints source dest) ≡ is_on_link source dest row
    same_link row =
        let low = place_low endpoints row.dest.endpoint in
        let last = place_low endpoints dest in
        same_number (place_among endpoints row.source.endpoint) (place_among endpoints row.dest.endpoint) (place_among endpoints source) (place_among endpoints dest) 257
        (omega arith) (omega arith)
        ∙ (λ i. same_place endpoints row.source.endpoint source from i && same_place endpoints row.dest.endpoint dest to i)

    -- the rows at the place of a link are its rows
    pub rows_at : (rows : List FileRow)
        → sum_at (link_place endpoints source dest) (map row_share (map (λ (going : Going). link_at going.source going.dest) (map (going_of endpoints) rows)))
        ≡ count_by (is_on_link source dest) rows
    rows_at [] = refl
    rows_at (row ∷ rows) =
        sum_by-cons (λ (share : Share). cond (share.place == link_place endpoints source dest) share.amount 0) (row_share (row_place endpoints row))
        (map row_share (map (λ (going : Going). link_at going.source going.dest) (map (going_of endpoints) rows)))
        ∙ (λ i. cond (same_link row i) 1 0 + rows_at rows i)
        ∙ sym (sum_by-cons (λ (row : FileRow). cond (is_on_link source dest row) 1 0) row rows)

    -- what reports add at a place is what the link's reports are worth, where each row adds what its report is worth there
    gathered : (tables : Tables) (metric : LinkMetric) (place : ℕ) (worth : CopyReport → ℕ)
        → ((row : FileRow) (report : CopyReport)
        → cond ((share_of metric (row_place endpoints row) report.outcome).place == place) (share_of metric (row_place endpoints row) report.outcome).amount 0
        ≡ cond (is_on_link source dest row) (worth report) 0)
        → (reports : List CopyReport)
        → sum_at place (filter_map (report_share metric (row_place endpoints) tables.rows) reports) ≡ sum_by worth (reports_on tables reports source dest)
    gathered tables metric place worth each [] = refl
    gathered tables metric place worth each (report ∷ reports) =
        by_row (row_at tables.rows report.file) (gathered tables metric place worth each reports)
      where
        rest : List Share
        rest = filter_map (report_share metric (row_place endpoints) tables.rows) reports

        others : List CopyReport
        others = reports_on tables reports source dest

        by_test : (on : Bool) → cond on (worth report) 0 + sum_by worth others ≡ sum_by worth (cond on (report ∷ others) others)
        by_test true = sym (sum_by-cons worth report others)
        by_test false = zero-add (sum_by worth others)

        by_row : (row : Option FileRow) → sum_at place rest ≡ sum_by worth others
            → sum_at place (cons_option (option_map (λ (row : FileRow). share_of metric (row_place endpoints row) report.outcome) row) rest)
            ≡ sum_by worth (cond (option_map_or (is_on_link source dest) row false) (report ∷ others) others)
        by_row None behind = behind
        by_row (Some row) behind =
            sum_by-cons (λ (share : Share). cond (share.place == place) share.amount 0) (share_of metric (row_place endpoints row) report.outcome) rest
            ∙ (λ i. each row report i + behind i)
            ∙ by_test (is_on_link source dest row)

    -- the bytes at the place of a link are those of its verified copies
    pub copied_at : (tables : Tables) (reports : List CopyReport)
        → sum_at (link_place endpoints source dest) (filter_map (report_share Copied (row_place endpoints) tables.rows) reports)
        ≡ copied_on tables reports source dest
    copied_at tables reports = gathered tables Copied (link_place endpoints source dest) (λ report. bytes_by report.outcome)
        (λ row report. ap (λ on. cond on (bytes_by report.outcome) 0) (same_link row)) reports

    -- the reports at the place of a link's outcome are those of the link with that outcome
    pub ended_at : (tables : Tables) (reports : List CopyReport) (place : ℕ) → place < 8
        → sum_at (link_place endpoints source dest * 8 + place) (filter_map (report_share Reports (row_place endpoints) tables.rows) reports)
        ≡ count_by (λ (report : CopyReport). outcome_place report.outcome == place) (reports_on tables reports source dest)
    ended_at tables reports place low = gathered tables Reports (link_place endpoints source dest * 8 + place)
        (λ report. cond (outcome_place report.outcome == place) 1 0)
        (λ row report. ap one (both_alike row report) ∙ by_test (is_on_link source dest row) (outcome_place report.outcome == place)) reports
      where
        outcome_low : (outcome : Outcome) → outcome_place outcome < 8
        outcome_low (Verified size digest) = omega arith
        outcome_low SourceMissing = omega arith
        outcome_low DestinationExists = omega arith
        outcome_low (SourceSize seen) = omega arith
        outcome_low (SourceDigest seen) = omega arith
        outcome_low (ReadBackDiffers at) = omega arith
        outcome_low StoreFailed = omega arith
        outcome_low Stopped = omega arith

        both_alike : (row : FileRow) (report : CopyReport)
            → (row_place endpoints row * 8 + outcome_place report.outcome == link_place endpoints source dest * 8 + place)
            ≡ (is_on_link source dest row && (outcome_place report.outcome == place))
        both_alike row report =
            let small = outcome_low report.outcome in
            same_number (row_place endpoints row) (outcome_place report.outcome) (link_place endpoints source dest) place 8 small low
            ∙ ap (λ on. on && (outcome_place report.outcome == place)) (same_link row)

        one : Bool → ℕ
        one answer = cond answer 1 0

        by_test : (on same : Bool) → one (on && same) ≡ cond on (one same) 0
        by_test true same = refl
        by_test false same = refl

-- a list has an item that passes where some are counted
pub any_counted : {Item : Type 0} (test : Item → Bool) (items : List Item) → list_any test items ≡ not (count_by test items == 0)
any_counted test [] = refl
any_counted test (item ∷ items) =
    by_test (test item) (any_counted test items) ∙ ap (λ count. not (count == 0)) (sym (sum_by-cons (λ item. cond (test item) 1 0) item items))
  where
    by_test : (answer : Bool) → list_any test items ≡ not (count_by test items == 0)
        → (answer || list_any test items) ≡ not (cond answer 1 0 + count_by test items == 0)
    by_test true behind = sym (ap not (ne_eqb (1 + count_by test items) 0 (λ same. omega arith)))
    by_test false behind = behind ∙ ap (λ count. not (count == 0)) (sym (zero-add (count_by test items)))

-- an outcome has the place of another exactly where it has its word
same_word : (outcome other : Outcome) → (outcome_place other == outcome_place outcome) ≡ bytes_eq (word_of other) (word_of outcome)
same_word (Verified size digest) (Verified other_size other_digest) = refl
same_word (Verified size digest) other = refl
same_word SourceMissing SourceMissing = refl
same_word SourceMissing other = refl
same_word DestinationExists DestinationExists = refl
same_word DestinationExists other = refl
same_word (SourceSize seen) (SourceSize other_seen) = refl
same_word (SourceSize seen) other = refl
same_word (SourceDigest seen) (SourceDigest other_seen) = refl
same_word (SourceDigest seen) other = refl
same_word (ReadBackDiffers at) (ReadBackDiffers other_at) = refl
same_word (ReadBackDiffers at) other = refl
same_word StoreFailed StoreFailed = refl
same_word StoreFailed other = refl
same_word Stopped Stopped = refl
same_word Stopped other = refl

-- so the reports at the place of an outcome are those of its word
pub reports_like : (reports : List CopyReport) (outcome : Outcome)
    → count_by (λ (report : CopyReport). outcome_place report.outcome == outcome_place outcome) reports ≡ reports_of_word reports (word_of outcome)
reports_like reports outcome = ap (λ (test : CopyReport → Bool). count_by test reports) (λ i report. same_word outcome report.outcome i)

-- an item or none, before nothing
alone : {Item : Type 0} (found : Option Item) → cons_option found [] ≡ option_to_list found
alone None = refl
alone (Some item) = refl

-- the shares of one report more, by the place of its file's row
pub shares_more : (metric : LinkMetric) (place_of : FileRow → ℕ) (rows : List FileRow) (reports : List CopyReport) (i : ℕ) (other : CopyReport)
    (shares after : List Share) (place : Option ℕ) → i < length reports
    → place ≡ option_map place_of (row_at rows (get_or reports i other).file)
    → after ≡ shares ++ option_to_list (option_map (λ (place : ℕ). share_of metric place (get_or reports i other).outcome) place)
    → shares ≡ filter_map (report_share metric place_of rows) (take i reports)
    → after ≡ filter_map (report_share metric place_of rows) (take (i + 1) reports)
shares_more metric place_of rows reports i other shares after place inside is grown so_far =
    grown
    ∙ (λ j. so_far j ++ option_to_list (option_map (λ (place : ℕ). share_of metric place report.outcome) (is j)))
    ∙ ap (λ (found : Option Share). filter_map share_by (take i reports) ++ option_to_list found) (by_place (row_at rows report.file))
    ∙ ap (λ (found : List Share). filter_map share_by (take i reports) ++ found) (sym (alone (share_by report)))
    ∙ sym (filter_map-append share_by (take i reports) (report ∷ []))
    ∙ ap (filter_map share_by) (sym (take_more reports i other inside))
  where
    report : CopyReport
    report = get_or reports i other

    share_by : CopyReport → Option Share
    share_by = report_share metric place_of rows

    by_place : (found : Option FileRow) → option_map (λ (place : ℕ). share_of metric place report.outcome) (option_map place_of found)
        ≡ option_map (λ (row : FileRow). share_of metric (place_of row) report.outcome) found
    by_place None = refl
    by_place (Some row) = refl

-- a report adds one share at most
pub few_more : (shares after : List Share) (found : Option Share) (i : ℕ) → after ≡ shares ++ option_to_list found → length shares ≤ i → length after ≤ i + 1
few_more shares after None i grown few = omega (arith, ap length grown, length-append shares [], few)
few_more shares after (Some share) i grown few = omega (arith, ap length grown, length-append shares (share ∷ []), few)
