-- No value of a snapshot has a float.
use Rattle.std.proofs.Common.{◌≡◌, ◌∙◌, ℕ, zero, suc, ◌-◌, length, Bool, true, false, cond, List, [], ◌∷◌, ◌++◌, take, Option, Some, None, refl, ap, map}
use Rattle.std.specs.Prelude.{not, ◌&&◌, ◌||◌, filter}
use Rattle.std.specs.List.{flat_map, list_any, last_or}
use Rattle.std.specs.Option.{option_map_or}
use Rattle.serde_json.specs.Data.{Data, array}
use Rattle.serde_json.specs.View.{items_of}
use Rattle.serde_json.specs.Written.{has_float, items_have_float}
use Rattle.fts_tables.specs.Tables.{Tables}
use Rattle.fts_tables.specs.Limits.{is_on_link}
use Rattle.fts_tables.specs.declared.settings.Endpoint.{Endpoint}
use Rattle.fts_chronicle.specs.declared.chronicle.CopyReport.{CopyReport}
use Rattle.fts_counts.specs.Listed.{endpoints_of, links_of}
use Rattle.fts_board.specs.Snapshot.{default_limit_of, jobs_object, files_object, storage_object, link_object, listed_object, is_link_listed, others_at, others_from, link_objects, is_for, failure_object, failure_for, failure_objects, reasons, damage_data, snapshot_data}
use Rattle.fts_board.specs.Parts.{snapshot_with}
use Rattle.fts_board.specs.declared.snapshots.Shown.{Shown}
use Rattle.fts_board.proofs.Plain.{array_plain}

-- none of these values has a float
abbrev ArePlain : List Data → Type 0
ArePlain values = items_have_float (items_of values) ≡ false

-- neither of two has one
neither : (one other : Bool) → (one || other) ≡ false → (one ≡ false) × (other ≡ false)
neither true other is = cc
neither false other is = (refl, is)

-- joined lists
joined : (one other : List Data) → ArePlain one → ArePlain other → ArePlain (one ++ other)
joined [] other first second = second
joined (value ∷ values) other first second =
    let both = neither (has_float value) (items_have_float (items_of values)) first in
    ap (λ answer. answer || items_have_float (items_of (values ++ other))) both.0 ∙ joined values other both.1 second

-- what items give
given_plain : {Item : Type 0} (given : Item → List Data) → ((item : Item) → ArePlain (given item)) → (items : List Item) → ArePlain (flat_map given items)
given_plain given plain [] = refl
given_plain given plain (item ∷ items) = joined (given item) (flat_map given items) (plain item) (given_plain given plain items)

-- the first of a list
first_plain : (count : ℕ) (values : List Data) → ArePlain values → ArePlain (take count values)
first_plain zero values plain = refl
first_plain (suc count) [] plain = refl
first_plain (suc count) (value ∷ values) plain =
    let both = neither (has_float value) (items_have_float (items_of values)) plain in
    ap (λ answer. answer || items_have_float (items_of (take count values))) both.0 ∙ first_plain count values both.1

-- a value or none
value_or_none : (answer : Bool) (value : Data) → has_float value ≡ false → ArePlain (cond answer (value ∷ []) [])
value_or_none true value plain = ap (λ answer. answer || false) plain
value_or_none false value plain = refl

-- the links
links_plain : (tables : Tables) (reports : List CopyReport) → ArePlain (link_objects tables reports)
links_plain tables reports = joined
    (map (listed_object tables.rows reports) (links_of tables.settings))
    (flat_map (λ (source : Endpoint). others_from tables reports source.name) (endpoints_of tables.settings))
    (array_plain (listed_object tables.rows reports) (λ _. refl) (links_of tables.settings))
    (given_plain (λ (source : Endpoint). others_from tables reports source.name)
    (λ source. given_plain (λ (dest : Endpoint). others_at tables reports source.name dest.name)
    (λ dest. value_or_none
    (list_any (is_on_link source.name dest.name) tables.rows && not (is_link_listed (links_of tables.settings) source.name dest.name))
    (link_object tables.rows reports source.name dest.name [] (default_limit_of tables.settings)) refl)
    (endpoints_of tables.settings))
    (endpoints_of tables.settings))

-- the failures
failures_plain : (tables : Tables) (reports : List CopyReport) → ArePlain (failure_objects tables reports)
failures_plain tables reports = given_plain (failure_for tables reports) (λ reason. by_newest reason (last_or None (filter (is_for reason) reports))) reasons
  where
    by_newest : (reason : List ℕ) (newest : Option CopyReport)
        → ArePlain (option_map_or (λ (newest : CopyReport). failure_object tables reports reason newest ∷ []) newest [])
    by_newest reason None = refl
    by_newest reason (Some newest) = refl

-- where the journal is damaged
damage_plain : (damage : Option ℕ) → has_float (damage_data damage) ≡ false
damage_plain None = refl
damage_plain (Some offset) = refl

-- a snapshot has none where its parts have none
with_plain : (tables : Tables) (commands : ℕ) (shown : Shown) (failures files jobs links : Data) (left_out : ℕ) (storages : Data)
    → has_float (damage_data shown.damage) ≡ false → has_float failures ≡ false → has_float files ≡ false → has_float jobs ≡ false → has_float links ≡ false
    → has_float storages ≡ false → has_float (snapshot_with tables commands shown failures files jobs links left_out storages) ≡ false
with_plain tables commands shown failures files jobs links left_out storages no_damage no_failures no_files no_jobs no_links no_storages =
    λ i. (no_damage i || (no_failures i || (no_files i || (no_jobs i || (no_links i || (no_storages i || false))))))

-- a snapshot
pub snapshot_plain : (tables : Tables) (commands : ℕ) (reports : List CopyReport) (shown : Shown) → has_float (snapshot_data tables commands reports shown) ≡ false
snapshot_plain tables commands reports shown =
    with_plain tables commands shown (array (items_of (failure_objects tables reports))) (files_object tables.rows) (jobs_object tables)
    (array (items_of (take 1000 (link_objects tables reports)))) (length (link_objects tables reports) - 1000) (array (items_of (map (storage_object tables.rows) (endpoints_of tables.settings))))
    (damage_plain shown.damage) (failures_plain tables reports) refl refl (first_plain 1000 (link_objects tables reports) (links_plain tables reports))
    (array_plain (storage_object tables.rows) (λ _. refl) (endpoints_of tables.settings))
