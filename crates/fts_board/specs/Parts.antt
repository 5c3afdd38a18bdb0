-- The parts of a snapshot, and the snapshot that is put together of them.
use Rattle.std.specs.Prelude.{◌≡◌, ℕ, true, ◌-◌, List, [], ◌∷◌, take, length, codes}
use Rattle.serde_json.specs.Data.{Data, boolean, string, array}
use Rattle.serde_json.specs.View.{view, items_of}
use Rattle.fts_tables.specs.Tables.{Tables}
use Rattle.fts_tables.specs.declared.limits.TheConstants.{MAX_JOBS, MAX_ROWS, JOURNAL_END}
use Rattle.fts_chronicle.specs.declared.chronicle.CopyReport.{CopyReport}
use Rattle.fts_board.specs.Json.{array_of, object_of, whole_number}
use Rattle.fts_counts.specs.Listed.{endpoints_of}
use Rattle.fts_board.specs.Snapshot.{vo_of, jobs_object, files_object, storage_object, link_objects, failure_objects, damage_data}
use Rattle.fts_board.specs.declared.snapshots.LinksPart.{LinksPart}
use Rattle.fts_board.specs.declared.snapshots.Parts.{Parts}
use Rattle.fts_board.specs.declared.snapshots.Shown.{Shown}

-- the links that are shown, and how many are left out
pub record IsLinksPartOf (tables : Tables) (reports : List CopyReport) (part : LinksPart) : Type 0 where
  pub value : view part.value ≡ array (items_of (take 1000 (link_objects tables reports)))
  pub left_out : part.left_out ≡ length (link_objects tables reports) - 1000

-- parts are those of tables and reports
pub record ArePartsOf (tables : Tables) (reports : List CopyReport) (parts : Parts) : Type 0 where
  pub failures : view parts.failures ≡ array (items_of (failure_objects tables reports))
  pub files : view parts.files ≡ files_object tables.rows
  pub jobs : view parts.jobs ≡ jobs_object tables
  pub links : IsLinksPartOf tables reports parts.links
  pub storages : view parts.storages ≡ array_of (storage_object tables.rows) (endpoints_of tables.settings)

-- a snapshot with these parts
abbrev pub snapshot_with : Tables → ℕ → Shown → Data → Data → Data → Data → ℕ → Data → Data
snapshot_with tables commands shown failures files jobs links left_out storages = object_of (
    (codes "damage", damage_data shown.damage)
    ∷ (codes "entries", whole_number commands)
    ∷ (codes "failures", failures)
    ∷ (codes "files_by_state", files)
    ∷ (codes "fold_time", whole_number shown.fold_time)
    ∷ (codes "jobs", whole_number (length tables.jobs))
    ∷ (codes "jobs_by_state", jobs)
    ∷ (codes "jobs_limit", whole_number MAX_JOBS)
    ∷ (codes "journal_bytes", whole_number shown.used)
    ∷ (codes "journal_limit_bytes", whole_number JOURNAL_END)
    ∷ (codes "last_entry_time", whole_number shown.last_entry_time)
    ∷ (codes "links", links)
    ∷ (codes "links_left_out", whole_number left_out)
    ∷ (codes "now", whole_number shown.now)
    ∷ (codes "restart_time", whole_number shown.restart_time)
    ∷ (codes "rows", whole_number (length tables.rows))
    ∷ (codes "rows_limit", whole_number MAX_ROWS)
    ∷ (codes "storages", storages)
    ∷ (codes "vo_name", string (vo_of tables.settings))
    ∷ (codes "whole", boolean true)
    ∷ [])
