-- What is counted of tables and reports before the links are shown, and a link as it is shown of that.
use Rattle.std.specs.Prelude.{◌≡◌, ℕ, List, [], ◌∷◌, map, codes}
use Rattle.serde_json.specs.Data.{Data, string}
use Rattle.fts_tables.specs.Tables.{Tables}
use Rattle.fts_chronicle.specs.declared.chronicle.CopyReport.{CopyReport}
use Rattle.fts_counts.specs.Listed.{endpoints_of, links_of, AreKnown}
use Rattle.fts_board.specs.Json.{object_of, whole_number}
use Rattle.fts_board.specs.Snapshot.{default_limit_of}
use Rattle.fts_board.specs.Tallied.{going_of, pairs_of, row_tallies_of, report_tallies_of}
use Rattle.fts_board.specs.declared.tallies.RowTally.{RowTally}
use Rattle.fts_board.specs.declared.tallies.ReportTally.{ReportTally}
use Rattle.fts_board.specs.declared.links.Board.{Board}
use Rattle.fts_board.specs.declared.links.LinkShown.{LinkShown}

-- a board is that of tables and reports
pub record IsBoardOf (tables : Tables) (told : List CopyReport) (board : Board) : Type 0 where
  pub endpoints : board.endpoints.now ≡ endpoints_of tables.settings
  pub links : board.links.now ≡ links_of tables.settings
  pub limit : board.default_max_active ≡ default_limit_of tables.settings
  pub known : AreKnown (endpoints_of tables.settings) (links_of tables.settings)
  pub rows : board.rows.items ≡ row_tallies_of (map (going_of (endpoints_of tables.settings)) tables.rows) (pairs_of (endpoints_of tables.settings))
  pub reports : board.reports.items ≡ report_tallies_of (endpoints_of tables.settings) tables.rows told (pairs_of (endpoints_of tables.settings))

-- a link with its name and limit, and what is counted of it
abbrev pub link_with : List ℕ → List ℕ → List ℕ → ℕ → RowTally → ReportTally → Data
link_with source dest symbolic max_active rows reports = object_of (
    (codes "active", whole_number rows.active)
    ∷ (codes "canceled", whole_number rows.canceled)
    ∷ (codes "copied_bytes", whole_number reports.bytes)
    ∷ (codes "destination", string dest)
    ∷ (codes "failed", whole_number rows.failed)
    ∷ (codes "finished", whole_number rows.finished)
    ∷ (codes "last_report_time", whole_number reports.last)
    ∷ (codes "max_active", whole_number max_active)
    ∷ (codes "source", string source)
    ∷ (codes "submitted", whole_number rows.submitted)
    ∷ (codes "symbolicname", string symbolic)
    ∷ [])

-- a link as it is shown
abbrev pub shown_link : LinkShown → Data
shown_link link = link_with link.source.now link.dest.now link.symbolic.now link.max_active link.rows link.reports
