-- The text is that of the parts, put together.
use Rattle.std.proofs.Common.{◌≡◌, ◌∙◌, List, ℕ, ap, subst}
use Rattle.std.specs.Prelude.{IfOk}
use Rattle.serde_json.specs.Data.{Data}
use Rattle.serde_json.specs.View.{view}
use Rattle.fts_tables.specs.Tables.{Tables}
use Rattle.fts_chronicle.specs.declared.chronicle.CopyReport.{CopyReport}
use Rattle.fts_board.specs.Json.{text_of}
use Rattle.fts_board.specs.Parts.{ArePartsOf, snapshot_with}
use Rattle.fts_board.specs.Snapshot.{snapshot_data}
use Rattle.fts_board.specs.declared.snapshots.Parts.{Parts}
use Rattle.fts_board.specs.declared.snapshots.Shown.{Shown}
use Rattle.fts_board.proofs.PlainSnapshot.{snapshot_plain}
use Rattle.fts_board.proofs.snapshots.snapshot.Goals as goal

-- what is put together of the parts of tables and reports is their snapshot
whole : (tables : Tables) (commands : ℕ) (reports : List CopyReport) (shown : Shown) (parts : Parts) (value : Data) → ArePartsOf tables reports parts
    → value ≡ snapshot_with tables commands shown (view parts.failures) (view parts.files) (view parts.jobs) (view parts.links.value) parts.links.left_out (view parts.storages)
    → value ≡ snapshot_data tables commands reports shown
whole tables commands reports shown parts value are is =
    is ∙ (λ i. snapshot_with tables commands shown (are.failures i) (are.files i) (are.jobs i) (are.links.value i) (are.links.left_out i) (are.storages i))

pub text_of-requires : goal.text_of-requires
text_of-requires c =
    rw (whole c.args.desk.now.tables c.args.desk.now.commands c.args.reports.now c.args.shown _ _ c.in_ok-parts.ensures c.in_ok-value.ensures)
    (snapshot_plain c.args.desk.now.tables c.args.desk.now.commands c.args.reports.now c.args.shown)

pub returns : goal.returns
returns c = subst (λ (l : List ℕ). IfOk c.text_of.result (λ text. text.items ≡ l))
    (ap text_of (whole c.args.desk.now.tables c.args.desk.now.commands c.args.reports.now c.args.shown _ _ c.in_ok-parts.ensures c.in_ok-value.ensures))
    c.text_of.ensures
