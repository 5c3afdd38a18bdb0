-- What the machine's laws say of every list, as far as the laws over turns cite them.
use Rattle.std.specs.Prelude.{◌≡◌, ℕ, ◌-◌, ◌≤◌, ◌==◌, List, ◌++◌, Some, count_by, slice_get}
use Rattle.fts_tables.specs.Tables.{Tables, AreWellFormed}
use Rattle.fts_tables.specs.Choice.{pick}
use Rattle.fts_tables.specs.Step.{step}
use Rattle.fts_tables.specs.History.{IsLegal, claimed_file, out_of_list, tables_of}
use Rattle.fts_tables.specs.Laws.{AreTheActive, RowsStay}
use Rattle.fts_tables.specs.declared.rows.FileRow.{FileRow}
use Rattle.fts_tables.specs.declared.commands.Entry.{Entry}
use Rattle.fts_tables.specs.declared.commands.Command.TheVariants.{Claim}

-- the row that a claim picks stands at the place before its id
abbrev pub PicksStand : Type 0
PicksStand = (tables : Tables) (now word : ℕ) (row : FileRow) → AreWellFormed tables → pick tables now word ≡ Some row
    → (1 ≤ row.id) × (slice_get tables.rows (row.id - 1) ≡ Some row)

-- the laws of the machine that are cited here
pub record Machine : Type 0 where
  pub formed : (entries : List Entry) → IsLegal entries → AreWellFormed (tables_of entries)
  pub outs : (entries : List Entry) → IsLegal entries → AreTheActive (out_of_list entries) (tables_of entries).rows
  pub stay : (entries more : List Entry) → IsLegal (entries ++ more) → RowsStay (tables_of entries).rows (tables_of (entries ++ more)).rows
  pub picks : PicksStand
  pub fresh : (entries : List Entry) (now word file : ℕ) → IsLegal entries → claimed_file (step (tables_of entries) (Claim now word)) ≡ Some file
      → count_by (λ other. other == file) (out_of_list entries) ≡ 0
