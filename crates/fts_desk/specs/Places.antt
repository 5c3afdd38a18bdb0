-- A row changed where it stands, and a row whose turn has come.
use Rattle.std.specs.Prelude.{ℕ, zero, suc, List, [], ◌∷◌, if◌then◌else◌}
use Rattle.fts_tables.specs.Tables.{is_not_used}
use Rattle.fts_tables.specs.Moves.{submitted}
use Rattle.fts_tables.specs.declared.rows.FileRow.{FileRow}

-- a row that waits from now on, where its turn hadn't come
abbrev pub woken : FileRow → FileRow
woken row = if is_not_used row.state then submitted row else row

-- the rows with that at a place changed, where there is one
abbrev pub change_at : ℕ → (FileRow → FileRow) → List FileRow → List FileRow
change_at place change [] = []
change_at zero change (row ∷ rows) = change row ∷ rows
change_at (suc place) change (row ∷ rows) = row ∷ change_at place change rows
